-- A document says one process, or is refused in one way, and so do bytes.
use Rattle.std.proofs.Common.{◌≡◌, ◌≢◌, ◌∙◌, ℕ, Option, None, Some, Result, Ok, Err, List, refl, ap, sym}
use Rattle.std.specs.Prelude.{IfOk, IfErr}
use Rattle.tree_grammar.specs.Elements.{Element}
use Rattle.document_tags.proofs.OneDocument.{document_once, fails_once, fails_apart}
use Rattle.document_tags.proofs.UnlessMemory.{fault_once, only_memory, answered}
use Rattle.document_tags.specs.Documents.{FailsAsDocument}
use Rattle.tag_tests.specs.Readers.{marks}
use Rattle.tag_tests.proofs.Forms.{taken_once, not_both}
use Rattle.ospl_grammar.specs.declared.fault.OsplFault.{OsplFault}
use Rattle.ospl_grammar.specs.declared.fault.OsplFault.TheVariants.{Tree, Root, Missing, Memory}
use Rattle.ospl_grammar.specs.declared.process.Process.{Process}
use Rattle.ospl_grammar.specs.declared.parse_state.ParseState.{ParseState}
use Rattle.ospl_grammar.specs.Table.{start}
use Rattle.ospl_grammar.specs.Marked.{ospl}
use Rattle.ospl_grammar.specs.Meaning.{asked_or_told, RootSays, IsProcess, IsProcessText}
use Rattle.ospl_grammar.specs.Refusals.{IsRefused, DecodeFails}
use Rattle.ospl_grammar.proofs.OneState.{leaves_one}

says_once : (root : Element) (o p : Option Process) → RootSays root o → RootSays root p → o ≡ p
says_once root o p a b = a.2 ∙ ap (λ (z : ParseState). asked_or_told z.asked z.told) (taken_once ospl leaves_one start (marks root) a.0 b.0 a.1 b.1) ∙ sym b.2

pub process_once : (root : Element) (p q : Process) → IsProcess root p → IsProcess root q → p ≡ q
process_once root p q a b = let same = says_once root (Some p) (Some q) a b in let one : p ≡ q = cc in one

pub process_text_once : (bytes : List ℕ) (p q : Process) → IsProcessText bytes p → IsProcessText bytes q → p ≡ q
process_text_once bytes p q a b = document_once IsProcess process_once bytes p q a b

pub refused_once : (root : Element) (f g : OsplFault) → IsRefused root f → IsRefused root g → f ≡ g
refused_once root Root Root a b = refl
refused_once root Root Missing a b = absurd (not_both ospl leaves_one start (marks root) b.0 tt b.1 a)
refused_once root Missing Root a b = absurd (not_both ospl leaves_one start (marks root) a.0 tt a.1 b)
refused_once root Missing Missing a b = refl
refused_once root (Tree t) g a b = absurd a
refused_once root Memory g a b = absurd a
refused_once root f (Tree t) a b = absurd b
refused_once root f Memory a b = absurd b

pub process_apart : (root : Element) (p : Process) (f : OsplFault) → IsProcess root p → IsRefused root f → ⊥
process_apart root p (Tree t) is h = h
process_apart root p Memory is h = h
process_apart root p Root is h = not_both ospl leaves_one start (marks root) is.0 tt is.1 h
process_apart root p Missing is h = let same = says_once root (Some p) None is h in cc

pub refusal_once : (bytes : List ℕ) (f g : OsplFault) → f ≢ Memory → g ≢ Memory → DecodeFails bytes f → DecodeFails bytes g → f ≡ g
refusal_once bytes = fault_once Memory (FailsAsDocument Tree IsRefused bytes) (fails_once Tree IsRefused refused_once bytes)

pub refusal_apart : (bytes : List ℕ) (p : Process) (f : OsplFault) → IsProcessText bytes p → DecodeFails bytes f → f ≡ Memory
refusal_apart bytes p f is = only_memory Memory (FailsAsDocument Tree IsRefused bytes) f (fails_apart Tree IsProcess IsRefused process_apart bytes p f is)

-- bytes that say a process are answered by it
pub answer_is : (bytes : List ℕ) (p : Process) (r : Result Process OsplFault) → IsProcessText bytes p → IfOk r (IsProcessText bytes) → IfErr r (DecodeFails bytes) → r ≢ Err Memory → r ≡ Ok p
answer_is bytes p r is = answered Memory (IsProcessText bytes) (DecodeFails bytes) (process_text_once bytes) (λ f. refusal_apart bytes p f is) p r is
