-- A document is one report or is refused in one way, and so are its bytes.
use Rattle.osrl_grammar.proofs.Names.{◌≡◌, ◌≢◌, ◌∙◌, ℕ, List, ap, sym, Element, taken_once, Report, OsrlFault, Memory, State, start, osrl, marks, IsReport, IsReportText, DecodeFails}
use Rattle.tag_tests.proofs.Forms.{refused_once, not_both}
use Rattle.document_tags.proofs.OneDocument.{document_once, fails_once, fails_apart}
use Rattle.document_tags.proofs.UnlessMemory.{fault_once, only_memory}
use Rattle.document_tags.specs.Documents as documents
use Rattle.osrl_grammar.specs.declared.fault.OsrlFault.TheVariants.{Tree}
use Rattle.osrl_grammar.specs.Marked.{IsRefused}
use Rattle.osrl_grammar.proofs.OneState.{leaves_one}

pub report_once : (root : Element) (r s : Report) → IsReport root r → IsReport root s → r ≡ s
report_once root r s a b = a.2 ∙ ap (λ (z : State). z.report) (taken_once osrl leaves_one start (marks root) a.0 b.0 a.1 b.1) ∙ sym b.2

pub refusal_once : (root : Element) (f g : OsrlFault) → IsRefused root f → IsRefused root g → f ≡ g
refusal_once root f g a b = refused_once osrl leaves_one start (marks root) f g a b

pub report_apart : (root : Element) (r : Report) (f : OsrlFault) → IsReport root r → IsRefused root f → ⊥
report_apart root r f a b = not_both osrl leaves_one start (marks root) a.0 f a.1 b

pub report_text_once : (bytes : List ℕ) (r s : Report) → IsReportText bytes r → IsReportText bytes s → r ≡ s
report_text_once bytes r s a b = document_once IsReport report_once bytes r s a b

pub refusal_text_once : (bytes : List ℕ) (f g : OsrlFault) → f ≢ Memory → g ≢ Memory → DecodeFails bytes f → DecodeFails bytes g → f ≡ g
refusal_text_once bytes = fault_once Memory (documents.FailsAsDocument Tree IsRefused bytes) (fails_once Tree IsRefused refusal_once bytes)

pub refusal_apart : (bytes : List ℕ) (r : Report) (f : OsrlFault) → IsReportText bytes r → DecodeFails bytes f → f ≡ Memory
refusal_apart bytes r f is = only_memory Memory (documents.FailsAsDocument Tree IsRefused bytes) f (fails_apart Tree IsReport IsRefused report_apart bytes r f is)
