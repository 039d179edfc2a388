-- The first bytes of a file, one more than a document may have, say what the whole file says.
use Rattle.std.proofs.Common.{◌≡◌, ◌∙◌, ℕ, ◌+◌, ◌≤◌, ◌<◌, List, [], ◌∷◌, ◌++◌, length, take, drop, inl, inr, arith, refl, sym, ap, subst}
use Rattle.std.proofs.lemmas.Bool.{cases_lt}
use Rattle.os_io.specs.Files.{Held, Holds, NoFile, Untold, MayHold, ReadsFirst}
use Rattle.std.proofs.lemmas.List.{take-append-drop, take_all, length-take-le, length-drop, append_assoc}
use Rattle.tree_grammar.specs.Elements.{Element}
use Rattle.document_tags.specs.Texts.{IsDocument, document_limit}
use Rattle.doc_tree.specs.declared.fault.TreeFault.{TreeFault}
use Rattle.doc_tree.specs.declared.fault.TreeFault.TheVariants as trees
use Rattle.doc_tree.specs.Refusals.{IsRefusal, IsRefusedIn, EndsEarly}
use Rattle.instance.specs.Parts.{Parts}
use Rattle.osil_grammar.specs.declared.fault.OsilFault.{OsilFault}
use Rattle.osil_grammar.specs.declared.fault.OsilFault.TheVariants as instances
use Rattle.osil_grammar.specs.Reading.{IsInstanceText}
use Rattle.osil_grammar.specs.Reading as osil
use Rattle.osrl_writing.specs.declared.report.Report.{Report}
use Rattle.osrl_grammar.specs.declared.fault.OsrlFault.{OsrlFault}
use Rattle.document_tags.specs.Documents.{TreeFails}
use Rattle.osrl_grammar.specs.Reading.{IsReportText}
use Rattle.osrl_grammar.specs.Reading as osrl
use Rattle.osrl_writing.specs.declared.told_names.NameLists.{NameLists}
use Rattle.instance_names.specs.Reading.{GivesNames}

-- so many bytes, and one more
abbrev front : ℕ → List ℕ → List ℕ
front limit bytes = take (limit + 1) bytes

-- where they are few they are all
few_are_all : (limit : ℕ) (bytes : List ℕ) → length bytes ≤ limit → front limit bytes ≡ bytes
few_are_all limit bytes few = take_all (limit + 1) bytes (omega (arith, few))

front_is_all : (limit : ℕ) (bytes : List ℕ) → length (front limit bytes) ≤ limit → front limit bytes ≡ bytes
front_is_all limit bytes short = elim (cases_lt limit (length bytes)) [
  | inr few ↦ few_are_all limit bytes few
  | inl many ↦ absurd (omega (arith, short, length-take-le (limit + 1) bytes (omega (arith, many))))
]

-- ---- refusals of bytes

refused_in : (limit : ℕ) (bytes : List ℕ) (f : TreeFault) → IsRefusedIn limit (front limit bytes) f → IsRefusedIn limit bytes f
refused_in limit bytes f r = record {
  seen = r.seen;
  byte = r.byte;
  more = r.more ++ drop (limit + 1) bytes;
  text = sym (take-append-drop (limit + 1) bytes) ∙ ap (λ t. t ++ drop (limit + 1) bytes) r.text ∙ append_assoc r.seen (r.byte ∷ r.more) (drop (limit + 1) bytes);
  clean = r.clean;
  decides = r.decides;
  least = r.least;
}

one_byte : (rest : List ℕ) → length rest ≡ 1 → (byte : ℕ) × (rest ≡ byte ∷ [])
one_byte [] one = absurd (omega (arith, one))
one_byte (b ∷ []) one = (b, refl)
one_byte (b ∷ c ∷ rest) one = absurd (omega (arith, one))

-- bytes past the limit aren't clean
too_many : (limit : ℕ) (bytes : List ℕ) (f : TreeFault) → limit < length bytes → EndsEarly limit (front limit bytes) f → ⊥
too_many limit bytes f many cut =
    let all = front limit bytes in
    let size : length all ≡ limit + 1 = length-take-le (limit + 1) bytes (omega (arith, many)) in
    let seen : length (take limit all) ≡ limit = length-take-le limit all (omega (arith, size)) in
    let last = one_byte (drop limit all) (omega (arith, length-drop limit all, size)) in
    cut.clean (take limit all) last.0 [] trees.Long (sym (take-append-drop limit all) ∙ ap (λ t. take limit all ++ t) last.1) seen

refusal : (limit : ℕ) (bytes : List ℕ) (f : TreeFault) → IsRefusal limit (front limit bytes) f → IsRefusal limit bytes f
refusal limit bytes f (inl r) = inl (refused_in limit bytes f r)
refusal limit bytes f (inr cut) = elim (cases_lt limit (length bytes)) [
  | inr few ↦ inr (subst (λ (b : List ℕ). EndsEarly limit b f) (few_are_all limit bytes few) cut)
  | inl many ↦ absurd (too_many limit bytes f many cut)
]

-- ---- documents

abbrev read : List ℕ → List ℕ
read bytes = front document_limit bytes

document : (bytes : List ℕ) (root : Element) → IsDocument (read bytes) root → IsDocument bytes root
document bytes root d = subst (λ (b : List ℕ). IsDocument b root) (front_is_all document_limit bytes d.short) d

document_front : (bytes : List ℕ) (root : Element) → IsDocument bytes root → IsDocument (read bytes) root
document_front bytes root d = subst (λ (b : List ℕ). IsDocument b root) (sym (few_are_all document_limit bytes d.short)) d

no_document : (bytes : List ℕ) → ((root : Element) → IsDocument (read bytes) root → ⊥) → (root : Element) → IsDocument bytes root → ⊥
no_document bytes none root d = none root (document_front bytes root d)

tree_fails : (bytes : List ℕ) (f : TreeFault) → TreeFails (read bytes) f → TreeFails bytes f
tree_fails bytes f h = record { refusal = refusal document_limit bytes f h.refusal; none = no_document bytes h.none }

no_instance : (bytes : List ℕ) (f : OsilFault) → osil.DecodeFails (read bytes) f → osil.DecodeFails bytes f
no_instance bytes (instances.Tree f) (refused, none) = (refusal document_limit bytes f refused, no_document bytes none)
no_instance bytes (instances.Refused r n) text = record { root = text.root; document = document bytes text.root text.document; refused = text.refused }
no_instance bytes instances.Memory fails = tt

no_report : (bytes : List ℕ) (f : OsrlFault) → osrl.DecodeFails (read bytes) f → osrl.DecodeFails bytes f
no_report bytes f (inl none) = inl none
no_report bytes f (inr (inl (t, is, fails))) = inr (inl (t, is, tree_fails bytes t fails))
no_report bytes f (inr (inr text)) = inr (inr (record { root = text.root; document = document bytes text.root text.document; is = text.is }))

-- ---- files

-- what was read says no more than what the file holds
pub record Shows (text bytes : List ℕ) : Type 0 where
  pub instance : (p : Parts) → IsInstanceText text p → IsInstanceText bytes p
  pub report : (r : Report) → IsReportText text r → IsReportText bytes r
  pub names : (ns : NameLists) → GivesNames text ns → GivesNames bytes ns
  pub names_first : (ns : NameLists) → GivesNames bytes ns → GivesNames text ns
  pub no_instance : (f : OsilFault) → osil.DecodeFails text f → osil.DecodeFails bytes f
  pub no_report : (f : OsrlFault) → osrl.DecodeFails text f → osrl.DecodeFails bytes f

shows_itself : (text : List ℕ) → Shows text text
shows_itself text = record { instance = λ p is. is; report = λ r is. is; names = λ ns is. is; names_first = λ ns is. is; no_instance = λ f fails. fails; no_report = λ f fails. fails }

front_shows : (bytes : List ℕ) → Shows (read bytes) bytes
front_shows bytes = record {
  instance = λ p text. record { root = text.root; document = document bytes text.root text.document; means = text.means };
  report = λ r text. record { root = text.root; document = document bytes text.root text.document; is = text.is };
  names = λ ns text. record { root = text.root; document = document bytes text.root text.document; is = text.is };
  names_first = λ ns text. record { root = text.root; document = document_front bytes text.root text.document; is = text.is };
  no_instance = no_instance bytes;
  no_report = no_report bytes;
}

-- what a file holds, of which so much was read; where that isn't told, what was read
pub file_of : (held : Held) (text : List ℕ) → ReadsFirst 4194305 held text
    → (bytes : List ℕ) × MayHold held bytes × Shows text bytes
file_of Untold text is = (text, tt, shows_itself text)
file_of NoFile text is = absurd is
file_of (Holds bytes) text is = (bytes, refl, subst (λ (t : List ℕ). Shows t bytes) (sym is) (front_shows bytes))
