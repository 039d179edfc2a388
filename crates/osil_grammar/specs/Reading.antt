-- What the reader promises: bytes stand for an instance, or are refused.
use Rattle.std.specs.Prelude.{◌≡◌, ℕ, List, ◌++◌, codes}
use Rattle.doc_tree.specs.Words.{tree_words}
use Rattle.tree_grammar.specs.Elements.{Element}
use Rattle.document_tags.specs.Texts as tree
use Rattle.document_tags.specs.Texts.{document_limit}
use Rattle.doc_tree.specs.Refusals.{IsRefusal}
use Rattle.doc_tree.specs.declared.TreeFault.{TreeFault}
use Rattle.document_tags.specs.Faults as spoken
use Rattle.instance.specs.Parts.{Parts}
use Rattle.osil_grammar.specs.declared.fault.Refusal.{Refusal}
use Rattle.osil_grammar.specs.declared.fault.Refusal.TheVariants.{Root, Missing, Beyond, Attribute, Number, Wide, Count, Index, Start, VarType, Bound, ManyObjectives, TooBig}
use Rattle.osil_grammar.specs.declared.fault.OsilFault.{OsilFault}
use Rattle.osil_grammar.specs.declared.fault.OsilFault.TheVariants.{Tree, Refused, Memory}
use Rattle.osil_grammar.specs.Refusals as refusals
use Rattle.osil_grammar.specs.Marked.{StandsFor, IsRefused}
use Rattle.osil_grammar.specs.Texts.{refusal_name, refusal_text, shown_subject}

-- the bytes are a document within the limits, and hold this element
abbrev pub IsDocument : List ℕ → Element → Type 0
IsDocument bytes root = tree.IsDocument bytes root

-- the bytes stand for this instance
pub record IsInstanceText (bytes : List ℕ) (p : Parts) : Type 0 where
  pub root : Element
  pub document : IsDocument bytes root
  pub means : StandsFor root p

-- the bytes are a document that is refused, at the element with this ordinal
pub record IsRefusedText (bytes : List ℕ) (r : refusals.Refusal) (n : ℕ) : Type 0 where
  pub root : Element
  pub document : IsDocument bytes root
  pub refused : IsRefused root r n

-- the refusal that is told
abbrev pub told_refusal : Refusal → refusals.Refusal
told_refusal Root = refusals.Root
told_refusal Missing = refusals.Missing
told_refusal (Beyond name) = refusals.Beyond name
told_refusal (Attribute name) = refusals.Attribute name.now
told_refusal Number = refusals.Number
told_refusal Wide = refusals.Wide
told_refusal Count = refusals.Count
told_refusal Index = refusals.Index
told_refusal Start = refusals.Start
told_refusal VarType = refusals.VarType
told_refusal Bound = refusals.Bound
told_refusal ManyObjectives = refusals.ManyObjectives
told_refusal TooBig = refusals.TooBig

-- why bytes aren't read: they are refused before they are a document, at the byte that is told, or are one that is refused
abbrev pub DecodeFails : List ℕ → OsilFault → Type 0
DecodeFails bytes (Tree f) = IsRefusal document_limit bytes f × ((root : Element) → IsDocument bytes root → ⊥)
DecodeFails bytes (Refused r at) = IsRefusedText bytes (told_refusal r) at
DecodeFails bytes Memory = Unit {0}

-- two faults say the same: names that a refusal holds by reference are compared by their bytes
abbrev pub AreAlike : OsilFault → OsilFault → Type 0
AreAlike (Tree f) (Tree g) = f ≡ g
AreAlike (Refused r n) (Refused q m) = (told_refusal r ≡ told_refusal q) × (n ≡ m)
AreAlike Memory Memory = Unit {0}
AreAlike f g = ⊥

-- what is wrong with bytes that are no document
abbrev pub IsTreeText : TreeFault → List ℕ → Type 0
IsTreeText f text = spoken.IsTreeText (codes "osil") f text

-- what a fault displays
abbrev pub fault_words : OsilFault → List ℕ
fault_words (Tree f) = codes "osil " ++ tree_words f
fault_words (Refused r at) = spoken.refusal_at (codes "osil") (refusal_name (told_refusal r)) at ++ shown_subject (told_refusal r)
fault_words Memory = codes "there was no memory"

-- the text of a fault; want of memory has none
abbrev pub IsFaultText : OsilFault → List ℕ → Type 0
IsFaultText (Tree f) text = IsTreeText f text
IsFaultText (Refused r at) text = text ≡ refusal_text (told_refusal r) at
IsFaultText Memory text = ⊥
