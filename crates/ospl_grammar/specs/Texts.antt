-- The texts of refusals, as a reply or a message tells them.
use Rattle.std.specs.Prelude.{◌≡◌, ℕ, List, ◌++◌, codes}
use Rattle.doc_tree.specs.Words.{tree_words}
use Rattle.document_tags.specs.Faults.{refusal_at, IsTreeText}
use Rattle.ospl_grammar.specs.declared.fault.OsplFault.{OsplFault}
use Rattle.ospl_grammar.specs.declared.fault.OsplFault.TheVariants.{Tree, Root, Missing, Memory}

-- what a fault displays
abbrev pub fault_words : OsplFault → List ℕ
fault_words (Tree f) = codes "ospl " ++ tree_words f
fault_words Root = refusal_at (codes "ospl") (codes "Root") 1
fault_words Missing = refusal_at (codes "ospl") (codes "Missing") 1
fault_words Memory = codes "there was no memory"

-- the text of a fault; the number is the ordinal of the root. Want of memory has none
abbrev pub IsFaultText : OsplFault → List ℕ → Type 0
IsFaultText (Tree f) text = IsTreeText (codes "ospl") f text
IsFaultText Root text = text ≡ refusal_at (codes "ospl") (codes "Root") 1
IsFaultText Missing text = text ≡ refusal_at (codes "ospl") (codes "Missing") 1
IsFaultText Memory text = ⊥
