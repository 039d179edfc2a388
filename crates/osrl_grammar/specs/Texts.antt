-- The texts of refusals, as a reply or a message tells them.
use Rattle.std.specs.Prelude.{◌≡◌, ℕ, List, ◌++◌, codes}
use Rattle.doc_tree.specs.Words.{tree_words}
use Rattle.document_tags.specs.Faults.{refusal_at, IsTreeText}
use Rattle.osrl_grammar.specs.declared.fault.OsrlFault.{OsrlFault}
use Rattle.osrl_grammar.specs.declared.fault.OsrlFault.TheVariants.{Tree, Root, Missing, Item, Count, Number, Wide, Memory}

-- the name of a refusal, and the number of an item, or of the root
abbrev pub told_at : (name : List ℕ) → ℕ → List ℕ
told_at name n = refusal_at (codes "osrl") name n

-- what a fault displays
abbrev pub fault_words : OsrlFault → List ℕ
fault_words (Tree f) = codes "osrl " ++ tree_words f
fault_words Root = told_at (codes "Root") 1
fault_words Missing = told_at (codes "Missing") 1
fault_words (Item n) = told_at (codes "Item") n
fault_words Count = told_at (codes "Count") 1
fault_words (Number n) = told_at (codes "Number") n
fault_words (Wide n) = told_at (codes "Wide") n
fault_words Memory = codes "there was no memory"

-- the text of a fault; of Root, Missing and Count the number is that of the root, 1
abbrev pub IsFaultText : OsrlFault → List ℕ → Type 0
IsFaultText (Tree f) text = IsTreeText (codes "osrl") f text
IsFaultText Root text = text ≡ told_at (codes "Root") 1
IsFaultText Missing text = text ≡ told_at (codes "Missing") 1
IsFaultText (Item n) text = text ≡ told_at (codes "Item") n
IsFaultText Count text = text ≡ told_at (codes "Count") 1
IsFaultText (Number n) text = text ≡ told_at (codes "Number") n
IsFaultText (Wide n) text = text ≡ told_at (codes "Wide") n
IsFaultText Memory text = ⊥
