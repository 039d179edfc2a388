-- The texts of refusals, as a reply or a message tells them.
use Rattle.std.specs.Prelude.{◌≡◌, ℕ, List, ◌∷◌, ◌++◌, take, codes, decimal}
use Rattle.doc_tree.specs.declared.fault.TreeFault.{TreeFault}
use Rattle.doc_tree.specs.declared.fault.TreeFault.TheVariants.{Malformed, Doctype, Encoding, Deep, Long, Memory}

-- the beginning of a name, as far as a refusal tells it: its first 64 bytes
abbrev pub told_name : List ℕ → List ℕ
told_name name = take 64 name

-- a kind of document, the name of a refusal, and the ordinal of an element, the number of an item, or a place in bytes
abbrev pub refusal_at : (document name : List ℕ) → ℕ → List ℕ
refusal_at document name n = document ++ (32 ∷ (name ++ (codes " at " ++ decimal n)))

-- a kind of document and the name of a refusal that has no place
abbrev pub refusal_of : (document name : List ℕ) → List ℕ
refusal_of document name = document ++ (32 ∷ name)

-- the text of what is wrong with a tree; want of memory has none
abbrev pub IsTreeText : List ℕ → TreeFault → List ℕ → Type 0
IsTreeText document (Malformed at) text = text ≡ refusal_at document (codes "Malformed") at
IsTreeText document (Doctype at) text = text ≡ refusal_at document (codes "Doctype") at
IsTreeText document Encoding text = text ≡ refusal_of document (codes "Encoding")
IsTreeText document (Deep at) text = text ≡ refusal_at document (codes "Deep") at
IsTreeText document Long text = text ≡ refusal_of document (codes "Long")
IsTreeText document Memory text = ⊥
