-- What marks make of a state, one after the other.
use Rattle.std.specs.Prelude.{◌≡◌, List, [], ◌∷◌, ◌++◌}
use Rattle.std.proofs.Common.{◌∙◌, refl, sym, ap}
use Rattle.tree_grammar.specs.Elements.{Element, events}
use Rattle.doc_tree.specs.Marks.{Mark, spread}

abbrev pub folded : {S : Type 0} → (S → Mark → S) → S → List Mark → S
folded {S} after s [] = s
folded {S} after s (m ∷ ms) = folded after (after s m) ms

-- these marks make the one of the other
abbrev pub FoldsTo : {S : Type 0} → (S → Mark → S) → S → S → List Mark → Type 0
FoldsTo {S} after old new marks = new ≡ folded after old marks

-- and so do those of a document with this root
abbrev pub IsFolded : {S : Type 0} → (S → Mark → S) → S → Element → S → Type 0
IsFolded {S} after first root s = FoldsTo after first s (spread (events root))

pub folds_none : {S : Type 0} (after : S → Mark → S) (s : S) → FoldsTo after s s []
folds_none after s = refl

-- marks behind marks
pub folded_both : {S : Type 0} (after : S → Mark → S) (s : S) (first second : List Mark) → folded after s (first ++ second) ≡ folded after (folded after s first) second
folded_both after s [] second = refl
folded_both after s (m ∷ first) second = folded_both after (after s m) first second

pub folds_both : {S : Type 0} (after : S → Mark → S) (u v w : S) (first second : List Mark) → FoldsTo after u v first → FoldsTo after v w second → FoldsTo after u w (first ++ second)
folds_both {S} after u v w first second p q = q ∙ (ap (λ (s : S). folded after s second) p ∙ sym (folded_both after u first second))
