-- What was told of one element is a tree.
use Rattle.std.proofs.Common.{◌≡◌, List, Option, Some, None, refl, subst}
use Rattle.std.specs.Prelude.{MatchOption, IsSome}
use Rattle.tree_grammar.specs.Elements.{Event}
use Rattle.element_tree.specs.Nesting.{IsOneElement}

abbrev Finishes : List Event → Option (List Event) → Type 0
Finishes told answer = MatchOption answer (IsOneElement told → ⊥) (λ t. (t ≡ told) × IsOneElement t)

-- there is one
pub has_tree : (answer : Option (List Event)) (told : List Event) → Finishes told answer → IsOneElement told → IsSome answer
has_tree None told finishes one = absurd (finishes one)
has_tree (Some t) told finishes one = refl

-- and its events are those that were told
pub tree_is : (answer : Option (List Event)) (told tree : List Event) → Finishes told answer → answer ≡ Some tree → tree ≡ told
tree_is answer told tree finishes found = let at : Finishes told (Some tree) = subst (Finishes told) found finishes in at.0
