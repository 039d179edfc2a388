-- Elements that are the only ones, and what they hold.
use Rattle.std.proofs.Common.{◌≡◌, ◌≢◌, ◌∙◌, ◌↔◌, ◌<◌, ℕ, Bool, Option, None, List, [], ◌∷◌, length, bytes_eq, append-nil, refl, arith, subst, sym}
use Rattle.std.specs.Prelude.{IsTrue}
use Rattle.std.proofs.lemmas.Slice.Eq.{bytes_eq-Decides}
use Rattle.tree_grammar.specs.Elements.{Element}
use Rattle.document_tags.specs.declared.spot.Spot.{Spot}
use Rattle.document_tags.specs.Elements.{characters}
use Rattle.document_tags.specs.Writing.{text_nodes}
use Rattle.document_tags.specs.Spots.{AreSpots, IsSpot}
use Rattle.document_tags.specs.OneChild.{only_one, unless_elements}

-- where they aren't one, there is none
pub none_only : (spots : List Spot) (es : List Element) → length spots ≢ 1 → AreSpots spots es → IsSpot None (only_one es)
none_only spots [] other are = tt
none_only [] (e ∷ es) other are = absurd are
none_only (s ∷ []) (e ∷ es) other are = absurd (other (omega arith))
none_only (s ∷ t ∷ more) (e ∷ []) other are = absurd are.1
none_only (s ∷ t ∷ more) (e ∷ f ∷ es) other are = tt

-- the items of a list are those of the slice
pub in_slice : (slice items : List Spot) (es : List Element) → slice ≡ items → AreSpots items es → AreSpots slice es
in_slice slice items es is are = subst (λ (l : List Spot). AreSpots l es) (sym is) are

-- nothing was found yet
pub none_yet : (found : List Spot) → found ≡ [] → AreSpots found []
none_yet found is = subst (λ (l : List Spot). AreSpots l []) (sym is) tt

-- what an element says that holds a text
pub text_own : (text : List ℕ) → characters (text_nodes text) ≡ text
text_own [] = refl
text_own (c ∷ cs) = append-nil (c ∷ cs)

-- at what was found
pub at_found : (r s : Option Spot) (o : Option Element) → r ≡ s → IsSpot r o → IsSpot s o
at_found r s o is found = subst (λ (x : Option Spot). IsSpot x o) is found

-- an element has this name
pub has_name : (name given literal : List ℕ) (e : Element) (r : Bool) → r ≡ bytes_eq given literal → given ≡ e.name → literal ≡ name → IsTrue r ↔ (e.name ≡ name)
has_name name given literal e r tests is word =
    let test = bytes_eq-Decides given literal in
    (λ yes. sym is ∙ test.0 (sym tests ∙ yes) ∙ word, λ named. tests ∙ test.1 (is ∙ named ∙ sym word))

-- what an element says whose child elements these are
pub some_inside : (spots : List Spot) (es : List Element) (text : List ℕ) → 0 < length spots → AreSpots spots es → None ≡ unless_elements es text
some_inside [] es text some are = absurd (omega (arith, some))
some_inside (s ∷ spots) [] text some are = absurd are
some_inside (s ∷ spots) (e ∷ es) text some are = refl
