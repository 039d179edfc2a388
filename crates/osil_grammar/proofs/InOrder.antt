-- The tests of each kind stand in the order of their refusals.
use Rattle.osil_grammar.proofs.Words.{◌≡◌, true, map, refl, Mark, order_tested, Values, number, State, Kind, begins, ends, Test, ToldRefusal, tests, refusal, kind, osil}
use Rattle.tag_tests.specs.Firsts.{IsOrdered}
use Rattle.tag_tests.proofs.Tests.{stand_in_order}
use Rattle.osil_grammar.specs.declared.elements.Part.TheVariants.{Coefficients}
use Rattle.osil_grammar.specs.declared.elements.Place.TheVariants.{Outside, Part, El}
use Rattle.osil_grammar.specs.declared.elements.Led.TheVariants.{To, OtherRoot}

-- of each kind the numbers of its refusals stand in order, which computes by the kind
kind_in_order : (s : State) (m : Mark) (k : Kind) → stand_in_order (map (λ (t : Test). number (refusal s m t)) (tests k)) ≡ true
kind_in_order s m (begins OtherRoot) = refl
kind_in_order s m (begins (To Outside)) = refl
kind_in_order s m (ends (Part Coefficients)) = refl
kind_in_order s m (ends (El Values)) = refl
kind_in_order s m k = refl

pub in_order : IsOrdered osil (λ (r : ToldRefusal). number r.refusal)
in_order s m = order_tested (λ (t : Test). number (refusal s m t)) (tests (kind s m)) (kind_in_order s m (kind s m))
