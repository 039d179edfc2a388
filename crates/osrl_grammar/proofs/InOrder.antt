-- The tests of each kind stand in the order of their refusals.
use Rattle.osrl_grammar.proofs.Names.{ℕ, ◌≤◌, Option, None, Some, [], ◌∷◌, refl, arith, OtherRoot, number, State, begins, ends, kind, tests, told, refusal_of, item_refusal, bad_item, BadItem, Misread, NoShape, NoNumber, TooGreat, Value, osrl, Kind}
use Rattle.tag_tests.specs.Tests.{InOrder}
use Rattle.tag_tests.specs.Firsts.{IsOrdered}
use Rattle.tag_tests.proofs.Tests.{order_tested}
use Rattle.osrl_grammar.specs.declared.elements.Place.{Place}
use Rattle.osrl_grammar.specs.declared.elements.Place.TheVariants.{Osrl}
use Rattle.osrl_grammar.specs.Table.{Test, twice, miscounted, incomplete}
use Rattle.osrl_writing.specs.declared.parts.Part.TheVariants.{Tree, Cause, Bound}

-- an item's refusal comes before those of the whole document
item_low : (u : Misread) (n : ℕ) → number (item_refusal u n) ≤ 5
item_low NoShape n = omega arith
item_low NoNumber n = omega arith
item_low TooGreat n = omega arith

unread_low : (o : Option BadItem) → number (refusal_of o) ≤ 5
unread_low None = omega arith
unread_low (Some b) = item_low b.misread b.number

module _ (s : State) where
  abbrev at : Test → ℕ
  at t = number (told s t)

  root_in_order : InOrder at (tests (ends Osrl))
  root_in_order = let low = unread_low (bad_item s) in ((low, (low, (low, (low, (low, (omega (arith, low), tt)))))), order_tested at (twice ∷ miscounted Value ∷ miscounted Tree ∷ miscounted Cause ∷ miscounted Bound ∷ incomplete ∷ []) refl)

  kind_in_order : (k : Kind Place) → InOrder at (tests k)
  kind_in_order (begins OtherRoot as') = order_tested at (tests (begins OtherRoot as')) refl
  kind_in_order (ends Osrl) = root_in_order
  kind_in_order k = tt

pub in_order : IsOrdered osrl number
in_order s m = kind_in_order s (kind s m)
