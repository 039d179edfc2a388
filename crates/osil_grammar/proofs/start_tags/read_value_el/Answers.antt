use Rattle.osil_grammar.proofs.Words.{ℕ, [], ◌∷◌, Frac, told_refusal, too_many, SaysTimes, SaysStep}
use Rattle.osil_grammar.specs.declared.elements.Place.TheVariants as places
use Rattle.osil_grammar.specs.declared.elements.Listing.TheVariants as listings
use Rattle.osil_grammar.proofs.StartTagTests.{front_numbers, behind_numbers, room_left}
use Rattle.osil_grammar.proofs.start_tags.read_value_el.Goals as goal

pub returns-in-Ok : goal.returns-in-Ok
returns-in-Ok c s name at =
    let as' = c.args.attributes.now in
    behind_numbers {X = ℕ × Frac} s name as' (places.El listings.Values) (too_many (places.El listings.Values) ∷ []) (c.in-Ok.times, c.in-Ok.step) (λ x. SaysTimes as' x.0 × SaysStep as' x.1) c.with_room.result _ c.in-Ok.ensures
    (room_left s name as' listings.Values c.args.before c.in-Ok.times c.in-Ok.step (SaysStep as') c.with_room.result at c.in-Ok.ensures.2.0 c.in-Ok.ensures.2.1 c.with_room.ensures)

pub returns-in-Err : goal.returns-in-Err
returns-in-Err c s name at = front_numbers {X = ℕ × Frac} s name c.args.attributes.now (places.El listings.Values) (too_many (places.El listings.Values) ∷ []) c.in-Err.unread (λ x. SaysTimes c.args.attributes.now x.0 × SaysStep c.args.attributes.now x.1) (told_refusal c.refusal.result) c.in-Err.ensures c.refusal.ensures
