use Rattle.osil_grammar.proofs.Words.{ℕ, ℤ, SFits, w64, [], ◌∷◌, rules, to_z-of_z, Ok, Err, told_refusal, too_many, SaysTimes, SaysWholeStep}
use Rattle.osil_grammar.specs.declared.elements.Place.TheVariants as places
use Rattle.osil_grammar.proofs.StartTagTests.{front_numbers, behind_numbers, whole_fields, room_left}
use Rattle.osil_grammar.proofs.start_tags.read_whole_el.Goals as goal

pub returns-in-Ok : goal.returns-in-Ok
returns-in-Ok c s name at =
    let as' = c.args.attributes.now in
    let fits : SFits w64 c.in-Ok.step = search rules in
    let room = simp to_z-of_z at c.with_room.ensures in
    behind_numbers {X = ℕ × ℤ} s name as' (places.El c.args.list) (too_many (places.El c.args.list) ∷ []) (c.in-Ok.times, c.in-Ok.step) (λ x. SaysTimes as' x.0 × SaysWholeStep as' x.1) c.with_room.result _
    (whole_fields {X = ℕ × ℤ} c.args.list c.requires as' (Ok (c.in-Ok.times, c.in-Ok.step)) (λ x. SaysTimes as' x.0 × SaysWholeStep as' x.1) c.in-Ok.ensures)
    (room_left s name as' c.args.list c.args.before c.in-Ok.times c.in-Ok.step (SaysWholeStep as') c.with_room.result at c.in-Ok.ensures.2.0 c.in-Ok.ensures.2.1 room)

pub returns-in-Err : goal.returns-in-Err
returns-in-Err c s name at =
    let as' = c.args.attributes.now in
    front_numbers {X = ℕ × ℤ} s name as' (places.El c.args.list) (too_many (places.El c.args.list) ∷ []) c.in-Err.unread (λ x. SaysTimes as' x.0 × SaysWholeStep as' x.1) (told_refusal c.refusal.result)
    (whole_fields {X = ℕ × ℤ} c.args.list c.requires as' (Err c.in-Err.unread) (λ x. SaysTimes as' x.0 × SaysWholeStep as' x.1) c.in-Err.ensures) c.refusal.ensures
