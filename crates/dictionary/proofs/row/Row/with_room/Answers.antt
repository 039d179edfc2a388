use Rattle.std.proofs.Common.{arith, refl}
use Rattle.dictionary.proofs.RowForms.{filled, empty_numbers, empty_row}
use Rattle.dictionary.proofs.row.Row.with_room.Goals as goal

pub returns-clause-none : goal.returns-clause-none
returns-clause-none g c =
    let zeros = filled c.args.columns c.in_ok-numers.numers.items (c.in_ok-numers.ensures.items_if_clones_equal (λ y e. e)) in
    empty_numbers _ refl zeros

pub returns-clause-row : goal.returns-clause-row
returns-clause-row g c =
    let zeros = filled c.args.columns c.in_ok-numers.numers.items (c.in_ok-numers.ensures.items_if_clones_equal (λ y e. e)) in
    let v = c.in_ok-numers.numers in
    let count = v.ok.0 in
    let len = c.in_ok-numers.ensures.len in
    let room = c.in_ok-fractions.ensures in
    empty_row _ refl zeros c.args.columns c.args.room (omega arith) c.in_ok-marks.ensures.words (omega arith) c.in_ok-marks.ensures.none (omega arith)
