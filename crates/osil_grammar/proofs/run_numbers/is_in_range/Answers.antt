use Rattle.osil_grammar.proofs.Words.{w64, to_z-of_z}
use Rattle.osil_grammar.proofs.RunSteps.{place_out, range_answer}
use Rattle.osil_grammar.proofs.run_numbers.is_in_range.Goals as goal

pub returns-then-not-is_inside : goal.returns-then-not-is_inside
returns-then-not-is_inside c =
    let first = to_z-of_z w64 c.args.first c.ranges.first in let step = to_z-of_z w64 c.args.step c.ranges.step in
    let tells = rw (c.if-not-is_inside.true, first, step) at c.is_inside.ensures in
    place_out c.args.first c.args.step c.args.times c.args.limit 0 c.requires.some tells

pub returns : goal.returns
returns c =
    let first = to_z-of_z w64 c.args.first c.ranges.first in let step = to_z-of_z w64 c.args.step c.ranges.step in
    let low = rw (first, step) at c.is_inside.ensures in
    let high = rw (first, step) at c.is_inside-2.ensures in
    range_answer c.is_inside.result c.is_inside-2.result c.args.first c.args.step c.args.times c.args.limit c.requires.some c.if-not-is_inside.false low high
