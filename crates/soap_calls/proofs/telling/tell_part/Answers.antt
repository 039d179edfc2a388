use Rattle.std.proofs.Common.{◌∙◌}
use Rattle.soap_calls.proofs.Frames.{part_passed, part_told}
use Rattle.soap_calls.proofs.telling.tell_part.Goals as goal

pub returns-then-not-has : goal.returns-then-not-has
returns-then-not-has c = part_passed _ c.args.call.now c.args.part c.has.result c.has.ensures c.if-not-has.true c.requires

pub returns : goal.returns
returns c =
    part_told c.leaf.result _ _ c.args.call.now c.args.part c.has.result c.name.result.now c.as_slice.result.now c.has.ensures c.if-not-has.false c.name.ensures (c.as_slice.ensures ∙ c.text.ensures) c.leaf.ensures
