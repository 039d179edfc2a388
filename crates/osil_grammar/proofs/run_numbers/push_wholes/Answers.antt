use Rattle.osil_grammar.proofs.Words.{w64, ◌∙◌, to_z-of_z, IsIndexBelow}
use Rattle.osil_grammar.proofs.RunSteps.{at_step, next_pushed, pushed_is}
use Rattle.osil_grammar.proofs.run_numbers.push_wholes.Goals as goal

pub loop-place-preserved : goal.loop-place-preserved
loop-place-preserved c =
    let first = to_z-of_z w64 c.args.first c.ranges.first in let step = to_z-of_z w64 c.args.step c.ranges.step in
    let is = rw (first, step) at c.number_at.ensures in
    let below : IsIndexBelow (at_step c.args.first c.args.step c.loop-place.place) 100001 = c.requires.inside c.loop-place.place c.loop-place-test.true in
    let here : IsIndexBelow c.number_at.result 100001 = rw is below in
    rw (first, step) (next_pushed c.loop-place.list.items c.push.new.self.items c.args.list.now.items c.args.first c.args.step c.args.times c.loop-place.place _ c.loop-place-test.true (pushed_is c.number_at.result here ∙ is) c.in_ok-push.ensures.items (rw (first, step) at c.loop-place.invariant))
