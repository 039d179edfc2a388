use Rattle.std.proofs.Common.{arith, ◌∙◌}
use Rattle.server_threads.proofs.Rounds.{taken_free}
use Rattle.server_threads.proofs.means.free_places.Goals as goal

pub loop-at-preserved : goal.loop-at-preserved
loop-at-preserved g c =
    let before = c.loop-at.invariant in
    let p = c.push_reserved.ensures in
    let q = c.push_reserved-in-loop-at.ensures in record {
      none = taken_free _ _ p.items ∙ before.none;
      long = omega (arith, p.len, before.long);
      room = p.capacity ∙ before.room;
      numbers = omega (arith, q.len, before.numbers);
      numbers_room = q.capacity ∙ before.numbers_room;
    }
