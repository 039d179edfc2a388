use Rattle.std.proofs.Common.{ap, arith, sym, ◌∙◌, ◌<◌, length}
use Rattle.desk.specs.declared.view.View.{View}
use Rattle.server_threads.specs.Serving.{taken}
use Rattle.server_threads.proofs.Rounds.{taken_fewer, going_so, going_more, same_start, same_servers, same_connections}
use Rattle.server_threads.proofs.links.LinkHost+E+J+T+N+N+Conn+R+S+B.take_links.Goals as goal

pub loop-number-preserved : goal.loop-number-preserved
loop-number-preserved g c =
    let before = c.loop-number.invariant in
    let way = c.free_place-at.ensures in
    let a = c.in_ok-link.ensures in
    let s = c.split-theirs.ensures in
    let p = c.serve_link-place.ensures in
    let q = c.put_in.ensures in
    let long = c.free_place-at.new.self.running.places.ok.0 in
    let within = way.within in
    let items = c.free_place-at.new.self.running.places.items in
    let below : c.free_place-at.result < length items = omega arith in
    let fewer : length (taken items) < length items = taken_fewer items c.free_place-at.result below way.free in
    let more = ap (λ (v : View). v.given) s.seat.1 in
    let given = before.given in
    let same = way.stays.given in
    let room = before.room in
    let start = same_start way.stays.kept in
    let servers = same_servers way.stays.kept in
    let connections = same_connections before.kept in
    let kept = way.len in record {
      goes = record {
        seat_is = s.seat.0;
        few = let below = c.loop-number-test.true in omega arith;
        going = going_so _ _ _ _ _ _ _ _ _ _ q.put
            (going_more _ _ _ _ _ _ _ _ _ _ c.serve_link-place.result c.in_ok-link.link c.split-theirs.result way.goes.going (omega arith) a.came a.given_back a.reached s.seat.1 s.new.0 s.new.1 p.seat p.link p.due);
      };
      given = omega arith;
      room = q.len ∙ (way.len ∙ (before.room ∙ sym servers));
      kept = record { means = way.stays.kept.means ∙ before.kept.means; before = way.stays.kept.before ∙ before.kept.before };
      faults = a.counted ∙ (way.stays.faults ∙ before.faults);
    }
