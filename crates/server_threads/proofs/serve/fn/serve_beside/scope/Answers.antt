use Rattle.std.proofs.Common.{◌≡◌, ℕ, refl, subst, ◌∙◌}
use Rattle.desk.specs.SeatMoves.{desk_id, IsSeatOf}
use Rattle.workers.specs.Bells.{Untold}
use Rattle.server_threads.specs.Talks.{short_of}
use Rattle.server_threads.specs.Serving.{stand}
use Rattle.server_threads.specs.OpenLinks.{CameSo, LinksServed}
use Rattle.server_threads.proofs.Rounds.{links_served}
use Rattle.server_threads.proofs.serve.fn.serve_beside.scope.Goals as goal

pub returns : goal.returns
returns g c =
    let made = c.new-host.ensures in
    let taken = c.take_links-came.ensures in
    let all = c.join_all-first.ensures in
    let means = taken.kept.means ∙ made.means in
    let came = subst (λ (z : ℕ × ℕ). CameSo c.take_links-came.result z.0 z.1 c.take_links-came.new.self.seat.me.0.given (g.N.Listener.tells c.captures.net.now).faults (g.N.Listener.tells c.take_links-came.new.net).faults)
    (λ i. ((made.means i).limits.connections, made.given i)) taken.came in
    let over = subst (λ (servers : ℕ). (o : LinksServed (g.S.Service.talked Untold) servers (stand g.N.Listener.tells c.take_links-came.new.self.before.seat.value c.take_links-came.new.self.before.net.value) (stand g.N.Listener.tells c.join_all-first.result.0 c.join_all-first.new.net)) × (c.join_all-first.result.1 ≡ short_of o.links))
    (λ i. (means i).limits.servers) all.over in (
      refl,
      subst (λ desk. IsSeatOf desk c.join_all-first.result.0) (λ i. desk_id (means i).desk.now) all.seat,
      links_served _ _ _ _ _ _ _ _ _ _ _ _ _ ((λ i. stand g.N.Listener.tells (taken.kept.before i).seat.value (taken.kept.before i).net.value) ∙ made.stands) over came all.given all.faults c.ending.ensures,
    )
