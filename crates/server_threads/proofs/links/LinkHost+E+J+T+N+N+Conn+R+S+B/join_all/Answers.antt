use Rattle.std.proofs.Common.{◌≡◌, ℕ, arith, ap, subst, sym, ◌∙◌, [], ◌∷◌, ◌++◌}
use Rattle.server_threads.specs.OpenLinks.{LinksServed}
use Rattle.server_threads.specs.Serving.{Stand, stand}
use Rattle.server_threads.specs.Talks.{short_of}
use Rattle.server_threads.proofs.Rounds.{taken_last, taken_free, taken_empty, going_so, going_as, going_over}
use Rattle.server_threads.proofs.links.LinkHost+E+J+T+N+N+Conn+R+S+B.join_all.Goals as goal

pub join_one-requires-clause-goes : goal.join_one-requires-clause-goes
join_one-requires-clause-goes g c κs within =
    let before = c.loop-last.invariant.goes in record {
      seat_is = before.seat_is;
      few = before.few;
      going = going_so _ _ _ _ _ _ _ _ _ _ (taken_last _ _ _ (c.in-Some.ensures.items ∙ ap (λ o. c.pop.new.self.items ++ o ∷ []) c.in-Some-last.is)) before.going;
    }

pub loop-last-preserved : goal.loop-last-preserved
loop-last-preserved g c =
    let before = c.loop-last.invariant in record {
      goes = record {
        seat_is = before.goes.seat_is;
        few = before.goes.few;
        going = going_as _ _ _ _ _ _ _ _ _ _ (sym (taken_free _ _ (c.in-Some.ensures.items ∙ ap (λ o. c.pop.new.self.items ++ o ∷ []) c.in_default-last.is))) before.goes.going;
      };
      stays = record { kept = record { means = before.stays.kept.means; before = before.stays.kept.before }; given = before.stays.given; faults = before.stays.faults };
    }

pub returns-clause-over : goal.returns-clause-over
returns-clause-over g c =
    let none = c.in_default.ensures.cases.0 in
    let long = c.loop-last.self.running.places.ok.0 in
    let kept = c.loop-last.invariant.stays.kept in
    subst (λ (z : ℕ × Stand). (o : LinksServed (g.S.Service.talked g.B.Bell.rang) z.0 z.1 (stand g.N.Listener.tells c.loop-last.self.seat c.loop-last.net)) × (c.loop-last.self.running.short ≡ short_of o.links))
    (λ i. ((kept.means i).limits.servers, stand g.N.Listener.tells (kept.before i).seat.value (kept.before i).net.value))
    (going_over _ _ _ _ _ _ _ _ _ c.loop-last.invariant.goes.going (taken_empty c.loop-last.self.running.places.items (omega arith)))
