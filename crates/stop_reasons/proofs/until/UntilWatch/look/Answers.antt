use Rattle.std.proofs.Common.{refl}
use Rattle.stop_reasons.proofs.Looks.{one_kill, one_reading}
use Rattle.stop_reasons.proofs.until.UntilWatch.look.Goals as goal

pub returns-then-look-clause-came : goal.returns-then-look-clause-came
returns-then-look-clause-came g c = (refl, refl, one_kill (g.W.Watch.came c.args.self.now.watch.now c.look.new.self) _ _ c.if-look.ensures.came)

pub returns-then-over-clause-came : goal.returns-then-over-clause-came
returns-then-over-clause-came g c = (
  refl,
  c.is_over-over.ensures.limit,
  one_reading (g.W.Watch.came c.args.self.now.watch.now c.look.new.self) _ _ _ c.is_over-over.result c.is_over-over.ensures.only (λ over. refl) (λ not. absurd (cc)) c.if-look.ensures.came,
)

pub returns-else-over-clause-came : goal.returns-else-over-clause-came
returns-else-over-clause-came g c = (
  refl,
  c.is_over-over.ensures.limit,
  one_reading (g.W.Watch.came c.args.self.now.watch.now c.look.new.self) _ _ _ c.is_over-over.result c.is_over-over.ensures.only (λ over. absurd (cc)) (λ not. refl) c.if-look.ensures.came,
)
