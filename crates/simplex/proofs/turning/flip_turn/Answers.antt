use Rattle.std.proofs.Common.{inr, arith}
use Rattle.std.specs.Prelude.{slice_set}
use Rattle.simplex.proofs.turning.flip_turn.Goals as goal

pub returns-then-count_turn-clause-turn : goal.returns-then-count_turn-clause-turn
returns-then-count_turn-clause-turn g c =
    let p = c.if-count_turn.ensures.passes in (
      p.0,
      p.1,
      (λ I u w t looks e a.
          let l = c.if-turns.false in
          inr (inr (omega arith, tt, p.2 t looks (slice_set c.args.statuses.now c.args.flip.col c.args.flip.status) a))),
    )

pub returns-clause-turn : goal.returns-clause-turn
returns-clause-turn g c =
    let p = c.if-count_turn.ensures.passes in (
      p.0,
      p.1,
      (λ I u w t looks e a.
          let l = c.if-turns.false in
          inr (inr (omega arith, tt, p.2 t looks (slice_set c.args.statuses.now c.args.flip.col c.args.flip.status) a))),
    )
