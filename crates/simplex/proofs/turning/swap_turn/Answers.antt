use Rattle.std.proofs.Common.{◌≡◌, ◌+◌, inl, inr, sym, ap, arith}
use Rattle.simplex_rules.specs.Turns.{pivoted}
use Rattle.simplex_rules.specs.Ends.{TooWide}
use Rattle.simplex_rules.specs.Runs.{Out}
use Rattle.certificate.specs.declared.causes.Step.TheVariants.{Pivot}
use Rattle.simplex.proofs.TurnSteps.{passes_to}
use Rattle.simplex.proofs.turning.swap_turn.Goals as goal

pub returns-in-Err-clause-turn : goal.returns-in-Err-clause-turn
returns-in-Err-clause-turn g c = (
  0,
  g.met.W.Watch.stays c.args.watch.now,
  (λ I u w t looks e a.
      let l = c.if-turns.false in
      let k : looks ≡ looks + 0 = omega arith in
      inr (inl (omega arith, c.in-Err.ensures.wide, ap (λ j. Out (TooWide Pivot) (record { turns = c.args.turns.now.done; looks = j })) (sym k)))),
)

pub returns-then-count_turn-clause-turn : goal.returns-then-count_turn-clause-turn
returns-then-count_turn-clause-turn g c =
    let p = c.if-count_turn.ensures.passes in (
      p.0,
      p.1,
      (λ I u w t looks e a.
          let l = c.if-turns.false in
          inr (inr (omega arith, c.in-Ok.ensures.fits, p.2 t looks (pivoted c.args.statuses.now c.args.swap.basic c.args.swap.nonbasic c.args.swap.status) a))),
    )

pub returns-in-Ok-clause-turn : goal.returns-in-Ok-clause-turn
returns-in-Ok-clause-turn g c =
    let p = c.if-count_turn.ensures.passes in
    let ss = pivoted c.args.statuses.now c.args.swap.basic c.args.swap.nonbasic c.args.swap.status in (
      p.0,
      p.1,
      (λ I u w t looks e a.
          let l = c.if-turns.false in
          inr (inr (
            omega arith,
            c.in-Ok.ensures.fits,
            passes_to t (record { turns = c.args.turns.now.done + 1; looks = looks }) (record { turns = c.count_turn.new.turns.done; looks = looks + p.0 }) ss c.exchange.new.statuses c.in-Ok.ensures.statuses
                (p.2 t looks ss a),
          ))),
    )
