use Rattle.std.proofs.Common.{rules, Some, ap, ◌∙◌}
use Rattle.desk.proofs.Steps.{looks, led_by}
use Rattle.desk.proofs.desk.DeskOf+J+T.take.Goals as goal

pub load-requires : goal.load-requires
load-requires g c =
    let same = c.loop.invariant.1 in (
      search rules,
      search rules,
      looks _ _ _ _ c.args.number _ c.requires.begins (ap (λ m. m.0.turn) same ∙ c.requires.waits.0) (ap (λ m. m.0.live) same ∙ c.requires.waits.1) (ap (λ m. m.1) same ∙ c.requires.seat.1),
    )

pub exchange-requires : goal.exchange-requires
exchange-requires g c =
    let same = c.loop.invariant.1 in
    let told = (c.load.ensures.2 c.args.number (ap (λ m. m.0.turn) same ∙ c.requires.waits.0)).1 (search rules) in (
      search rules,
      (Some told.1, led_by _ _ (ap (λ m. m.1) told.2)),
    )
