use Rattle.std.proofs.Common.{rules, ap, ◌∙◌}
use Rattle.desk.proofs.Steps.{draws}
use Rattle.desk.proofs.desk.DeskOf+J+T.draw.Goals as goal

pub compare_exchange-found-requires : goal.compare_exchange-found-requires
compare_exchange-found-requires g c =
    let ready = c.requires.ready in
    let same = c.loop.invariant.1 in (
      search rules,
      search rules,
      draws _ _ _ _ _ (ap (λ m. m.0.turn) same ∙ ready.idle) (ap (λ m. m.0.live) same ∙ ready.live) (search rules),
    )
