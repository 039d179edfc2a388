use Rattle.std.proofs.Common.{length, get_or, ap, ◌∙◌, subst}
use Rattle.evidence.specs.Instance.{Instance, minimising, cost_at}
use Rattle.cert_checker.specs.Programs.{HoldsRow}
use Rattle.cert_checker.proofs.HandRows.{hand_level}
use Rattle.cert_checker.proofs.levels.reached.Goals as goal

pub returns-clause-row : goal.returns-clause-row
returns-clause-row c =
    let g = c.index-goals-level.result in
    let is = c.index-goals-level.is ∙ ap (λ l. get_or l c.args.level g) c.goals-goals.ensures.value in
    subst (λ (I : Instance). HoldsRow (length c.args.slots.now) (λ j. minimising I (cost_at I j)) c.fill_costs.new.slots)
    (c.of-program.ensures ∙ hand_level c.args.instance.now c.args.added.now g c.args.level c.requires.level is) c.fill_costs.ensures
