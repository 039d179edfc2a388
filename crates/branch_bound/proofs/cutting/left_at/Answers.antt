use Rattle.std.proofs.Common.{sym, ◌∙◌, subst}
use Rattle.fraction.specs.Frac.{ratio}
use Rattle.simplex_rules.specs.declared.columns.Status.{Status}
use Rattle.simplex_rules.specs.Statuses.{status_at}
use Rattle.simplex.specs.Memory.{statuses_in, entries_in}
use Rattle.search_rules.specs.Cuts.{IsLeftOver, LeftFits}
use Rattle.branch_bound.proofs.Sides.{none_basic}
use Rattle.branch_bound.proofs.cutting.left_at.Goals as goal

pub left_beside-requires-clause-side : goal.left_beside-requires-clause-side
left_beside-requires-clause-side g c = sym c.in-Some.is ∙ c.side_at.ensures

pub returns-in-None-clause-ok : goal.returns-in-None-clause-ok
returns-in-None-clause-ok g c =
    let basic = none_basic (status_at (statuses_in c.args.work.now) c.args.col) (sym c.in-None.is ∙ c.side_at.ensures) in
    subst (λ (t : Status). IsLeftOver t (entries_in c.args.work.now c.args.variable c.args.col) (ratio c.zero.result)) (sym basic) c.zero.ensures

pub returns-in-None-clause-fits : goal.returns-in-None-clause-fits
returns-in-None-clause-fits g c =
    let basic = none_basic (status_at (statuses_in c.args.work.now) c.args.col) (sym c.in-None.is ∙ c.side_at.ensures) in
    subst (λ (t : Status). LeftFits t (entries_in c.args.work.now c.args.variable c.args.col)) (sym basic) tt
