use Rattle.std.proofs.Common.{IfOk, OnErr, refl, sym, subst}
use Rattle.rational.specs.Ratio.{Ratio}
use Rattle.fraction.specs.Frac.{ratio}
use Rattle.simplex_rules.specs.declared.columns.Status.{Status}
use Rattle.simplex_rules.specs.Statuses.{status_at}
use Rattle.simplex.specs.Memory.{statuses_in}
use Rattle.search_rules.specs.Cuts.{IsLeftOver, LeftFits}
use Rattle.branch_bound.proofs.Sides.{side_status, side_other}
use Rattle.branch_bound.proofs.cutting.left_beside.Goals as goal

pub returns-in-Some-clause-ok : goal.returns-in-Some-clause-ok
returns-in-Some-clause-ok g c =
    let s = status_at (statuses_in c.args.work.now) c.args.col in
    subst (λ (x : Ratio). IfOk c.left_of.result (λ left. IsLeftOver s x (ratio left))) c.in-Some.ensures.entry.1
    (subst (λ (t : Status). IfOk c.left_of.result (λ left. IsLeftOver t (ratio c.in-Some.entry) (ratio left))) (sym (side_status s c.args.side c.requires.side)) c.left_of.ensures.ok)

pub returns-in-Some-clause-fits : goal.returns-in-Some-clause-fits
returns-in-Some-clause-fits g c =
    let s = status_at (statuses_in c.args.work.now) c.args.col in
    subst (λ (x : Ratio). IfOk c.left_of.result (λ left. LeftFits s x)) c.in-Some.ensures.entry.1
    (subst (λ (t : Status). IfOk c.left_of.result (λ left. LeftFits t (ratio c.in-Some.entry))) (sym (side_status s c.args.side c.requires.side)) c.left_of.ensures.fits)

pub returns-in-Some-clause-wide : goal.returns-in-Some-clause-wide
returns-in-Some-clause-wide g c =
    let s = status_at (statuses_in c.args.work.now) c.args.col in
    subst (λ (x : Ratio). OnErr c.left_of.result (LeftFits s x → ⊥)) c.in-Some.ensures.entry.1
    (subst (λ (t : Status). OnErr c.left_of.result (LeftFits t (ratio c.in-Some.entry) → ⊥)) (sym (side_status s c.args.side c.requires.side)) c.left_of.ensures.wide)

-- an entry stands there
pub returns-in-None-clause-ok : goal.returns-in-None-clause-ok
returns-in-None-clause-ok g c =
    let other = side_other (status_at (statuses_in c.args.work.now) c.args.col) c.args.side c.requires.side in
    absurd (c.in-None.ensures.none refl (record { row = c.requires.row; column = c.requires.column; basic = c.requires.basic; other = other }))

pub returns-in-None-clause-fits : goal.returns-in-None-clause-fits
returns-in-None-clause-fits g c =
    let other = side_other (status_at (statuses_in c.args.work.now) c.args.col) c.args.side c.requires.side in
    absurd (c.in-None.ensures.none refl (record { row = c.requires.row; column = c.requires.column; basic = c.requires.basic; other = other }))
