use Rattle.std.proofs.Common.{sym, ◌∙◌, ap}
use Rattle.fraction.specs.Frac.{ratio}
use Rattle.evidence.specs.Instance.{minimising_by}
use Rattle.instance.specs.declared.parts.Goal.{Goal}
use Rattle.instance.specs.Program.{goal as meaning}
use Rattle.branch_bound.proofs.Gaps.{less_is}
use Rattle.branch_bound.proofs.OpenBounds.{finds, finds_none, empty_list}
use Rattle.branch_bound.proofs.bounds.open_bound.Goals as goal

pub returns-in-Some : goal.returns-in-Some
returns-in-Some c = λ L clock zero asks.
    let a = c.args in
    let p = a.instance.now in
    let z = c.in-Some.number in
    let closes = rw c.in-Some.is at c.in_ok-number.ensures in
    finds p a.rows.now a.level a.walk a.best.now L clock (empty_list a.level.certs c.requires.shown) asks c.close_all.new.walk c.best_number-from.result c.best_number-from.ensures z c.turned.result closes
    (c.turned.ensures ∙ ap (λ (h : Goal). minimising_by (meaning h).sense (ratio z)) (sym c.index-goals-0.is) ∙ less_is p c.goals-goals.result.now c.index-goals-0.result (ratio z) c.goals-goals.ensures.value c.goals-goals.ensures.valid.some_goal c.index-goals-0.is)

pub returns-in-None : goal.returns-in-None
returns-in-None c = λ L clock zero asks.
    let a = c.args in
    let closes = rw c.in-None.is at c.in_ok-number.ensures in
    finds_none a.instance.now a.rows.now a.level a.walk a.best.now L clock (empty_list a.level.certs c.requires.shown) asks c.close_all.new.walk c.best_number-from.result c.best_number-from.ensures closes
