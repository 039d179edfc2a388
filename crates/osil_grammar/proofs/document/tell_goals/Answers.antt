use Rattle.osil_grammar.proofs.Words.{refl, arith, length, codes, decimal, err_from_is_err_and, none, counted_element, WriteGoals, GoalHasDecimals}
use Rattle.osil_grammar.proofs.Tellings.{none_at, wrote_around, one_told, all_told}
use Rattle.osil_grammar.proofs.NodeJoins.{goals_join}
use Rattle.document_tags.specs.Writing.{only}
use Rattle.osil_grammar.proofs.document.tell_goals.Goals as goal

pub returns-in_err-tell_objective : goal.returns-in_err-tell_objective
returns-in_err-tell_objective c =
    let p = err_from_is_err_and c.from_residual-in_err-tell_objective.result c.from_residual-in_err-tell_objective.ensures.1 in
    rw (p.1, p.2) (none_at GoalHasDecimals c.args.goals.now c.loop-goal.goal-index c.goal-item.result c.in_err-tell_objective.field-0.0 (omega arith) c.goal-item.is c.in_err-tell_objective.ensures)

pub loop-goal-preserved : goal.loop-goal-preserved
loop-goal-preserved c =
    let one = c.in_ok-tell_objective.ensures in
    one_told GoalHasDecimals (λ i. WriteGoals) goals_join _ c.loop-goal.w c.tell_objective.new.w c.args.goals.now c.loop-goal.goal-index c.goal-item.result (omega arith) c.goal-item.is c.loop-goal.invariant one.0 one.1 one.2 one.3

pub returns : goal.returns
returns c =
    let all = all_told GoalHasDecimals (λ i. WriteGoals) _ _ c.args.goals.now c.loop-goal.goal-index (omega arith) refl c.loop-goal.invariant in
    (all.0, counted_element (codes "objectives") (codes "numberOfObjectives") (length c.args.goals.now) all.1 none, (all.1, all.2, refl), wrote_around c.args.w.now c.open_counted.new.w c.loop-goal.w c.end.new.self (codes "objectives") (only (codes "numberOfObjectives") (decimal (length c.args.goals.now))) all.1 c.in_ok-open_counted.ensures all.3 c.in_ok-end.ensures)
