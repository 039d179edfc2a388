use Rattle.osil_grammar.proofs.Words.{WriteGoals, GoalHasDecimals}
use Rattle.osil_grammar.proofs.Tellings.{ToldFirst}
use Rattle.osil_grammar.proofs.document.tell_goals.Given as goal

abbrev pub invariant-loop-goal : goal.invariant-loop-goal
invariant-loop-goal l = ToldFirst GoalHasDecimals (λ i. WriteGoals) l.initial.w l.w l.goals l.goal-index
