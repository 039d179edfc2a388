use Rattle.osil_grammar.proofs.Words.{Var, WriteVars, EndsHaveTexts}
use Rattle.osil_grammar.proofs.Tellings.{ToldFirst}
use Rattle.osil_grammar.proofs.document.tell_vars.Given as goal

abbrev pub invariant-loop-var : goal.invariant-loop-var
invariant-loop-var l = ToldFirst (λ (v : Var). EndsHaveTexts v.lb v.ub) (λ i. WriteVars) l.initial.w l.w l.vars l.var-index
