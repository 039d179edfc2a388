use Rattle.osil_grammar.proofs.Words.{Row, WriteRows, EndsHaveTexts}
use Rattle.osil_grammar.proofs.Tellings.{ToldFirst}
use Rattle.osil_grammar.proofs.document.tell_rows.Given as goal

abbrev pub invariant-loop-row : goal.invariant-loop-row
invariant-loop-row l = ToldFirst (λ (r : Row). EndsHaveTexts r.lb r.ub) (λ i. WriteRows) l.initial.w l.w l.rows l.row-index
