use Rattle.std.proofs.Common.{◌≡◌, ◌++◌, drop}
use Rattle.solve_run.specs.RowForms.{rows_of}
use Rattle.solve_run.proofs.row_forms.rows_of.Given as goal

abbrev pub invariant-loop-i : goal.invariant-loop-i
invariant-loop-i l = l.rows ++ rows_of l.vars (drop l.i l.whole) ≡ rows_of l.vars l.whole
