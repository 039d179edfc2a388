use Rattle.std.proofs.Common.{◌≡◌, map, take}
use Rattle.solve_run.specs.RowForms.{round_of_rows}
use Rattle.solve_run.proofs.row_forms.rounds_of_rows.Given as goal

abbrev pub invariant-loop-i : goal.invariant-loop-i
invariant-loop-i l = l.rows ≡ map (round_of_rows l.vars) (take l.i l.whole)
