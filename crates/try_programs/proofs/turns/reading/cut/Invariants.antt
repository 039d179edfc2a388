use Rattle.std.proofs.Common.{◌≡◌}
use Rattle.try_programs.proofs.turns.reading.cut.Given as goal

abbrev pub invariant-loop-piece : goal.invariant-loop-piece
invariant-loop-piece l = record { rows : l.cuts.rows ≡ l.fn.cuts.rows; goal : l.cuts.goal ≡ l.fn.cuts.goal }
