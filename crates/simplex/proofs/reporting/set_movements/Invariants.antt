use Rattle.std.proofs.Common.{◌≡◌, ℕ, ◌<◌}
use Rattle.simplex_rules.specs.Reports.{movement}
use Rattle.dictionary.specs.Dict.{entry_of}
use Rattle.simplex.specs.Tables.{values_in}
use Rattle.simplex.proofs.reporting.set_movements.Given as goal

abbrev pub invariant-loop-c : goal.invariant-loop-c
invariant-loop-c g l = (k : ℕ) → k < l.c → values_in l.movements k ≡ movement l.statuses (entry_of l.dict) l.moving.col l.moving.way k
