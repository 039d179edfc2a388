use Rattle.std.proofs.Common.{ℕ, ◌-◌, ◌^◌, ◌<◌}
use Rattle.simplex_rules.specs.declared.columns.Way.{Way}
use Rattle.simplex_rules.specs.Statuses.{status_at}
use Rattle.simplex_rules.specs.Turns.{Can, MovesIn, rate}
use Rattle.dictionary.specs.Dict.{entry_of}
use Rattle.simplex.specs.Cuts.{ranges_in}
use Rattle.simplex.proofs.helping.first_help.Given as goal

abbrev pub invariant-loop-c : goal.invariant-loop-c
invariant-loop-c g l = (k : ℕ) → k < l.from → (v : Way) → Can v (ranges_in l.ends k) (status_at l.statuses k) → MovesIn l.wanted (rate v (entry_of l.dict l.row k)) → ⊥

abbrev pub decreases-loop-c : goal.decreases-loop-c
decreases-loop-c g l = 2 ^ 32 - l.from
