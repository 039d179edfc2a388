use Rattle.std.proofs.Common.{◌≡◌}
use Rattle.job_table.specs.Places.{held_in}
use Rattle.job_table.specs.Remade.{first_marked}
use Rattle.job_table.proofs.phases.Phases.first_marked.Given as goal

-- none was found yet
abbrev pub invariant-loop-number : goal.invariant-loop-number
invariant-loop-number l = first_marked (held_in l.number-iterator) ≡ first_marked l.self
