use Rattle.evidence.specs.Instance.{minimising, cost_at}
use Rattle.cert_checker.specs.Programs.{HoldsRow}
use Rattle.cert_checker.proofs.levels.fill_costs.Given as goal

abbrev pub invariant-loop-j : goal.invariant-loop-j
invariant-loop-j l = HoldsRow l.j (λ i. minimising l.program (cost_at l.program i)) l.slots
