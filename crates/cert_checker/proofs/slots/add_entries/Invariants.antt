use Rattle.fraction.specs.Frac.{ratio}
use Rattle.cert_checker.proofs.Additions.{IsAdded}
use Rattle.cert_checker.proofs.slots.add_entries.Given as goal

abbrev pub invariant-loop-k : goal.invariant-loop-k
invariant-loop-k l = IsAdded l.row (record { row = 0; col = 0; value = l.by }) (ratio l.by) l.initial.slots l.slots l.k
