use Rattle.fraction.specs.Frac.{ratio, ratios}
use Rattle.evidence.specs.Point.{value_at}
use Rattle.cert_checker.proofs.Additions.{AreAdded}
use Rattle.cert_checker.proofs.slots.add_numbers.Given as goal

abbrev pub invariant-loop-j : goal.invariant-loop-j
invariant-loop-j l = AreAdded (ratio l.by) (value_at (ratios l.numbers)) l.initial.slots l.slots l.j
