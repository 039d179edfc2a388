use Rattle.std.proofs.Common.{◌≡◌, Option, Some, refl, arith}
use Rattle.fraction.specs.Frac.{ratio}
use Rattle.fraction.specs.declared.frac.Frac.{Frac}
use Rattle.evidence.specs.Sums.{none}
use Rattle.cert_checker.proofs.Additions.{set_next}
use Rattle.cert_checker.proofs.slots.clear.Goals as goal

pub loop-j-preserved : goal.loop-j-preserved
loop-j-preserved c =
    set_next (λ j (s : Option Frac). (f : Frac) × (s ≡ Some f) × (ratio f ≡ none)) c.loop-j.slots c.loop-j.j (Some c.zero.result) (let a = c.loop-j.auto.slots in omega arith) c.loop-j.invariant (c.zero.result, refl, c.zero.ensures)

pub returns : goal.returns
returns c = λ j h. c.loop-j.invariant j (omega arith)
