use Rattle.std.proofs.Common.{◌≡◌, ℕ, Option, Some, refl, arith}
use Rattle.fraction.specs.Frac.{ratio}
use Rattle.fraction.specs.declared.frac.Frac.{Frac}
use Rattle.evidence.specs.Instance.{minimising, cost_at}
use Rattle.cert_checker.proofs.Additions.{set_next}
use Rattle.cert_checker.proofs.levels.fill_costs.Goals as goal

pub loop-j-preserved : goal.loop-j-preserved
loop-j-preserved c =
    let I = c.args.program.now in
    record {
      number = set_next (λ (i : ℕ) (s : Option Frac). (x : Frac) × (s ≡ Some x) × (ratio x ≡ minimising I (cost_at I i))) c.loop-j.slots c.loop-j.j (Some c.cost_at.result) (let a = c.loop-j.auto.slots in omega arith) (c.loop-j.invariant).number (c.cost_at.result, refl, c.cost_at.ensures);
    }
