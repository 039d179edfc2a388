use Rattle.std.proofs.Common.{ap, lit≤}
use Rattle.fraction.specs.declared.frac.Frac.{Frac}
use Rattle.fraction.specs.declared.ends.End.TheVariants.{NegInf, At}
use Rattle.instance.specs.declared.parts.Row.{Row}
use Rattle.generator.proofs.Naturals.{is_natural}
use Rattle.generator.proofs.instances.limit.Goals as goal

pub returns : goal.returns
returns c = let of : Frac → Row = λ x. record { lb = NegInf; ub = At x } in ap of (is_natural c.whole.result 7 (lit≤ tt) c.whole.ensures)
