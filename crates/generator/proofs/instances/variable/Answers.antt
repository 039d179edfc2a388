use Rattle.std.proofs.Common.{false, nat_lt, ◌∙◌, ap, lit≤}
use Rattle.fraction.specs.declared.frac.Frac.{Frac}
use Rattle.fraction.specs.declared.ends.End.TheVariants.{At}
use Rattle.instance.specs.declared.parts.Var.{Var}
use Rattle.generator.specs.Instances.{natural}
use Rattle.generator.proofs.Naturals.{is_natural}
use Rattle.generator.proofs.instances.variable.Goals as goal

pub returns : goal.returns
returns c =
    let of : Frac → Frac → Var = λ x y. record { lb = At x; ub = At y; whole = nat_lt c.args.j 4; zero = false } in
    ap (λ (x : Frac). of x c.whole-2.result) (is_natural c.whole.result 0 (lit≤ tt) c.whole.ensures) ∙ ap (of (natural 0 (lit≤ tt))) (is_natural c.whole-2.result 3 (lit≤ tt) c.whole-2.ensures)
