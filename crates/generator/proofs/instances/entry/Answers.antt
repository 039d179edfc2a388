use Rattle.std.proofs.Common.{◌/◌, ap, lit≤}
use Rattle.fraction.specs.declared.frac.Frac.{Frac}
use Rattle.fraction.specs.declared.ends.Entry.{Entry}
use Rattle.generator.proofs.Naturals.{is_natural}
use Rattle.generator.proofs.instances.entry.Goals as goal

pub returns : goal.returns
returns c =
    let of : Frac → Entry = λ x. record { row = c.args.j / 4; col = c.args.j; value = x } in
    ap of (is_natural c.whole.result 2 (lit≤ tt) c.whole.ensures)
