use Rattle.std.proofs.Common.{ap}
use Rattle.fraction.specs.Frac.{ratio}
use Rattle.instance.specs.Program.{row, limit}
use Rattle.cert_checker.proofs.Sizes.{to_empty, from_empty}
use Rattle.cert_checker.proofs.clash.is_empty.Goals as goal

pub returns-in-At-At : goal.returns-in-At-At
returns-in-At-At c =
    let low = c.in-At-At.is-0 in
    let high = c.in-At-At.is-1 in (
      λ t. to_empty (row c.args.ends) (ratio c.in-At-At.low) (ratio c.in-At-At.high) (ap limit low) (ap limit high) (c.is_below.ensures.0 t),
      λ e. c.is_below.ensures.1 (from_empty (row c.args.ends) (ratio c.in-At-At.low) (ratio c.in-At-At.high) (ap limit low) (ap limit high) e),
    )
