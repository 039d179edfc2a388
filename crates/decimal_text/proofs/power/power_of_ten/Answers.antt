use Rattle.std.proofs.Common.{◌^◌, ◌≤◌, arith}
use Rattle.rational.specs.Width.{most}
use Rattle.decimal_text.proofs.Powers.{far, near}
use Rattle.decimal_text.proofs.power.power_of_ten.Goals as goal

pub returns-then-places-gt38 : goal.returns-then-places-gt38
returns-then-places-gt38 c = far c.args.places c.if-places-gt38.true

pub pow-requires : goal.pow-requires
pow-requires c = omega (arith, near c.args.places c.if-places-gt38.false)

pub returns : goal.returns
returns c = let h : 10 ^ c.args.places ≤ most = near c.args.places c.if-places-gt38.false in (c.pow.ensures, omega (arith, h, c.pow.ensures))
