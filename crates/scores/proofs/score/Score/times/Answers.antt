use Rattle.std.proofs.Common.{◌*◌, arith}
use Rattle.std.proofs.lemmas.Int.{ints}
use Rattle.scores.proofs.Parts.{product_digits, product_above}
use Rattle.scores.proofs.score.Score.times.Goals as goal

pub returns-clause-leading : goal.returns-clause-leading
returns-clause-leading c =
    c.cut.ensures.leading _ (product_above c.args.self.digits c.args.other.digits c.args.self.power c.args.other.power)
    (product_digits c.args.self.digits c.args.other.digits c.args.self.power c.args.other.power _ (omega (arith, ints)))

pub returns-clause-near : goal.returns-clause-near
returns-clause-near c = λ n a b. c.cut.ensures.near (2 * n) (omega (arith, ints, a, b))
