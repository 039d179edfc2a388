use Rattle.std.proofs.Common.{arith}
use Rattle.std.proofs.Math.Nat.{mod-lt}
use Rattle.dictionary.proofs.changing.Content.less.Goals as goal

pub overflow_cast-rest : goal.overflow_cast-rest
overflow_cast-rest c =
    let s = c.args.self in
    let d = s.divisor in
    let l = mod-lt c.unsigned_abs.result s.above in
    let m = d.small in
    record { fits = omega (arith, l, m) }

pub of-requires-clause-small : goal.of-requires-clause-small
of-requires-clause-small c =
    let s = c.args.self in
    let d = s.divisor in
    let l = mod-lt c.unsigned_abs.result s.above in
    let m = d.small in
    let most = c.common.ensures.most in
    omega (arith, l, m, most)
