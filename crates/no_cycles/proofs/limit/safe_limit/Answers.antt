use Rattle.std.proofs.Common.{◌+◌, ◌^◌, ◌<◌, ◌≤◌, ℕ, arith}
use Rattle.std.proofs.Math.Nat.{pow-le-pow_right}
use Rattle.no_cycles.proofs.limit.safe_limit.Goals as goal

small : (k : ℕ) → k ≤ 13 → 4 ^ k < 4294967296
small k few =
    let most : 4 ^ k ≤ 4 ^ 13 = pow-le-pow_right (omega arith) few in
    omega arith

pub pow-requires : goal.pow-requires
pow-requires c = small (c.args.variables + c.args.rows) (omega (arith, c.if-variables-le13.true, c.if-rows-variables.true))
