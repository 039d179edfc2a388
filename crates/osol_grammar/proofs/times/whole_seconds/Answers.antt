use Rattle.std.proofs.Common.{rules, ◌≡◌, ◌∙◌, ◌^◌, ◌≤◌, FitsSigned, to_z, of_z, ap, arith, lit<, lit≤}
use Rattle.std.specs.Prelude.{unsigned_abs}
use Rattle.std.specs.Int.{w128, IsGcd}
use Rattle.std.proofs.lemmas.Int.{to_z-of_z}
use Rattle.rational.specs.Width.{most}
use Rattle.rational.proofs.CommonDivisors.{one_divides}
use Rattle.osol_grammar.proofs.times.whole_seconds.Goals as goal

pub invariant_of-result : goal.invariant_of-result
invariant_of-result c =
    let k = c.signed-numer.result in
    let signed : FitsSigned w128 k = search rules in
    let back : to_z w128 (of_z w128 k) ≡ k = to_z-of_z w128 k signed in
    let size : unsigned_abs k ≡ c.args.n = ap unsigned_abs c.signed-numer.ensures ∙ c.from.ensures in
    let fits = c.ranges.n.fits in
    let top : 2 ^ 64 ≤ most = lit≤ tt in
    let small : unsigned_abs k ≤ most = omega (arith, size, fits, top) in
    let coprime : IsGcd (unsigned_abs k) 1 1 = (one_divides (unsigned_abs k), one_divides 1, λ d p q. q) in
    record { above = lit< tt; reduced = rw back coprime; numer_within = rw back small; denom_within = lit≤ tt }
