use Rattle.std.proofs.Common.{◌≡◌, ℕ, ◌*◌, ◌/◌, ◌%◌, ◌^◌, ◌<◌, ◌≤◌, arith}
use Rattle.std.proofs.lemmas.Int.{ints}
use Rattle.std.proofs.lemmas.Nat.{le-div, div-add-mod', mod_below, leading_le}
use Rattle.std.specs.Int.Count.{count_leading_zeros}
use Rattle.scores.proofs.Tops.{raised, whole_digits}
use Rattle.scores.proofs.score.of_short.Goals as goal

-- the quotient has 31 digits at least
long : (t d n : ℕ) → t ≡ n % 2 ^ 64 → 2 ^ 63 ≤ n → n < 2 ^ 64 → 0 < d → d < 2 ^ 32 → 2 ^ 30 ≤ t / d
long t d n e low high some few = le-div (2 ^ 30) t d some (omega (arith, e, low, high, few))

pub cut-requires-clause-some : goal.cut-requires-clause-some
cut-requires-clause-some c =
    let r = raised 63 64 c.args.numer (omega arith) c.requires.numer c.ranges.numer.fits in
    let l = long (c.args.numer * 2 ^ count_leading_zeros 64 c.args.numer % 2 ^ 64) c.args.denom (c.args.numer * 2 ^ count_leading_zeros 64 c.args.numer) (omega arith) r.0 r.1 c.requires.denom c.requires.short in
    omega (arith, l)

pub returns-clause-leading : goal.returns-clause-leading
returns-clause-leading c =
    let n = c.args.numer in
    let d = c.args.denom in
    let z = count_leading_zeros 64 n in
    let t = n * 2 ^ z % 2 ^ 64 in
    let r = raised 63 64 n (omega arith) c.requires.numer c.ranges.numer.fits in
    let same : t ≡ n * 2 ^ z = omega (arith, r.1) in
    let e = div-add-mod' t d in
    let b = mod_below t d c.requires.denom in
    let small = leading_le 64 n in
    c.cut.ensures.leading _ c.requires.denom
    (whole_digits n d (t / d) z _ (omega (arith, ints, small)) (long t d (n * 2 ^ z) (omega arith) r.0 r.1 c.requires.denom c.requires.short) (omega (arith, same, e)) (omega (arith, same, e, b)))

pub returns-clause-near : goal.returns-clause-near
returns-clause-near c = let small = leading_le 64 c.args.numer in let h = c.cut.ensures.near 64 (omega (arith, ints, small)) in omega (arith, h)
