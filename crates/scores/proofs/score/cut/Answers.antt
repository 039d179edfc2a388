use Rattle.std.proofs.Common.{◌≡◌, ℕ, ◌-◌, ◌*◌, ◌/◌, ◌^◌, ap, arith}
use Rattle.std.proofs.lemmas.Int.{ints}
use Rattle.std.specs.Int.Count.{count_leading_zeros}
use Rattle.scores.proofs.Tops.{long_cuts, short_digits, drop_leads, add_leads, none_added, cuts_length}
use Rattle.scores.proofs.score.cut.Goals as goal

pub overflow_cast-result-then-count-gt-KEPT : goal.overflow_cast-result-then-count-gt-KEPT
overflow_cast-result-then-count-gt-KEPT c = let t = long_cuts c.args.n c.requires.some c.ranges.n.fits c.if-count-gt-KEPT.true in let f = t.few in omega (arith, f)

pub returns-then-count-gt-KEPT-clause-leading : goal.returns-then-count-gt-KEPT-clause-leading
returns-then-count-gt-KEPT-clause-leading c = drop_leads c.args.n (128 - count_leading_zeros 128 c.args.n - 31) _ c.args.power _ (long_cuts c.args.n c.requires.some c.ranges.n.fits c.if-count-gt-KEPT.true) (omega (arith, ints))

pub returns-then-count-gt-KEPT-clause-long : goal.returns-then-count-gt-KEPT-clause-long
returns-then-count-gt-KEPT-clause-long c = λ long.
    let k = 128 - count_leading_zeros 128 c.args.n - 31 in
    let t = cuts_length c.args.n (c.args.n / 2 ^ k) k (long_cuts c.args.n c.requires.some c.ranges.n.fits c.if-count-gt-KEPT.true) in
    (k, omega (arith, ints), t.0, t.1)

pub overflow_cast-result-3 : goal.overflow_cast-result-3
overflow_cast-result-3 c = let t = short_digits c.args.n c.requires.some c.ranges.n.fits c.if-count-gt-KEPT.false in omega (arith, t.1)

pub returns-clause-leading : goal.returns-clause-leading
returns-clause-leading c =
    let t = short_digits c.args.n c.requires.some c.ranges.n.fits c.if-count-gt-KEPT.false in
    add_leads c.args.n (31 - (128 - count_leading_zeros 128 c.args.n)) _ c.args.power _ (omega (arith, t.1)) t.0 t.1 (omega (arith, ints))

pub returns-clause-long : goal.returns-clause-long
returns-clause-long c = λ long.
    let t = short_digits c.args.n c.requires.some c.ranges.n.fits c.if-count-gt-KEPT.false in
    let j = none_added c.args.n (31 - (128 - count_leading_zeros 128 c.args.n)) long t.1 in
    let e : c.args.n * 2 ^ (31 - (128 - count_leading_zeros 128 c.args.n)) ≡ c.args.n * 2 ^ 0 = ap (λ (k : ℕ). c.args.n * 2 ^ k) j in
    (0, omega (arith, ints, j), omega (arith, long), omega (arith, e, t.1))
