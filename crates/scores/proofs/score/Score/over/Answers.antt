use Rattle.std.proofs.Common.{◌≡◌, ◌*◌, ◌/◌, ◌%◌, ◌^◌, ◌<◌, ◌≤◌, arith}
use Rattle.std.proofs.lemmas.Int.{ints}
use Rattle.std.proofs.lemmas.Nat.{le-div, div-add-mod', mod_below}
use Rattle.scores.proofs.Parts.{quotient_digits, quotient_above}
use Rattle.scores.proofs.Scored.{digits_of}
use Rattle.scores.proofs.score.Score.over.Goals as goal

pub returns : goal.returns
returns c =
    let n = c.args.self.digits in
    let m = c.args.other.digits in
    let a = digits_of c.args.self c.requires.cut (λ e. c.if-self-eq0.false e) in
    let b = digits_of c.args.other c.requires.by_cut (λ e. c.requires.some e) in
    let some : 0 < m = omega (arith, b.0) in
    let t = n * 2 ^ 32 % 2 ^ 64 in
    let same : t ≡ n * 2 ^ 32 = omega (arith, a.1) in
    let e = div-add-mod' t m in
    let r = mod_below t m some in
    let many : 2 ^ 30 ≤ t / m = le-div (2 ^ 30) t m some (omega (arith, same, a.0, b.1)) in
    c.cut.ensures.leading _ (quotient_above n m c.args.self.power c.args.other.power some)
    (quotient_digits n m (t / m) c.args.self.power c.args.other.power _ some many (omega (arith, same, e)) (omega (arith, same, e, r)) (omega (arith, ints)))
