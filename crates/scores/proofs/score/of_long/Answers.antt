use Rattle.std.proofs.Common.{◌≡◌, ℕ, ◌+◌, ◌*◌, ◌%◌, ◌^◌, ◌<◌, ◌≤◌, ap, ◌∙◌, pow-add, arith}
use Rattle.std.proofs.lemmas.Int.{ints}
use Rattle.std.proofs.lemmas.Nat.{le-div, div-add-mod', mod_below, leading_le}
use Rattle.std.specs.Int.Count.{count_leading_zeros}
use Rattle.scores.proofs.Tops.{raised, few_more, whole_digits}
use Rattle.scores.proofs.score.of_long.Goals as goal

abbrev room : ℕ → ℕ
room n = count_leading_zeros 128 n

abbrev top : ℕ → ℕ
top n = n * 2 ^ room n % 2 ^ 128

top_is : (n : ℕ) → 0 < n → n < 2 ^ 128 → (top n ≡ n * 2 ^ room n) × (2 ^ 127 ≤ top n)
top_is n some fits = let r = raised 127 128 n (omega arith) some fits in (omega (arith, r.1), omega (arith, r.0, r.1))

twice : (t m : ℕ) → t * 2 ^ (m + 1) ≡ t * 2 ^ m * 2
twice t m = ap (λ (k : ℕ). t * k) (pow-add 2 m 1) ∙ (let e : t * (2 ^ m * 2) ≡ t * 2 ^ m * 2 = omega arith in e)

pub loop-quotient-init : goal.loop-quotient-init
loop-quotient-init c =
    let t = top_is c.args.numer c.requires.numer c.ranges.numer.fits in
    let e = div-add-mod' (top c.args.numer) c.args.denom in
    record {
      parts = omega (arith, e);
      below = mod_below (top c.args.numer) c.args.denom c.requires.denom;
      long = le-div 1 (top c.args.numer) c.args.denom c.requires.denom (let l = c.requires.long in omega (arith, t.1, l));
      few = omega arith;
    }

pub loop-quotient-preserved-then-rest-denom : goal.loop-quotient-preserved-then-rest-denom
loop-quotient-preserved-then-rest-denom c =
    let l = c.loop-quotient in
    let i = l.invariant in
    let f = few_more l.more l.quotient i.long c.loop-quotient-test.true in
    let p = twice (top c.args.numer) l.more in
    let o = twice 1 l.more in
    record { parts = omega (arith, i.parts, p); below = omega (arith, i.below); long = omega (arith, o, i.long); few = omega (arith, f) }

pub loop-quotient-preserved : goal.loop-quotient-preserved
loop-quotient-preserved c =
    let l = c.loop-quotient in
    let i = l.invariant in
    let f = few_more l.more l.quotient i.long c.loop-quotient-test.true in
    let p = twice (top c.args.numer) l.more in
    let o = twice 1 l.more in
    record { parts = omega (arith, i.parts, p); below = omega (arith, i.below); long = omega (arith, o, i.long); few = omega (arith, f) }

pub returns-clause-leading : goal.returns-clause-leading
returns-clause-leading c =
    let n = c.args.numer in
    let d = c.args.denom in
    let l = c.loop-quotient in
    let i = l.invariant in
    let t = top_is n c.requires.numer c.ranges.numer.fits in
    let small = leading_le 128 n in
    let moved : n * 2 ^ (room n + l.more) ≡ top n * 2 ^ l.more =
    ap (λ (k : ℕ). n * k) (pow-add 2 (room n) l.more) ∙ (let e : n * (2 ^ room n * 2 ^ l.more) ≡ n * 2 ^ room n * 2 ^ l.more = omega arith in e) ∙ ap (λ (k : ℕ). k * 2 ^ l.more) (let e : n * 2 ^ room n ≡ top n = omega (arith, t.0) in e) in
    c.cut.ensures.leading _ c.requires.denom
    (whole_digits n d l.quotient (room n + l.more) _ (omega (arith, ints, small, i.few)) (omega arith) (omega (arith, moved, i.parts)) (omega (arith, moved, i.parts, i.below)))

pub returns-clause-near : goal.returns-clause-near
returns-clause-near c =
    let small = leading_le 128 c.args.numer in
    let few = c.loop-quotient.invariant.few in
    let h = c.cut.ensures.near 158 (omega (arith, ints, small, few)) in omega (arith, h)
