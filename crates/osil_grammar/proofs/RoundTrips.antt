-- The texts of numbers and ends, as they are written, are read as these.
use Rattle.osil_grammar.proofs.Words.{ℕ, ◌≤◌, pos, List, refl, sym, subst, arith, lit<, ◌<◌, decimal, Frac, End, NegInf, At, Inf, ratio, PlainText, IsCount, most_count, IsWholeText, SaysEnd, IsDecimal, HasDecimal, EndHasText, IsEndText}
use Rattle.decimal_text.specs.Sign as signs
use Rattle.decimal_text.proofs.RoundTrips as numbers

pub plain_decimal : (x : Frac) (text : List ℕ) → PlainText text (ratio x) → HasDecimal x → IsDecimal text (ratio x)
plain_decimal x text plain has = numbers.plain_decimal x text plain has.0 has.1

pub end_bound : (end : End) (text : List ℕ) → EndHasText end → IsEndText end text → SaysEnd text end
end_bound NegInf text has is = subst (λ (t : List ℕ). SaysEnd t NegInf) (sym is) refl
end_bound (At x) text has is = plain_decimal x text is has
end_bound Inf text has is = subst (λ (t : List ℕ). SaysEnd t Inf) (sym is) (signs.absent, (refl, refl))

few : (n : ℕ) → n ≤ 100000 → n ≤ most_count
few n small = let top : 100000 < most_count = lit< tt in omega (arith, top, small)

pub count_read : (n : ℕ) → n ≤ 100000 → IsCount (decimal n) n
count_read n small = numbers.count_read n (few n small)

pub whole_read : (n : ℕ) → n ≤ 100000 → IsWholeText (decimal n) (pos n)
whole_read n small = numbers.whole_read (pos n) (few n small)
