-- Written numbers are read as the numbers that they are.
use Rattle.osrl_grammar.proofs.Names.{◌≢◌, ℕ, ◌^◌, ◌<◌, ◌≤◌, ℤ, pos, List, [], ◌∷◌, refl, subst, append-nil, arith, lit≤, decimal, unsigned_abs, signed_decimal, All-nil, All-cons, Each, Ratio, whole, most, IsReduced, IsWithin, ratio, Frac, ratio_text, RatioText, IsFree, Index, Turn, Whole, IsNumberText, IsFraction, decimal_each, signed_each}
use Rattle.std.proofs.Math.Nat.{one-dvd}
use Rattle.decimal_text.proofs.OneRatio.{written_ratio}
use Rattle.osrl_grammar.proofs.ItemRatios.{exact_read}
use Rattle.osrl_grammar.proofs.BackTexts.{ratio_each}

pub fraction_back : (x : Frac) → IsFraction (ratio_text (ratio x)) x
fraction_back x = exact_read (ratio_text (ratio x)) x (written_ratio (ratio x) (x.above, x.reduced) (x.numer_within, x.denom_within))

-- 1 and another number have no common divisor
one_reduced : (k : ℤ) → IsReduced (whole k)
one_reduced k = (omega arith, (one-dvd (unsigned_abs k), one-dvd 1, λ d p q. q))

one_within : (k : ℤ) → unsigned_abs k ≤ most → IsWithin (whole k)
one_within k small = (small, lit≤ tt)

whole_text : (k : ℤ) → unsigned_abs k ≤ most → RatioText (signed_decimal k) (whole k)
whole_text k small = subst (λ (text : List ℕ). RatioText text (whole k)) (append-nil (signed_decimal k)) (written_ratio (whole k) (one_reduced k) (one_within k small))

pub whole_back : (k : ℤ) → unsigned_abs k ≤ most → IsNumberText Whole (signed_decimal k) (whole k)
whole_back k small = (record { form = whole_text k small; of_kind = refl; reduced = λ within. one_reduced k }, one_within k small)

pub index_back : (n : ℕ) → n < 2 ^ 32 → IsNumberText Index (decimal n) (whole (pos n))
index_back n small =
    let top : 2 ^ 32 ≤ most = lit≤ tt in
    (record { form = whole_text (pos n) (omega (arith, small, top)); of_kind = (n, refl); reduced = λ within. one_reduced (pos n) }, small)

pub turn_back : (n : ℕ) → n < 2 ^ 64 → IsNumberText Turn (decimal n) (whole (pos n))
turn_back n small =
    let top : 2 ^ 64 ≤ most = lit≤ tt in
    (record { form = whole_text (pos n) (omega (arith, small, top)); of_kind = (n, refl); reduced = λ within. one_reduced (pos n) }, small)

-- and have neither spaces nor colons
free_of : (byte : ℕ) (text : List ℕ) → Each (λ b. b ≢ byte) text → IsFree byte text
free_of byte [] h = All-nil (λ b. b ≢ byte)
free_of byte (b ∷ text) h = All-cons (λ b. b ≢ byte) b text h.0 (free_of byte text h.1)

pub decimal_spaceless : (n : ℕ) → IsFree 32 (decimal n)
decimal_spaceless n = free_of 32 (decimal n) (decimal_each (λ b. b ≢ 32) (λ d small e. omega (arith, e)) n)

pub decimal_colonless : (n : ℕ) → IsFree 58 (decimal n)
decimal_colonless n = free_of 58 (decimal n) (decimal_each (λ b. b ≢ 58) (λ d small e. omega (arith, small, e)) n)

pub signed_spaceless : (k : ℤ) → IsFree 32 (signed_decimal k)
signed_spaceless k = free_of 32 (signed_decimal k) (signed_each (λ b. b ≢ 32) (λ d small e. omega (arith, e)) (λ e. omega (arith, e)) k)

pub ratio_spaceless : (x : Ratio) → IsFree 32 (ratio_text x)
ratio_spaceless x = free_of 32 (ratio_text x) (ratio_each (λ b. b ≢ 32) (λ d small e. omega (arith, e)) (λ e. omega (arith, e)) (λ e. omega (arith, e)) x)
