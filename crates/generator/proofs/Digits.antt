-- Numbers below 10 000 are written as decimals of at most four bytes.
use Rattle.std.proofs.Common.{◌≡◌, ◌∙◌, ℕ, ◌+◌, ◌*◌, ◌^◌, ◌<◌, ◌≤◌, true, false, pos, List, [], ◌++◌, length, refl, sym, subst, arith, inl, lit<, lit≤}
use Rattle.std.specs.Prelude.{decimal}
use Rattle.std.proofs.lemmas.Fmt.{length-decimal-le_wide}
use Rattle.std.proofs.lemmas.List.{append-nil}
use Rattle.rational.specs.Ratio.{whole}
use Rattle.rational.specs.Width.{most}
use Rattle.fraction.specs.declared.frac.Frac.{Frac}
use Rattle.fraction.specs.Frac.{ratio}
use Rattle.decimal_text.specs.Plain.{PlainText, point_text}
use Rattle.decimal_text.specs.Places.{HasPlaces}
use Rattle.decimal_text.specs.Sign.{optional}
use Rattle.decimal_text.proofs.WholeDecimals.{reads_back, exact_same}
use Rattle.osil_grammar.specs.Writing.{HasDecimal}
use Rattle.generator.specs.Instances.{natural}

-- a whole number has no places
places_of : (k : ℕ) → k ≤ most → HasPlaces k 1
places_of k fits = record { places = 0; n = k; near = lit≤ tt; same = refl; small = fits; least = inl refl }

-- the text of a whole number
abbrev digits_of : ℕ → List ℕ
digits_of k = optional 45 false ++ (decimal k ++ point_text [])

plain_natural : (k : ℕ) → PlainText (digits_of k) (whole (pos k))
plain_natural k = record {
  is_negative = false;
  whole = k;
  digits = [];
  text = refl;
  are_digits = tt;
  no_trailing_zero = λ e. let f : 0 ≡ 48 = e in omega (arith, f);
  below = λ e n. let f : false ≡ true = e in cc;
  same = exact_same false k 1 (k * 10 ^ 0 + 0) [] (omega arith);
}

pub natural_decimal : (k : ℕ) (fits : k ≤ most) → HasDecimal (natural k fits)
natural_decimal k fits =
    let top : most < 10 ^ 64 = lit< tt in
    (digits_of k, reads_back (whole (pos k)) false k 1 k [] (places_of k fits) (lit< tt) refl (omega (arith, fits, top)) tt (exact_same false k 1 (k * 10 ^ 0 + 0) [] (omega arith)))

-- a number below 10 000 has at most four digits
pub count_short : (n : ℕ) → n < 10000 → length (decimal n) ≤ 4
count_short n small = let top : 10000 ≤ 10 ^ 64 = lit≤ tt in length-decimal-le_wide 4 n (lit< tt) small (omega (arith, small, top))

-- texts of numbers are no longer than this
abbrev pub IsShort : Frac → Type 0
IsShort x = (text : List ℕ) → PlainText text (ratio x) → length text ≤ 4

-- a number is written in one way
abbrev pub IsWrittenOnce : Type 0
IsWrittenOnce = (x : Frac) (s t : List ℕ) → PlainText s (ratio x) → PlainText t (ratio x) → s ≡ t

pub natural_short : IsWrittenOnce → (k : ℕ) (fits : k ≤ most) → k < 10 → IsShort (natural k fits)
natural_short once k fits small text plain =
    let same : text ≡ digits_of k = once (natural k fits) text (digits_of k) plain (plain_natural k) in
    subst (λ (t : List ℕ). length t ≤ 4) (sym (same ∙ append-nil (decimal k))) (count_short k (omega (arith, small)))
