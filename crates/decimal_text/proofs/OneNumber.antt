-- A text writes one count, one whole number, and one end of a range.
use Rattle.std.proofs.Common.{◌≡◌, ℕ, ◌<◌, ◌≤◌, ℤ, pos, true, false, List, [], ◌∷◌, ◌++◌, refl, ap, sym, ◌∙◌, arith, lit≤, append-nil}
use Rattle.std.specs.Prelude.{unsigned_abs}
use Rattle.std.specs.Char.{digit_value}
use Rattle.std.specs.Str.Parse.{IsNumeral, digits_value}
use Rattle.fraction.specs.declared.frac.Frac.{Frac}
use Rattle.fraction.specs.declared.ends.End.{End}
use Rattle.fraction.specs.declared.ends.End.TheVariants.{NegInf, At, Inf}
use Rattle.fraction.specs.Frac.{ratio}
use Rattle.rational.specs.Ratio.{Ratio}
use Rattle.rational.specs.Whole.{signed}
use Rattle.decimal_text.specs.declared.fault.DecimalFault.TheVariants.{Wide}
use Rattle.decimal_text.specs.Sign.{Sign, absent, plus, minus, sign_text, is_minus, optional}
use Rattle.decimal_text.specs.Space.{trimmed}
use Rattle.decimal_text.specs.Count.{CountText, IsCount, IsWideCount}
use Rattle.decimal_text.specs.Whole.{WholeText, IsWholeText, IsWideWhole}
use Rattle.decimal_text.specs.Decimal.{Mantissa, plain, pointed, mantissa_text, mantissa_digits, exponent_text, DecimalText, IsDecimal, IsWideDecimal}
use Rattle.decimal_text.specs.Bound.{SaysEnd, infinity}
use Rattle.decimal_text.proofs.OneDecimal.{sign_once, signless_digits, signless_mantissa, decimal_refused}
use Rattle.decimal_text.proofs.OneRatio.{heads}

whole_text_once : (s : List ℕ) (y z : ℤ) → WholeText s y → WholeText s z → y ≡ z
whole_text_once s y z a b =
    let bare : sign_text a.sign ++ (a.digits ++ []) ≡ sign_text b.sign ++ (b.digits ++ []) = simp append-nil (sym a.text ∙ b.text) in
    let both = sign_once a.sign b.sign (a.digits ++ []) (b.digits ++ []) (signless_digits a.digits [] a.numeral) (signless_digits b.digits [] b.numeral) bare in
    let digits : a.digits ≡ b.digits = sym (append-nil a.digits) ∙ (both.1 ∙ append-nil b.digits) in
    a.value ∙ (ap (λ n. signed n (digits_value 10 a.digits)) both.0 ∙ (ap (λ ds. signed (is_minus b.sign) (digits_value 10 ds)) digits ∙ sym b.value))

pub whole_once : (text : List ℕ) (y z : ℤ) → IsWholeText text y → IsWholeText text z → y ≡ z
whole_once text y z a b = whole_text_once (trimmed text) y z a.0 b.0

pub whole_fits : (text : List ℕ) (z : ℤ) → IsWholeText text z → IsWideWhole text → ⊥
whole_fits text z a (y, wide) = let same = whole_text_once (trimmed text) z y a.0 wide.0 in let sizes = ap unsigned_abs same in let small = a.1 in let great = wide.1 in omega (arith, sizes, small, great)

-- a count is a whole number
count_is_whole : (s : List ℕ) (n : ℕ) → CountText s n → WholeText s (pos n)
count_is_whole s n a = elim a.has_plus as (λ p. s ≡ optional 43 p ++ a.digits → WholeText s (pos n)) [
  | true ↦ λ text. record { sign = plus; digits = a.digits; text = text; numeral = a.numeral; value = ap pos a.value }
  | false ↦ λ text. record { sign = absent; digits = a.digits; text = text; numeral = a.numeral; value = ap pos a.value }
] a.text

count_text_once : (s : List ℕ) (n m : ℕ) → CountText s n → CountText s m → n ≡ m
count_text_once s n m a b = ap unsigned_abs (whole_text_once s (pos n) (pos m) (count_is_whole s n a) (count_is_whole s m b))

pub count_once : (text : List ℕ) (n m : ℕ) → IsCount text n → IsCount text m → n ≡ m
count_once text n m a b = count_text_once (trimmed text) n m a.0 b.0

pub count_fits : (text : List ℕ) (n : ℕ) → IsCount text n → IsWideCount text → ⊥
count_fits text n a (m, wide) = let great = wide.1 in let same = count_text_once (trimmed text) n m a.0 wide.0 in let small = a.1 in omega (arith, great, same, small)

pub decimal_fits : (text : List ℕ) (x : Frac) → IsDecimal text (ratio x) → IsWideDecimal text → ⊥
decimal_fits text x a wide = decimal_refused (ratio x) text Wide a wide

digit_is_no_letter : (d : ℕ) → digit_value d < 10 → d ≡ 73 → ⊥
digit_is_no_letter d small e = let v : digit_value d ≡ digit_value 73 = ap digit_value e in let great : 10 ≤ digit_value 73 = lit≤ tt in omega (arith, small, v, great)

no_mantissa : (m : Mantissa) (e rest : List ℕ) → IsNumeral 10 (mantissa_digits m) → mantissa_text m ++ e ≡ 73 ∷ rest → ⊥
no_mantissa (plain []) e rest h k = absurd (omega (arith, h.0))
no_mantissa (plain (d ∷ ds)) e rest h k = digit_is_no_letter d h.1.0 (heads d 73 (ds ++ e) rest k)
no_mantissa (pointed [] es) e rest h k = let z = heads 46 73 (es ++ e) rest k in omega (arith, z)
no_mantissa (pointed (d ∷ ds) es) e rest h k = digit_is_no_letter d h.1.0 (heads d 73 ((ds ++ 46 ∷ es) ++ e) rest k)

-- an infinity is no decimal
pub not_decimal : (s : List ℕ) (q : Sign) (x : Ratio) → s ≡ sign_text q ++ infinity → DecimalText s x → ⊥
not_decimal s q x e d =
    let both = sign_once d.sign q (mantissa_text d.mantissa ++ exponent_text d.exponent) infinity (signless_mantissa d.mantissa (exponent_text d.exponent) d.numeral) ((λ z. omega (arith, z)), (λ z. omega (arith, z))) (sym d.text ∙ e) in
    no_mantissa d.mantissa (exponent_text d.exponent) (78 ∷ 70 ∷ []) d.numeral both.1

pub bound_fits : (text : List ℕ) (x : End) → SaysEnd text x → IsWideDecimal text → ⊥
bound_fits text NegInf a wide = not_decimal (trimmed text) minus wide.written a wide.read
bound_fits text (At x) a wide = decimal_fits text x a wide
bound_fits text Inf a wide = not_decimal (trimmed text) a.0 wide.written a.1.1 wide.read

plus_is_no_minus : (q : Sign) → is_minus q ≡ false → sign_text q ++ infinity ≡ sign_text minus ++ infinity → ⊥
plus_is_no_minus absent positive e = let z = heads 73 45 (78 ∷ 70 ∷ []) infinity e in omega (arith, z)
plus_is_no_minus plus positive e = let z = heads 43 45 infinity infinity e in omega (arith, z)
plus_is_no_minus minus positive e = absurd (cc)

-- a text is one of the infinities, or neither
pub only_inf : (text : List ℕ) (x : End) → SaysEnd text x → SaysEnd text Inf → x ≡ Inf
only_inf text NegInf a b = absurd (plus_is_no_minus b.0 b.1.0 (sym b.1.1 ∙ a))
only_inf text (At x) a b = absurd (not_decimal (trimmed text) b.0 a.written b.1.1 a.read)
only_inf text Inf a b = refl

pub only_neg_inf : (text : List ℕ) (x : End) → SaysEnd text x → SaysEnd text NegInf → x ≡ NegInf
only_neg_inf text NegInf a b = refl
only_neg_inf text (At x) a b = absurd (not_decimal (trimmed text) minus a.written b a.read)
only_neg_inf text Inf a b = absurd (plus_is_no_minus a.0 a.1.0 (sym a.1.1 ∙ b))
