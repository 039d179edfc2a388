-- 0 is a decimal.
use Rattle.osil_grammar.proofs.Words.{◌≡◌, ℕ, false, ℤ, pos, [], ◌∷◌, ap, refl, arith, lit<, lit≤, inr, IsSame, Frac, plain, HasDecimal}
use Rattle.decimal_text.specs.Sign as signs
use Rattle.decimal_text.specs.Decimal.{none}

-- 0 over any number is 0
pub same_zero : (n : ℤ) (d : ℕ) → n ≡ pos 0 → IsSame (record { num = n; den = d }) (record { num = pos 0; den = 1 })
same_zero n d is = rw is (ap pos (omega arith))

pub zero_has_decimal : (x : Frac) → x.numer ≡ pos 0 → HasDecimal x
zero_has_decimal x is = (
  48 ∷ [],
  record {
    written = record { num = pos 0; den = 1 };
    read = record { sign = signs.absent; mantissa = plain (48 ∷ []); exponent = none; text = refl; numeral = (lit< tt, (lit< tt, tt)); powers = tt; value = refl };
    fit = record {
      number = x.above;
      same = same_zero x.numer x.denom is;
      form = record { negative = false; n = 0; k = pos 0; shortest = inr (refl, refl); same = refl };
      fits = (lit≤ tt, lit≤ tt);
    };
  },
)
