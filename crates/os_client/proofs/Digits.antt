-- The three digits of a status.
use Rattle.std.proofs.Common.{◌≡◌, Bool, true, false, leb, ◌∙◌, ℕ, ◌+◌, ◌*◌, ◌/◌, ◌%◌, ◌≤◌, List, [], ◌∷◌, length, arith, refl, ap}
use Rattle.std.specs.Prelude.{IsTrue, ◌&&◌}
use Rattle.std.specs.Char.{is_ascii_digit, digit_value}
use Rattle.std.specs.Str.Parse.{digits_value}
use Rattle.std.proofs.lemmas.Str.{digit_value_digit}
use Rattle.std.proofs.lemmas.Bool.{leb-true}
use Rattle.std.proofs.Math.Nat.{zero-add}
use Rattle.httparse.specs.Grammar.{AllPass}
use Rattle.os_client.specs.Outputs.{three_digits}

-- three digits by their values
three_of : (n a b c : ℕ) → n ≡ (a * 10 + b) * 10 + c → a ≤ 9 → b ≤ 9 → c ≤ 9 → three_digits n ≡ (48 + a) ∷ (48 + b) ∷ (48 + c) ∷ []
three_of n a b c is p q r =
    let first : n / 100 % 10 ≡ a = omega (arith, is, p, q, r) in
    let second : n / 10 % 10 ≡ b = omega (arith, is, p, q, r) in
    let third : n % 10 ≡ c = omega (arith, is, p, q, r) in
    cc

both : (a b : Bool) → (a && b) ≡ true → (a ≡ true) × (b ≡ true)
both true b is = (refl, is)
both false b is = absurd (cc)

-- a digit by its value
is_digit : (c : ℕ) → IsTrue (is_ascii_digit c) → (digit_value c ≤ 9) × (48 + digit_value c ≡ c)
is_digit c is =
    let in_range = both (leb 48 c) (leb c 57) is in
    let low : 48 ≤ c = leb-true 48 c in_range.0 in
    let high : c ≤ 57 = leb-true c 57 in_range.1 in
    let value : digit_value c + 48 ≡ c = digit_value_digit c (low, high) in
    (omega arith, omega arith)

digits_are : {a b c x y z : ℕ} → a ≡ x → b ≡ y → c ≡ z → a ∷ b ∷ c ∷ [] ≡ x ∷ y ∷ z ∷ []
digits_are p q r = cc

pub as_they_came : (ds : List ℕ) → length ds ≡ 3 → AllPass is_ascii_digit ds → three_digits (digits_value 10 ds) ≡ ds
as_they_came [] len all = absurd (omega (arith, len))
as_they_came (x ∷ []) len all = absurd (omega (arith, len))
as_they_came (x ∷ y ∷ []) len all = absurd (omega (arith, len))
as_they_came (x ∷ y ∷ z ∷ w ∷ more) len all = absurd (omega (arith, len))
as_they_came (x ∷ y ∷ z ∷ []) len all =
    let first = is_digit x (all 0 0 (omega arith)) in
    let second = is_digit y (all 1 0 (omega arith)) in
    let third = is_digit z (all 2 0 (omega arith)) in
    let value : digits_value 10 (x ∷ y ∷ z ∷ []) ≡ (digit_value x * 10 + digit_value y) * 10 + digit_value z = ap (λ (n : ℕ). (n * 10 + digit_value y) * 10 + digit_value z) (zero-add (digit_value x)) in
    three_of _ _ _ _ value first.0 second.0 third.0 ∙ digits_are first.1 second.1 third.1
