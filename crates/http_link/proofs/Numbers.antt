-- Numbers written in decimal digits, of any size.
use Rattle.std.proofs.Common.{◌≡◌, ◌≢◌, ℕ, ◌+◌, ◌-◌, ◌*◌, ◌<◌, ◌≤◌, ◌==◌, nat_lt, ◌&&◌, inl, inr, Bool, true, false, List, [], ◌∷◌, length, refl, sym, ap, ◌∙◌, arith}
use Rattle.std.specs.List.{list_all}
use Rattle.std.specs.Str.{bytes_eq}
use Rattle.std.specs.Str.Parse.{AllDigits, digits_value, digits_value_after}
use Rattle.std.specs.Char.{digit_value, is_ascii_digit}
use Rattle.std.proofs.lemmas.Bool.Decides.{nat_tests}
use Rattle.std.proofs.Math.Nat.{eq-or-lt_of_le}
use Rattle.std.proofs.lemmas.Bool.{cases_lt}
use Rattle.std.specs.Prelude.{if◌then◌else◌, not}
use Rattle.std.proofs.Common.{subst, suc, drop, get_or}
use Rattle.std.proofs.Math.Seq.{drop-cons}
use Rattle.std.proofs.lemmas.Bool.Decides.{Decides-eqb, same_from_decides}
use Rattle.std.proofs.lemmas.Slice.Eq.{bytes_eq-Decides}
use Rattle.std.proofs.lemmas.Str.{digit_value_digit}
use Rattle.std.proofs.lemmas.Str.Parse.{digit_from_value}
use Rattle.http_link.specs.Checks.{without_zeros, is_number, writes_number}

-- both sides of a conjunction that is true
pub both_parts : (a b : Bool) → (a && b) ≡ true → (a ≡ true) × (b ≡ true)
both_parts true b h = (refl, h)
both_parts false b h = cc

-- more digits make no smaller number
pub after_ge : (n : ℕ) (ds : List ℕ) → n ≤ digits_value_after 10 n ds
after_ge n [] = omega arith
after_ge n (c ∷ cs) = let h = after_ge (n * 10 + digit_value c) cs in omega arith

digit_below : (c : ℕ) → is_ascii_digit c ≡ true → digit_value c < 10
digit_below c h = grind (arith, nat_tests)

-- bytes that pass the test are digits
pub digits_from_test : (ds : List ℕ) → list_all is_ascii_digit ds ≡ true → AllDigits 10 ds
digits_from_test [] h = tt
digits_from_test (c ∷ cs) h =
    let parts = both_parts (is_ascii_digit c) (list_all is_ascii_digit cs) h in
    (digit_below c parts.0, digits_from_test cs parts.1)

same_digit : (c d : ℕ) → digit_value c < 10 → digit_value d < 10 → digit_value c ≡ digit_value d → c ≡ d
same_digit c d p q e = omega (arith, digit_value_digit c (digit_from_value c p), digit_value_digit d (digit_from_value d q))

-- as many digits, and the same number after all of them: the same digits, after the same number
same_after : (m n : ℕ) (xs ys : List ℕ) → length xs ≡ length ys → AllDigits 10 xs → AllDigits 10 ys
    → digits_value_after 10 m xs ≡ digits_value_after 10 n ys → (m ≡ n) × (xs ≡ ys)
same_after m n [] [] l p q e = (e, refl)
same_after m n [] (y ∷ ys) l p q e = absurd (omega arith)
same_after m n (x ∷ xs) [] l p q e = absurd (omega arith)
same_after m n (x ∷ xs) (y ∷ ys) l p q e =
    let rest = same_after (m * 10 + digit_value x) (n * 10 + digit_value y) xs ys (omega arith) p.1 q.1 e in
    let front : m ≡ n = omega (arith, rest.0, p.0, q.0) in
    let digit : digit_value x ≡ digit_value y = omega (arith, rest.0, p.0, q.0) in
    let same : x ≡ y = same_digit x y p.0 q.0 digit in
    let tail : xs ≡ ys = rest.1 in
    (front, cc)

-- as many digits after a smaller number make a smaller number
below_after : (m n : ℕ) (xs ys : List ℕ) → length xs ≡ length ys → AllDigits 10 xs → m < n
    → digits_value_after 10 m xs < digits_value_after 10 n ys
below_after m n [] [] l p h = h
below_after m n [] (y ∷ ys) l p h = absurd (omega arith)
below_after m n (x ∷ xs) [] l p h = absurd (omega arith)
below_after m n (x ∷ xs) (y ∷ ys) l p h =
    below_after (m * 10 + digit_value x) (n * 10 + digit_value y) xs ys (omega arith) p.1 (omega (arith, p.0))

-- digits after a number above 0 are more than fewer digits alone
above_shorter : (m : ℕ) (xs ys : List ℕ) → 0 < m → length ys ≤ length xs → AllDigits 10 ys
    → digits_value 10 ys < digits_value_after 10 m xs
above_shorter m [] [] h l q = h
above_shorter m [] (y ∷ ys) h l q = absurd (omega arith)
above_shorter m (x ∷ xs) ys h l q =
    elim (eq-or-lt_of_le l) as (λ _. digits_value 10 ys < digits_value_after 10 m (x ∷ xs)) [
      | inl same ↦ below_after 0 m ys (x ∷ xs) same q h
      | inr less ↦ above_shorter (m * 10 + digit_value x) xs ys (omega arith) (omega arith) q
    ]

-- a number above the most is past the limit, whatever digits follow
past_limit : (most n whole : ℕ) (rest : List ℕ) → digits_value_after 10 n rest ≡ whole → most < n
    → nat_lt most whole ≡ true
past_limit most n whole rest e h =
    let ge = after_ge n rest in
    let lt : most < whole = omega (arith, ge, e) in
    grind (arith, nat_tests)

-- one digit more, and the number is past the limit
pub past_most : (most n i : ℕ) (value : List ℕ) → i < length value → list_all is_ascii_digit (drop i value) ≡ true
    → digits_value_after 10 n (drop i value) ≡ digits_value 10 value → most < n * 10 + (get_or value i 0 - 48)
    → nat_lt most (digits_value 10 value) ≡ true
past_most most n i value h digits e over =
    let front = drop-cons value i 0 h in
    let digit = get_or value i 0 in
    let parts = both_parts (is_ascii_digit digit) (list_all is_ascii_digit (drop (suc i) value)) (rw front at digits) in
    let below : digit_value digit < 10 = digit_below digit parts.0 in
    let same = digit_value_digit digit (digit_from_value digit below) in
    past_limit most (n * 10 + digit_value digit) (digits_value 10 value) (drop (suc i) value) (rw front at e) (omega (arith, over, same))

-- the zeros at the front count for nothing
without_zeros_same : (ds : List ℕ) → digits_value 10 (without_zeros ds) ≡ digits_value 10 ds
without_zeros_same [] = refl
without_zeros_same (d ∷ ds) = same_step d ds (without_zeros_same ds) (d == 48) refl
  where
    same_step : (d : ℕ) (ds : List ℕ) → digits_value 10 (without_zeros ds) ≡ digits_value 10 ds
        → (b : Bool) → (d == 48) ≡ b
        → digits_value 10 (if b then without_zeros ds else d ∷ ds) ≡ digits_value_after 10 (0 + digit_value d) ds
    same_step d ds same true e =
        let P : ℕ → Type 0 = λ n. digits_value 10 ds ≡ digits_value_after 10 (0 + digit_value n) ds in
        same ∙ subst P (sym ((Decides-eqb d 48).0 e)) refl
    same_step d ds same false e = refl

without_zeros_digits : (ds : List ℕ) → AllDigits 10 ds → AllDigits 10 (without_zeros ds)
without_zeros_digits [] p = tt
without_zeros_digits (d ∷ ds) p = digits_step (d == 48) (without_zeros_digits ds p.1)
  where
    digits_step : (b : Bool) → AllDigits 10 (without_zeros ds) → AllDigits 10 (if b then without_zeros ds else d ∷ ds)
    digits_step true rest = rest
    digits_step false rest = p

-- the digits don't begin with a zero
abbrev HasNoZero : List ℕ → Type 0
HasNoZero [] = Unit {0}
HasNoZero (d ∷ ds) = d ≢ 48

without_zeros_front : (ds : List ℕ) → HasNoZero (without_zeros ds)
without_zeros_front [] = tt
without_zeros_front (d ∷ ds) = front_step (d == 48) refl (without_zeros_front ds)
  where
    front_step : (b : Bool) → (d == 48) ≡ b → HasNoZero (without_zeros ds)
        → HasNoZero (if b then without_zeros ds else d ∷ ds)
    front_step true e rest = rest
    front_step false e rest = λ same. let yes = (Decides-eqb d 48).1 same in absurd (cc)

-- fewer digits with no zero in front write a smaller number
more_digits : (xs ys : List ℕ) → AllDigits 10 xs → AllDigits 10 ys → HasNoZero xs → length ys < length xs
    → digits_value 10 ys < digits_value 10 xs
more_digits [] ys p q h l = absurd (omega arith)
more_digits (x ∷ xs) ys p q h l =
    let digit = digit_value_digit x (digit_from_value x p.0) in
    above_shorter (0 + digit_value x) xs ys (omega (arith, digit, h)) (omega arith) q

-- digits with no zero in front that write the same number are the same
same_digits : (xs ys : List ℕ) → AllDigits 10 xs → AllDigits 10 ys → HasNoZero xs → HasNoZero ys
    → digits_value 10 xs ≡ digits_value 10 ys → xs ≡ ys
same_digits xs ys p q h k e =
    elim (cases_lt (length xs) (length ys)) [
      | inl less ↦ absurd (omega (arith, more_digits ys xs q p k less, e))
      | inr ge ↦ elim (eq-or-lt_of_le ge) [
        | inl same ↦ (same_after 0 0 xs ys (sym same) p q e).1
        | inr less ↦ absurd (omega (arith, more_digits xs ys p q h less, e))
      ]
    ]

-- two numbers are equal where their digits are, but for zeros in front
pub numbers_same : (xs ys : List ℕ) → list_all is_ascii_digit xs ≡ true → list_all is_ascii_digit ys ≡ true
    → bytes_eq (without_zeros xs) (without_zeros ys) ≡ (digits_value 10 xs == digits_value 10 ys)
numbers_same xs ys p q =
    let left = digits_from_test xs p in
    let right = digits_from_test ys q in
    let number = Decides-eqb (digits_value 10 xs) (digits_value 10 ys) in
    same_from_decides _ _ (bytes_eq-Decides (without_zeros xs) (without_zeros ys)) (
      λ e. same_digits _ _ (without_zeros_digits xs left) (without_zeros_digits ys right)
          (without_zeros_front xs) (without_zeros_front ys)
          (without_zeros_same xs ∙ number.0 e ∙ sym (without_zeros_same ys)),
      λ e. number.1 (sym (without_zeros_same xs) ∙ ap (digits_value 10) e ∙ without_zeros_same ys),
    )

-- a number and a value that is one: the test of their digits is that of the numbers
pub same_by_digits : (bytes value : List ℕ) → is_number bytes ≡ true → is_number value ≡ true → (r : Bool)
    → r ≡ bytes_eq (without_zeros bytes) (without_zeros value) → r ≡ writes_number (digits_value 10 value) bytes
same_by_digits bytes value p q r e =
    let left = both_parts (not (length bytes == 0)) (list_all is_ascii_digit bytes) p in
    let right = both_parts (not (length value == 0)) (list_all is_ascii_digit value) q in
    rw p (e ∙ numbers_same bytes value left.1 right.1)
