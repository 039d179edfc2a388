-- Lists of digits.
use Rattle.std.proofs.Common.{◌≡◌, ℕ, ◌+◌, ◌*◌, ◌-◌, ◌<◌, List, [], ◌∷◌, ◌++◌, length, take, get_or, refl, arith}
use Rattle.std.specs.Char.{digit_value}
use Rattle.std.specs.Str.Parse.{AllDigits, digits_value, digits_value_after}
use Rattle.std.proofs.lemmas.Str.{digit_value_digit}
use Rattle.std.proofs.lemmas.Str.Parse.{digit_at}
use Rattle.std.proofs.lemmas.Int.Digits.{digits_value_more}
use Rattle.std.proofs.lemmas.List.{take_more}

pub AllDigits-append : (xs ys : List ℕ) → AllDigits 10 xs → AllDigits 10 ys → AllDigits 10 (xs ++ ys)
AllDigits-append [] ys h k = k
AllDigits-append (x ∷ xs) ys h k = (h.0, AllDigits-append xs ys h.1 k)

pub AllDigits-split : (xs ys : List ℕ) → AllDigits 10 (xs ++ ys) → AllDigits 10 xs × AllDigits 10 ys
AllDigits-split [] ys h = (tt, h)
AllDigits-split (x ∷ xs) ys h = let k = AllDigits-split xs ys h.1 in ((h.0, k.0), k.1)

pub digits_more : (s : List ℕ) (i : ℕ) → i < length s → AllDigits 10 (take i s) → digit_value (get_or s i 0) < 10 → AllDigits 10 (take (i + 1) s)
digits_more s i h ds d = rw (take_more s i 0 h) (AllDigits-append (take i s) (get_or s i 0 ∷ []) ds (d, tt))

pub number_more : (ds : List ℕ) (i : ℕ) → AllDigits 10 ds → i < length ds → digits_value 10 (take (i + 1) ds) ≡ digits_value 10 (take i ds) * 10 + (get_or ds i 0 - 48)
number_more ds i h k = omega (arith, digits_value_more 10 ds i k, digit_value_digit (get_or ds i 0) (digit_at ds i h k))

pub after-append : (n : ℕ) (xs ys : List ℕ) → digits_value_after 10 n (xs ++ ys) ≡ digits_value_after 10 (digits_value_after 10 n xs) ys
after-append n [] ys = refl
after-append n (x ∷ xs) ys = after-append (n * 10 + digit_value x) xs ys

pub after_more : (n : ℕ) (ds : List ℕ) (i : ℕ) → AllDigits 10 ds → i < length ds → digits_value_after 10 n (take (i + 1) ds) ≡ digits_value_after 10 n (take i ds) * 10 + (get_or ds i 0 - 48)
after_more n ds i h k =
    let whole : digits_value_after 10 n (take (i + 1) ds) ≡ digits_value_after 10 n (take i ds) * 10 + digit_value (get_or ds i 0) = rw (take_more ds i 0 k) (after-append n (take i ds) (get_or ds i 0 ∷ [])) in
    omega (arith, whole, digit_value_digit (get_or ds i 0) (digit_at ds i h k))

pub is_digit : (ds : List ℕ) (i : ℕ) → AllDigits 10 ds → i < length ds → get_or ds i 0 - 48 < 10
is_digit ds i h k = omega (arith, digit_at ds i h k)
