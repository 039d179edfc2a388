-- Bits of words.
use Rattle.std.proofs.Common.{◌≡◌, ℕ, ◌+◌, ◌*◌, ◌/◌, ◌%◌, ◌^◌, ◌<◌, ◌≤◌, Bool, true, false, nat_eq, sym, ◌∙◌, ap, subst, inl, inr, ◌-◌, Option, Some, None, MatchOption, List, length, slice_index, slice_set, ◌≢◌, ◌||◌, ◌&&◌, max, min, bit_and, bit_or, ◌⊎◌, refl, arith}
use Rattle.std.specs.Int.{bit_at, trailing_zeros, w64}
use Rattle.std.proofs.lemmas.Nat.{shr-shr, shr_le}
use Rattle.std.proofs.lemmas.Nat.Bits.{bit_at-zero, bit_at-trailing_zeros, bit_at_above, bit_at_or, bit_at_and, bit_at-lt}
use Rattle.std.proofs.lemmas.Bool.{cases_lt, cases_eq, lt-ltb, le-ltb}
use Rattle.std.proofs.lemmas.Bool.Decides.{nat_tests}
use Rattle.std.proofs.Math.ListN.{get_or-eq_default}
use Rattle.std.proofs.lemmas.List.{get_or-set_same, get_or-set_other}
use Rattle.std.proofs.lemmas.Grind.{get_or-set_at}
use Rattle.marks.specs.Words.{is_set, has_bit, lesser, IsFirst, HasNoneBelow, HasNone}
use Rattle.marks.specs.Marks.{is_marked, size_of}
use Rattle.marks.specs.declared.marks.Marks.{Marks}

-- bit i of word w
pub at_word : (words : ℕ → ℕ) (w i : ℕ) → i < 64 → has_bit words (64 * w + i) ≡ nat_eq (bit_at (words w) i) 1
at_word words w i h =
    let q : (64 * w + i) / 64 ≡ w = omega arith in
    let r : (64 * w + i) % 64 ≡ i = omega arith in
    ap (λ (a : ℕ). nat_eq (bit_at (words a) ((64 * w + i) % 64)) 1) q ∙ ap (λ (b : ℕ). nat_eq (bit_at (words w) b) 1) r

set_bit : (words : ℕ → ℕ) (w i : ℕ) → i < 64 → bit_at (words w) i ≡ 1 → has_bit words (64 * w + i) ≡ true
set_bit words w i h e = at_word words w i h ∙ ap (λ (b : ℕ). nat_eq b 1) e

clear_bit : (words : ℕ → ℕ) (k : ℕ) → bit_at (words (k / 64)) (k % 64) ≡ 0 → has_bit words k ≡ false
clear_bit words k e = ap (λ (b : ℕ). nat_eq b 1) e

-- a word of 0 has none
pub none_in : (words : ℕ → ℕ) (k : ℕ) → words (k / 64) ≡ 0 → has_bit words k ≡ false
none_in words k e = clear_bit words k (ap (λ (n : ℕ). bit_at n (k % 64)) e ∙ bit_at-zero (k % 64))

-- words of 0 have none
pub none_below : (words : ℕ → ℕ) (low high : ℕ) → ((j : ℕ) → low ≤ j → j < high → words j ≡ 0) → HasNoneBelow (64 * high) (has_bit words) (64 * low)
none_below words low high zeros k from below = none_in words k (zeros (k / 64) (omega arith) (omega arith))

-- no bit passes a word
fits : (n i : ℕ) → n < 2 ^ 64 → bit_at n i ≡ 1 → i < 64
fits n i small is = elim (cases_lt i 64) [
  | inl h ↦ h
  | inr h ↦ let e : bit_at n i ≡ 0 = bit_at_above n 64 i small h in absurd (omega (arith, is, e))
]

-- bits of a word from a place on
between : (words : ℕ → ℕ) (w i t k : ℕ) → i + t ≤ 64 → ((j : ℕ) → j < t → bit_at (words w) (i + j) ≡ 0) → 64 * w + i ≤ k → k < 64 * w + (i + t) → has_bit words k ≡ false
between words w i t k h zeros a b =
    let j : ℕ = k - (64 * w + i) in
    let e : 64 * w + (i + j) ≡ k = omega arith in
    let below : j < t = omega arith in
    let P : ℕ → Type 0 = λ m. has_bit words m ≡ false in
    let within : i + j < 64 = omega arith in
    let found : has_bit words (64 * w + (i + j)) ≡ false = at_word words w (i + j) within ∙ ap (λ (m : ℕ). nat_eq m 1) (zeros j below) in
    subst P e found

-- the first bit of a word that isn't 0, after bits that aren't set
pub first_at : (words : ℕ → ℕ) (from w i n : ℕ) → n ≡ words w / 2 ^ i → words w < 2 ^ 64 → (n ≡ 0 → ⊥) → from ≤ 64 * w + i → HasNoneBelow (64 * w + i) (has_bit words) from → IsFirst (has_bit words) from (64 * w + (i + trailing_zeros w64 n))
first_at words from w i n e small some low before =
    let down : words w / 2 ^ i ≤ words w = shr_le (words w) i in
    let size : n < 2 ^ 64 = omega arith in
    let above : 0 < n = omega arith in
    let found = bit_at-trailing_zeros w64 n above size in
    let t : ℕ = trailing_zeros w64 n in
    let moved : (j : ℕ) → bit_at n j ≡ bit_at (words w) (i + j) = λ j. ap (λ (m : ℕ). bit_at m j) e ∙ ap (λ (m : ℕ). m % 2) (shr-shr (words w) i j) in
    let is : bit_at (words w) (i + t) ≡ 1 = sym (moved t) ∙ found.1 in
    let within : i + t < 64 = fits (words w) (i + t) small is in
    let zeros : (j : ℕ) → j < t → bit_at (words w) (i + j) ≡ 0 = λ j h. sym (moved j) ∙ found.2 j h in
    record {
      later = omega arith;
      is = set_bit words w (i + t) within is;
      first = λ k a b. elim (cases_lt k (64 * w + i)) [ inl h ↦ before k a h | inr h ↦ between words w i t k (omega arith) zeros h b ];
    }

pub first_within : (words : ℕ → ℕ) (w i n : ℕ) → n ≡ words w / 2 ^ i → words w < 2 ^ 64 → (n ≡ 0 → ⊥) → i + trailing_zeros w64 n < 64
first_within words w i n e small some =
    let down : words w / 2 ^ i ≤ words w = shr_le (words w) i in
    let size : n < 2 ^ 64 = omega arith in
    let above : 0 < n = omega arith in
    let found = bit_at-trailing_zeros w64 n above size in
    let t : ℕ = trailing_zeros w64 n in
    let is : bit_at (words w) (i + t) ≡ 1 = sym (ap (λ (m : ℕ). bit_at m t) e ∙ ap (λ (m : ℕ). m % 2) (shr-shr (words w) i t)) ∙ found.1 in
    fits (words w) (i + t) small is

-- none in a word's rest of 0
pub none_at : (words : ℕ → ℕ) (w i : ℕ) → words w < 2 ^ 64 → 0 ≡ words w / 2 ^ i → HasNoneBelow (64 * (w + 1)) (has_bit words) (64 * w + i)
none_at words w i small e k a b =
    let zeros : (j : ℕ) → j < 64 - i → bit_at (words w) (i + j) ≡ 0 = λ j h. sym (ap (λ (m : ℕ). m % 2) (shr-shr (words w) i j)) ∙ sym (ap (λ (m : ℕ). bit_at m j) e) ∙ bit_at-zero j in
    between words w i (64 - i) k (omega arith) zeros a (omega arith)

-- what comes after numbers of which none passes
pub after : (test : ℕ → Bool) (from low c : ℕ) → from ≤ low → HasNoneBelow low test from → IsFirst test low c → IsFirst test from c
after test from low c h none first = record {
  later = omega (arith, first.later);
  is = first.is;
  first = λ k a b. elim (cases_lt k low) [ inl p ↦ none k a p | inr p ↦ first.first k p b ];
}

pub none_after : (test : ℕ → Bool) (from low stop : ℕ) → HasNoneBelow low test from → HasNoneBelow stop test low → HasNoneBelow stop test from
none_after test from low stop first rest k a b = elim (cases_lt k low) [ inl p ↦ first k a p | inr p ↦ rest k p b ]

-- what holds of one number more
pub below_more_from : (P : ℕ → Type 0) (low k : ℕ) → ((j : ℕ) → low ≤ j → j < k → P j) → P k → (j : ℕ) → low ≤ j → j < k + 1 → P j
below_more_from P low k before here j a b = elim (cases_lt j k) [ inl h ↦ before j a h | inr h ↦ let e : k ≡ j = omega arith in subst P e here ]

-- the first bit from a place on that is set, where it is in the place's own word
pub record IsHere (words : ℕ → ℕ) (from n : ℕ) : Type 0 where
  pub is : IsFirst (has_bit words) from (from + trailing_zeros w64 n)
  pub inside : from + trailing_zeros w64 n < 64 * (from / 64 + 1)

pub here : (words : ℕ → ℕ) (from n : ℕ) → n ≡ words (from / 64) / 2 ^ (from % 64) → words (from / 64) < 2 ^ 64 → (n ≡ 0 → ⊥) → IsHere words from n
here words from n e small some =
    let w : ℕ = from / 64 in
    let i : ℕ = from % 64 in
    let t : ℕ = trailing_zeros w64 n in
    let low : from ≤ 64 * w + i = omega arith in
    let none : HasNoneBelow (64 * w + i) (has_bit words) from = λ k a b. absurd (omega arith) in
    let at : 64 * w + (i + t) ≡ from + t = omega arith in
    let first : IsFirst (has_bit words) from (64 * w + (i + t)) = first_at words from w i n e small some low none in
    let within : i + t < 64 = first_within words w i n e small some in
    let P : ℕ → Type 0 = λ m. IsFirst (has_bit words) from m in
    record { is = subst P at first; inside = omega arith }

-- none in the place's own word
pub none_here : (words : ℕ → ℕ) (from n : ℕ) → n ≡ words (from / 64) / 2 ^ (from % 64) → words (from / 64) < 2 ^ 64 → n ≡ 0 → HasNoneBelow (64 * (from / 64 + 1)) (has_bit words) from
none_here words from n e small z k a b = none_at words (from / 64) (from % 64) small (sym z ∙ e) k (omega arith) b

-- an answer from there on
pub answer_after : (o : Option ℕ) (test : ℕ → Bool) (from low stop : ℕ) → from ≤ low → HasNoneBelow low test from → MatchOption o (HasNoneBelow stop test low) (IsFirst test low) → MatchOption o (HasNoneBelow stop test from) (IsFirst test from)
answer_after None test from low stop h none rest = none_after test from low stop none rest
answer_after (Some c) test from low stop h none first = after test from low c h none first

-- a word is replaced by one with this bit
pub own_bit : (xs : List ℕ) (k v b : ℕ) → k < 64 * length xs → bit_at v (k % 64) ≡ b → has_bit (slice_index (slice_set xs (k / 64) v)) k ≡ nat_eq b 1
own_bit xs k v b h e =
    let inside : k / 64 < length xs = omega arith in
    ap (λ (n : ℕ). nat_eq (bit_at n (k % 64)) 1) (get_or-set_same xs (k / 64) v 0 inside) ∙ ap (λ (m : ℕ). nat_eq m 1) e

-- and whose other bits are as before
pub other_bit : (xs : List ℕ) (k v c : ℕ) → k < 64 * length xs → ((i : ℕ) → i < 64 → i ≢ k % 64 → bit_at v i ≡ bit_at (slice_index xs (k / 64)) i) → c ≢ k → has_bit (slice_index (slice_set xs (k / 64) v)) c ≡ has_bit (slice_index xs) c
other_bit xs k v c h alike apart = elim (cases_eq (c / 64) (k / 64)) [
  | inl e ↦
      let inside : k / 64 < length xs = omega arith in
      let own : slice_index (slice_set xs (k / 64) v) (c / 64) ≡ v = get_or-set_at xs (k / 64) (c / 64) v 0 e inside in
      let differ : c % 64 ≢ k % 64 = λ r. apart (omega arith) in
      let was : bit_at v (c % 64) ≡ bit_at (slice_index xs (k / 64)) (c % 64) = alike (c % 64) (omega arith) differ in
      let back : bit_at (slice_index xs (k / 64)) (c % 64) ≡ bit_at (slice_index xs (c / 64)) (c % 64) = ap (λ (w : ℕ). bit_at (slice_index xs w) (c % 64)) (sym e) in
      ap (λ (n : ℕ). nat_eq (bit_at n (c % 64)) 1) own ∙ ap (λ (m : ℕ). nat_eq m 1) (was ∙ back)
  | inr d ↦ ap (λ (n : ℕ). nat_eq (bit_at n (c % 64)) 1) (get_or-set_other xs (k / 64) (c / 64) v 0 d)
]

either : (a b : ℕ) → a < 2 → b < 2 → nat_eq (max a b) 1 ≡ (nat_eq a 1 || nat_eq b 1)
either a b p q = grind (arith, nat_tests)

both : (a b : ℕ) → a < 2 → b < 2 → nat_eq (min a b) 1 ≡ (nat_eq a 1 && nat_eq b 1)
both a b p q = grind (arith, nat_tests)

pub set_or : (a b i : ℕ) → is_set (bit_or a b) i ≡ (is_set a i || is_set b i)
set_or a b i = ap (λ (m : ℕ). nat_eq m 1) (bit_at_or a b i) ∙ either _ _ (bit_at-lt a i) (bit_at-lt b i)

-- a bit of two words joined, and of what they share
pub joined : (left right : ℕ → ℕ) (k : ℕ) → has_bit (λ w. bit_or (left w) (right w)) k ≡ (has_bit left k || has_bit right k)
joined left right k = set_or (left (k / 64)) (right (k / 64)) (k % 64)

pub shared : (left right : ℕ → ℕ) (k : ℕ) → has_bit (λ w. bit_and (left w) (right w)) k ≡ (has_bit left k && has_bit right k)
shared left right k = ap (λ (m : ℕ). nat_eq m 1) (bit_at_and (left (k / 64)) (right (k / 64)) (k % 64)) ∙ both _ _ (bit_at-lt (left (k / 64)) (k % 64)) (bit_at-lt (right (k / 64)) (k % 64))

-- an answer by a test that says the same
pub answer_by : (o : Option ℕ) (f g : ℕ → Bool) (from stop : ℕ) → ((k : ℕ) → f k ≡ g k) → MatchOption o (HasNoneBelow stop f from) (IsFirst f from) → MatchOption o (HasNoneBelow stop g from) (IsFirst g from)
answer_by None f g from stop alike none = λ k a b. sym (alike k) ∙ none k a b
answer_by (Some c) f g from stop alike first = record {
  later = first.later;
  is = sym (alike c) ∙ first.is;
  first = λ k a b. sym (alike k) ∙ first.first k a b;
}

-- no number past the last word is marked
pub past_marks : (m : Marks) (c : ℕ) → size_of m ≤ c → is_marked m c ≡ false
unfolding is_marked size_of
past_marks m c h = none_in (slice_index m.words.items) c (get_or-eq_default m.words.items 0 (omega arith))

-- the lesser of two numbers is one of them
lesser_or : (a b : ℕ) → (lesser a b ≡ a) ⊎ (lesser a b ≡ b)
lesser_or a b = elim (cases_lt a b) [
  | inl h ↦ inl (rw (lt-ltb a b h) refl)
  | inr h ↦ inr (rw (le-ltb a b h) refl)
]

no_right : (b : Bool) → (b && false) ≡ false
no_right true = refl
no_right false = refl

-- past the last word of one set both have none
pub past_both : (m n : Marks) (c : ℕ) → 64 * lesser (length m.words.items) (length n.words.items) ≤ c → (is_marked m c && is_marked n c) ≡ false
unfolding size_of
past_both m n c h = elim (lesser_or (length m.words.items) (length n.words.items)) [
  | inl e ↦ ap (λ (b : Bool). b && is_marked n c) (past_marks m c (omega arith))
  | inr e ↦ ap (λ (b : Bool). is_marked m c && b) (past_marks n c (omega arith)) ∙ no_right (is_marked m c)
]

-- so an answer for all words is one for all numbers
pub answer_all : (o : Option ℕ) (test : ℕ → Bool) (from stop : ℕ) → ((k : ℕ) → stop ≤ k → test k ≡ false) → MatchOption o (HasNoneBelow stop test from) (IsFirst test from) → MatchOption o (HasNone test from) (IsFirst test from)
answer_all None test from stop past none = λ k a. elim (cases_lt k stop) [ inl l ↦ none k a l | inr l ↦ past k l ]
answer_all (Some c) test from stop past first = first
