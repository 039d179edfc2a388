-- Walks that keep a word of bits.
use Rattle.std.proofs.Common.{◌≡◌, ℕ, ◌+◌, ◌-◌, ◌*◌, ◌/◌, ◌%◌, ◌^◌, ◌<◌, ◌≤◌, ◌≢◌, Bool, false, nat_eq, inl, inr, Option, None, Some, IfSome, bit_and, arith, sym, ◌∙◌, ap}
use Rattle.std.specs.Int.{bit_at, bit_not, trailing_zeros, w64}
use Rattle.std.proofs.lemmas.Bool.{cases_lt, cases_eq}
use Rattle.std.proofs.lemmas.Bool.Decides.{nat_tests}
use Rattle.std.proofs.lemmas.Nat.{and_le_l}
use Rattle.std.proofs.lemmas.Nat.Bits.{bit_at-zero, bit_at-trailing_zeros, bit_at-lt, bit_at_clear_same, bit_at_clear_other}
use Rattle.marks.specs.Words.{has_bit, IsFirst, HasNoneBelow}
use Rattle.marks.specs.Walks.{IsWordKept}

-- a word without one bit
abbrev pub without : ℕ → ℕ → ℕ
without word i = bit_and word (bit_not w64 (1 * 2 ^ i % 2 ^ 64))

-- it is less than the word where that bit was set
pub without_less : (word : ℕ) → word < 2 ^ 64 → (word ≡ 0 → ⊥) → without word (trailing_zeros w64 word) < word
without_less word small some =
    let i : ℕ = trailing_zeros w64 word in
    let found = bit_at-trailing_zeros w64 word (omega arith) small in
    let l = and_le_l word (bit_not w64 (1 * 2 ^ i % 2 ^ 64)) in
    elim (cases_eq (without word i) word) [
      | inl e ↦ let z = sym (bit_at_clear_same w64 word i found.0) ∙ ap (λ n. bit_at n i) e ∙ found.1 in absurd (omega (arith, z))
      | inr d ↦ omega (arith, l, d)
    ]

-- at a beginning nothing is kept, and nothing was passed
pub kept_none : (test : ℕ → Bool) → IsWordKept test 0 0 0
kept_none test = record {
  near = omega arith;
  last = omega arith;
  own = λ k a b. absurd (omega arith);
  passed = λ k a b l. absurd (omega arith);
}

-- what is kept by one test is by another that says the same
pub kept_by : (f g : ℕ → Bool) (from word stop : ℕ) → ((k : ℕ) → from ≤ k → f k ≡ g k) → IsWordKept f from word stop → IsWordKept g from word stop
kept_by f g from word stop alike kept = record {
  near = kept.near;
  last = kept.last;
  own = λ k a b. kept.own k a b ∙ alike k a;
  passed = kept.passed;
}

pub kept_answer : (o : Option ℕ) (f g : ℕ → Bool) (word stop : ℕ) → ((k : ℕ) → f k ≡ g k) → IfSome o (λ c. IsWordKept f (c + 1) word stop) → IfSome o (λ c. IsWordKept g (c + 1) word stop)
kept_answer None f g word stop alike kept = tt
kept_answer (Some c) f g word stop alike kept = kept_by f g (c + 1) word stop (λ k a. alike k) kept

-- nothing is left where the word is 0
pub kept_empty : (test : ℕ → Bool) (from word stop : ℕ) → word ≡ 0 → IsWordKept test from word stop → HasNoneBelow stop test from
kept_empty test from word stop e kept k a b = sym (kept.own k a b) ∙ ap (λ n. nat_eq (bit_at n (k % 64)) 1) e ∙ ap (λ n. nat_eq n 1) (bit_at-zero (k % 64))

-- else its first bit is the next number
module _ (test : ℕ → Bool) (from word stop : ℕ) (small : word < 2 ^ 64) (some : word ≡ 0 → ⊥) (whole : stop % 64 ≡ 0) (begun : 64 ≤ stop) (kept : IsWordKept test from word stop) where
  abbrev bit : ℕ
  bit = trailing_zeros w64 word

  abbrev col : ℕ
  col = stop - 64 + bit

  found : (bit < 64) × (bit_at word bit ≡ 1) × ((i : ℕ) → i < bit → bit_at word i ≡ 0)
  found = bit_at-trailing_zeros w64 word (omega arith) small

  place : col % 64 ≡ bit
  place = let l = found.0 in omega arith

  here : bit_at word (col % 64) ≡ 1
  here = ap (bit_at word) place ∙ found.1

  col_below : col < stop
  col_below = let l = found.0 in omega arith

  col_later : from ≤ col
  col_later = elim (cases_lt col from) [
    | inl h ↦ let z = kept.passed col h col_below (let l = found.0 in omega arith) in let e = here in absurd (omega arith)
    | inr h ↦ h
  ]

  pub passed_first : IsFirst test from col
  passed_first = record {
    later = col_later;
    is = sym (kept.own col col_later col_below) ∙ ap (λ n. nat_eq n 1) here;
    first = λ k a b.
        let l = found.0 in
        let n = kept.last in
        sym (kept.own k a (omega arith)) ∙ ap (λ n. nat_eq n 1) (found.2 (k % 64) (omega arith));
  }

  pub passed_rest : IsWordKept test (col + 1) (without word bit) stop
  passed_rest =
      let l = found.0 in
      let n = kept.last in
      let f = col_later in record {
        near = omega arith;
        last = omega arith;
        own = λ k a b. ap (λ m. nat_eq m 1) (bit_at_clear_other w64 word bit l (k % 64) (omega arith) (λ e. omega arith)) ∙ kept.own k (omega arith) b;
        passed = λ k a b c. elim (cases_eq (k % 64) bit) [
          | inl e ↦ ap (bit_at (without word bit)) e ∙ bit_at_clear_same w64 word bit l
          | inr d ↦ bit_at_clear_other w64 word bit l (k % 64) (omega arith) d ∙ found.2 (k % 64) (omega arith)
        ];
      }

zero_bit : (n : ℕ) → n < 2 → nat_eq n 1 ≡ false → n ≡ 0
zero_bit n l e = grind (arith, nat_tests)

-- a word whose first numbers aren't set is kept without the first that is
pub kept_word : (words : ℕ → ℕ) (low c : ℕ) → low % 64 ≡ 0 → IsFirst (has_bit words) low c → IsWordKept (has_bit words) (c + 1) (without (words (c / 64)) (c % 64)) (64 * (c / 64 + 1))
kept_word words low c whole is =
    let word : ℕ = words (c / 64) in
    let within : c % 64 < 64 = omega arith in
    let later = is.later in
    let other = λ (k : ℕ) (d : k % 64 ≢ c % 64). bit_at_clear_other w64 word (c % 64) within (k % 64) (omega arith) d in
    let same = λ (k : ℕ) (e : c / 64 ≡ k / 64). ap (λ w. bit_at (words w) (k % 64)) e in record {
      near = omega arith;
      last = omega arith;
      own = λ k a b. ap (λ m. nat_eq m 1) (other k (λ e. omega arith) ∙ same k (omega arith));
      passed = λ k a b l. elim (cases_eq (k % 64) (c % 64)) [
        | inl e ↦ ap (bit_at (without word (c % 64))) e ∙ bit_at_clear_same w64 word (c % 64) within
        | inr d ↦ other k d ∙ same k (omega arith) ∙ zero_bit (bit_at (words (k / 64)) (k % 64)) (bit_at-lt (words (k / 64)) (k % 64)) (is.first k (omega arith) (omega arith))
      ];
    }
