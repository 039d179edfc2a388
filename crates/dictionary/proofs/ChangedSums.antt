-- Sums of two rows' numbers, and the rows that they make.
use Rattle.std.proofs.Common.{◌≡◌, ℕ, zero, suc, ◌+◌, ◌*◌, ◌<◌, ◌≤◌, ◌^◌, ◌⊎◌, inl, inr, ℤ, pos, negsuc, ◌+ℤ◌, ◌*ℤ◌, ◌<ℤ◌, Bool, true, false, cond, List, arith, refl, sym, ◌∙◌, ap, subst}
use Rattle.std.specs.Prelude.{unsigned_abs, slice_index_or}
use Rattle.std.proofs.Math.IntN.{zero-*ℤ, *ℤ_comm}
use Rattle.std.proofs.lemmas.Int.{ints, unsigned_abs-mul}
use Rattle.rational.specs.Ratio.{Ratio, IsSame}
use Rattle.rational.specs.Width.{most}
use Rattle.evidence.specs.Sums.{none}
use Rattle.evidence.specs.Width.{TermFits}
use Rattle.common_rows.specs.Row.{over}
use Rattle.marks.specs.Marks.{is_marked}
use Rattle.dictionary.specs.declared.row.Row.{Row}
use Rattle.dictionary.specs.Lowest.{lowest}
use Rattle.dictionary.proofs.Lowest.{lowest-same}
use Rattle.dictionary.specs.Numbers.{HasNumber}
use Rattle.dictionary.specs.Rows.{numbers_of, numer_at, either_at, entries_at, AreSums, AreSumsLeft, IsRow, ReplacementFits, NonzerosFit, HasRoomFor}
use Rattle.dictionary.specs.Steps.{unless_zero, nonzeros}
use Rattle.dictionary.proofs.Rows.{zero_or}
use Rattle.dictionary.proofs.Nonzeros.{unless_not}
use Rattle.dictionary.proofs.RowForms.{common_number, marked_has, sized_above}
use Rattle.dictionary.proofs.Parts.{divided_same, sum_most}
use Rattle.dictionary.proofs.Changes.{either_false, either_true, unchanged, lowest_fits}

-- columns at which one of two rows has an entry
module _ {L : _} {G : _} (row by : Row L G) (m n : ℕ) (is : IsRow m n row) (is_by : IsRow m n by) (c : ℕ) where
  pub either_below : either_at row by c ≡ true → c + 1 < m
  either_below e = which (either_true (is_marked row.marks c) (is_marked by.marks c) e)
    where
      which : (is_marked row.marks c ≡ true) ⊎ (is_marked by.marks c ≡ true) → c + 1 < m
      which (inl h) = is.inside c h
      which (inr h) = is_by.inside c h

  pub either_has : either_at row by c ≡ true → HasNumber (numbers_of row) c ⊎ HasNumber (numbers_of by) c
  unfolding entries_at
  either_has e = which (either_true (is_marked row.marks c) (is_marked by.marks c) e)
    where
      which : (is_marked row.marks c ≡ true) ⊎ (is_marked by.marks c ≡ true) → HasNumber (numbers_of row) c ⊎ HasNumber (numbers_of by) c
      which (inl h) = inl (marked_has row m n is c h)
      which (inr h) = inr (marked_has by m n is_by c h)

  pub either_one : either_at row by c ≡ true → 1 ≤ cond (entries_at row c) 1 0 + cond (entries_at by c) 1 0
  unfolding entries_at
  either_one e = which (either_true (is_marked row.marks c) (is_marked by.marks c) e)
    where
      which : (is_marked row.marks c ≡ true) ⊎ (is_marked by.marks c ≡ true) → 1 ≤ cond (is_marked row.marks c) 1 0 + cond (is_marked by.marks c) 1 0
      which (inl h) = subst (λ (t : Bool). 1 ≤ cond t 1 0 + cond (is_marked by.marks c) 1 0) (sym h) (omega arith)
      which (inr h) = subst (λ (t : Bool). 1 ≤ cond (is_marked row.marks c) 1 0 + cond t 1 0) (sym h) (omega arith)

  -- there is no sum where neither has one
  pub either_sum : (s k : ℤ) → either_at row by c ≡ false → numer_at row c *ℤ s +ℤ numer_at by c *ℤ k ≡ pos 0
  either_sum s k e =
      let both = either_false (is_marked row.marks c) (is_marked by.marks c) e in
      let zero = is.empty c both.0 in
      sym (unchanged (numer_at row c) (numer_at by c) s k zero (is_by.empty c both.1)) ∙ zero

-- numbers at columns at which one of two rows has one
pub few_of_both : (k : ℕ) (f a b : ℕ → Ratio) → ((c : ℕ) → HasNumber f c → HasNumber a c ⊎ HasNumber b c) → nonzeros k f ≤ nonzeros k a + nonzeros k b
few_of_both zero f a b h = omega arith
few_of_both (suc k) f a b h =
    let r = few_of_both k f a b h in
    let s = one (zero_or (f k).num) in
    omega arith
  where
    of_either : unless_zero (f k).num 1 ≡ 1 → HasNumber a k ⊎ HasNumber b k → unless_zero (f k).num 1 ≤ unless_zero (a k).num 1 + unless_zero (b k).num 1
    of_either e (inl x) = let u = unless_not (a k).num 1 x in omega (arith, e, u)
    of_either e (inr x) = let u = unless_not (b k).num 1 x in omega (arith, e, u)

    one : ((f k).num ≡ pos 0) ⊎ ((f k).num ≡ pos 0 → ⊥) → unless_zero (f k).num 1 ≤ unless_zero (a k).num 1 + unless_zero (b k).num 1
    one (inl z) = let e = ap (λ y. unless_zero y 1) z in omega (arith, e)
    one (inr d) = of_either (unless_not (f k).num 1 d) (h k d)

-- a quotient of a number above 0 is one
pub quotient_up : (q : ℤ) (g : ℕ) (z : ℤ) → q *ℤ pos g ≡ z → pos 0 <ℤ z → pos 0 <ℤ q
quotient_up (pos zero) g z e h = let none_left : z ≡ pos 0 = sym e ∙ zero-*ℤ (pos g) in absurd (omega (arith, ints))
quotient_up (pos (suc n)) g z e h = omega (arith, ints)
quotient_up (negsuc n) zero z e h = let none_left : z ≡ pos 0 = sym e ∙ *ℤ_comm (negsuc n) (pos 0) ∙ zero-*ℤ (negsuc n) in absurd (omega (arith, ints))
quotient_up (negsuc n) (suc g) z e h = absurd (omega (arith, ints))

pub both_above : (a b : ℤ) → pos 0 <ℤ a → pos 0 <ℤ b → pos 0 <ℤ (a *ℤ b)
both_above (pos zero) b h k = absurd (omega (arith, ints))
both_above (pos (suc a)) (pos zero) h k = absurd (omega (arith, ints))
both_above (pos (suc a)) (pos (suc b)) h k = omega (arith, ints)
both_above (pos (suc a)) (negsuc b) h k = absurd (omega (arith, ints))
both_above (negsuc a) b h k = absurd (omega (arith, ints))

pub denom_parts : (q a b : ℤ) (g : ℕ) → q *ℤ pos g ≡ a *ℤ b → unsigned_abs q * g ≡ unsigned_abs a * unsigned_abs b
denom_parts q a b g e = sym (unsigned_abs-mul q (pos g)) ∙ ap unsigned_abs e ∙ unsigned_abs-mul a b

-- what a row says whose numbers and denominator were divided by one number
pub divided_row : {L : _} {G : _} (new : Row L G) (common : new.is_common ≡ true) (c g e : ℕ) (z : ℤ) → numer_at new c *ℤ pos g ≡ z → unsigned_abs new.denom * g ≡ e → IsSame (numbers_of new c) (over z e)
divided_row new common c g e z told denom = subst (λ (x : Ratio). IsSame x (over z e)) (sym (common_number new common c)) (divided_same (numer_at new c) z (unsigned_abs new.denom) e g (sized_above new.denom new.above) told denom)

-- numbers that are the sums over a denominator, wherever a row that was begun to be written, or the other one, has an entry
module _ {L : _} {G : _} (row by mid : Row L G) (s k : ℤ) (m n : ℕ) (is : IsRow m n row) (is_by : IsRow m n by) (sums : List ℤ) (told : AreSums row by s k sums) (left : AreSumsLeft row by s k mid) (within : (c : ℕ) → either_at mid by c ≡ true → either_at row by c ≡ true) where
  pub sums_inside : (c : ℕ) → either_at mid by c ≡ true → c + 1 < m
  sums_inside c e = either_below row by m n is is_by c (within c e)

  pub sums_most : unsigned_abs s ≤ 2 ^ 63 → unsigned_abs k ≤ 2 ^ 63 → (c : ℕ) → either_at mid by c ≡ true → unsigned_abs (slice_index_or sums c (pos 0)) ≤ most
  sums_most ls lk c e =
      let x = is.within c in
      let y = is_by.within c in
      let a = is.small in
      let b = is_by.small in
      subst (λ (z : ℤ). unsigned_abs z ≤ most) (sym (told c (within c e))) (sum_most (numer_at row c) (numer_at by c) s k (omega arith) (omega arith) ls lk)

  module _ (f : ℕ → Ratio) (d : ℕ) (up : 0 < d) (have : (c : ℕ) → either_at mid by c ≡ true → f c ≡ lowest (slice_index_or sums c (pos 0)) d) (lack : (c : ℕ) → either_at mid by c ≡ false → f c ≡ none) where
    pub reduced_is : (c : ℕ) → IsSame (f c) (over (numer_at row c *ℤ s +ℤ numer_at by c *ℤ k) d)
    reduced_is c = which (either_at mid by c) refl
      where
        which : (b : Bool) → either_at mid by c ≡ b → IsSame (f c) (over (numer_at row c *ℤ s +ℤ numer_at by c *ℤ k) d)
        which true e = subst (λ (x : Ratio). IsSame x (over (numer_at row c *ℤ s +ℤ numer_at by c *ℤ k) d)) (sym (have c e)) (subst (λ (z : ℤ). IsSame (lowest (slice_index_or sums c (pos 0)) d) (over z d)) (told c (within c e)) (lowest-same (slice_index_or sums c (pos 0)) d up))
        which false e = subst (λ (x : Ratio). IsSame x (over (numer_at row c *ℤ s +ℤ numer_at by c *ℤ k) d)) (sym (lack c e)) (subst (λ (z : ℤ). IsSame none (over z d)) (sym (left c e)) (zero-*ℤ (pos d) ∙ sym (zero-*ℤ (pos 1))))

    pub reduced_has : (c : ℕ) → HasNumber f c → HasNumber (numbers_of row) c ⊎ HasNumber (numbers_of by) c
    reduced_has c h = which (either_at mid by c) refl
      where
        which : (b : Bool) → either_at mid by c ≡ b → HasNumber (numbers_of row) c ⊎ HasNumber (numbers_of by) c
        which true e = either_has row by m n is is_by c (within c e)
        which false e = absurd (h (ap (λ (v : Ratio). v.num) (lack c e)))

-- what is stated of two rows in common form fits
pub common_fits : {L : _} {G : _} (row by : Row L G) (m n : ℕ) → IsRow m n row → IsRow m n by → row.is_common ≡ true → by.is_common ≡ true → unsigned_abs row.denom < 2 ^ 63 → unsigned_abs by.denom < 2 ^ 63 → (skip : ℕ) → ReplacementFits (numbers_of row) (numbers_of by) skip
common_fits row by m n is is_by common by_common ld lp skip = record {
  terms = λ c.
      let x = is.within c in
      let y = is.within skip in
      let z = is_by.within c in
      let a = is.small in
      let b = is_by.small in
      subst (λ (u : Ratio). TermFits u (numbers_of row skip) (numbers_of by c)) (sym (common_number row common c))
      (subst (λ (u : Ratio). TermFits (lowest (numer_at row c) (unsigned_abs row.denom)) u (numbers_of by c)) (sym (common_number row common skip))
      (subst (λ (u : Ratio). TermFits (lowest (numer_at row c) (unsigned_abs row.denom)) (lowest (numer_at row skip) (unsigned_abs row.denom)) u) (sym (common_number by by_common c))
      (lowest_fits (numer_at row c) (numer_at row skip) (numer_at by c) (unsigned_abs row.denom) (unsigned_abs by.denom) (sized_above row.denom row.above) (sized_above by.denom by.above) ld lp (omega arith) (omega arith) (omega arith))));
}

-- a row without its number at a column leaves room for what comes in there
pub room_without : (k n skip : ℕ) (row less by : ℕ → Ratio) → (less skip).num ≡ pos 0 → ((c : ℕ) → (c ≡ skip → ⊥) → less c ≡ row c) → (by skip).num ≡ pos 0 → HasRoomFor k row by skip n → NonzerosFit k less by n
room_without k n skip row less by gone rest none_in room f sub = room f (λ c h. (apart c h, was c h (sub c h)))
  where
    apart : (c : ℕ) → HasNumber f c → c ≡ skip → ⊥
    apart c h e = elim (sub c h) [
      | inl mine ↦ mine (ap (λ j. (less j).num) e ∙ gone)
      | inr its ↦ its (ap (λ j. (by j).num) e ∙ none_in)
    ]

    was : (c : ℕ) → HasNumber f c → HasNumber less c ⊎ HasNumber by c → HasNumber row c ⊎ HasNumber by c
    was c h (inl mine) = inl (λ z. mine (ap (λ (v : Ratio). v.num) (rest c (apart c h)) ∙ z))
    was c h (inr its) = inr its
