-- A row in common form whose changed numbers are divided by one number.
use Rattle.std.proofs.Common.{◌≡◌, ℕ, ◌+◌, ◌<◌, ◌≤◌, ◌⊎◌, inl, inr, ℤ, pos, ◌+ℤ◌, ◌*ℤ◌, Bool, true, false, ◌||◌, arith, refl, sym, ◌∙◌, ap}
use Rattle.std.proofs.Math.IntN.{zero-*ℤ}
use Rattle.evidence.proofs.Columns.{by_eq, by_lt}
use Rattle.marks.specs.Marks.{is_marked}
use Rattle.marks.specs.Words.{IsFirst}
use Rattle.dictionary.specs.declared.row.Row.{Row}
use Rattle.dictionary.specs.Rows.{numer_at, either_at, IsRow}
use Rattle.dictionary.proofs.Changes.{either_false, either_true, unchanged}

-- up to a column, each number times the divisor is the sum of both rows' numbers, each times its part
pub record IsDividing {L : _} {G : _} (old by row : Row L G) (s k : ℤ) (g from : ℕ) : Type 0 where
  pub form : row.is_common ≡ true
  pub denom : row.denom ≡ old.denom
  pub rows : (m n : ℕ) → IsRow m n old → IsRow m n row
  pub done : (c : ℕ) → c < from → numer_at row c *ℤ pos g ≡ numer_at old c *ℤ s +ℤ numer_at by c *ℤ k
  pub rest : (c : ℕ) → from ≤ c → numer_at row c ≡ numer_at old c
  pub inside : (m n : ℕ) → IsRow m n old → IsRow m n by → from ≤ m
  pub within : (c : ℕ) → either_at row by c ≡ true → either_at old by c ≡ true

pub dividing_none : {L : _} {G : _} (old by : Row L G) (s k : ℤ) (g : ℕ) → old.is_common ≡ true → IsDividing old by old s k g 0
dividing_none old by s k g common = record {
  form = common;
  denom = refl;
  rows = λ m n is. is;
  done = λ c l. absurd (omega arith);
  rest = λ c l. refl;
  inside = λ m n a b. omega arith;
  within = λ c h. h;
}

module _ {L : _} {G : _} (old by row : Row L G) (s k : ℤ) (g from : ℕ) (m n : ℕ) (was : IsRow m n old) (is_by : IsRow m n by) (i : IsDividing old by row s k g from) where
  is_row : IsRow m n row
  is_row = i.rows m n was

  -- a column without an entry in both
  nothing : (c : ℕ) → either_at row by c ≡ false → (numer_at row c ≡ pos 0) × (numer_at by c ≡ pos 0)
  nothing c e =
      let both = either_false (is_marked row.marks c) (is_marked by.marks c) e in
      let r = is_row in
      (r.empty c both.0, is_by.empty c both.1)

  no_sum : (c : ℕ) → from ≤ c → either_at row by c ≡ false → numer_at old c *ℤ s +ℤ numer_at by c *ℤ k ≡ pos 0
  no_sum c l e =
      let z = nothing c e in
      sym (unchanged (numer_at old c) (numer_at by c) s k (sym (i.rest c l) ∙ z.0) z.1) ∙ sym (i.rest c l) ∙ z.0

  pub stays : (c : ℕ) → from ≤ c → either_at row by c ≡ false → numer_at row c *ℤ pos g ≡ numer_at old c *ℤ s +ℤ numer_at by c *ℤ k
  stays c l e = ap (λ x. x *ℤ pos g) (nothing c e).0 ∙ zero-*ℤ (pos g) ∙ sym (no_sum c l e)

  -- wherever neither row has an entry the sum is 0
  pub sums_left : (c : ℕ) → either_at row by c ≡ false → numer_at old c *ℤ s +ℤ numer_at by c *ℤ k ≡ pos 0
  sums_left c e = by_lt c from (λ h. sym (i.done c h) ∙ ap (λ x. x *ℤ pos g) (nothing c e).0 ∙ zero-*ℤ (pos g)) (λ h. no_sum c h e)

  pub either_inside : (c : ℕ) → either_at row by c ≡ true → c + 1 < m
  either_inside c e = which (either_true (is_marked row.marks c) (is_marked by.marks c) e)
    where
      which : (is_marked row.marks c ≡ true) ⊎ (is_marked by.marks c ≡ true) → c + 1 < m
      which (inl h) = let r = is_row in r.inside c h
      which (inr h) = is_by.inside c h

-- one column more
pub dividing_next : {L : _} {G : _} (old by row new : Row L G) (s k z : ℤ) (g from c : ℕ) (m n : ℕ) (was : IsRow m n old) (is_by : IsRow m n by) (i : IsDividing old by row s k g from) → IsFirst (either_at row by) from c → z *ℤ pos g ≡ numer_at old c *ℤ s +ℤ numer_at by c *ℤ k → new.is_common ≡ true → new.denom ≡ row.denom → ((m n : ℕ) → IsRow m n row → c + 1 < m → IsRow m n new) → numer_at new c ≡ z → ((j : ℕ) → (j ≡ c → ⊥) → numer_at new j ≡ numer_at row j) → ((j : ℕ) → (j ≡ c → ⊥) → is_marked new.marks j ≡ is_marked row.marks j) → IsDividing old by new s k g (c + 1)
dividing_next old by row new s k z g from c m n was is_by i first told form denom rows own others marks = record {
  form = form;
  denom = denom ∙ i.denom;
  rows = λ a b is. rows a b (i.rows a b is) (let x = was.count in let y = is.count in let l = either_inside old by row s k g from m n was is_by i c first.is in omega arith);
  done = λ j l. by_eq j c
      (λ e. ap (λ q. numer_at new q *ℤ pos g) e ∙ ap (λ x. x *ℤ pos g) own ∙ told ∙ ap (λ q. numer_at old q *ℤ s +ℤ numer_at by q *ℤ k) (sym e))
      (λ d. ap (λ x. x *ℤ pos g) (others j d) ∙ by_lt j from (λ h. i.done j h) (λ h. stays old by row s k g from m n was is_by i j h (first.first j h (omega arith))));
  rest = λ j l. others j (λ e. omega arith) ∙ i.rest j (let h = first.later in omega arith);
  inside = λ a b is is'. let l = either_inside old by row s k g from a b is is' i c first.is in omega arith;
  within = λ j h. by_eq j c
      (λ e. ap (either_at old by) e ∙ i.within c first.is)
      (λ d. i.within j (ap (λ (b : Bool). b || is_marked by.marks j) (sym (marks j d)) ∙ h));
}

pub dividing_all : {L : _} {G : _} (old by row : Row L G) (s k : ℤ) (g from : ℕ) (m n : ℕ) (was : IsRow m n old) (is_by : IsRow m n by) (i : IsDividing old by row s k g from) → ((c : ℕ) → from ≤ c → either_at row by c ≡ false) → (c : ℕ) → numer_at row c *ℤ pos g ≡ numer_at old c *ℤ s +ℤ numer_at by c *ℤ k
dividing_all old by row s k g from m n was is_by i none_left c = by_lt c from (λ h. i.done c h) (λ h. stays old by row s k g from m n was is_by i c h (none_left c h))
