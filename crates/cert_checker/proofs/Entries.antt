-- One row's entries, by ascending columns: the coefficient of a variable is that of its entry, or 0.
use Rattle.std.proofs.Common.{◌≡◌, ℕ, zero, suc, ◌+◌, ◌<◌, ◌⊎◌, inl, inr, List, [], ◌∷◌, length, slice_index_or, arith, refl, subst, ⊎_elim}
use Rattle.std.specs.List.{All}
use Rattle.std.proofs.lemmas.Bool.{eq-eqb, ne_eqb}
use Rattle.std.proofs.lemmas.List.Elements.{All-head, All-tail}
use Rattle.fraction.specs.Frac.{ratio}
use Rattle.fraction.specs.declared.ends.Entry.{Entry}
use Rattle.evidence.specs.Sums.{none}
use Rattle.evidence.specs.Instance.{entry_at}
use Rattle.evidence.proofs.Columns.{by_lt}
use Rattle.instance.specs.Parts.{IsAscending}
use Rattle.instance.specs.Program.{entries}

abbrev pub at : List Entry → ℕ → Entry → Entry
at es k d = slice_index_or es k d

-- whether a variable has an entry among the first n
pub found : (es : List Entry) (d : Entry) (j n : ℕ) → ((k : ℕ) × (k < n) × ((at es k d).col ≡ j)) ⊎ ((k : ℕ) → k < n → (at es k d).col ≡ j → ⊥)
found es d j zero = inr (λ k h. absurd (omega arith))
found es d j (suc n) = here (found es d j n)
  where
    last : (((at es n d).col ≡ j) ⊎ ((at es n d).col ≡ j → ⊥))
    last = by_lt (at es n d).col j (λ p. inr (λ q. omega arith)) (λ p. by_lt j (at es n d).col (λ q. inr (λ r. omega arith)) (λ q. inl (omega arith)))

    here : ((k : ℕ) × (k < n) × ((at es k d).col ≡ j)) ⊎ ((k : ℕ) → k < n → (at es k d).col ≡ j → ⊥) → ((k : ℕ) × (k < suc n) × ((at es k d).col ≡ j)) ⊎ ((k : ℕ) → k < suc n → (at es k d).col ≡ j → ⊥)
    here (inl (k, h, e)) = inl (k, omega arith, e)
    here (inr off) = both last
      where
        both : ((at es n d).col ≡ j) ⊎ ((at es n d).col ≡ j → ⊥) → ((k : ℕ) × (k < suc n) × ((at es k d).col ≡ j)) ⊎ ((k : ℕ) → k < suc n → (at es k d).col ≡ j → ⊥)
        both (inl e) = inl (n, omega arith, e)
        both (inr ne) = inr (λ k h e. by_lt k n (λ g. off k g e) (λ g. let q : k ≡ n = omega arith in ne (subst (λ m. (at es m d).col ≡ j) q e)))

module _ (es : List Entry) (i : ℕ) (d : Entry) (up : IsAscending es) (on : All (λ e. e.row ≡ i) es) where
  next_up : (k : ℕ) → k + 1 < length es → (at es k d).col < (at es (k + 1) d).col
  next_up k h =
      let p = on k d (omega arith) in
      let q = on (k + 1) d h in
      ⊎_elim (λ r. absurd (omega arith)) (λ r. r.1) (up k d h)

  pub columns_rise : (k l : ℕ) → k < l → l < length es → (at es k d).col < (at es l d).col
  columns_rise k zero h g = absurd (omega arith)
  columns_rise k (suc l) h g =
      let one : l + 1 ≡ suc l = omega arith in
      let next : (at es l d).col < (at es (suc l) d).col = subst (λ m. (at es l d).col < (at es m d).col) one (next_up l (omega arith)) in
      by_lt k l (λ p. let q = columns_rise k l p (omega arith) in omega arith) (λ p. let e : k ≡ l = omega arith in rw e next)

-- a variable without an entry
pub off_row : (es : List Entry) (i j : ℕ) (d : Entry) → ((k : ℕ) → k < length es → (at es k d).col ≡ j → ⊥) → entry_at (entries es) i j ≡ none
off_row [] i j d off = refl
off_row (e ∷ es) i j d off =
    let ne = ne_eqb e.col j (off 0 (omega arith)) in
    let rest = off_row es i j d (λ k h. off (suc k) (omega arith)) in
    grind (arith, ne, rest)

-- one with an entry, before which none has its column
pub on_row : (es : List Entry) (i : ℕ) (d : Entry) → All (λ e. e.row ≡ i) es → ((k l : ℕ) → k < l → l < length es → (at es k d).col < (at es l d).col) → (k : ℕ) → k < length es → entry_at (entries es) i (at es k d).col ≡ ratio (at es k d).value
on_row [] i d on rise k h = absurd (omega arith)
on_row (e ∷ es) i d on rise zero h = let p = All-head (λ e. e.row ≡ i) e es on in rw (eq-eqb e.row i p, eq-eqb e.col e.col refl) refl
on_row (e ∷ es) i d on rise (suc k) h =
    let less = rise 0 (suc k) (omega arith) h in
    let p = All-head (λ e. e.row ≡ i) e es on in
    rw (eq-eqb e.row i p, ne_eqb e.col (at es k d).col (λ q. omega arith)) (on_row es i d (All-tail (λ e. e.row ≡ i) e es on) (λ a b g f. rise (suc a) (suc b) (omega arith) (omega arith)) k (omega arith))
