-- The entries sorted by their places, and those that aren't 0.
use Rattle.osil_grammar.proofs.Words.{◌≡◌, ℕ, ◌+◌, Bool, true, false, not, cond, pos, List, [], ◌∷◌, get_or, arith, refl, sym, ◌∙◌, ap, subst, ⊎_elim, ◌≢◌, All, filter, IsSortedByKey, IsStableByKey, ties, lit<, lit≤, ints, cases_Bool, not-true, not-false, true≢false, All-weaker, All-map, All-filter, filter_passes, Ratio, IsNumber, IsSame, IsSame-trans, ratio, Frac, Entry, IsBefore, entry, entries, place_sum, HasWidePlace, AreEntriesOf, IsNotBehind, IsInOrder, IsRising, AreSumsAt}
use Rattle.std.specs.Ordering.{is_lt, int_eq, nat_cmp, ordering_then}
use Rattle.std.specs.declared.cmp.Ordering.{Ordering}
use Rattle.std.proofs.lemmas.Bool.Decides.{Decides-int_eq}
use Rattle.evidence.specs.Sums as evidence
use Rattle.evidence.specs.Instance as Of
use Rattle.fraction.proofs.Constants.{zero_reduced}
use Rattle.osil_grammar.proofs.Places.{is_at, place_sum-filter, wide_filter, IsWideFrom, wide_from_place, place_from_wide, entry_at-nowhere, number_either, behind}
use Rattle.osil_grammar.proofs.EntryOrder.{ties_are_places, not_before, all_from_indices, ascending, rise_from, rising_behind, rising_filter}

abbrev pub place : Entry → ℕ × ℕ
place e = (e.row, e.col)

abbrev pub by_place : ℕ × ℕ → ℕ × ℕ → Ordering
by_place x y = ordering_then (nat_cmp x.0 y.0) (nat_cmp x.1 y.1)

pub in_order : (es : List Entry) → IsSortedByKey place by_place es → IsInOrder es
in_order es sorted = all_from_indices IsNotBehind es (λ k d h. not_before (get_or es (k + 1) d) (get_or es k d) (sorted k d (omega arith) h))

-- some entry at the place
abbrev nothing : Frac
nothing = record { numer = pos 0; denom = 1; above = lit< tt; reduced = zero_reduced; numer_within = lit≤ tt; denom_within = lit≤ tt }

abbrev stand_in : ℕ → ℕ → Entry
stand_in i j = record { row = i; col = j; value = nothing }

abbrev at_place : ℕ → ℕ → Entry → Bool
at_place i j = ties (λ x y. is_lt (by_place (place x) (place y))) (stand_in i j)

tells : (i j : ℕ) (e : Entry) → at_place i j e ≡ is_at i j (entry e)
tells i j e = ties_are_places i j e.row e.col

-- a stable sort keeps the sums of each place
module _ (xs ys : List Entry) (stable : IsStableByKey place by_place xs ys) where
  pub same_sums : (i j : ℕ) → place_sum evidence.none (entries ys) i j ≡ place_sum evidence.none (entries xs) i j
  same_sums i j =
      sym (place_sum-filter (at_place i j) i j (tells i j) evidence.none ys)
      ∙ ap (λ l. place_sum evidence.none (entries l) i j) (stable (stand_in i j))
      ∙ place_sum-filter (at_place i j) i j (tells i j) evidence.none xs

  same_wide : (i j : ℕ) → IsWideFrom evidence.none (entries ys) i j ≡ IsWideFrom evidence.none (entries xs) i j
  same_wide i j =
      sym (wide_filter (at_place i j) i j (tells i j) evidence.none ys)
      ∙ ap (λ l. IsWideFrom evidence.none (entries l) i j) (stable (stand_in i j))
      ∙ wide_filter (at_place i j) i j (tells i j) evidence.none xs

  pub wide_before : HasWidePlace (entries ys) → HasWidePlace (entries xs)
  wide_before w = place_from_wide (entries xs) w.entry.row w.entry.variable (subst (λ T. T) (same_wide w.entry.row w.entry.variable) (wide_from_place (entries ys) w))

  pub wide_after : HasWidePlace (entries xs) → HasWidePlace (entries ys)
  wide_after w = place_from_wide (entries ys) w.entry.row w.entry.variable (subst (λ T. T) (sym (same_wide w.entry.row w.entry.variable)) (wide_from_place (entries xs) w))

  pub sums_before : (es : List Entry) → AreSumsAt (entries ys) es → AreSumsAt (entries xs) es
  sums_before es at = record { rising = at.rising; sums = λ i j. subst (λ s. IsSame (Of.entry_at (entries es) i j) s) (same_sums i j) (at.sums i j) }

-- the test that an entry isn't 0
abbrev pub is_nonzero : Entry → Bool
is_nonzero e = not (int_eq e.value.numer (pos 0))

nonzero_is : (e : Entry) → is_nonzero e ≡ true → e.value.numer ≢ pos 0
nonzero_is e on zero = true≢false (sym ((Decides-int_eq e.value.numer (pos 0)).1 zero) ∙ not-true (int_eq e.value.numer (pos 0)) on)

zero_is : (e : Entry) → is_nonzero e ≡ false → e.value.numer ≡ pos 0
zero_is e off = (Decides-int_eq e.value.numer (pos 0)).0 (not-false (int_eq e.value.numer (pos 0)) off)

none_is : (x : Ratio) → x.num ≡ pos 0 → IsSame evidence.none x
none_is x zero = omega (arith, ints)

either : (b : Bool) (x y z w : Ratio) → IsSame x z → IsSame y w → IsSame (cond b x y) (cond b z w)
either true x y z w p q = p
either false x y z w p q = q

dropped : (b : Bool) (x y z : Ratio) → (b ≡ true → IsSame x y) → IsSame x z → IsSame x (cond b y z)
dropped true x y z p q = p refl
dropped false x y z p q = q

zeros_dropped : (i j : ℕ) (es : List Entry) → IsRising es → IsSame (Of.entry_at (entries (filter is_nonzero es)) i j) (Of.entry_at (entries es) i j)
zeros_dropped i j [] rise = refl
zeros_dropped i j (e ∷ es) rise =
    let kept : List Entry = filter is_nonzero es in
    let rest : IsSame (Of.entry_at (entries kept) i j) (Of.entry_at (entries es) i j) = zeros_dropped i j es (rising_behind e es rise) in
    ⊎_elim
    (λ on. subst (λ b. IsSame (Of.entry_at (entries (cond b (e ∷ kept) kept)) i j) (Of.entry_at (entries (e ∷ es)) i j)) (sym on)
    (either (is_at i j (entry e)) (ratio e.value) (Of.entry_at (entries kept) i j) (ratio e.value) (Of.entry_at (entries es) i j) refl rest))
    (λ off. subst (λ b. IsSame (Of.entry_at (entries (cond b (e ∷ kept) kept)) i j) (Of.entry_at (entries (e ∷ es)) i j)) (sym off)
    (dropped (is_at i j (entry e)) (Of.entry_at (entries kept) i j) (ratio e.value) (Of.entry_at (entries es) i j)
    (λ on.
    let others : All (λ d. is_at i j d ≡ false) (entries kept) = All-map (λ d. is_at i j d ≡ false) entry kept (All-filter is_nonzero (λ d. is_at i j (entry d) ≡ false) es (All-weaker (λ d. IsBefore e d) (λ d. is_at i j (entry d) ≡ false) (λ d h. behind i j e d on h) es (rise_from e es rise))) in
    subst (λ s. IsSame s (ratio e.value)) (sym (entry_at-nowhere (entries kept) i j others)) (none_is (ratio e.value) (zero_is e off)))
    rest))
    (cases_Bool (is_nonzero e))

number_at : (i j : ℕ) (es : List Entry) → IsNumber (Of.entry_at (entries es) i j)
number_at i j [] = omega arith
number_at i j (e ∷ es) = number_either (is_at i j (entry e)) (ratio e.value) (Of.entry_at (entries es) i j) e.value.above (number_at i j es)

pub kept_entries : (l : List Of.Entry) (es : List Entry) → AreSumsAt l es → AreEntriesOf l (filter is_nonzero es)
kept_entries l es at = record {
  ascending = ascending (filter is_nonzero es) (rising_filter is_nonzero es at.rising);
  nonzero = All-weaker (λ e. is_nonzero e ≡ true) (λ e. e.value.numer ≢ pos 0) nonzero_is (filter is_nonzero es) (filter_passes is_nonzero es);
  sums = λ i j. IsSame-trans (Of.entry_at (entries (filter is_nonzero es)) i j) (Of.entry_at (entries es) i j) (place_sum evidence.none l i j) (number_at i j es) (zeros_dropped i j es at.rising) (at.sums i j);
}
