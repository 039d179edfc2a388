-- An instance with one more row has the points that meet it.
use Rattle.std.proofs.Common.{◌≡◌, ℕ, zero, suc, ◌<◌, List, [], ◌∷◌, ◌++◌, arith, refl, sym, ◌∙◌, ap, subst}
use Rattle.std.specs.List.{All}
use Rattle.std.proofs.lemmas.Bool.{eq-eqb, ne_eqb}
use Rattle.std.proofs.lemmas.List.{length-append, get_or_append_left, get_or_push}
use Rattle.std.proofs.lemmas.List.Elements.{All-append, All-cons, All-nil}
use Rattle.rational.specs.Ratio.{Ratio, product, IsNumber}
use Rattle.evidence.specs.Sums.{none, total}
use Rattle.evidence.specs.Instance.{Range, Entry, Goal, Instance, IsInstance, IsGoalOfNumbers, HasNumbers, free, width, height, row_at, entry_at}
use Rattle.evidence.specs.Point.{value_at, activity, IsBetween, IsFeasible}
use Rattle.evidence.specs.AddedRows.{row_entries, with_row}
use Rattle.evidence.proofs.Totals.{total_below}
use Rattle.evidence.proofs.Columns.{by_lt}

pub own_entry : (i n : ℕ) (f : ℕ → Ratio) (es : List Entry) (j : ℕ) → j < n → entry_at (row_entries i n f ++ es) i j ≡ f j
own_entry i zero f es j h = absurd (omega arith)
own_entry i (suc n) f es j h =
    by_lt j n
    (λ before. let d : n ≡ j → ⊥ = λ e. omega arith in rw (eq-eqb i i refl) (rw (ne_eqb n j d) (own_entry i n f es j before)))
    (λ past. let e : n ≡ j = omega arith in rw (eq-eqb i i refl) (rw (eq-eqb n j e) (ap f e)))

pub other_entry : (i n : ℕ) (f : ℕ → Ratio) (es : List Entry) (k j : ℕ) → (i ≡ k → ⊥) → entry_at (row_entries i n f ++ es) k j ≡ entry_at es k j
other_entry i zero f es k j d = refl
other_entry i (suc n) f es k j d = rw (ne_eqb i k d) (other_entry i n f es k j d)

row_entries-numbers : (i n : ℕ) (f : ℕ → Ratio) → ((j : ℕ) → IsNumber (f j)) → All (λ e. IsNumber e.value) (row_entries i n f)
row_entries-numbers i zero f p = All-nil (λ e. IsNumber e.value)
row_entries-numbers i (suc n) f p = All-cons (λ e. IsNumber e.value) (record { row = i; variable = n; value = f n }) (row_entries i n f) (p n) (row_entries-numbers i n f p)

module _ (I : Instance) (r : Range) (f : ℕ → Ratio) where
  abbrev W : Instance
  W = with_row I r f

  -- the sum of the new row
  abbrev pub added : List Ratio → Ratio
  added x = total none (width I) (λ j. product (f j) (value_at x j))

  pub height_added : height W ≡ suc (height I)
  height_added = length-append I.rows (r ∷ []) ∙ (omega arith)

  activity_own : (x : List Ratio) → activity W x (height I) ≡ added x
  activity_own x = total_below none (width I) (λ j. product (entry_at W.entries (height I) j) (value_at x j)) (λ j. product (f j) (value_at x j)) (λ j h. ap (λ c. product c (value_at x j)) (own_entry (height I) (width I) f I.entries j h))

  activity_other : (x : List Ratio) (i : ℕ) → i < height I → activity W x i ≡ activity I x i
  activity_other x i h = total_below none (width I) (λ j. product (entry_at W.entries i j) (value_at x j)) (λ j. product (entry_at I.entries i j) (value_at x j)) (λ j l. ap (λ c. product c (value_at x j)) (other_entry (height I) (width I) f I.entries i j (λ e. omega arith)))

  pub row_own : row_at W (height I) ≡ r
  row_own = get_or_push I.rows r free (height I) refl

  pub row_other : (i : ℕ) → i < height I → row_at W i ≡ row_at I i
  row_other i h = get_or_append_left I.rows (r ∷ []) free i h

  at_row : (x : List Ratio) (i : ℕ) (q : Range) (v : Ratio) → row_at W i ≡ q → activity W x i ≡ v → IsBetween q v → IsBetween (row_at W i) (activity W x i)
  at_row x i q v e g b = subst (λ s. IsBetween s (activity W x i)) (sym e) (subst (λ w. IsBetween q w) (sym g) b)

  of_row : (x : List Ratio) (i : ℕ) (q : Range) (v : Ratio) → row_at W i ≡ q → activity W x i ≡ v → IsBetween (row_at W i) (activity W x i) → IsBetween q v
  of_row x i q v e g b = subst (λ w. IsBetween q w) g (subst (λ s. IsBetween s (activity W x i)) e b)

  pub feasible_added : (x : List Ratio) → IsFeasible I x → IsBetween r (added x) → IsFeasible W x
  feasible_added x p b = record {
    count = p.count;
    numbers = p.numbers;
    variables = p.variables;
    rows = λ i h. by_lt i (height I)
        (λ before. at_row x i (row_at I i) (activity I x i) (row_other i before) (activity_other x i before) (p.rows i before))
        (λ past. let e : height I ≡ i = let g = height_added in omega arith in subst (λ k. IsBetween (row_at W k) (activity W x k)) e (at_row x (height I) r (added x) row_own (activity_own x) b));
    whole = p.whole;
    further = p.further;
  }

  pub feasible_before : (x : List Ratio) → IsFeasible W x → IsFeasible I x
  feasible_before x p = record {
    count = p.count;
    numbers = p.numbers;
    variables = p.variables;
    rows = λ i h. of_row x i (row_at I i) (activity I x i) (row_other i h) (activity_other x i h) (p.rows i (let g = height_added in omega arith));
    whole = p.whole;
    further = p.further;
  }

  pub between_added : (x : List Ratio) → IsFeasible W x → IsBetween r (added x)
  between_added x p = of_row x (height I) r (added x) row_own (activity_own x) (p.rows (height I) (let g = height_added in omega arith))

  pub instance_added : IsInstance I → HasNumbers r → ((j : ℕ) → IsNumber (f j)) → IsInstance W
  instance_added good h p = record {
    variables = good.variables;
    further = good.further;
    rows = All-append HasNumbers I.rows (r ∷ []) good.rows (All-cons HasNumbers r [] h (All-nil HasNumbers));
    entries = All-append (λ e. IsNumber e.value) (row_entries (height I) (width I) f) I.entries (row_entries-numbers (height I) (width I) f p) good.entries;
    constant = good.constant;
    costs = good.costs;
  }

-- the goal says nothing of which points are feasible
pub feasible_asking : (I : Instance) (g : Goal) (x : List Ratio) → IsFeasible I x → IsFeasible (record I { goal = g }) x
feasible_asking I g x p = record { count = p.count; numbers = p.numbers; variables = p.variables; rows = p.rows; whole = p.whole; further = p.further }

pub feasible_asked : (I : Instance) (g : Goal) (x : List Ratio) → IsFeasible (record I { goal = g }) x → IsFeasible I x
feasible_asked I g x p = record { count = p.count; numbers = p.numbers; variables = p.variables; rows = p.rows; whole = p.whole; further = p.further }

pub instance_asking : (I : Instance) (g : Goal) → IsInstance I → IsGoalOfNumbers g → IsInstance (record I { goal = g })
instance_asking I g good p = record { variables = good.variables; further = good.further; rows = good.rows; entries = good.entries; constant = p.constant; costs = p.costs }
