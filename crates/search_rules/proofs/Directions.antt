-- Multipliers that bound a program leave it no direction: they bound the program whose ends are all 0 too, and a direction would be a point of that.
use Rattle.std.proofs.Common.{◌≡◌, ℕ, ◌+◌, ◌-◌, ◌<◌, ℤ, pos, negsuc, Bool, true, false, cond, nat_eq, nat_lt, Option, None, Some, IfSome, IsSome, IsTrue, List, [], ◌∷◌, length, map, get_or, refl, sym, ◌∙◌, ap, ap₂, subst}
use Rattle.std.specs.List.{All}
use Rattle.std.proofs.lemmas.List.{length-map}
use Rattle.std.proofs.lemmas.List.Elements.{All-cons, All-nil}
use Rattle.std.proofs.Math.ListN.{get_or-map}
use Rattle.rational.specs.Ratio.{Ratio, whole, product, IsNumber, IsSame, IsBelow, IsAtMost}
use Rattle.evidence.specs.Sums.{none, total}
use Rattle.evidence.specs.Instance.{Range, Variable, Sense, Minimum, Maximum, Instance, IsInstance, HasNumbers, free, no_variable, width, height, variable_at, row_at, cost_at, entry_at, coefficient_at, column_at, minimising, minimising_by}
use Rattle.evidence.specs.Point.{value_at, activity, IsBetween, IsZeroOr, IsFeasible, NeverLeaves}
use Rattle.evidence.specs.Cases.{Multiplier, multiplier_at, end_by, end_of, or_none, form, low_sum, AreLegal, IsBound}
use Rattle.evidence.proofs.Numbers.{◌≈◌, ◌⋖◌, ≈-from, ≈-sym, ◌⊙◌, ◌▹◌, ≲-from, ⋖-absurd, product-number, product-none, product_swap}
use Rattle.evidence.proofs.Totals.{total-≈, total-none, total-same}
use Rattle.evidence.proofs.Columns.{none-number, All-anywhere}
use Rattle.evidence.proofs.Duality.{bounded}
use Rattle.simplex_rules.specs.Ends.{IsDirection}
use Rattle.search_rules.proofs.OpenBounds.{Bounds}

-- 0 where there is an end
abbrev zero_end : Option Ratio → Option Ratio
zero_end None = None
zero_end (Some x) = Some none

abbrev still : Range → Range
still r = record { lb = zero_end r.lb; ub = zero_end r.ub }

abbrev held : Variable → Variable
held v = record { range = still v.range; whole = false; unless_zero = None }

abbrev stopped : Instance → Instance
stopped I = record { variables = map held I.variables; rows = map still I.rows; entries = I.entries; goal = record I.goal { constant = none } }

each : {X Y : Type 0} (P : Y → Type 0) (f : X → Y) → ((x : X) → P (f x)) → (xs : List X) → All P (map f xs)
each P f h [] = All-nil P
each P f h (x ∷ xs) = All-cons P (f x) (map f xs) (h x) (each P f h xs)

zero_end-number : (o : Option Ratio) → IfSome (zero_end o) IsNumber
zero_end-number None = tt
zero_end-number (Some x) = none-number

still-numbers : (r : Range) → HasNumbers (still r)
still-numbers r = (zero_end-number r.lb, zero_end-number r.ub)

low_end : (o : Option Ratio) (x : Ratio) → IfSome o (λ l. IsAtMost none x) → IfSome (zero_end o) (λ l. IsAtMost l x)
low_end None x h = tt
low_end (Some l) x h = h

high_end : (o : Option Ratio) (x : Ratio) → IfSome o (λ u. IsAtMost x none) → IfSome (zero_end o) (λ u. IsAtMost x u)
high_end None x h = tt
high_end (Some u) x h = h

between : (r : Range) (x : Ratio) → NeverLeaves r x → IsBetween (still r) x
between r x n = record { low = low_end r.lb x n.low; high = high_end r.ub x n.high }

there : (o : Option Ratio) → IsSome o → IsSome (zero_end o)
there None h = h
there (Some x) h = refl

end_there : (z : ℤ) (r : Range) → IsSome (end_by z r) → IsSome (end_by z (still r))
end_there (pos n) r h = there r.lb h
end_there (negsuc n) r h = there r.ub h

none_there : (o : Option Ratio) → or_none (zero_end o) ≡ none
none_there None = refl
none_there (Some x) = refl

end_none : (z : ℤ) (r : Range) → or_none (end_by z (still r)) ≡ none
end_none (pos n) r = none_there r.lb
end_none (negsuc n) r = none_there r.ub

none_turned : (s : Sense) → minimising_by s none ≡ none
none_turned Minimum = refl
none_turned Maximum = refl

module _ (I : Instance) where
  abbrev S : Instance
  S = stopped I

  as_wide : width S ≡ width I
  as_wide = length-map I.variables held

  as_high : height S ≡ height I
  as_high = length-map I.rows still

  variable_held : (j : ℕ) → variable_at S j ≡ held (variable_at I j)
  variable_held j = get_or-map held I.variables j no_variable

  row_still : (i : ℕ) → row_at S i ≡ still (row_at I i)
  row_still i = get_or-map still I.rows i free

  column_still : (k : ℕ) → column_at S k ≡ still (column_at I k)
  column_still k =
      ap (λ n. cond (nat_lt k n) (variable_at S k).range (row_at S (k - n))) as_wide
      ∙ ap₂ (λ (v : Variable) (r : Range). cond (nat_lt k (width I)) v.range r) (variable_held k) (row_still (k - width I))
      ∙ by (nat_lt k (width I))
    where
      by : (b : Bool) → cond b (still (variable_at I k).range) (still (row_at I (k - width I))) ≡ still (cond b (variable_at I k).range (row_at I (k - width I)))
      by true = refl
      by false = refl

  same_coefficient : (k j : ℕ) → coefficient_at S k j ≡ coefficient_at I k j
  same_coefficient k j = ap (λ n. cond (nat_lt k n) (cond (nat_eq k j) (whole (pos 1)) none) (entry_at I.entries (k - n) j)) as_wide

  module _ (good : IsInstance I) where
    stopped-numbers : IsInstance S
    stopped-numbers = record {
      variables = each (λ (v : Variable). HasNumbers v.range) held (λ v. still-numbers v.range) I.variables;
      further = each (λ (v : Variable). IfSome v.unless_zero HasNumbers) held (λ v. tt) I.variables;
      rows = each HasNumbers still still-numbers I.rows;
      entries = good.entries;
      constant = none-number;
      costs = good.costs;
    }

    -- a direction is a point of it
    direction_feasible : (d : List Ratio) → IsDirection I d → IsFeasible S d
    direction_feasible d h = record {
      count = h.count ∙ sym as_wide;
      numbers = h.numbers;
      variables = λ j low. subst (λ (v : Variable). IsBetween v.range (value_at d j)) (sym (variable_held j)) (between (variable_at I j).range (value_at d j) (h.variables j (subst (λ n. j < n) as_wide low)));
      rows = λ i low.
          subst (λ n. IsBetween (row_at S i) (total none n (λ j. product (entry_at I.entries i j) (value_at d j)))) (sym as_wide)
          (subst (λ r. IsBetween r (activity I d i)) (sym (row_still i)) (between (row_at I i) (activity I d i) (h.rows i (subst (λ n. i < n) as_high low))));
      whole = λ j low w. let f : IsTrue (held (variable_at I j)).whole = subst (λ (v : Variable). IsTrue v.whole) (variable_held j) w in absurd (cc);
      further = λ j low. subst (λ (v : Variable). IfSome v.unless_zero (λ r. IsZeroOr r (value_at d j))) (sym (variable_held j)) tt;
    }

    module _ (ms : List Multiplier) (b : Bounds I ms) where
      by-number : (k : ℕ) → IsNumber (multiplier_at ms k).by
      by-number k = let l = b.legal in All-anywhere (λ m. IsNumber m.by) ms (record { column = 0; by = none }) none-number l.numbers k

      -- each end is 0
      term : (k : ℕ) → product (multiplier_at ms k).by (or_none (end_of S (multiplier_at ms k))) ≈ none
      term k =
          let m = multiplier_at ms k in
          let e : or_none (end_of S m) ≡ none = ap (λ r. or_none (end_by m.by.num r)) (column_still m.column) ∙ end_none m.by.num (column_at I m.column) in
          subst (λ x. product m.by x ≈ none) (sym e) (≈-from (product-number m.by none (by-number k) none-number) (product_swap m.by none) ⊙ product-none m.by (by-number k))

      sum_none : low_sum S (minimising S none) ms ≈ none
      sum_none =
          total-≈ (length ms) (λ k. product (multiplier_at ms k).by (or_none (end_of S (multiplier_at ms k)))) (λ k. none) (≈-from (subst IsNumber (sym (none_turned I.goal.sense)) none-number) (none_turned I.goal.sense)) (λ k low. term k)
          ▹ total-none (length ms)

      same_form : (j : ℕ) → form S ms j ≡ form I ms j
      same_form j =
          let c : ℕ → ℕ = λ k. (multiplier_at ms k).column in
          total-same none (length ms) (λ k. product (multiplier_at ms k).by (coefficient_at S (c k) j)) (λ k. product (multiplier_at ms k).by (coefficient_at I (c k) j)) (λ k. ap (λ x. product (multiplier_at ms k).by x) (same_coefficient (c k) j))

      legal_stopped : AreLegal S ms
      legal_stopped =
          let l = b.legal in
          record {
            numbers = l.numbers;
            columns = subst (λ n. All (λ m. m.column < n) ms) (sym (ap₂ (λ (w h : ℕ). w + h) as_wide as_high)) l.columns;
            ascending = l.ascending;
            nonzero = l.nonzero;
            ends = λ k d low. let m = get_or ms k d in subst (λ r. IsSome (end_by m.by.num r)) (sym (column_still m.column)) (end_there m.by.num (column_at I m.column) (l.ends k d low));
          }

      bounds_stopped : IsBound S ms none
      bounds_stopped = record {
        legal = legal_stopped;
        costs = λ j low. subst (λ x. IsSame x (minimising I (cost_at I j))) (sym (same_form j)) (b.costs j (subst (λ n. j < n) as_wide low));
        reaches = let z = ≲-from (≈-sym sum_none) in z.is;
      }

      pub no_direction : (d : List Ratio) → IsDirection I d → ⊥
      no_direction d h =
          let low = bounded S stopped-numbers d (direction_feasible d h) ms none none-number bounds_stopped in
          let below : IsBelow (minimising S (total none (width S) (λ j. product (cost_at I j) (value_at d j)))) none = subst (λ n. IsBelow (minimising I (total none n (λ j. product (cost_at I j) (value_at d j)))) none) (sym as_wide) h.better in
          let better : minimising S (total none (width S) (λ j. product (cost_at I j) (value_at d j))) ⋖ none = record { left = low.right; right = none-number; is = below } in
          ⋖-absurd better low
