-- What the search for the first column that a point doesn't keep has seen.
use Rattle.std.proofs.Common.{◌≡◌, ℕ, ◌+◌, ◌<◌, List, length, get_or, slice_index_or, map, arith, sym, ◌∙◌, ap, subst}
use Rattle.std.specs.List.{All}
use Rattle.std.proofs.lemmas.List.{get_or-map, length-map}
use Rattle.std.proofs.lemmas.List.Elements.{All-map}
use Rattle.rational.specs.Ratio.{IsNumber, IsSame}
use Rattle.fraction.specs.Frac.{ratio, ratios}
use Rattle.fraction.specs.declared.frac.Frac.{Frac}
use Rattle.evidence.specs.Instance as Of
use Rattle.evidence.specs.Point.{value_at, activity, IsBetween}
use Rattle.evidence.specs.Columns.{Keeps, KeepsBelow, IsFirstWide}
use Rattle.evidence.proofs.Numbers.{◌≈◌, ≈-sym}
use Rattle.evidence.proofs.Columns.{activity-number}
use Rattle.evidence.proofs.Rays.{between_same}
use Rattle.instance.specs.declared.parts.Var.{Var}
use Rattle.instance.specs.declared.parts.Row.{Row}
use Rattle.instance.specs.Parts.{Parts}
use Rattle.instance.specs.Program.{variable, row, program}
use Rattle.instance.specs.Feasibility.{KeptBelow, RowsKeptBelow, IsFirstRowWide, IsFeasibleWithin}
use Rattle.instance.proofs.Numbers.{range-numbers, program-instance}

pub point-numbers : (x : List Frac) → All IsNumber (ratios x)
point-numbers x = All-map IsNumber ratio x (λ k d h. (slice_index_or x k d).above)

-- a row's activity, and the fraction that it is
pub activity_near : (I : Of.Instance) → Of.IsInstance I → (x : List Frac) (i : ℕ) (a : Frac) → IsSame (ratio a) (activity I (ratios x) i) → ratio a ≈ activity I (ratios x) i
activity_near I good x i a is = record { left = a.above; right = activity-number I good (ratios x) (point-numbers x) i; is = is }

-- row i's ends, and its activity as a fraction
module _ (p : Parts) (x : List Frac) (i : ℕ) (rows : List Row) (r : Row) (a : Frac) (er : rows ≡ p.rows) (h : i < length rows) (is : r ≡ get_or rows i r) (ea : IsSame (ratio a) (activity (program p) (ratios x) i)) where
  row_is : Of.row_at (program p) i ≡ row r
  row_is = ap (λ l. get_or (map row l) i Of.free) (sym er) ∙ get_or-map row rows i r Of.free h ∙ sym (ap row is)

  pub row_inside : i < Of.height (program p)
  row_inside = let n = length-map p.rows row in let m = ap length er in omega arith

  near : ratio a ≈ activity (program p) (ratios x) i
  near = activity_near (program p) (program-instance p) x i a ea

  pub between_to : IsBetween (row r) (ratio a) → IsBetween (Of.row_at (program p) i) (activity (program p) (ratios x) i)
  between_to b = subst (λ s. IsBetween s (activity (program p) (ratios x) i)) (sym row_is) (between_same (row r) (ratio a) (activity (program p) (ratios x) i) (range-numbers r.lb r.ub) near b)

  pub between_from : IsBetween (Of.row_at (program p) i) (activity (program p) (ratios x) i) → IsBetween (row r) (ratio a)
  between_from b = between_same (row r) (activity (program p) (ratios x) i) (ratio a) (range-numbers r.lb r.ub) (≈-sym near) (subst (λ s. IsBetween s (activity (program p) (ratios x) i)) row_is b)

module _ (p : Parts) (x : List Frac) (vs : List Var) (ev : vs ≡ p.vars) (kept : KeptBelow vs x (length vs)) where
  vars_kept : (j : ℕ) → j < Of.width (program p) → Keeps (Of.variable_at (program p) j) (value_at (ratios x) j)
  vars_kept j h = (subst (λ l. KeptBelow l x (length l)) ev kept) j (let n = length-map p.vars variable in omega arith)

  pub rows_kept : (i : ℕ) → RowsKeptBelow (program p) (ratios x) i → KeepsBelow (program p) (ratios x) (Of.width (program p) + i)
  rows_kept i rows = record { variables = λ j h g. vars_kept j g; rows = λ k h g. rows k (omega arith) }

  pub first_wide : (i : ℕ) → IsFirstRowWide (program p) (ratios x) i → IsFirstWide (program p) (ratios x)
  first_wide i w = record { row = i; inside = w.inside; below = rows_kept i w.below; wide = w.wide }

  pub all_kept : length x ≡ length p.vars → RowsKeptBelow (program p) (ratios x) (Of.height (program p)) → IsFeasibleWithin (program p) (ratios x)
  all_kept count rows = record {
    feasible = record {
      count = length-map x ratio ∙ count ∙ sym (length-map p.vars variable);
      numbers = point-numbers x;
      variables = λ j h. (vars_kept j h).between;
      rows = λ i h. (rows i h).between;
      whole = λ j h. (vars_kept j h).whole;
      further = λ j h. (vars_kept j h).further;
    };
    fits = λ i h. (rows i h).fits;
  }
