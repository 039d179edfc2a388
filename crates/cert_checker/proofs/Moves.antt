-- Movements along a direction, as the code reads them and as the program has them.
use Rattle.std.proofs.Common.{◌≡◌, ◌↔◌, ◌⊎◌, inl, inr, ℕ, ◌<◌, Bool, true, false, IsTrue, Option, None, Some, IfSome, List, length, get_or, slice_index_or, map, refl, sym, ◌∙◌, ap, subst}
use Rattle.std.proofs.lemmas.List.{get_or-map, length-map}
use Rattle.rational.specs.Ratio.{Ratio, IsNumber, IsSame, IsBelow, product}
use Rattle.fraction.specs.Frac.{ratio, ratios}
use Rattle.fraction.specs.declared.frac.Frac.{Frac}
use Rattle.evidence.specs.Sums.{none, total, IsWhole}
use Rattle.evidence.specs.Instance as Of
use Rattle.evidence.specs.Instance.{Range, Variable, Instance, IsInstance, no_variable, width, height, cost_at, minimising}
use Rattle.evidence.specs.Point.{value_at, activity, IsBetween, NeverLeaves, NeverLeavesZeroOr, IsRay}
use Rattle.evidence.specs.Width.{RayFits}
use Rattle.evidence.proofs.Numbers.{◌≈◌, ◌≲◌, ◌⋖◌, ≈-sym, ≲-from, ≲-trans, ≲-⋖, product-number}
use Rattle.evidence.proofs.Totals.{total-number}
use Rattle.evidence.proofs.Columns.{none-number, value-number}
use Rattle.evidence.proofs.SemiVariables.{semi_moves}
use Rattle.evidence.proofs.Duality.{minimising-number, minimising_slope}
use Rattle.instance.specs.declared.parts.Var.{Var}
use Rattle.instance.specs.Program.{range, range_by, further_by, variable}
use Rattle.instance.proofs.Search.{point-numbers, activity_near}
use Rattle.instance.proofs.Terms.{read, ratios-number}
use Rattle.cert_checker.specs.Rays.{MayMove, VariablesMove, RowsMove, slope, SlopeFits}

-- by a variable's own ends
abbrev of : Bool → Range → Bool → Variable
of zero r w = record { range = range_by zero r; whole = w; unless_zero = further_by zero r }

abbrev MayLeave : Bool → Range → Ratio → Ratio → Type 0
MayLeave zero r x m = IsTrue zero → IsSame m none ⊎ IsBetween r x

further_from : (r : Range) (x m : Ratio) → NeverLeaves r m → IsSame m none ⊎ IsBetween r x → NeverLeavesZeroOr r x m
further_from r x m n (inl e) = inl e
further_from r x m n (inr b) = inr (b, n)

further_to : (r : Range) (x m : Ratio) → NeverLeavesZeroOr r x m → IsSame m none ⊎ IsBetween r x
further_to r x m (inl e) = inl e
further_to r x m (inr (b, n)) = inr b

moves_by : (zero : Bool) (r : Range) (w : Bool) (x m : Ratio) → MayMove (of zero r w) x m ↔ (NeverLeaves r m × (IsTrue w → IsWhole m) × MayLeave zero r x m)
moves_by true r w x m = (
  λ k. ((semi_moves r m).0 k.never, k.whole, λ t. further_to r x m k.further),
  λ (n, h, z). record { never = (semi_moves r m).1 n; whole = h; further = further_from r x m n (z refl) },
)
moves_by false r w x m = (λ k. (k.never, k.whole, λ t. absurd (cc)), λ (n, h, z). record { never = n; whole = h; further = tt })

pub moves : (v : Var) (x m : Ratio) → MayMove (variable v) x m ↔ (NeverLeaves (range v.lb v.ub) m × (IsTrue v.whole → IsWhole m) × (IsTrue v.zero → IsSame m none ⊎ IsBetween (range v.lb v.ub) x))
moves v x m = moves_by v.zero (range v.lb v.ub) v.whole x m

module _ (I : Instance) (x d : List Frac) (vs : List Var) (ev : map variable vs ≡ I.variables) (j : ℕ) (v : Var) (at by : Frac) (h : j < length vs) (is : v ≡ slice_index_or vs j v) (hx : j < length x) (ax : at ≡ slice_index_or x j at) (hd : j < length d) (bd : by ≡ slice_index_or d j by) where
  variable_is : Of.variable_at I j ≡ variable v
  variable_is = ap (λ l. get_or l j no_variable) (sym ev) ∙ get_or-map variable vs j v no_variable h ∙ sym (ap variable is)

  pub move_to : MayMove (variable v) (ratio at) (ratio by) → MayMove (Of.variable_at I j) (value_at (ratios x) j) (value_at (ratios d) j)
  move_to m =
      subst (λ w. MayMove w (value_at (ratios x) j) (value_at (ratios d) j)) (sym variable_is)
      (subst (λ z. MayMove (variable v) z (value_at (ratios d) j)) (sym (read x j at hx ax)) (subst (λ z. MayMove (variable v) (ratio at) z) (sym (read d j by hd bd)) m))

some_weaker : {P Q : Ratio → Type 0} (o : Option Ratio) → ((l : Ratio) → P l → Q l) → IfSome o P → IfSome o Q
some_weaker None f p = p
some_weaker (Some l) f p = f l p

never_same : (r : Range) (v w : Ratio) → v ≈ w → NeverLeaves r v → NeverLeaves r w
never_same r v w e n = record {
  low = some_weaker r.lb (λ l q. let a : none ≲ v = record { left = none-number; right = e.left; is = q } in let b = ≲-trans a (≲-from e) in b.is) n.low;
  high = some_weaker r.ub (λ l q. let a : v ≲ none = record { left = e.left; right = none-number; is = q } in let b = ≲-trans (≲-from (≈-sym e)) a in b.is) n.high;
}

module _ (I : Instance) (good : IsInstance I) (x : List Frac) (i : ℕ) (r : Range) (a : Frac) (is : r ≡ Of.row_at I i) (ea : IsSame (ratio a) (activity I (ratios x) i)) where
  near : ratio a ≈ activity I (ratios x) i
  near = activity_near I good x i a ea

  pub never_to : NeverLeaves r (ratio a) → NeverLeaves (Of.row_at I i) (activity I (ratios x) i)
  never_to n = subst (λ s. NeverLeaves s (activity I (ratios x) i)) is (never_same r (ratio a) (activity I (ratios x) i) near n)

  pub never_from : NeverLeaves (Of.row_at I i) (activity I (ratios x) i) → NeverLeaves r (ratio a)
  never_from n = never_same r (activity I (ratios x) i) (ratio a) (≈-sym near) (subst (λ s. NeverLeaves s (activity I (ratios x) i)) (sym is) n)

-- the sum of the minimising costs is the minimising sum of the costs
pub slope_is : (I : Instance) (r : List Ratio) → slope I r ≡ minimising I (total none (width I) (λ j. product (cost_at I j) (value_at r j)))
slope_is I r = minimising_slope I.goal.sense (width I) (cost_at I) (value_at r)

pub turned-number : (I : Instance) → IsInstance I → (j : ℕ) → IsNumber (minimising I (cost_at I j))
turned-number I good j = minimising-number I (cost_at I j) (value-number I.goal.costs good.costs j)

module _ (I : Instance) (good : IsInstance I) (x : List Frac) where
  pub slope-number : IsNumber (slope I (ratios x))
  slope-number = total-number none (width I) (λ j. product (minimising I (cost_at I j)) (value_at (ratios x) j)) none-number (λ j. product-number (minimising I (cost_at I j)) (value_at (ratios x) j) (turned-number I good j) (ratios-number x j))

  pub slope_below : (s z : Frac) → IsSame (ratio s) (slope I (ratios x)) → ratio z ≡ none → IsBelow (ratio s) (ratio z) → IsBelow (slope I (ratios x)) none
  slope_below s z e ez b =
      let a : slope I (ratios x) ≈ ratio s = record { left = slope-number; right = s.above; is = sym e } in
      let c : ratio s ⋖ none = record { left = s.above; right = none-number; is = subst (λ w. IsBelow (ratio s) w) ez b } in
      let d = ≲-⋖ (≲-from a) c in
      d.is

module _ (I : Instance) (x d : List Frac) (count : length d ≡ width I) (vars : VariablesMove I (ratios x) (ratios d) (width I)) (rows : RowsMove I (ratios d) (height I)) where
  pub is_ray : IsBelow (slope I (ratios d)) none → IsRay I (ratios x) (ratios d)
  is_ray b = record {
    count = length-map d ratio ∙ count;
    numbers = point-numbers d;
    variables = λ j h. (vars j h).never;
    rows = λ i h. (rows i h).never;
    whole = λ j h. (vars j h).whole;
    further = λ j h. (vars j h).further;
    better = subst (λ s. IsBelow s none) (slope_is I (ratios d)) b;
  }

  pub ray_fits : SlopeFits I (ratios d) → RayFits I (ratios d)
  ray_fits f = record { rows = λ i h. (rows i h).fits; goal = f }
