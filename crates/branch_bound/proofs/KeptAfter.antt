-- What the end of a case's run leaves to the cases that come in its place, of what the case carried.
use Rattle.std.proofs.Common.{◌≡◌, ℕ, true, false, Option, None, Some, List, [], ◌∷◌, refl, sym, ◌∙◌, ap}
use Rattle.std.specs.List.{All}
use Rattle.std.specs.Option.{is_some}
use Rattle.std.proofs.lemmas.Bool.{false≢true}
use Rattle.std.proofs.lemmas.List.Elements.{All-nil, All-cons}
use Rattle.rational.specs.Ratio.{Ratio}
use Rattle.fraction.specs.Frac.{ratio}
use Rattle.fraction.specs.declared.frac.Frac.{Frac}
use Rattle.evidence.specs.Cases.{Multiplier}
use Rattle.certificate.specs.declared.lists.Mult.{Mult}
use Rattle.certificate.specs.Meanings as Means
use Rattle.simplex_rules.specs.Ends.{End, Best, Endless}
use Rattle.search_rules.specs.Bounds as Rules
use Rattle.search_rules.specs.Gaps as gaps
use Rattle.branch_bound.specs.declared.carried.Carried.{Carried}
use Rattle.branch_bound.specs.declared.walk.Walk.{Walk}
use Rattle.branch_bound.specs.declared.walk.RayAt.{RayAt}
use Rattle.branch_bound.specs.Walks.{ray}
use Rattle.branch_bound.specs.Bounds.{carried_at, multipliers_of, number_of, left_by, IsLeft, Leaves, LeavesBy}

-- no case came in its place
pub none_left : (w x : Walk) (d : ℕ) (r : Option (List Ratio)) (e : End) → Leaves w x d [] → LeavesBy w x d r e
none_left w x d r e leaves = ([], λ none. All-nil (IsLeft r e (carried_at w.carried.items d)), leaves)

-- two did, which carry the same
pub both_are : (P : Option Carried → Type 0) (k : Option Carried) → P k → All P (k ∷ k ∷ [])
both_are P k p = All-cons P k (k ∷ []) p (All-cons P k [] p (All-nil P))

nothing_left : (r : Option (List Ratio)) (e : End) (k y : Option Carried) → Rules.carried_after r e (multipliers_of k) ≡ multipliers_of k → gaps.number_after r e (number_of k) ≡ number_of k → k ≡ None → y ≡ None → IsLeft r e k y
nothing_left r e k y a b none is = (ap multipliers_of is ∙ sym (a ∙ ap multipliers_of none), ap number_of is ∙ sym (b ∙ ap number_of none))

-- below a ray nothing is carried
pub below_ray : (w x : Walk) (d : ℕ) (r : Option RayAt) (e : End) (new : List (Option Carried)) → is_some r ≡ true → All (λ (y : Option Carried). y ≡ None) new → Leaves w x d new → LeavesBy w x d (ray r) e
below_ray w x d None e new some each leaves = absurd (false≢true some)
below_ray w x d (Some q) e new some each leaves = (new, λ none i y h. nothing_left (ray (Some q)) e (carried_at w.carried.items d) _ refl refl none (each i y h), leaves)

-- nor by a case whose run ends along a direction
pub along_direction : (w y : Walk) (d : ℕ) (r : Option (List Ratio)) (x z : List Ratio) (new : List (Option Carried)) → All (λ (k : Option Carried). k ≡ None) new → Leaves w y d new → LeavesBy w y d r (Endless x z)
along_direction w y d None x z new each leaves = (new, λ none i k h. nothing_left None (Endless x z) (carried_at w.carried.items d) _ refl refl none (each i k h), leaves)
along_direction w y d (Some q) x z new each leaves = (new, λ none i k h. nothing_left (Some q) (Endless x z) (carried_at w.carried.items d) _ refl refl none (each i k h), leaves)

-- a run that had a best point leaves its value and its multipliers
best_is : (b : Frac) (p : List Ratio) (ms : List Multiplier) (m : List Mult) (k y : Option Carried) → Means.multipliers m ≡ ms → y ≡ left_by (Some b) m → IsLeft None (Best (ratio b) p ms) k y
best_is b p ms m k y same is = (ap multipliers_of is ∙ ap (λ (l : List Multiplier). Some l) same, ap number_of is)

pub best_left : (w x : Walk) (d : ℕ) (r : Option RayAt) (b : Frac) (p : List Ratio) (ms : List Multiplier) (m : List Mult) (new : List (Option Carried)) → is_some r ≡ false → Means.multipliers m ≡ ms → All (λ (y : Option Carried). y ≡ left_by (Some b) m) new → Leaves w x d new → LeavesBy w x d (ray r) (Best (ratio b) p ms)
best_left w x d None b p ms m new none same each leaves = (new, λ gone i y h. best_is b p ms m (carried_at w.carried.items d) _ same (each i y h), leaves)
best_left w x d (Some q) b p ms m new none same each leaves = absurd (false≢true (sym none))
