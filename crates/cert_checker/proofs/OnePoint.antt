-- A point is refused for one reason.
use Rattle.std.proofs.Common.{◌≡◌, ◌∙◌, ◌⊎◌, inl, inr, ℕ, ◌+◌, ◌<◌, List, length, refl, ap, sym, subst, arith}
use Rattle.rational.specs.Ratio.{Ratio, IsSame}
use Rattle.evidence.specs.Instance.{Instance, Problem, goals, asking, width, height, variable_at, row_at}
use Rattle.evidence.specs.Point.{value_at, activity, objective, IsBetween}
use Rattle.evidence.specs.Width.{RowFits, GoalFits}
use Rattle.evidence.specs.Columns.{Keeps, KeepsBelow, IsFirstOut, IsFirstWide}
use Rattle.instance.specs.Feasibility.{IsFeasibleWithin}
use Rattle.cert_checker.specs.declared.refused.Refused.{Refused}
use Rattle.cert_checker.specs.declared.refused.Refused.TheVariants.{NotFeasible, Value, WidePoint}
use Rattle.cert_checker.specs.Points.{IsMiscounted, IsFirstValue, ValuesRefuse, PointRefuses}
use Rattle.cert_checker.proofs.Firsts.{Staged, stage_once, AtFirst, place_once}

-- the number of values is told once
abbrev pub Miscounted : {R : Type 0} → Instance → List Ratio → (ℕ → R) → R → Type 0
Miscounted I x told r = (c : ℕ) × IsMiscounted I x c × (r ≡ told c)

pub miscount_once : {R : Type 0} (I : Instance) (x : List Ratio) (told : ℕ → R) (r s : R) → Miscounted I x told r → Miscounted I x told s → r ≡ s
miscount_once I x told r s (c, m, e) (d, n, f) = e ∙ ap told (m.1 ∙ sym n.1) ∙ sym f

-- a column's sum fits, if it is a row; it is kept
abbrev Fits : Instance → List Ratio → ℕ → Type 0
Fits I x c = (i : ℕ) → c ≡ width I + i → i < height I → RowFits I x i

abbrev Kept : Instance → List Ratio → ℕ → Type 0
Kept I x c = (c < width I → Keeps (variable_at I c) (value_at x c)) × ((i : ℕ) → c ≡ width I + i → i < height I → IsBetween (row_at I i) (activity I x i))

kept_below : (I : Instance) (x : List Ratio) (c : ℕ) → KeepsBelow I x c → (k : ℕ) → k < c → Fits I x k × Kept I x k
kept_below I x c below k h = (λ i e inside. (below.rows i (omega arith) inside).fits, (λ inside. below.variables k h inside, λ i e inside. (below.rows i (omega arith) inside).between))

-- the first column that isn't kept, or whose sum doesn't fit
abbrev ColumnRefuses : Instance → List Ratio → Refused → Type 0
ColumnRefuses I x r = ((c : ℕ) × IsFirstOut I x c × (r ≡ NotFeasible c)) ⊎ (IsFirstWide I x × (r ≡ WidePoint))

at_column : (I : Instance) (x : List Ratio) (r : Refused) → ColumnRefuses I x r → AtFirst (Fits I x) (Kept I x) WidePoint NotFeasible r
at_column I x r (inl (c, inl out, e)) = (
  c,
  record { below = kept_below I x c out.below; fails = λ p. out.out (p.1.0 out.inside) },
  inr (λ i f inside. absurd (let h = out.inside in omega arith), λ q. out.out (q.0 out.inside), e),
)
at_column I x r (inl (c, inr out, e)) = (
  c,
  record { below = kept_below I x c out.below; fails = λ p. out.out (p.1.1 out.row out.is out.inside) },
  inr (λ i f inside. subst (RowFits I x) (let h = out.is in omega arith) out.fits, λ q. out.out (q.1 out.row out.is out.inside), e),
)
at_column I x r (inr (out, e)) = (
  width I + out.row,
  record { below = kept_below I x (width I + out.row) out.below; fails = λ p. out.wide (p.0 out.row refl out.inside) },
  inl (λ f. out.wide (f out.row refl out.inside), e),
)

out_once : (I : Instance) (x : List Ratio) (r s : Refused) → ColumnRefuses I x r → ColumnRefuses I x s → r ≡ s
out_once I x r s h k = place_once (Fits I x) (Kept I x) WidePoint NotFeasible r s (at_column I x r h) (at_column I x s k)

not_out : (I : Instance) (x : List Ratio) (r : Refused) → ColumnRefuses I x r → IsFeasibleWithin I x → ⊥
not_out I x r (inl (c, inl out, e)) is = out.out (record { between = is.feasible.variables c out.inside; whole = is.feasible.whole c out.inside; further = is.feasible.further c out.inside })
not_out I x r (inl (c, inr out, e)) is = out.out (is.feasible.rows out.row out.inside)
not_out I x r (inr (out, e)) is = out.wide (is.fits out.row out.inside)

-- the first goal whose sum doesn't fit, or isn't the value
abbrev IsValue : Problem → List Ratio → List Ratio → ℕ → Type 0
IsValue P x vs k = IsSame (value_at vs k) (objective (asking P k) x)

abbrev at_goal : ℕ → Refused
at_goal k = Value

at_value : (P : Problem) (x vs : List Ratio) (r : Refused) → IsFirstValue P x vs r → AtFirst (λ k. GoalFits (asking P k) x) (IsValue P x vs) WidePoint at_goal r
at_value P x vs r f = (f.goal, record { below = λ k h. ((f.below k h).fits, (f.below k h).is); fails = fails f.why }, f.why)
  where
    fails : ((GoalFits (asking P f.goal) x → ⊥) × (r ≡ WidePoint)) ⊎ (GoalFits (asking P f.goal) x × (IsValue P x vs f.goal → ⊥) × (r ≡ Value)) → GoalFits (asking P f.goal) x × IsValue P x vs f.goal → ⊥
    fails (inl h) p = h.0 p.0
    fails (inr h) p = h.1 p.1

value_once : (P : Problem) (x vs : List Ratio) (r s : Refused) → IsFirstValue P x vs r → IsFirstValue P x vs s → r ≡ s
value_once P x vs r s h k = place_once (λ k. GoalFits (asking P k) x) (IsValue P x vs) WidePoint at_goal r s (at_value P x vs r h) (at_value P x vs s k)

abbrev ThenValues : Problem → List Ratio → List Ratio → Refused → Type 0
ThenValues P x vs r = Staged (IsFeasibleWithin P.program x) (ColumnRefuses P.program x) (ValuesRefuse P x vs) r

staged : (P : Problem) (x vs : List Ratio) (r : Refused) → PointRefuses P x vs r → Staged (length x ≡ width P.program) (Miscounted P.program x NotFeasible) (ThenValues P x vs) r
staged P x vs r (inl (c, m, e)) = inl (m.0, (c, m, e))
staged P x vs r (inr (inl (n, c, out, e))) = inr (n, inl (not_out P.program x r (inl (c, out, e)), inl (c, out, e)))
staged P x vs r (inr (inr (inl (n, out, e)))) = inr (n, inl (not_out P.program x r (inr (out, e)), inr (out, e)))
staged P x vs r (inr (inr (inr (is, h)))) = inr (is.feasible.count, inr (is, h))

pub point_once : (P : Problem) (x vs : List Ratio) (r s : Refused) → PointRefuses P x vs r → PointRefuses P x vs s → r ≡ s
point_once P x vs r s h k =
    stage_once (length x ≡ width P.program) (Miscounted P.program x NotFeasible) (ThenValues P x vs) r s (miscount_once P.program x NotFeasible r s)
    (stage_once (IsFeasibleWithin P.program x) (ColumnRefuses P.program x) (ValuesRefuse P x vs) r s (out_once P.program x r s)
    (stage_once (length vs ≡ length (goals P)) (λ (q : Refused). q ≡ Value) (IsFirstValue P x vs) r s (λ e f. e ∙ sym f) (value_once P x vs r s)))
    (staged P x vs r h) (staged P x vs s k)
