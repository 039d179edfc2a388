-- Where the variables' first values keep each row between its ends, no column is out at the first basis.
use Rattle.std.proofs.Common.{◌≡◌, ℕ, ◌+◌, ◌-◌, ◌<◌, Bool, false, Option, None, Some, List, refl, sym, ◌∙◌, ap, subst, arith}
use Rattle.std.proofs.lemmas.Bool.{lt-ltb, le-ltb}
use Rattle.rational.specs.Ratio.{Ratio, product}
use Rattle.evidence.specs.Instance.{Instance, IsInstance, width, height, variable_at, row_at, column_at, entry_at}
use Rattle.evidence.specs.Point.{IsBetween}
use Rattle.evidence.proofs.Numbers.{◌≈◌, ≈-refl, ≈-from, ◌⊙◌, product-≈}
use Rattle.evidence.proofs.Totals.{total-≈}
use Rattle.evidence.proofs.Columns.{by_lt, none-number, column-numbers}
use Rattle.bases.specs.Dictionary.{Entries, Values, value_by}
use Rattle.bases.specs.Program.{rows_with_goal}
use Rattle.bases.proofs.Lists.{value_by-number}
use Rattle.simplex_rules.specs.declared.columns.Status.{Status}
use Rattle.simplex_rules.specs.Statuses.{status_at, is_basic, basic_in, first_status, rest_at, resting, HasDictionary, HasValues, IsFirstBasis}
use Rattle.simplex_rules.specs.Turns.{NoneOut}
use Rattle.simplex_rules.specs.Runs.{HasNoClash}
use Rattle.simplex_rules.proofs.Moments.{fresh_placed}
use Rattle.no_cycles.specs.Phase.{BeginsSettled}
use Rattle.no_cycles.specs.Beginning.{first_value, first_activity, BeginsFeasible}
use Rattle.no_cycles.proofs.SignArgument.{rows-number}
use Rattle.no_cycles.proofs.Moves as Moves
use Rattle.no_cycles.proofs.TurnValues.{full, full-number, full_other, rest_number, known}
use Rattle.no_cycles.proofs.Feasible.{not_out}

pub first_nonbasic : (lo hi : Option Ratio) → is_basic (first_status lo hi) ≡ false
first_nonbasic (Some l) hi = refl
first_nonbasic None (Some h) = refl
first_nonbasic None None = refl

module _ (I : Instance) (zeroed : Bool) (good : IsInstance I) (room : HasNoClash I) (ss : List Status) (fresh : IsFirstBasis I ss) (u : Entries) (dict : HasDictionary I zeroed ss u) where
  abbrev n : ℕ
  n = width I

  abbrev A : Entries
  A = rows_with_goal zeroed I

  -- each variable has its first value
  variable_is : (j : ℕ) → j < width I → full I good zeroed room ss u dict j ≡ first_value (variable_at I j).range
  variable_is j h =
      let range : column_at I j ≡ (variable_at I j).range = rw (lt-ltb j (width I) h) refl in
      let status : status_at ss j ≡ first_status (column_at I j).lb (column_at I j).ub = fresh.variables j h in
      let off : basic_in ss j ≡ false = ap is_basic status ∙ first_nonbasic (column_at I j).lb (column_at I j).ub in
      full_other I good zeroed room ss u dict j off ∙ ap (rest_at (column_at I j)) status ∙ ap first_value range

  -- each row has its sum at these
  row_is : (i : ℕ) → i < height I → full I good zeroed room ss u dict (width I + i) ≈ first_activity I i
  row_is i h =
      let rows = Moves.val_rows (width I) (height I + 1) (rows_with_goal zeroed I) (rows-number I good zeroed) (basic_in ss) u dict (resting I ss) (rest_number I good zeroed room ss) in
      let all : full I good zeroed room ss u dict (width I + i) ≈ value_by (width I) (A i) (full I good zeroed room ss u dict) = record {
        left = full-number I good zeroed room ss u dict (width I + i);
        right = value_by-number (width I) (A i) (full I good zeroed room ss u dict) (rows-number I good zeroed i) (full-number I good zeroed room ss u dict);
        is = rows.rows i (omega arith);
      } in
      all
      ⊙ total-≈ (width I) (λ j. product (A i j) (full I good zeroed room ss u dict j)) (λ j. product (entry_at I.entries i j) (first_value (variable_at I j).range)) (≈-refl none-number)
      (λ j l.
      let entry : A i j ≡ entry_at I.entries i j = rw (lt-ltb i (height I) h) refl in
      product-≈ (≈-from (rows-number I good zeroed i j) entry) (≈-from (full-number I good zeroed room ss u dict j) (variable_is j l)))

  pub begun : BeginsFeasible I → (w : Values) → HasValues I ss u w → NoneOut I ss u w
  begun feasible w values k h way out =
      by_lt k (width I)
      (λ l.
      let off : basic_in ss k ≡ false = ap is_basic (fresh.variables k l) ∙ first_nonbasic (column_at I k).lb (column_at I k).ub in
      let on = out.basic in
      absurd (cc))
      (λ l.
      let e : width I + (k - width I) ≡ k = omega arith in
      let i : k - width I < height I = omega arith in
      let range : column_at I k ≡ row_at I (k - width I) = rw (le-ltb k (width I) l) refl in
      let value : w k ≈ first_activity I (k - width I) = known I good zeroed room ss u dict (fresh_placed I ss fresh) w values k h ⊙ subst (λ c. full I good zeroed room ss u dict c ≈ first_activity I (k - width I)) e (row_is (k - width I) i) in
      not_out (column_at I k) (w k) (first_activity I (k - width I)) (column-numbers I good k) value (subst (λ r. IsBetween r (first_activity I (k - width I))) (sym range) (feasible (k - width I) i)) way out.misses)

pub settled_first : (I : Instance) (zeroed : Bool) → IsInstance I → HasNoClash I → BeginsFeasible I → BeginsSettled I zeroed
settled_first I zeroed good room feasible ss fresh u w dict values = begun I zeroed good room ss fresh u dict feasible w values
