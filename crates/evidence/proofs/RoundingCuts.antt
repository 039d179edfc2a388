-- A rounding cut holds at each feasible point, and what a certificate with rounds shows holds of it.
use Rattle.std.proofs.Common.{ℕ, ◌<◌, ℤ, Option, None, Some, IfSome, List, [], ◌∷◌, lit<}
use Rattle.rational.specs.Ratio.{Ratio, whole, product, IsNumber, IsAtMost}
use Rattle.evidence.specs.Sums.{none, total, IsWhole}
use Rattle.evidence.specs.OneDenominator.{number_at}
use Rattle.evidence.specs.Instance.{Range, Instance, IsInstance, width, variable_at}
use Rattle.evidence.specs.Point.{value_at, IsFeasible}
use Rattle.evidence.specs.Cases.{Multiplier, Node, form, low_sum}
use Rattle.evidence.specs.Rounds.{IsRoundingCut, Round, IsRound, derive, ShowsAfter}
use Rattle.evidence.proofs.Numbers.{◌≈◌, ◌≲◌, ≈-refl, ≲-is, ≲-from, ≲-trans, product-≈, product-number, none-sum}
use Rattle.evidence.proofs.Totals.{total-number, total-≈}
use Rattle.evidence.proofs.Columns.{by_bool, none-number, value-number}
use Rattle.evidence.proofs.Duality.{weak, form-number}
use Rattle.evidence.proofs.Branches.{Meets, shown, whole_at_least}
pub use Rattle.evidence.proofs.WholeSums.{whole-number}
use Rattle.evidence.proofs.WholeSums.{near_whole, total-whole, product-whole, no_product-whole, at_ceiling}
use Rattle.evidence.proofs.AddedRows.{feasible_added, instance_added}
use Rattle.evidence.proofs.RowRounds.{round_cut}

module _ (I : Instance) (good : IsInstance I) (ms : List Multiplier) (cs : List ℤ) (k : ℤ) (round : IsRoundingCut I ms cs k) where
  abbrev coefficient : ℕ → Ratio
  coefficient j = whole (number_at cs j)

  abbrev row : Range
  row = record { lb = Some (whole k); ub = None }

  pub instance_derived : IsInstance (derive I cs k)
  instance_derived = instance_added I row coefficient good (lit< tt, tt) (λ j. lit< tt)

  module _ (x : List Ratio) (f : IsFeasible I x) where
    abbrev here : Ratio
    here = total none (width I) (λ j. product (coefficient j) (value_at x j))

    term-number : (j : ℕ) → IsNumber (product (coefficient j) (value_at x j))
    term-number j = product-number (coefficient j) (value_at x j) (whole-number (number_at cs j)) (value-number x f.numbers j)

    term-whole : (j : ℕ) → j < width I → IsWhole (product (coefficient j) (value_at x j))
    term-whole j h =
        by_bool (variable_at I j).whole
        (λ e. product-whole (number_at cs j) (value_at x j) (value-number x f.numbers j) (f.whole j h e))
        (λ e. no_product-whole (number_at cs j) (value_at x j) (value-number x f.numbers j) (round.others j h (λ t. cc)))

    low : low_sum I none ms ≲ here
    low =
        let same : total none (width I) (λ j. product (form I ms j) (value_at x j)) ≈ here =
        total-≈ (width I) (λ j. product (form I ms j) (value_at x j)) (λ j. product (coefficient j) (value_at x j)) (≈-refl none-number)
        (λ j h. product-≈ (record { left = form-number I good x f ms round.legal j; right = whole-number (number_at cs j); is = round.forms j h }) (≈-refl (value-number x f.numbers j))) in
        ≲-trans (≲-is (weak I good x f ms round.legal none none-number) (none-sum (total none (width I) (λ j. product (form I ms j) (value_at x j))))) (≲-from same)

    reached : IsAtMost (whole k) here
    reached =
        let w = total-whole (width I) (λ j. product (coefficient j) (value_at x j)) term-number term-whole in
        let n = near_whole here (total-number none (width I) (λ j. product (coefficient j) (value_at x j)) none-number term-number) w in
        whole_at_least here w.number k w.same (at_ceiling (low_sum I none ms) k w.number round.rounded (≲-trans low (≲-from n)))

    -- the new row holds
    pub feasible_derived : IsFeasible (derive I cs k) x
    feasible_derived = feasible_added I row coefficient x f (record { low = reached; high = tt })

meets_derived : (I : Instance) (cs : List ℤ) (k : ℤ) (x : List Ratio) (z : Option Ratio) → Meets (derive I cs k) x z → Meets I x z
meets_derived I cs k x None m = m
meets_derived I cs k x (Some z) m = m

-- the same of any round
module _ (I : Instance) (good : IsInstance I) (r : Round) (cs : List ℤ) (k : ℤ) (is : IsRound I r cs k) where
  pub instance_rounded : IsInstance (derive I cs k)
  instance_rounded = let c = round_cut I good r cs k is in instance_derived I good c.0 cs k c.1

  pub feasible_rounded : (x : List Ratio) → IsFeasible I x → IsFeasible (derive I cs k) x
  feasible_rounded x f = let c = round_cut I good r cs k is in feasible_derived I good c.0 cs k c.1 x f

pub shown_after : (rounds : List Round) (I : Instance) (nodes : List Node) (z : Option Ratio) → IfSome z IsNumber → IsInstance I → ShowsAfter I rounds nodes z → (x : List Ratio) → IsFeasible I x → Meets I x z
shown_after [] I nodes z p good s x f = shown s.tree I z p good s.shows x f
shown_after (r ∷ rounds) I nodes z p good (cs, k, is, fits, rest) x f =
    meets_derived I cs k x z (shown_after rounds (derive I cs k) nodes z p (instance_rounded I good r cs k is) rest x (feasible_rounded I good r cs k is x f))
