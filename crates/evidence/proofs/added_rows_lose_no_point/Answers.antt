use Rattle.std.specs.Prelude.{Some, None}
use Rattle.rational.specs.Ratio.{whole}
use Rattle.evidence.specs.OneDenominator.{number_at}
use Rattle.evidence.proofs.AddedRows.{feasible_before}
use Rattle.evidence.proofs.RoundingCuts.{feasible_derived, feasible_rounded}
use Rattle.evidence.proofs.LevelSteps.{up, down, kept, objective-number}
use Rattle.evidence.proofs.added_rows_lose_no_point.Goals as goal

pub returns-clause-rounds : goal.returns-clause-rounds
returns-clause-rounds c = λ I ms cs k x good round.
    (λ f. feasible_before I (record { lb = Some (whole k); ub = None }) (λ j. whole (number_at cs j)) x f, λ f. feasible_derived I good ms cs k round x f)

pub returns-clause-any_rounds : goal.returns-clause-any_rounds
returns-clause-any_rounds c = λ I r cs k x good is.
    (λ f. feasible_before I (record { lb = Some (whole k); ub = None }) (λ j. whole (number_at cs j)) x f, λ f. feasible_rounded I good r cs k is x f)

pub returns-clause-levels : goal.returns-clause-levels
returns-clause-levels c = λ I v e g x good p end pg. (
  λ f. (down I good v e p end g pg x f, let s = kept I good v e p end g pg x f in s.is),
  λ f. up I good v e p end g pg x f.0 (record { left = objective-number I good x f.0; right = p; is = f.1 }),
)
