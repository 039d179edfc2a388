use Rattle.std.proofs.Common.{Option, IfOk, List, ℕ, Bor, sym, subst}
use Rattle.std.proofs.lemmas.Result.{IfOk-weaker}
use Rattle.solve_run.specs.Runs.{IsHandingOf, beside_text}
use Rattle.solve_run.proofs.BesideTexts.{beside_handing}
use Rattle.solve_run.proofs.handing.judge_handed.Goals as goal

pub returns-in-Some : goal.returns-in-Some
returns-in-Some c =
    subst (λ (b : Option (Bor (List ℕ))). IfOk c.judge_text.result (IsHandingOf (beside_text b) c.args.osol.now c.args.instance.now)) (sym c.in-Some.is)
    (IfOk-weaker c.judge_text.result _ _ (λ h is. beside_handing c.in-Some.osrl.now c.args.osol.now c.args.instance.now h is) c.judge_text.ensures)
