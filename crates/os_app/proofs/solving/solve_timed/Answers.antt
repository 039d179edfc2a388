use Rattle.std.proofs.Common.{inr, refl, subst}
use Rattle.std.proofs.lemmas.Result.{IfOk-weaker}
use Rattle.os_app.specs.Timed.{HasNoTimedText, IsTimedOrNone}
use Rattle.os_app.proofs.solving.solve_timed.Goals as goal

pub returns-in-None : goal.returns-in-None
returns-in-None g c =
    let a = c.args in
    let none : HasNoTimedText a.osol.now = subst (IsTimedOrNone a.osol.now a.seconds) c.in-None.is c.in_ok-text.ensures in
    IfOk-weaker c.solve_with-in-None.result _ _ (λ doc right. (a.osol.now, inr (none, refl), right)) c.solve_with-in-None.ensures
