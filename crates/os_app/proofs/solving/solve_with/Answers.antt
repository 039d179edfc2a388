use Rattle.std.proofs.Common.{◌≡◌, inr, Bool, true, refl, sym, subst}
use Rattle.std.specs.Prelude.{IfOk, option_map}
use Rattle.std.proofs.lemmas.Result.{IfOk-weaker}
use Rattle.os_app.specs.Safe.{HasNoSafeText, IsSafeOrNone}
use Rattle.os_app.specs.Solves.{IsRightWith}
use Rattle.os_app.proofs.solving.solve_with.Goals as goal

pub returns-in-None : goal.returns-in-None
returns-in-None g c =
    let a = c.args in
    let none : HasNoSafeText a.osil.now a.osol.now = subst (IsSafeOrNone a.osil.now a.osol.now) c.in-None.is c.in_ok-text.ensures in
    let asked : a.safe ≡ true = c.if-not-safe.false in
    subst (λ (b : Bool). IfOk c.solve_halted-in-None.result (IsRightWith a.beside.now (option_map (λ n. g.F.Files.held a.files.now n.now) a.halt) b a.osil.now a.osol.now)) (sym asked)
    (IfOk-weaker c.solve_halted-in-None.result _ _ (λ doc right. (a.osol.now, inr (none, refl), right)) c.solve_halted-in-None.ensures)
