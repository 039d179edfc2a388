use Rattle.std.proofs.Common.{ℕ, Option, refl, sym, subst}
use Rattle.std.specs.Prelude.{IfOk, option_map}
use Rattle.std.proofs.lemmas.Result.{IfOk-weaker}
use Rattle.os_app.specs.Solves.{IsRightWithin}
use Rattle.os_app.proofs.solving.solve_within.Goals as goal

pub returns-in-None : goal.returns-in-None
returns-in-None g c =
    let a = c.args in
    subst (λ (s : Option ℕ). IfOk c.solve_with.result (IsRightWithin a.beside.now (option_map (λ n. g.F.Files.held a.files.now n.now) a.halt) s a.safe a.osil.now a.osol.now)) (sym c.in-None.is)
    (IfOk-weaker c.solve_with.result _ _ (λ doc right. (a.osol.now, refl, right)) c.solve_with.ensures)
