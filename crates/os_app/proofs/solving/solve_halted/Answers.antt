use Rattle.std.proofs.Common.{ℕ, List, Option, false, sym, subst}
use Rattle.std.specs.Borrow.{Bor}
use Rattle.std.specs.Prelude.{IfOk, option_map}
use Rattle.std.proofs.lemmas.Result.{IfOk-weaker}
use Rattle.solve_run.specs.Runs.{RightBeside}
use Rattle.os_app.specs.Halts.{IsRightHalted}
use Rattle.os_app.proofs.Solves.{halted_so, unasked, was_asked}
use Rattle.os_app.proofs.solving.solve_halted.Goals as goal

pub returns-in-None : goal.returns-in-None
returns-in-None g c =
    let a = c.args in
    subst (λ (h : Option (Bor (List ℕ))). IfOk c.solve.result (IsRightHalted a.beside.now (option_map (λ n. g.F.Files.held a.files.now n.now) h) a.osil.now a.osol.now)) (sym c.in-None.is)
    (IfOk-weaker c.solve.result _ _ (λ doc right. (false, tt, right)) c.solve.ensures)

pub returns-in-Some : goal.returns-in-Some
returns-in-Some g c =
    let a = c.args in
    let stops = c.answer_job-document.new.watch.told.watch.stops in
    let (files, name, came) = c.answer_job-document.ensures.ran.came.came in
    let halted = halted_so (g.F.Files.held a.files.now c.in-Some.name.now) stops _ came in
    let right = subst (λ (b : Option (List ℕ)). IfOk c.answer_job-document.result (RightBeside b a.osil.now a.osol.now (was_asked stops))) c.bytes_of.ensures
    (c.answer_job-document.ensures.right (was_asked stops) (λ none. unasked stops none)) in
    subst (λ (h : Option (Bor (List ℕ))). IfOk c.answer_job-document.result (IsRightHalted a.beside.now (option_map (λ n. g.F.Files.held a.files.now n.now) h) a.osil.now a.osol.now)) (sym c.in-Some.is)
    (IfOk-weaker c.answer_job-document.result _ _ (λ doc told. (was_asked stops, halted, told)) right)
