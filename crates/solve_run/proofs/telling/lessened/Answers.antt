use Rattle.std.proofs.Common.{Option, List, ℕ, arith, ap, subst}
use Rattle.std.proofs.lemmas.Result.{IfOk-weaker}
use Rattle.osrl_writing.specs.declared.report.Report.{Report}
use Rattle.certificate.specs.GivenUp.{without_bound}
use Rattle.solve_run.specs.Runs.{IsMemoryDocument}
use Rattle.solve_run.proofs.Texts.{fitted_without, fitted_long, fitted_memory_without}
use Rattle.solve_run.proofs.telling.lessened.Goals as goal

pub returns-in_default : goal.returns-in_default
returns-in_default c = λ job claim is long.
    IfOk-weaker c.memory_document.result _ _ (λ doc memory. fitted_memory_without _ _ _ _ _ doc (c.without_bound-report.ensures job claim is) (subst (λ (name : Option (List ℕ)). IsMemoryDocument name doc) c.take.ensures.value memory))
    c.memory_document.ensures

pub returns-then-len-gt-MOST_BYTES : goal.returns-then-len-gt-MOST_BYTES
returns-then-len-gt-MOST_BYTES c = λ job claim is long.
    let without = c.without_bound-report.ensures job claim is in
    IfOk-weaker c.noted_or_memory.result _ _ (λ doc told. fitted_long _ _ _ _ _ _ c.in-Ok.text doc long without c.in-Ok.ensures
    (omega (arith, c.if-len-gt-MOST_BYTES.true, c.len.ensures)) (c.shortened.ensures job (without_bound claim) without) told) c.noted_or_memory.ensures

pub returns : goal.returns
returns c = λ job claim is long.
    IfOk-weaker c.noted_or_memory-2.result _ _ (λ doc told. fitted_without _ _ _ _ _ c.in-Ok.text doc long (c.without_bound-report.ensures job claim is) c.in-Ok.ensures
    (omega (arith, c.if-len-gt-MOST_BYTES.false, c.len.ensures)) told) c.noted_or_memory-2.ensures

pub noted_or_memory-requires : goal.noted_or_memory-requires
noted_or_memory-requires c = let (job, claim, is) = c.requires in ap (λ (r : Report). r.message) (c.shortened.ensures job (without_bound claim) (c.without_bound-report.ensures job claim is))

pub noted_or_memory-requires-2 : goal.noted_or_memory-requires-2
noted_or_memory-requires-2 c = let (job, claim, is) = c.requires in ap (λ (r : Report). r.message) (c.without_bound-report.ensures job claim is)
