use Rattle.std.proofs.Common.{Option, List, ℕ, arith, ap, subst, sym}
use Rattle.std.proofs.lemmas.Result.{IfOk-weaker}
use Rattle.osrl_writing.specs.declared.report.Report.{Report}
use Rattle.solve_run.specs.Runs.{IsMemoryDocument}
use Rattle.solve_run.proofs.Texts.{is_silent, fitted_short, fitted_noted, too_long, fitted_memory}
use Rattle.solve_run.proofs.telling.fitted.Goals as goal

pub returns-in_default : goal.returns-in_default
returns-in_default c =
    IfOk-weaker c.memory_document.result _ _ (λ doc memory. fitted_memory _ _ _ _ _ doc c.claim_report-report.ensures (subst (λ (job : Option (List ℕ)). IsMemoryDocument job doc) c.take.ensures.value memory))
    c.memory_document.ensures

pub returns-then-len-gt-MOST_BYTES : goal.returns-then-len-gt-MOST_BYTES
returns-then-len-gt-MOST_BYTES c =
    c.lessened.ensures c.args.job c.args.claim c.claim_report-report.ensures (too_long _ _ _ c.in-Ok.text c.claim_report-report.ensures c.in-Ok.ensures (omega (arith, c.if-len-gt-MOST_BYTES.true, c.len.ensures)))

pub returns : goal.returns
returns c =
    IfOk-weaker c.noted_or_memory.result _ _ (λ doc told. fitted_noted _ _ _ _ _ c.in-Ok.text doc c.claim_report-report.ensures c.in-Ok.ensures
    (omega (arith, c.if-len-gt-MOST_BYTES.false, c.len.ensures)) told) c.noted_or_memory.ensures

pub returns-then-is_none-2 : goal.returns-then-is_none-2
returns-then-is_none-2 c =
    fitted_short _ _ _ _ _ _ (c.is_none.ensures.0 c.if-is_none.true) (is_silent c.args.note c.is_none-then-is_none.result c.is_none-then-is_none.ensures c.if-is_none-2.true) c.claim_report-report.ensures (record { text = c.in-Ok.ensures; error = sym (ap (λ (r : Report). r.error) c.claim_report-report.ensures) })
    (omega (arith, c.if-len-gt-MOST_BYTES.false, c.len.ensures))

pub lessened-requires : goal.lessened-requires
lessened-requires c = (c.args.job, c.args.claim, c.claim_report-report.ensures)
