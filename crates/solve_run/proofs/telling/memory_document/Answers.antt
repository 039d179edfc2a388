use Rattle.std.proofs.Common.{ap, sym}
use Rattle.osrl_writing.specs.declared.report.Report.{Report}
use Rattle.solve_run.proofs.Texts.{same_document}
use Rattle.solve_run.proofs.telling.memory_document.Goals as goal

pub returns : goal.returns
returns c =
    same_document _ _ _ c.claim_report-report.ensures (record { text = c.in_ok-encode.ensures; error = sym (ap (λ (r : Report). r.error) c.claim_report-report.ensures) })
