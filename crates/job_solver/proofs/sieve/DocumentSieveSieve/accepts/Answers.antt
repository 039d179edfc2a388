use Rattle.std.proofs.Common.{◌≡◌, true, false, sym, ◌∙◌}
use Rattle.job_solver.proofs.Sieves.{no_report, claims_none, is_accepted, not_accepted}
use Rattle.job_solver.proofs.sieve.DocumentSieveSieve.accepts.Goals as goal

pub returns-in-Ok-None : goal.returns-in-Ok-None
returns-in-Ok-None c = no_report c.args.osil.now c.args.document.now (rw c.in-Ok-None.field-0-is at c.in-Ok-None.ensures)

pub returns-in-Ok-Some-false : goal.returns-in-Ok-Some-false
returns-in-Ok-Some-false c =
    let told = c.in-Ok-Some-false in
    claims_none c.args.osil.now c.args.document.now (rw (told.field-0-is, told.field-0-0-test) at told.ensures)

pub returns-in-Ok : goal.returns-in-Ok
returns-in-Ok c = is_accepted c.args.osil.now c.args.document.now c.in-Ok.field-0 c.in-Ok.ensures.ok

pub returns : goal.returns
returns c =
    let told = c.in-Ok-Some-true in
    not_accepted c.args.osil.now c.args.document.now c.document_has_one_report.ensures.text c.accepted_documents_are_not_refused.ensures c.in-Err-check_docs.fault
    (rw (told.field-0-is, told.field-0-0-test) at told.ensures) c.in-Err-check_docs.ensures.err
    (λ lost. let wrong : true ≡ false = sym (c.is_lost.ensures.1 lost) ∙ c.if-is_lost.false in cc)
