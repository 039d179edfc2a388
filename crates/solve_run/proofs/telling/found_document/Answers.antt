use Rattle.std.proofs.Common.{inr, arith, sym, subst}
use Rattle.std.proofs.lemmas.Result.{IfOk-weaker}
use Rattle.certificate.specs.declared.claims.Claim.{Claim}
use Rattle.solve_run.specs.Judging.{IsShownClaim, HasFewRounds}
use Rattle.solve_run.specs.Closings.{IsFormed}
use Rattle.solve_run.proofs.Closings.{checked_shown, checked_few, told}
use Rattle.solve_run.proofs.telling.found_document.Goals as goal

pub formed-requires-clause-shown : goal.formed-requires-clause-shown
formed-requires-clause-shown c = subst (IsShownClaim c.args.instance.now) (sym c.checked.ensures) (checked_shown c.args.instance.now c.args.found c.args.turns c.in-Ok.verdict c.requires.shown)

pub formed-requires-clause-few : goal.formed-requires-clause-few
formed-requires-clause-few c = subst HasFewRounds (sym c.checked.ensures) (checked_few c.args.found c.args.turns c.in-Ok.verdict c.requires.few)

pub returns-in-Ok-formed : goal.returns-in-Ok-formed
returns-in-Ok-formed c =
    IfOk-weaker c.fitted.result _ _ (λ doc fitted. told c.args.instance.now c.args.names.now c.args.note c.args.job c.args.form c.args.turns c.args.found c.in-Ok.verdict c.in-Ok-formed.claim doc
    c.requires.valid c.requires.shown c.requires.few c.read_causes.ensures (omega (arith, c.ranges.turns.fits)) c.in-Ok.ensures.few c.in-Ok.ensures.judged
    (subst (λ (x : Claim). IsFormed c.args.instance.now c.args.job c.args.form x c.in-Ok-formed.claim) c.checked.ensures c.in-Ok-formed.ensures) fitted) c.fitted.ensures

pub returns-in-Err : goal.returns-in-Err
returns-in-Err c = IfOk-weaker c.memory_document-in-Err.result _ _ (λ doc memory. inr memory) c.memory_document-in-Err.ensures

pub returns-in_default : goal.returns-in_default
returns-in_default c = IfOk-weaker c.memory_document.result _ _ (λ doc memory. inr memory) c.memory_document.ensures
