use Rattle.std.proofs.Common.{◌≡◌, rules}
use Rattle.osrl_grammar.specs.declared.fault.OsrlFault.TheVariants.{Memory}
use Rattle.job_solver.proofs.sieve.claims.Goals as goal

pub returns-in-Err : goal.returns-in-Err
returns-in-Err c = λ report text.
    let lost : c.in-Err.field-0 ≡ Memory = c.report_is_not_refused.ensures.text c.args.document.now report c.in-Err.field-0 text c.in-Err.ensures.err in
    search rules
