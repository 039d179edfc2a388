use Rattle.std.proofs.Common.{List, ℕ, subst}
use Rattle.osol_grammar.specs.Reading.{DecodeFails}
use Rattle.os_server.proofs.asking.read_options.Goals as goal

pub returns-in-Err-clause-err : goal.returns-in-Err-clause-err
returns-in-Err-clause-err c =
    c.refused_options.ensures c.args.call.now
    (subst (λ (t : List ℕ). DecodeFails t c.in-Err.fault) c.as_slice.ensures c.in-Err.ensures.err)
