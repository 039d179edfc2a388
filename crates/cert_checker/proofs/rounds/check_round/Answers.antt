use Rattle.std.proofs.Common.{IfErr, List, sym, subst}
use Rattle.certificate.specs.declared.lists.Mult.{Mult}
use Rattle.certificate.specs.declared.nodes.Round.{Round}
use Rattle.certificate.specs.Meanings.{multipliers}
use Rattle.certificate.specs.Meanings as Means
use Rattle.case_tree.specs.Cuts.{cut}
use Rattle.cert_checker.specs.RowRounds.{RowRoundRefuses}
use Rattle.cert_checker.specs.RoundRefusals.{RoundRefuses, AnyRoundRefuses}
use Rattle.cert_checker.proofs.rounds.check_round.Goals as goal

pub returns-in-Whole-clause-err : goal.returns-in-Whole-clause-err
returns-in-Whole-clause-err c =
    let J = cut c.args.program.now c.args.cuts.now in
    subst (λ (r : Round). IfErr c.check_whole_round.result (AnyRoundRefuses J (Means.round r) c.args.round)) (sym c.in-Whole.is)
    (subst (λ (ms : List Mult). IfErr c.check_whole_round.result (RoundRefuses J (multipliers ms) c.args.round)) c.as_slice.ensures c.check_whole_round.ensures.err)

pub returns-in-OfRows-clause-err : goal.returns-in-OfRows-clause-err
returns-in-OfRows-clause-err c =
    let J = cut c.args.program.now c.args.cuts.now in
    subst (λ (r : Round). IfErr c.check_row_round.result (AnyRoundRefuses J (Means.round r) c.args.round)) (sym c.in-OfRows.is)
    (subst (λ (ms : List Mult). IfErr c.check_row_round.result (RowRoundRefuses J (multipliers ms) c.args.round)) c.as_slice-in-OfRows.ensures c.check_row_round.ensures.err)
