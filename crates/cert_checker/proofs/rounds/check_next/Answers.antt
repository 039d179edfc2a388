use Rattle.std.proofs.Common.{◌<◌, IfOk, IfErr, length, get_or, arith, sym, ap, ◌∙◌, subst}
use Rattle.std.proofs.lemmas.List.{length-map}
use Rattle.evidence.specs.Instance.{Instance, IsInstance, width}
use Rattle.instance.specs.Program.{program}
use Rattle.certificate.specs.Meanings.{round}
use Rattle.case_tree.specs.Cuts.{cut, cut_variable}
use Rattle.cert_checker.specs.Programs.{GivesRow}
use Rattle.cert_checker.specs.RoundRefusals.{AnyRoundRefuses}
use Rattle.cert_checker.proofs.HandRows.{rows_width, first_hand, hand-instance}
use Rattle.cert_checker.proofs.rounds.check_next.Goals as goal

pub check_round-requires-clause-count : goal.check_round-requires-clause-count
check_round-requires-clause-count c = sym (length-map c.args.cuts.now cut_variable) ∙ ap length c.requires.uncut ∙ sym (ap width c.of-program.ensures ∙ rows_width (program c.args.instance.now) c.args.added.now)

pub check_round-requires-clause-numbers : goal.check_round-requires-clause-numbers
check_round-requires-clause-numbers c = subst IsInstance (sym c.of-program.ensures) (hand-instance c.args.instance.now c.args.added.now c.index-goals-0.result)

pub returns-clause-ok : goal.returns-clause-ok
returns-clause-ok c =
    let g = c.index-goals-0.result in
    let is = c.index-goals-0.is ∙ ap (λ l. get_or l 0 g) c.goals-goals.ensures.value in
    let some : 0 < length c.args.instance.now.goals = (let v = c.goals-goals.ensures.valid.some_goal in omega arith) in
    let e = ap (λ (I : Instance). cut I c.args.cuts.now) c.of-program.ensures ∙ first_hand c.args.instance.now c.args.added.now g c.args.cuts.now c.requires.uncut some is in
    subst (λ (J : Instance). IfOk c.check_round.result (GivesRow J (round c.args.cutting.now) c.check_round.new.slots)) e c.check_round.ensures.ok

pub returns-clause-err : goal.returns-clause-err
returns-clause-err c =
    let g = c.index-goals-0.result in
    let is = c.index-goals-0.is ∙ ap (λ l. get_or l 0 g) c.goals-goals.ensures.value in
    let some : 0 < length c.args.instance.now.goals = (let v = c.goals-goals.ensures.valid.some_goal in omega arith) in
    let e = ap (λ (I : Instance). cut I c.args.cuts.now) c.of-program.ensures ∙ first_hand c.args.instance.now c.args.added.now g c.args.cuts.now c.requires.uncut some is in
    subst (λ (J : Instance). IfErr c.check_round.result (AnyRoundRefuses J (round c.args.cutting.now) c.args.round)) e c.check_round.ensures.err
