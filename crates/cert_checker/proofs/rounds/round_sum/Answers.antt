use Rattle.std.proofs.Common.{ℕ, ◌<◌, IfOk, OnErr, MatchOption, length, get_or, sym, ap, ◌∙◌, subst, arith}
use Rattle.std.proofs.lemmas.List.{length-map}
use Rattle.evidence.specs.Instance.{Instance, IsInstance, width}
use Rattle.evidence.specs.Cases.{AreLegal}
use Rattle.instance.specs.Program.{program}
use Rattle.certificate.specs.Meanings.{multipliers}
use Rattle.case_tree.specs.Cuts.{cut, cut_variable}
use Rattle.cert_checker.specs.Programs.{MayRound}
use Rattle.cert_checker.specs.RoundRefusals.{IsFirstPart, IsWideRound}
use Rattle.cert_checker.proofs.HandRows.{rows_width, first_hand, hand-instance}
use Rattle.cert_checker.proofs.rounds.round_sum.Goals as goal

pub sum_ends-requires-clause-count : goal.sum_ends-requires-clause-count
sum_ends-requires-clause-count c = sym (length-map c.args.cuts.now cut_variable) ∙ ap length c.requires.uncut ∙ sym (ap width c.of-program.ensures ∙ rows_width (program c.args.instance.now) c.args.added.now)

pub sum_ends-requires-clause-numbers : goal.sum_ends-requires-clause-numbers
sum_ends-requires-clause-numbers c = subst IsInstance (sym c.of-program.ensures) (hand-instance c.args.instance.now c.args.added.now c.index-goals-0.result)

pub sum_ends-requires-clause-legal : goal.sum_ends-requires-clause-legal
sum_ends-requires-clause-legal c =
    let g = c.index-goals-0.result in
    let is = c.index-goals-0.is ∙ ap (λ l. get_or l 0 g) c.goals-goals.ensures.value in
    let some : 0 < length c.args.instance.now.goals = (let v = c.goals-goals.ensures.valid.some_goal in omega arith) in
    let e = ap (λ (I : Instance). cut I c.args.cuts.now) c.of-program.ensures ∙ first_hand c.args.instance.now c.args.added.now g c.args.cuts.now c.requires.uncut some is in
    subst (λ (J : Instance). AreLegal J (multipliers c.args.mults.now)) (sym e) c.requires.legal

pub returns-clause-ok : goal.returns-clause-ok
returns-clause-ok c =
    let g = c.index-goals-0.result in
    let is = c.index-goals-0.is ∙ ap (λ l. get_or l 0 g) c.goals-goals.ensures.value in
    let some : 0 < length c.args.instance.now.goals = (let v = c.goals-goals.ensures.valid.some_goal in omega arith) in
    let e = ap (λ (I : Instance). cut I c.args.cuts.now) c.of-program.ensures ∙ first_hand c.args.instance.now c.args.added.now g c.args.cuts.now c.requires.uncut some is in
    subst (λ (J : Instance). IfOk c.sum_ends.result (λ told. MatchOption told ((j : ℕ) × IsFirstPart J (multipliers c.args.mults.now) j) (MayRound J (multipliers c.args.mults.now) c.sum_ends.new.slots))) e c.sum_ends.ensures.ok

pub returns-clause-wide : goal.returns-clause-wide
returns-clause-wide c =
    let g = c.index-goals-0.result in
    let is = c.index-goals-0.is ∙ ap (λ l. get_or l 0 g) c.goals-goals.ensures.value in
    let some : 0 < length c.args.instance.now.goals = (let v = c.goals-goals.ensures.valid.some_goal in omega arith) in
    let e = ap (λ (I : Instance). cut I c.args.cuts.now) c.of-program.ensures ∙ first_hand c.args.instance.now c.args.added.now g c.args.cuts.now c.requires.uncut some is in
    subst (λ (J : Instance). OnErr c.sum_ends.result (IsWideRound J (multipliers c.args.mults.now))) e c.sum_ends.ensures.wide
