use mir.Val.{SFits, of_z, to_z}
use mir.Syntax.{w128}
use Rattle.std.proofs.Math.Facts.{to_z-of_z}
use Rattle.std.proofs.Common.{rules, ◌≡◌, ◌<◌, Some, None, length, take, arith, ap, ◌∙◌}
use Rattle.std.proofs.lemmas.Result.{err_from_is_err_and}
use Rattle.std.proofs.lemmas.List.{length-map}
use Rattle.rational.specs.Ratio.{Ratio, whole}
use Rattle.evidence.specs.Instance.{Range, width}
use Rattle.evidence.specs.OneDenominator.{number_at}
use Rattle.instance.specs.Program.{variable, row, program}
use Rattle.certificate.specs.Meanings as Means
use Rattle.case_tree.specs.Cuts.{cut_variable}
use Rattle.cert_checker.specs.Programs.{with_rows, numerators, GivesRow}
use Rattle.cert_checker.proofs.AddedLeads.{wide_with}
use Rattle.cert_checker.proofs.HandRows.{rows_width}
use Rattle.cert_checker.proofs.NextLevel.{rounds_first, round_refused, round_next, rounds_last}
use Rattle.cert_checker.proofs.rounds.check_rounds.Goals as goal

pub loop-i-init : goal.loop-i-init
loop-i-init c = record { wide = λ n w. w; leads = rounds_first c.args.instance.now c.args.rounds.now c.args.added.now }

pub returns-in_err-low-clause-err : goal.returns-in_err-low-clause-err
returns-in_err-low-clause-err c =
    let p = err_from_is_err_and c.from_residual.result c.from_residual.ensures.1 in
    let k = c.loop-i.i in
    let J = with_rows (program c.args.instance.now) (take k c.loop-i.added) in
    let e = c.in_err-low.field-0.0 in
    rw (p.1, p.2)
    (round_refused c.args.instance.now c.args.rounds.now c.loop-i.added k c.index-rounds-i.result c.loop-i-test.true c.index-rounds-i.is c.loop-i.invariant.leads e c.in_err-low.ensures.err)

pub put-requires : goal.put-requires
put-requires c =
    let t = c.loop-i-test.true in
    let long = c.loop-i.auto.added in
    let h : c.loop-i.i < length c.loop-i.added = (let r = c.requires.room in omega arith) in
    let q = c.loop-i.invariant.wide (length c.args.cuts.now) c.requires.wide c.loop-i.i c.index-added-i.result h in
    let a = c.check_next.auto.slots in
    let d = c.loop-i.auto.slots in
    let e = c.requires.slots in
    omega arith

pub loop-i-preserved : goal.loop-i-preserved
loop-i-preserved c =
    let p = c.args.instance.now in
    let k = c.loop-i.i in
    let J = with_rows (program p) (take k c.loop-i.added) in
    let t = c.loop-i-test.true in
    let long = c.loop-i.auto.added in
    let h : k < length c.loop-i.added = (let r = c.requires.room in omega arith) in
    let size = c.put.ensures.size in
    let slots = c.check_next.new.slots in
    let fits : SFits w128 c.in_ok-low.low = search rules in
    let same : to_z w128 (of_z w128 c.in_ok-low.low) ≡ c.in_ok-low.low = to_z-of_z fits in
    let made : GivesRow J (Means.round c.index-rounds-i.result) slots c.in_ok-low.low = c.in_ok-low.ensures.ok in
    let a = c.check_next.auto.slots in
    let d = c.loop-i.auto.slots in
    let e = c.requires.slots in
    let wide_by = length-map c.args.cuts.now cut_variable in
    let uncut = ap length c.requires.uncut in
    let w = rows_width (program p) (take k c.loop-i.added) in
    let n = length-map p.vars variable in
    record {
      wide = λ m g. let q = c.loop-i.invariant.wide m g k c.index-added-i.result h in wide_with c.loop-i.added k c.put.new.row m (omega arith) (c.loop-i.invariant.wide m g);
      leads =
          round_next p c.args.rounds.now c.loop-i.added k c.index-rounds-i.result t c.index-rounds-i.is c.loop-i.invariant.leads slots c.in_ok-low.low c.put.new.row h made
          (ap row c.put.ensures.ends ∙ ap (λ (x : Ratio). let r : Range = record { lb = Some x; ub = None } in r) (c.whole.ensures ∙ ap whole same))
          (λ j g. c.put.ensures.row (width J) (λ i. whole (number_at (numerators slots) i)) (omega arith) made.row j (omega arith));
    }

pub returns-clause-ok : goal.returns-clause-ok
returns-clause-ok c =
    rounds_last c.args.instance.now c.args.rounds.now c.loop-i.added c.loop-i.i (let a = c.loop-i.auto.i-end in let t = c.loop-i-test.false in omega arith) c.loop-i.invariant.leads
