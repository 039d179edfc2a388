use mir.Val.{SFits, of_z, to_z}
use mir.Syntax.{w128}
use Rattle.std.proofs.Math.Facts.{to_z-of_z}
use Rattle.std.proofs.Common.{rules, ◌≡◌, ℤ, inl, inr, refl, sym, subst, arith}
use Rattle.std.proofs.lemmas.Result.{err_from_is_err_and}
use Rattle.rational.specs.Ratio.{Ratio, IsSame}
use Rattle.fraction.specs.Frac.{ratio}
use Rattle.evidence.specs.Cases.{low_sum}
use Rattle.evidence.specs.Width.{LowFits}
use Rattle.certificate.specs.Meanings.{multipliers}
use Rattle.case_tree.specs.Cuts.{cut}
use Rattle.cert_checker.specs.Programs.{MakesRound}
use Rattle.cert_checker.specs.RoundRefusals.{WholeFormsBelow}
use Rattle.cert_checker.proofs.Widths.{width_is, cut-instance}
use Rattle.cert_checker.proofs.RoundRows.{round_made}
use Rattle.cert_checker.proofs.rounds.check_whole_round.Goals as goal

pub returns-in_err-check_parts-clause-err : goal.returns-in_err-check_parts-clause-err
returns-in_err-check_parts-clause-err c =
    let p = err_from_is_err_and c.from_residual.result c.from_residual.ensures.1 in
    rw (p.1, p.2) (inr (inl (c.in_default.ensures, c.in_err-check_parts.ensures.err)))

pub returns-in-Err-clause-err : goal.returns-in-Err-clause-err
returns-in-Err-clause-err c =
    let J = cut c.args.program.now c.args.cuts.now in
    let parts = subst (WholeFormsBelow J (multipliers c.args.mults.now)) (sym (width_is c.args.program.now c.args.cuts.now)) c.in_ok-check_parts.ensures.ok in
    inr (inr (c.in_default.ensures, parts, λ f. c.in-Err.ensures.wide (subst (λ (t : Ratio). LowFits J t (multipliers c.args.mults.now)) (sym c.zero.ensures) f), refl))

pub returns-in-Ok-clause-ok : goal.returns-in-Ok-clause-ok
returns-in-Ok-clause-ok c =
    let J = cut c.args.program.now c.args.cuts.now in
    let w = width_is c.args.program.now c.args.cuts.now in
    let a = c.add_columns.auto.slots in
    let r = c.requires.room in
    let parts = subst (WholeFormsBelow J (multipliers c.args.mults.now)) (sym w) c.in_ok-check_parts.ensures.ok in
    let f : SFits w128 c.ceiling.result = search rules in
    let same : to_z w128 (of_z w128 c.ceiling.result) ≡ c.ceiling.result = to_z-of_z f in
    subst (λ (k : ℤ). MakesRound J (multipliers c.args.mults.now) c.add_columns.new.slots k) (sym same)
    (round_made J (cut-instance c.args.program.now c.requires.numbers c.args.cuts.now) c.args.mults.now c.add_columns.new.slots c.in_default.ensures (omega arith)
    (λ j h. c.add_columns.ensures j (omega arith)) parts c.in-Ok.sum c.ceiling.result
    (subst (λ (t : Ratio). LowFits J t (multipliers c.args.mults.now)) c.zero.ensures c.in-Ok.ensures.fits)
    (subst (λ (t : Ratio). IsSame (ratio c.in-Ok.sum) (low_sum J t (multipliers c.args.mults.now))) c.zero.ensures c.in-Ok.ensures.ok)
    c.ceiling.ensures.value c.ceiling.ensures.low)
