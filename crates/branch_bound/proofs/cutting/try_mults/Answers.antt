use mir.Val.{SFits}
use mir.Syntax.{w128}
use Rattle.std.proofs.Math.Facts.{to_z-of_z}
use Rattle.std.proofs.Common.{rules, ◌≡◌, ℕ, IsTrue, false, inl, inr, refl, sym, ◌∙◌, ap, subst, length}
use Rattle.std.proofs.lemmas.List.{length-map}
use Rattle.fraction.specs.Frac.{ratio}
use Rattle.evidence.specs.Sums.{IsWhole}
use Rattle.evidence.specs.Instance.{width}
use Rattle.evidence.specs.OneDenominator.{number_at}
use Rattle.rational.specs.Ratio.{whole}
use Rattle.evidence.proofs.Fits.{whole_over_one, over_one_whole}
use Rattle.instance.specs.Program.{program}
use Rattle.instance.proofs.Numbers.{program-instance}
use Rattle.certificate.specs.Meanings.{multipliers}
use Rattle.case_tree.specs.Cuts.{cut_variable}
use Rattle.cert_checker.specs.Programs.{with_rows, numerators, HoldsRow}
use Rattle.cert_checker.proofs.HandRows.{rows-instance, rows_width}
use Rattle.branch_bound.proofs.Trials.{wide_cut, no_form, no_rounding, is_cut}
use Rattle.branch_bound.proofs.cutting.try_mults.Goals as goal

pub returns-in-Err-clause-tries : goal.returns-in-Err-clause-tries
returns-in-Err-clause-tries c = inr (inl (wide_cut (with_rows (program c.args.instance.now) c.args.rows.now) (multipliers c.args.mults) (rw c.as_slice.ensures at c.in-Err.ensures.wide), refl))

pub returns-in-Ok-None-clause-tries : goal.returns-in-Ok-None-clause-tries
returns-in-Ok-None-clause-tries c =
    let (j, first) = rw (c.in-Ok-None.field-0-is, c.as_slice.ensures) at c.in-Ok-None.ensures.ok in
    inl (no_form (with_rows (program c.args.instance.now) c.args.rows.now) (multipliers c.args.mults) j first, refl)

pub returns-then-is_whole-clause-tries : goal.returns-then-is_whole-clause-tries
returns-then-is_whole-clause-tries c =
    let s = c.in-Ok-Some.sum in
    inl (no_rounding (with_rows (program c.args.instance.now) c.args.rows.now) (multipliers c.args.mults) c.round_sum.new.slots s (rw (c.in-Ok-Some.field-0-is, c.as_slice.ensures) at c.in-Ok-Some.ensures.ok) (over_one_whole (ratio s) (c.if-is_whole.ensures.0 refl)), refl)

pub returns-else-is_whole-clause-tries : goal.returns-else-is_whole-clause-tries
returns-else-is_whole-clause-tries c =
    let p = c.args.instance.now in
    let J = with_rows (program p) c.args.rows.now in
    let s = c.in-Ok-Some.sum in
    let f : SFits w128 c.ceiling-low.result = search rules in
    let isnt : IsWhole (ratio s) → ⊥ = λ w. let f : IsTrue false = c.if-is_whole.ensures.1 (whole_over_one (ratio s) (s.above, s.reduced) w) in cc in
    let may = rw (c.in-Ok-Some.field-0-is, c.as_slice.ensures) at c.in-Ok-Some.ensures.ok in
    rw (to_z-of_z f) (inr (inr (
      numerators c.round_sum.new.slots,
      c.ceiling-low.result,
      is_cut J (multipliers c.args.mults) c.round_sum.new.slots s may c.ceiling-low.result (rows-instance (program p) c.args.rows.now (program-instance p)) c.requires.legal isnt c.ceiling-low.ensures.value c.ceiling-low.ensures.low,
      refl,
    )))

pub returns-else-is_whole-clause-holds : goal.returns-else-is_whole-clause-holds
returns-else-is_whole-clause-holds c =
    let I = program c.args.instance.now in
    let f : SFits w128 c.ceiling-low.result = search rules in
    let may = rw (c.in-Ok-Some.field-0-is, c.as_slice.ensures) at c.in-Ok-Some.ensures.ok in
    let wide : width (with_rows I c.args.rows.now) ≡ length c.args.cuts.now =
    rows_width I c.args.rows.now ∙ sym (ap length c.requires.uncut) ∙ length-map c.args.cuts.now cut_variable in
    rw (to_z-of_z f) (
      subst (λ (n : ℕ). HoldsRow n (λ j. whole (number_at (numerators c.round_sum.new.slots) j)) c.round_sum.new.slots) wide (may.makes c.ceiling-low.result c.ceiling-low.ensures.value c.ceiling-low.ensures.low).row,
      c.ceiling-low.ensures.low,
    )
