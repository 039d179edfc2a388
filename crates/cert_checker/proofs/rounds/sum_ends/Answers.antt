use Rattle.std.proofs.Common.{Option, None, Some, Result, Ok, Err, IfOk, OnErr, MatchOption, inl, inr, arith, sym, subst}
use Rattle.std.specs.Prelude.{MatchResult}
use Rattle.rational.specs.Ratio.{Ratio, IsSame}
use Rattle.fraction.specs.Frac.{ratio}
use Rattle.evidence.specs.Cases.{low_sum}
use Rattle.evidence.specs.Width.{LowFits}
use Rattle.instance.proofs.Terms.{at_err}
use Rattle.certificate.specs.Meanings.{multipliers}
use Rattle.case_tree.specs.Cuts.{cut}
use Rattle.cert_checker.specs.RoundRefusals.{WholeFormsBelow}
use Rattle.cert_checker.proofs.Widths.{width_is, cut-instance}
use Rattle.cert_checker.proofs.RoundRows.{round_made}
use Rattle.cert_checker.proofs.rounds.sum_ends.Goals as goal

-- what a refusal tells is told of any sum
module _ (T E A U : Type 0) where
  abbrev IsTold : Result (Option T) E → Type 0
  IsTold r = MatchResult r (λ told. MatchOption told A (λ _. ⊥)) (λ _. U)

  parts : (B : T → Type 0) (r : Result (Option T) E) → IsTold r → IfOk r (λ told. MatchOption told A B)
  parts B (Ok None) t = t
  parts B (Ok (Some x)) t = absurd t
  parts B (Err e) t = tt

  widths : (V : Type 0) (r : Result (Option T) E) → (U → V) → IsTold r → OnErr r V
  widths V (Ok x) f t = tt
  widths V (Err e) f t = f t

pub returns-in-Err-clause-ok : goal.returns-in-Err-clause-ok
returns-in-Err-clause-ok c = parts _ _ _ _ _ c.told_by.result (c.told_by.ensures (cut c.args.program.now c.args.cuts.now) (multipliers c.args.mults.now) 0 c.in-Err.ensures.err)

pub returns-in-Err-clause-wide : goal.returns-in-Err-clause-wide
returns-in-Err-clause-wide c = widths _ _ _ _ _ c.told_by.result (λ j. inl j) (c.told_by.ensures (cut c.args.program.now c.args.cuts.now) (multipliers c.args.mults.now) 0 c.in-Err.ensures.err)

pub returns-in_err-sum-in-Ok-clause-wide : goal.returns-in_err-sum-in-Ok-clause-wide
returns-in_err-sum-in-Ok-clause-wide c =
    let J = cut c.args.program.now c.args.cuts.now in
    let parts = subst (WholeFormsBelow J (multipliers c.args.mults.now)) (sym (width_is c.args.program.now c.args.cuts.now)) c.in-Ok.ensures.ok in
    at_err c.from_residual.result (inr (parts, λ f. c.in_err-sum-in-Ok.ensures.wide (subst (λ (t : Ratio). LowFits J t (multipliers c.args.mults.now)) (sym c.zero.ensures) f)))

pub returns-in_ok-sum-in-Ok-clause-ok : goal.returns-in_ok-sum-in-Ok-clause-ok
returns-in_ok-sum-in-Ok-clause-ok c =
    let J = cut c.args.program.now c.args.cuts.now in
    let w = width_is c.args.program.now c.args.cuts.now in
    let a = c.add_columns.auto.slots in
    let r = c.requires.room in
    let parts = subst (WholeFormsBelow J (multipliers c.args.mults.now)) (sym w) c.in-Ok.ensures.ok in
    let fits = subst (λ (t : Ratio). LowFits J t (multipliers c.args.mults.now)) c.zero.ensures c.in_ok-sum-in-Ok.ensures.fits in
    let same = subst (λ (t : Ratio). IsSame (ratio c.in_ok-sum-in-Ok.sum) (low_sum J t (multipliers c.args.mults.now))) c.zero.ensures c.in_ok-sum-in-Ok.ensures.ok in
    record {
      forms = parts;
      fits = fits;
      same = same;
      makes = λ k ceiling low.
          round_made J (cut-instance c.args.program.now c.requires.numbers c.args.cuts.now) c.args.mults.now c.add_columns.new.slots c.requires.legal (omega arith) (λ j h. c.add_columns.ensures j (omega arith)) parts c.in_ok-sum-in-Ok.sum k fits same ceiling low;
    }
