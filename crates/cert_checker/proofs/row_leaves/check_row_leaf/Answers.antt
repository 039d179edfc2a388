use Rattle.std.proofs.Common.{IsTrue, false, inl, inr, refl, subst}
use Rattle.std.proofs.lemmas.Result.{err_from_is_err_and}
use Rattle.rational.specs.Ratio.{Ratio}
use Rattle.fraction.specs.Frac.{ratio}
use Rattle.evidence.specs.Width.{LowFits}
use Rattle.certificate.specs.Meanings.{multipliers}
use Rattle.case_tree.specs.Cuts.{cut}
use Rattle.cert_checker.specs.Cuts as Of
use Rattle.cert_checker.specs.Leaves.{wanted}
use Rattle.cert_checker.specs.RowLeaves.{all_of}
use Rattle.cert_checker.specs.Slots.{HoldsLow}
use Rattle.cert_checker.proofs.Widths.{cut-instance}
use Rattle.cert_checker.proofs.LowSums.{has_sum, lacks_sum}
use Rattle.cert_checker.proofs.RowLeaves.{wanted-number}
use Rattle.cert_checker.proofs.Lefts.{numbers_of, completed-number}
use Rattle.cert_checker.proofs.row_leaves.check_row_leaf.Goals as goal

pub returns-in_err-low-clause-err : goal.returns-in_err-low-clause-err
returns-in_err-low-clause-err c =
    let p = err_from_is_err_and c.from_residual.result c.from_residual.ensures.1 in
    rw (p.1, p.2) (inl c.in_err-low.ensures.err)

pub returns-in-None-clause-err : goal.returns-in-None-clause-err
returns-in-None-clause-err c =
    let J = cut c.args.program.now c.args.cuts.now in
    let ms = multipliers c.args.mults.now in
    let z = Of.aim c.args.aim in
    let unfit = subst (λ o. HoldsLow J (ratio c.start_of-start.result) (all_of J ms z) o) c.in-None.is c.in_ok-low.ensures.low in
    inr (c.in_ok-low.ensures.stand, inl (subst (λ (s : Ratio). LowFits J s (all_of J ms z) → ⊥) (c.start_of-start.ensures c.args.cuts.now) unfit, refl))

pub returns-then-reaches-clause-ok : goal.returns-then-reaches-clause-ok
returns-then-reaches-clause-ok c =
    let J = cut c.args.program.now c.args.cuts.now in
    let good = cut-instance c.args.program.now c.requires.numbers c.args.cuts.now in
    let ms = multipliers c.args.mults.now in
    let z = Of.aim c.args.aim in
    let held = subst (λ o. HoldsLow J (ratio c.start_of-start.result) (all_of J ms z) o) c.in-Some.is c.in_ok-low.ensures.low in
    let number = completed-number J good ms (numbers_of c.args.mults.now) (wanted J z) (wanted-number J good z) (ratio c.start_of-start.result) c.start_of-start.result.above in
    record {
      stand = c.in_ok-low.ensures.stand;
      sum = has_sum J (all_of J ms z) c.args.aim c.start_of-start.result c.in-Some.sum (c.start_of-start.ensures c.args.cuts.now) number held.0 held.1 (c.reaches.ensures.0 c.if-reaches.true);
    }

pub returns-else-reaches-clause-err : goal.returns-else-reaches-clause-err
returns-else-reaches-clause-err c =
    let J = cut c.args.program.now c.args.cuts.now in
    let good = cut-instance c.args.program.now c.requires.numbers c.args.cuts.now in
    let ms = multipliers c.args.mults.now in
    let z = Of.aim c.args.aim in
    let held = subst (λ o. HoldsLow J (ratio c.start_of-start.result) (all_of J ms z) o) c.in-Some.is c.in_ok-low.ensures.low in
    let number = completed-number J good ms (numbers_of c.args.mults.now) (wanted J z) (wanted-number J good z) (ratio c.start_of-start.result) c.start_of-start.result.above in
    inr (
      c.in_ok-low.ensures.stand,
      lacks_sum J (all_of J ms z) c.args.aim c.start_of-start.result c.in-Some.sum (c.start_of-start.ensures c.args.cuts.now) number held.0 held.1 c.args.node (λ r. let t : IsTrue false = c.if-reaches.ensures.1 r in cc),
    )
