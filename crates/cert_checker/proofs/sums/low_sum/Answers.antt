use Rattle.std.proofs.Common.{length, slice_index_or, arith, ap, sym}
use Rattle.std.proofs.lemmas.List.{length-map}
use Rattle.fraction.specs.Frac.{ratio}
use Rattle.evidence.specs.Cases.{Multiplier, multiplier_at, end_of, or_none}
use Rattle.evidence.proofs.Steps.{more, wide}
use Rattle.instance.proofs.Terms.{at_err}
use Rattle.certificate.specs.Meanings.{multiplier, multipliers}
use Rattle.case_tree.specs.Cuts.{cut}
use Rattle.cert_checker.proofs.Lists.{mult_is}
use Rattle.cert_checker.proofs.ColumnSums.{factors-number}
use Rattle.cert_checker.proofs.LowSums.{ends-number}
use Rattle.cert_checker.proofs.Widths.{cut-instance}
use Rattle.cert_checker.proofs.sums.low_sum.Goals as goal

pub returns-in_err-sum-clause-wide : goal.returns-in_err-sum-clause-wide
returns-in_err-sum-clause-wide c =
    let n = length-map c.args.mults.now multiplier in
    let m = mult_is c.args.mults.now c.loop-k.k c.index-mults-k.result c.loop-k-test.true in
    at_err c.from_residual.result
    (wide (ratio c.args.start) (λ k. (multiplier_at (multipliers c.args.mults.now) k).by) (λ k. or_none (end_of (cut c.args.program.now c.args.cuts.now) (multiplier_at (multipliers c.args.mults.now) k))) c.args.start.above (factors-number c.args.mults.now) (ends-number (cut c.args.program.now c.args.cuts.now) (cut-instance c.args.program.now c.requires.numbers c.args.cuts.now) c.args.mults.now)
    c.loop-k.k (length (multipliers c.args.mults.now)) (ratio c.loop-k.sum) (ratio (slice_index_or c.args.mults.now c.loop-k.k c.index-mults-k.result).value) (ratio c.end_at-end.result)
    (ap (λ (q : Multiplier). q.by) m) (sym c.end_at-end.ensures) (omega arith) c.loop-k.sum.above c.loop-k.invariant c.in_err-sum.ensures.wide)

pub loop-k-preserved : goal.loop-k-preserved
loop-k-preserved c =
    let m = mult_is c.args.mults.now c.loop-k.k c.index-mults-k.result c.loop-k-test.true in
    more (ratio c.args.start) (λ k. (multiplier_at (multipliers c.args.mults.now) k).by) (λ k. or_none (end_of (cut c.args.program.now c.args.cuts.now) (multiplier_at (multipliers c.args.mults.now) k))) c.args.start.above (factors-number c.args.mults.now) (ends-number (cut c.args.program.now c.args.cuts.now) (cut-instance c.args.program.now c.requires.numbers c.args.cuts.now) c.args.mults.now)
    c.loop-k.k (ratio c.loop-k.sum) (ratio c.in_ok-sum.sum) (ratio (slice_index_or c.args.mults.now c.loop-k.k c.index-mults-k.result).value) (ratio c.end_at-end.result)
    (ap (λ (q : Multiplier). q.by) m) (sym c.end_at-end.ensures) c.loop-k.sum.above c.in_ok-sum.sum.above c.loop-k.invariant c.in_ok-sum.ensures.ok c.in_ok-sum.ensures.fits
