use Rattle.std.proofs.Common.{◌≡◌, None, Some, subst}
use Rattle.fraction.specs.Frac.{ratio}
use Rattle.fraction.specs.declared.frac.Frac.{Frac}
use Rattle.certificate.specs.Meanings.{multipliers}
use Rattle.case_tree.specs.Cuts.{cut}
use Rattle.cert_checker.specs.Slots.{HoldsLow}
use Rattle.cert_checker.proofs.row_leaves.add_rows.Goals as goal

pub returns-in-Ok-clause-some : goal.returns-in-Ok-clause-some
returns-in-Ok-clause-some c = λ s e.
    let q : c.in-Some.sum ≡ s = cc in
    subst (λ (t : Frac). HoldsLow (cut c.args.program.now c.args.cuts.now) (ratio t) (multipliers c.args.mults.now) (Some c.in-Ok.all)) q (c.in-Ok.ensures.fits, c.in-Ok.ensures.ok)

pub returns-in-Err-clause-some : goal.returns-in-Err-clause-some
returns-in-Err-clause-some c = λ s e.
    let q : c.in-Some.sum ≡ s = cc in
    subst (λ (t : Frac). HoldsLow (cut c.args.program.now c.args.cuts.now) (ratio t) (multipliers c.args.mults.now) None) q c.in-Err.ensures.wide
