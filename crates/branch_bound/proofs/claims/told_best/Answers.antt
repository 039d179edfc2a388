use Rattle.std.proofs.Common.{inl, inr, List, refl, ap, ◌∙◌}
use Rattle.std.proofs.lemmas.List.{map_push}
use Rattle.fraction.specs.Frac.{ratios}
use Rattle.evidence.specs.Rounds.{Certificate}
use Rattle.evidence.specs.Claim as Says
use Rattle.certificate.specs.Meanings as Means
use Rattle.branch_bound.proofs.claims.told_best.Goals as goal

pub returns-in-Ok : goal.returns-in-Ok
returns-in-Ok c =
    let f = c.args.found in
    inl (record {
      says = ap (λ (cs : List Certificate). Says.Optimal (ratios f.point) (ratios f.values) cs) (ap Means.certificates c.in-Ok.ensures.ok ∙ map_push Means.certificate c.args.level.certs _);
      cause = refl;
    })

pub returns-in-Err : goal.returns-in-Err
returns-in-Err c = inr (record { says = refl; cause = refl })
