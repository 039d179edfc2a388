use Rattle.std.proofs.Common.{◌⊎◌, inl, Option, refl, sym, subst}
use Rattle.certificate.specs.Meanings as Means
use Rattle.certificate.specs.declared.causes.Cause.TheVariants.{Memory}
use Rattle.certificate.specs.declared.claims.Claim.TheVariants as Has
use Rattle.search_rules.specs.Search.{early}
use Rattle.branch_bound.specs.declared.found.Found.{Found}
use Rattle.branch_bound.specs.Claims.{ClaimTells}
use Rattle.branch_bound.specs.Walks.{best}
use Rattle.branch_bound.specs.Cases.{closed_by}
use Rattle.branch_bound.proofs.claims.all_closed.Goals as goal

pub returns-in-Some : goal.returns-in-Some
returns-in-Some c =
    let v = c.args.level in
    subst (λ (b : Option Found). ClaimTells c.told_best.result (closed_by (Means.certificates v.certs) (record { rounds = Means.rounds v.rounds; nodes = Means.nodes c.args.nodes }) (best b)) ⊎ ClaimTells c.told_best.result (early (best b) Memory)) (sym c.in-Some.is) c.told_best.ensures

pub returns-in-None : goal.returns-in-None
returns-in-None c =
    let v = c.args.level in
    inl (subst (λ (b : Option Found). ClaimTells (Has.Infeasible (record { rounds = v.rounds; nodes = c.args.nodes })) (closed_by (Means.certificates v.certs) (record { rounds = Means.rounds v.rounds; nodes = Means.nodes c.args.nodes }) (best b))) (sym c.in-None.is) (record { says = refl; cause = refl }))
