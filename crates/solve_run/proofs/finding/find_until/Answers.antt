use Rattle.std.proofs.Common.{rules, sym, subst}
use Rattle.certificate.specs.declared.claims.Claim.{Claim}
use Rattle.branch_bound.specs.Walks.{best as best_of}
use Rattle.solve_run.specs.Untils.{FindsUntil}
use Rattle.solve_run.proofs.Untils.{ends_until}
use Rattle.solve_run.proofs.finding.find_until.Goals as goal

pub returns : goal.returns
returns g c =
    let (n, stopped, oc, bound, tells, (lent, limit, came), answer) = c.find-claim.ensures in
    let given = sym lent in
    let found = ends_until c.args.instance.now c.args.options.now (best_of c.args.first) (g.W.Watch.came c.args.watch.now c.find-claim.new.watch.watch.now) c.find-claim.result.claim c.find-claim.result.turns n stopped oc bound tells answer _ c.find-claim.new.watch.times c.new.ensures came in
    let told : FindsUntil c.args.instance.now c.args.options.now (best_of c.args.first) (g.W.Watch.came c.args.watch.now c.find-claim.new.watch.watch.now) c.named.result c.find-claim.result.turns =
    subst (λ (x : Claim). FindsUntil c.args.instance.now c.args.options.now (best_of c.args.first) (g.W.Watch.came c.args.watch.now c.find-claim.new.watch.watch.now) x c.find-claim.result.turns) (sym c.named.ensures) found in
    search (rules, given, told)
