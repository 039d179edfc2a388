use Rattle.std.proofs.Common.{List, inl, ap, ◌∙◌}
use Rattle.evidence.specs.Cases.{Multiplier, FarkasBy}
use Rattle.certificate.specs.Meanings as Means
use Rattle.instance.proofs.Terms.{if_ok}
use Rattle.search_rules.specs.Search.{To, closed_by_leaf}
use Rattle.branch_bound.specs.Walks as Walks
use Rattle.branch_bound.specs.Levels.{moment}
use Rattle.branch_bound.proofs.Moments.{closes}
use Rattle.branch_bound.proofs.PointSteps.{if_err, kept_values}
use Rattle.certificate.specs.declared.causes.Cause.TheVariants.{Memory}
use Rattle.branch_bound.proofs.GivenUp.{given_up, for_memory}
use Rattle.branch_bound.proofs.visit.at_empty.Goals as goal

pub returns-in-Ok-clause-values : goal.returns-in-Ok-clause-values
returns-in-Ok-clause-values g c = if_ok c.leaf.result (λ x by. kept_values c.args.instance.now c.args.walk.now.best c.leaf.new.walk.best by.point c.requires.values) c.leaf.ensures.ok

pub returns-in-Ok-clause-ok : goal.returns-in-Ok-clause-ok
returns-in-Ok-clause-ok g c =
    let p = c.args.instance.now in
    let w = c.args.walk.now in
    if_ok c.leaf.result
    (λ x by L D l t before at.
    ap To (closes p L D l at w c.args.depth c.leaf.new.walk (FarkasBy (Means.multipliers c.in-Ok.mults)) by ∙ ap (λ (ms : List Multiplier). closed_by_leaf (moment p L D l w at) (Walks.rest D w c.args.depth) (FarkasBy ms)) c.in-Ok.ensures))
    c.leaf.ensures.ok

pub returns-in-Ok-clause-err : goal.returns-in-Ok-clause-err
returns-in-Ok-clause-err g c = if_err c.leaf.result (λ ended lacks. inl lacks) c.leaf.ensures.err

pub returns-in-Err-clause-err : goal.returns-in-Err-clause-err
returns-in-Err-clause-err g c = inl c.give_up.ensures.told

pub returns-in-Ok-clause-carried : goal.returns-in-Ok-clause-carried
returns-in-Ok-clause-carried g c = if_ok c.leaf.result (λ x told. told.0) c.leaf.ensures.carried

pub returns-in-Ok-clause-leaves : goal.returns-in-Ok-clause-leaves
returns-in-Ok-clause-leaves g c = if_ok c.leaf.result (λ x told. told.1) c.leaf.ensures.carried

-- the walk stays where the search is given up
pub returns-in-Ok-clause-stays : goal.returns-in-Ok-clause-stays
returns-in-Ok-clause-stays g c = if_err c.leaf.result (λ ended lacks. for_memory c.args.walk.now c.leaf.new.walk ended lacks) c.leaf.ensures.memory

pub returns-in-Err-clause-stays : goal.returns-in-Err-clause-stays
returns-in-Err-clause-stays g c = given_up c.args.walk.now c.give_up.new.walk c.give_up.result Memory c.give_up.ensures.is c.give_up.ensures.rest
