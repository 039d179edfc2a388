use Rattle.std.proofs.Common.{◌≡◌, Option, None, [], ◌∷◌, inl, refl, ap, arith}
use Rattle.std.proofs.lemmas.List.{length-map}
use Rattle.instance.specs.Program.{program}
use Rattle.instance.proofs.Terms.{if_ok}
use Rattle.case_tree.specs.declared.cuts.Division.TheVariants.{Zero}
use Rattle.case_tree.specs.Cuts.{cut_variable}
use Rattle.search_rules.specs.Search.{To}
use Rattle.branch_bound.proofs.Moments.{divides}
use Rattle.branch_bound.proofs.PointSteps.{if_err, kept_values}
use Rattle.branch_bound.specs.declared.carried.Carried.{Carried}
use Rattle.branch_bound.specs.Walks.{ray}
use Rattle.branch_bound.proofs.KeptAfter.{both_are, along_direction}
use Rattle.branch_bound.proofs.GivenUp.{for_memory}
use Rattle.branch_bound.proofs.visit.at_endless.Goals as goal

pub branch-walk-requires-clause-inside : goal.branch-walk-requires-clause-inside
branch-walk-requires-clause-inside g c =
    let w = c.args.walk.now in
    let first = rw (c.as_slice.ensures.value, c.as_slice-2.ensures.value) at c.in-Some.ensures (program c.args.instance.now) w.ray in
    let low = first.moving.branch.variable in
    let n = length-map w.cuts.items cut_variable in
    omega arith

pub keep_ray-requires-clause-none : goal.keep_ray-requires-clause-none
keep_ray-requires-clause-none g c = λ D. rw (c.as_slice.ensures.value, c.as_slice-2.ensures.value) at c.in-None.ensures D c.args.walk.now.ray

pub returns-in-Some-clause-values : goal.returns-in-Some-clause-values
returns-in-Some-clause-values g c = if_ok c.branch-walk.result (λ x by. kept_values c.args.instance.now c.args.walk.now.best c.branch-walk.new.walk.best by.point c.requires.values) c.branch-walk.ensures.ok

pub returns-in-Some-clause-ok : goal.returns-in-Some-clause-ok
returns-in-Some-clause-ok g c =
    let p = c.args.instance.now in
    let w = c.args.walk.now in
    if_ok c.branch-walk.result
    (λ x by none L D l t before at.
    let first = rw (c.as_slice.ensures.value, c.as_slice-2.ensures.value) at c.in-Some.ensures D w.ray in
    inl (c.in-Some.col, first, ap To (divides p L D l at w c.args.depth c.branch-walk.new.walk Zero c.in-Some.col by)))
    c.branch-walk.ensures.ok

pub returns-in-Some-clause-err : goal.returns-in-Some-clause-err
returns-in-Some-clause-err g c = if_err c.branch-walk.result (λ ended lacks. inl lacks) c.branch-walk.ensures.err

pub returns-in-Some-clause-carried : goal.returns-in-Some-clause-carried
returns-in-Some-clause-carried g c = if_ok c.branch-walk.result (λ x told. told.0) c.branch-walk.ensures.carried

pub returns-in-Some-clause-leaves : goal.returns-in-Some-clause-leaves
returns-in-Some-clause-leaves g c =
    let w = c.args.walk.now in
    if_ok c.branch-walk.result (λ x told. along_direction w c.branch-walk.new.walk c.args.depth (ray w.ray) _ _ (None ∷ None ∷ []) (both_are (λ (k : Option Carried). k ≡ None) None refl) told.1) c.branch-walk.ensures.carried

-- the walk stays where the search is given up
pub returns-in-Some-clause-stays : goal.returns-in-Some-clause-stays
returns-in-Some-clause-stays g c = if_err c.branch-walk.result (λ ended lacks. for_memory c.args.walk.now c.branch-walk.new.walk ended lacks) c.branch-walk.ensures.memory
