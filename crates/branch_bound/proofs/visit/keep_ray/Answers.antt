use Rattle.std.proofs.Common.{rules, inl, inr, Some, List, [], refl, ap, subst}
use Rattle.fraction.specs.Frac.{ratios}
use Rattle.certificate.specs.Meanings as Means
use Rattle.instance.specs.Program.{problem}
use Rattle.instance.proofs.Terms.{if_ok}
use Rattle.simplex.specs.Memory.{point_of}
use Rattle.search_rules.specs.Branching.{Case}
use Rattle.search_rules.specs.Search.{Outcome, To, Out, MeetsPoint}
use Rattle.branch_bound.specs.Walks as Walks
use Rattle.branch_bound.specs.Levels.{moment}
use Rattle.branch_bound.specs.Cases.{clock_at, outcome_of}
use Rattle.branch_bound.proofs.PendingCases.{own_ray_alone}
use Rattle.branch_bound.proofs.PointSteps.{if_err, or_memory}
use Rattle.branch_bound.proofs.KeptAfter.{along_direction}
use Rattle.certificate.specs.declared.causes.Cause.TheVariants.{Memory}
use Rattle.branch_bound.proofs.GivenUp.{given_up, another_ray}
use Rattle.branch_bound.proofs.visit.keep_ray.Goals as goal

pub returns-in-Err-clause-err : goal.returns-in-Err-clause-err
returns-in-Err-clause-err g c = inl c.give_up.ensures.told

pub returns-in-None-clause-err : goal.returns-in-None-clause-err
returns-in-None-clause-err g c =
    let r = c.args.relaxation.now in
    let never = rw c.in-None.is at c.in-Ok.ensures in
    inr (λ none L D l t before looks. inr (inl (c.requires.none D, never, ap (λ (o : Outcome). Out o (clock_at r looks)) (c.too_wide.ensures.told (Means.certificates l.certs) c.args.instance.now L D l looks))))

pub meet-requires-clause-at : goal.meet-requires-clause-at
meet-requires-clause-at g c = let at = c.requires.at in record { width = at.width; next = at.next; room = at.room; above = at.above; ray = search rules }

pub returns-clause-ok : goal.returns-clause-ok
returns-clause-ok g c =
    let p = c.args.instance.now in
    let w = c.args.walk.now in
    let ray = c.in-Some.ray in
    let scaled = rw c.in-Some.is at c.in-Ok.ensures in
    if_ok c.meet.result
    (λ x goes none L D l t before now.
    inr (inr (
      ratios ray,
      c.requires.none D,
      scaled,
      subst (λ (Cs : List Case). MeetsPoint (problem p) t (record (Walks.case D w c.args.depth) { ray = Some (ratios ray) }) Cs (moment p L D l w now) (point_of c.args.relaxation.now.work) [] (To (moment p L D l c.meet.new.walk now)))
          (own_ray_alone D w.cuts.items w.branches.items (record { ray = ray; depth = c.args.depth }) w.ray c.args.depth refl none) (goes L D l t now),
    )))
    c.meet.ensures.ok

pub returns-clause-err : goal.returns-clause-err
returns-clause-err g c =
    let p = c.args.instance.now in
    let w = c.args.walk.now in
    let ray = c.in-Some.ray in
    let scaled = rw c.in-Some.is at c.in-Ok.ensures in
    if_err c.meet.result
    (λ ended. or_memory w ended (λ goes none L D l t before looks.
    inr (inr (
      ratios ray,
      c.requires.none D,
      scaled,
      subst (λ (Cs : List Case). MeetsPoint (problem p) t (record (Walks.case D w c.args.depth) { ray = Some (ratios ray) }) Cs (moment p L D l w (clock_at c.args.relaxation.now looks)) (point_of c.args.relaxation.now.work) [] (Out (outcome_of (Means.certificates l.certs) ended) (clock_at c.args.relaxation.now looks)))
          (own_ray_alone D w.cuts.items w.branches.items (record { ray = ray; depth = c.args.depth }) w.ray c.args.depth refl none) (goes L D l t looks),
    ))))
    c.meet.ensures.err

pub returns-clause-leaves : goal.returns-clause-leaves
returns-clause-leaves g c =
    let w = c.args.walk.now in
    if_ok c.meet.result (λ x told. along_direction w c.meet.new.walk c.args.depth (Walks.ray w.ray) _ _ told.0 told.1 told.2) c.meet.ensures.leaves

-- the walk stays where the search is given up
pub returns-in-Err-clause-stays : goal.returns-in-Err-clause-stays
returns-in-Err-clause-stays g c = given_up c.args.walk.now c.give_up.new.walk c.give_up.result Memory c.give_up.ensures.is c.give_up.ensures.rest

pub returns-in-None-clause-stays : goal.returns-in-None-clause-stays
returns-in-None-clause-stays g c = let is = c.too_wide.ensures.is in given_up c.args.walk.now c.too_wide.new.walk c.too_wide.result is.0 is.1 c.too_wide.ensures.rest

pub returns-clause-stays : goal.returns-clause-stays
returns-clause-stays g c = if_err c.meet.result (λ ended stays. another_ray c.args.walk.now c.meet.new.walk _ ended stays) c.meet.ensures.stays
