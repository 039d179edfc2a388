use Rattle.std.proofs.Common.{◌≡◌, inl, inr, None, Some, refl, sym, ◌∙◌, ap}
use Rattle.std.proofs.lemmas.List.{length-map}
use Rattle.fraction.specs.Frac.{ratio, ratios}
use Rattle.evidence.specs.Cases.{BoundBy}
use Rattle.certificate.specs.Meanings as Means
use Rattle.instance.specs.Program.{problem}
use Rattle.cert_checker.proofs.Values.{goals_count}
use Rattle.simplex.specs.Memory.{point_of}
use Rattle.search_rules.specs.Search.{To}
use Rattle.branch_bound.specs.declared.found.Found.{Found}
use Rattle.branch_bound.specs.Walks as Walks
use Rattle.branch_bound.specs.Levels.{moment}
use Rattle.branch_bound.specs.Cases.{clock_at, outcome_of}
use Rattle.branch_bound.proofs.Moments.{finds}
use Rattle.branch_bound.proofs.PointSteps.{takes_wide, takes_by, some_found}
use Rattle.certificate.specs.declared.causes.Cause.TheVariants.{Memory}
use Rattle.branch_bound.proofs.GivenUp.{given_up, for_memory}
use Rattle.branch_bound.proofs.meeting.take_point.Goals as goal

pub returns-in-Err-clause-err : goal.returns-in-Err-clause-err
returns-in-Err-clause-err g c = inl c.give_up.ensures.told

pub returns-in-Err-values_at-clause-err : goal.returns-in-Err-values_at-clause-err
returns-in-Err-values_at-clause-err g c = inl c.give_up-in-Err-values_at.ensures.told

pub returns-in-Ok-None-clause-err : goal.returns-in-Ok-None-clause-err
returns-in-Ok-None-clause-err g c =
    inr (λ L D l t looks.
    let p = c.args.instance.now in
    let w = c.args.walk.now in
    let r = c.args.relaxation.now in
    let cs = Means.certificates l.certs in
    let wide = rw (c.as_slice.ensures, c.in-Ok-None.field-0-is) at c.in-Ok-None.ensures in
    takes_wide (problem p) t (Walks.case D w c.args.depth) (Walks.rest D w c.args.depth) (moment p L D l w (clock_at r looks)) (Means.multipliers c.args.mults) (point_of r.work) _ c.in-Ok.point c.in-Ok.ensures.values (c.requires.met D) (outcome_of cs c.too_wide.result) wide (c.too_wide.ensures.told cs p L D l looks) refl)

pub returns-in-Some-clause-err : goal.returns-in-Some-clause-err
returns-in-Some-clause-err g c =
    inr (λ L D l t looks.
    let p = c.args.instance.now in
    let w = c.args.walk.now in
    let r = c.args.relaxation.now in
    let told = rw (c.as_slice.ensures, c.in-Ok-Some.field-0-is) at c.in-Ok-Some.ensures in
    takes_by (problem p) t (Walks.case D w c.args.depth) (Walks.rest D w c.args.depth) (moment p L D l w (clock_at r looks)) (Means.multipliers c.args.mults) (point_of r.work) _ c.in-Ok.point c.in-Ok.ensures.values (c.requires.met D) (ratios c.in-Ok-Some.values) told.0 told.1 (Some (ratios c.in-Some.at.ray))
    (ap Walks.ray (sym c.take.ensures.value ∙ c.in-Some.is)) refl)

pub leaf-requires-clause-at : goal.leaf-requires-clause-at
leaf-requires-clause-at g c =
    let at = c.requires.at in
    let none = c.take.ensures.after in
    record { width = refl; next = at.next; room = at.room; above = rw at.width at.above; ray = rw none tt }

pub returns-in-Ok-leaf-clause-values : goal.returns-in-Ok-leaf-clause-values
returns-in-Ok-leaf-clause-values g c = λ f e.
    let told = rw (c.as_slice.ensures, c.in-Ok-Some.field-0-is) at c.in-Ok-Some.ensures in
    let values = told.1 in
    some_found f _ e ∙ sym (length-map c.in-Ok-Some.values ratio) ∙ values.count ∙ goals_count c.args.instance.now c.vars.ensures.valid

pub returns-in-Ok-leaf-clause-ok : goal.returns-in-Ok-leaf-clause-ok
returns-in-Ok-leaf-clause-ok g c = λ L D l t at.
    let p = c.args.instance.now in
    let w = c.args.walk.now in
    let r = c.args.relaxation.now in
    let f : Found = record { point = c.in-Ok.point; values = c.in-Ok-Some.values } in
    let told = rw (c.as_slice.ensures, c.in-Ok-Some.field-0-is) at c.in-Ok-Some.ensures in
    let gone : w.ray ≡ None = sym c.take.ensures.value ∙ c.in-None.is in
    takes_by (problem p) t (Walks.case D w c.args.depth) (Walks.rest D w c.args.depth) (moment p L D l w at) (Means.multipliers c.args.mults) (point_of r.work) _ c.in-Ok.point c.in-Ok.ensures.values (c.requires.met D) (ratios c.in-Ok-Some.values) told.0 told.1 None (ap Walks.ray gone)
    (ap To (finds p L D l at w c.args.depth c.leaf.new.walk (BoundBy (Means.multipliers c.args.mults)) f c.take.new.self (c.take.ensures.after ∙ sym gone) c.in-Ok-leaf.ensures.ok))

pub returns-in-Err-leaf-clause-err : goal.returns-in-Err-leaf-clause-err
returns-in-Err-leaf-clause-err g c = inl c.in-Err-leaf.ensures.err

-- the walk stays where the search is given up
pub returns-in-Err-clause-stays : goal.returns-in-Err-clause-stays
returns-in-Err-clause-stays g c = given_up c.args.walk.now c.give_up.new.walk c.give_up.result Memory c.give_up.ensures.is c.give_up.ensures.rest

pub returns-in-Err-values_at-clause-stays : goal.returns-in-Err-values_at-clause-stays
returns-in-Err-values_at-clause-stays g c = given_up c.args.walk.now c.give_up-in-Err-values_at.new.walk c.give_up-in-Err-values_at.result Memory c.give_up-in-Err-values_at.ensures.is c.give_up-in-Err-values_at.ensures.rest

pub returns-in-Ok-None-clause-stays : goal.returns-in-Ok-None-clause-stays
returns-in-Ok-None-clause-stays g c = let is = c.too_wide.ensures.is in given_up c.args.walk.now c.too_wide.new.walk c.too_wide.result is.0 is.1 c.too_wide.ensures.rest

pub returns-in-Err-leaf-clause-stays : goal.returns-in-Err-leaf-clause-stays
returns-in-Err-leaf-clause-stays g c = for_memory c.args.walk.now c.leaf.new.walk c.in-Err-leaf.ended c.in-Err-leaf.ensures.memory
