use Rattle.std.proofs.Common.{rules, ◌≡◌, inl, false, List, refl, ap, sym, ◌∙◌}
use Rattle.fraction.specs.Frac.{ratio}
use Rattle.evidence.specs.Cases.{Multiplier, BoundBy}
use Rattle.certificate.specs.Meanings as Means
use Rattle.instance.specs.Program.{problem}
use Rattle.instance.proofs.Terms.{if_ok}
use Rattle.simplex.specs.Memory.{point_of}
use Rattle.search_rules.specs.Search.{To, closed_by_leaf}
use Rattle.branch_bound.specs.Walks as Walks
use Rattle.branch_bound.specs.Levels.{level, moment}
use Rattle.branch_bound.specs.Cases.{clock_at}
use Rattle.branch_bound.proofs.Moments.{closes}
use Rattle.branch_bound.proofs.Ready.{gone_on, asks, if_ok₃}
use Rattle.branch_bound.proofs.PointSteps.{if_err, or_memory, kept_values, improves_plain, best_below_ray, best_passed, best_hopeful, no_cut_left, none_ray}
use Rattle.branch_bound.proofs.KeptAfter.{none_left, below_ray, best_left}
use Rattle.branch_bound.proofs.GivenUp.{for_memory_at, stays_at}
use Rattle.branch_bound.proofs.visit.at_best.Goals as goal

pub returns-in-Err-clause-err : goal.returns-in-Err-clause-err
returns-in-Err-clause-err g c = inl c.give_up.ensures.told

-- a ray is there
pub returns-then-is_some-clause-on : goal.returns-then-is_some-clause-on
returns-then-is_some-clause-on g c =
    if_ok₃ c.meet.result (λ x walk values one. gone_on c.args.instance.now c.args.limits c.args.relaxation.now c.args.level.now c.args.walk.now c.meet.new.walk c.args.depth c.requires.ready walk values one) c.meet.ensures.walk c.meet.ensures.values c.meet.ensures.one

pub returns-then-is_some-clause-ok : goal.returns-then-is_some-clause-ok
returns-then-is_some-clause-ok g c =
    let p = c.args.instance.now in
    let w = c.args.walk.now in
    let v = c.args.level.now in
    if_ok c.meet.result
    (λ x goes L D t before now lvl rounds ran. (
      D,
      lvl,
      best_below_ray (problem p) t (Walks.case D w c.args.depth) (Walks.rest D w c.args.depth) (moment p L D v w now) _ (point_of c.args.relaxation.now.work) _ before _ w.ray (sym c.is_some.ensures ∙ c.if-is_some.true) (rw c.in-Ok.ensures at (goes L D v t now)),
    ))
    c.meet.ensures.ok

pub returns-then-is_some-clause-err : goal.returns-then-is_some-clause-err
returns-then-is_some-clause-err g c =
    let p = c.args.instance.now in
    let w = c.args.walk.now in
    let v = c.args.level.now in
    if_err c.meet.result
    (λ ended. or_memory w ended (λ goes L D t before looks lvl rounds turns ran.
    best_below_ray (problem p) t (Walks.case D w c.args.depth) (Walks.rest D w c.args.depth) (moment p L D v w (clock_at c.args.relaxation.now looks)) _ (point_of c.args.relaxation.now.work) _ before _ w.ray (sym c.is_some.ensures ∙ c.if-is_some.true) (rw c.in-Ok.ensures at (goes L D v t looks))))
    c.meet.ensures.err

-- the bound is passed
pub returns-then-is_no_better-clause-on : goal.returns-then-is_no_better-clause-on
returns-then-is_no_better-clause-on g c =
    if_ok₃ c.leaf.result
    (λ x walk by one.
    let at = c.requires.ready.at in
    gone_on c.args.instance.now c.args.limits c.args.relaxation.now c.args.level.now c.args.walk.now c.leaf.new.walk c.args.depth c.requires.ready (rw at.width at walk)
    (kept_values c.args.instance.now c.args.walk.now.best c.leaf.new.walk.best by.point c.requires.values) one)
    c.leaf.ensures.walk c.leaf.ensures.ok c.leaf.ensures.one

pub returns-then-is_no_better-clause-ok : goal.returns-then-is_no_better-clause-ok
returns-then-is_no_better-clause-ok g c =
    let p = c.args.instance.now in
    let w = c.args.walk.now in
    let v = c.args.level.now in
    let r = c.args.relaxation.now in
    if_ok c.leaf.result
    (λ x by L D t before now lvl rounds ran. (
      D,
      lvl,
      best_passed (problem p) t (Walks.case D w c.args.depth) (Walks.rest D w c.args.depth) (moment p L D v w now) _ (point_of r.work) _ before _ w.ray (sym c.is_some.ensures ∙ c.if-is_some.false)
          (c.is_no_better.ensures.yes c.if-is_no_better.true (level p L v) (asks p r v L D w c.requires.ready.at.width lvl))
          (ap To (closes p L D v now w c.args.depth c.leaf.new.walk (BoundBy (Means.multipliers c.in-Ok.mults)) by ∙ ap (λ (ms : List Multiplier). closed_by_leaf (moment p L D v w now) (Walks.rest D w c.args.depth) (BoundBy ms)) c.in-Ok.ensures)),
    ))
    c.leaf.ensures.ok

pub returns-then-is_no_better-clause-err : goal.returns-then-is_no_better-clause-err
returns-then-is_no_better-clause-err g c = if_err c.leaf.result (λ ended lacks. inl lacks) c.leaf.ensures.err

-- no cut may be derived
pub returns-then-not-may_cut-clause-on : goal.returns-then-not-may_cut-clause-on
returns-then-not-may_cut-clause-on g c =
    if_ok₃ c.meet-then-not-may_cut.result (λ x walk values one. gone_on c.args.instance.now c.args.limits c.args.relaxation.now c.args.level.now c.args.walk.now c.meet-then-not-may_cut.new.walk c.args.depth c.requires.ready walk values one) c.meet-then-not-may_cut.ensures.walk c.meet-then-not-may_cut.ensures.values c.meet-then-not-may_cut.ensures.one

pub returns-then-not-may_cut-clause-ok : goal.returns-then-not-may_cut-clause-ok
returns-then-not-may_cut-clause-ok g c =
    let p = c.args.instance.now in
    let w = c.args.walk.now in
    let v = c.args.level.now in
    let r = c.args.relaxation.now in
    if_ok c.meet-then-not-may_cut.result
    (λ x goes L D t before now lvl rounds ran. (
      D,
      lvl,
      best_hopeful (problem p) t (Walks.case D w c.args.depth) (Walks.rest D w c.args.depth) (moment p L D v w now) _ (point_of r.work) _ before _ w.ray (sym c.is_some.ensures ∙ c.if-is_some.false)
          (c.is_no_better.ensures.no c.if-is_no_better.false (level p L v) (asks p r v L D w c.requires.ready.at.width lvl))
          (improves_plain (problem p) t (Walks.case D w c.args.depth) (Walks.rest D w c.args.depth) (moment p L D v w now) _ (point_of r.work) _ before _
          (no_cut_left p t L D v w now c.args.limits rounds c.requires.ready.suits.goal (λ may. let t = c.may_cut.ensures.1 may in let f : c.may_cut.result ≡ false = search rules in absurd (cc))) (rw c.in-Ok.ensures at (goes L D v t now))),
    ))
    c.meet-then-not-may_cut.ensures.ok

pub returns-then-not-may_cut-clause-err : goal.returns-then-not-may_cut-clause-err
returns-then-not-may_cut-clause-err g c =
    let p = c.args.instance.now in
    let w = c.args.walk.now in
    let v = c.args.level.now in
    let r = c.args.relaxation.now in
    if_err c.meet-then-not-may_cut.result
    (λ ended. or_memory w ended (λ goes L D t before looks lvl rounds turns ran.
    best_hopeful (problem p) t (Walks.case D w c.args.depth) (Walks.rest D w c.args.depth) (moment p L D v w (clock_at r looks)) _ (point_of r.work) _ before _ w.ray (sym c.is_some.ensures ∙ c.if-is_some.false)
    (c.is_no_better.ensures.no c.if-is_no_better.false (level p L v) (asks p r v L D w c.requires.ready.at.width lvl))
    (improves_plain (problem p) t (Walks.case D w c.args.depth) (Walks.rest D w c.args.depth) (moment p L D v w (clock_at r looks)) _ (point_of r.work) _ before _
    (no_cut_left p t L D v w (clock_at r looks) c.args.limits rounds c.requires.ready.suits.goal (λ may. let t = c.may_cut.ensures.1 may in let f : c.may_cut.result ≡ false = search rules in absurd (cc))) (rw c.in-Ok.ensures at (goes L D v t looks)))))
    c.meet-then-not-may_cut.ensures.err

-- a cut may be
pub improve-requires-clause-ran : goal.improve-requires-clause-ran
improve-requires-clause-ran g c =
    let none = none_ray c.args.walk.now.ray (sym c.is_some.ensures ∙ c.if-is_some.false) in
    (ratio c.args.bound, λ D given. rw c.in-Ok.ensures (c.requires.ran none D given))

pub returns-clause-on : goal.returns-clause-on
returns-clause-on g c =
    let may = c.may_cut.ensures.0 (search rules) in
    if_ok c.improve.result (λ x on. on c.args.limits c.requires.ready may.2) c.improve.ensures.on

pub returns-clause-ok : goal.returns-clause-ok
returns-clause-ok g c =
    let p = c.args.instance.now in
    let w = c.args.walk.now in
    let v = c.args.level.now in
    let r = c.args.relaxation.now in
    let none = none_ray w.ray (sym c.is_some.ensures ∙ c.if-is_some.false) in
    let may = c.may_cut.ensures.0 (search rules) in
    if_ok c.improve.result
    (λ x goes L D t before now lvl rounds ran.
    let q = goes L D t before now (ratio c.args.bound) lvl (rw rounds may.2) (rw c.in-Ok.ensures (ran none)) in (
      q.0,
      q.1,
      best_hopeful (problem p) t (Walks.case D w c.args.depth) (Walks.rest D w c.args.depth) (moment p L D v w now) _ (point_of r.work) _ before _ w.ray (sym c.is_some.ensures ∙ c.if-is_some.false)
          (c.is_no_better.ensures.no c.if-is_no_better.false (level p L v) (asks p r v L D w c.requires.ready.at.width lvl)) (rw c.in-Ok.ensures at (q.2)),
    ))
    c.improve.ensures.ok

pub returns-clause-err : goal.returns-clause-err
returns-clause-err g c =
    let p = c.args.instance.now in
    let w = c.args.walk.now in
    let v = c.args.level.now in
    let r = c.args.relaxation.now in
    let none = none_ray w.ray (sym c.is_some.ensures ∙ c.if-is_some.false) in
    let may = c.may_cut.ensures.0 (search rules) in
    if_err c.improve.result
    (λ ended. or_memory w ended (λ goes L D t before looks lvl rounds turns ran.
    best_hopeful (problem p) t (Walks.case D w c.args.depth) (Walks.rest D w c.args.depth) (moment p L D v w (clock_at r looks)) _ (point_of r.work) _ before _ w.ray (sym c.is_some.ensures ∙ c.if-is_some.false)
    (c.is_no_better.ensures.no c.if-is_no_better.false (level p L v) (asks p r v L D w c.requires.ready.at.width lvl))
    (rw c.in-Ok.ensures at (goes L D t before looks (ratio c.args.bound) lvl (rw rounds may.2) (rw c.in-Ok.ensures (ran none))))))
    c.improve.ensures.err

-- what is left to the cases that come in its place
pub returns-then-is_some-clause-leaves : goal.returns-then-is_some-clause-leaves
returns-then-is_some-clause-leaves g c =
    let w = c.args.walk.now in
    if_ok c.meet.result (λ x told. below_ray w c.meet.new.walk c.args.depth w.ray _ told.0 (sym c.is_some.ensures ∙ c.if-is_some.true) told.1 told.2) c.meet.ensures.leaves

pub returns-then-is_no_better-clause-carried : goal.returns-then-is_no_better-clause-carried
returns-then-is_no_better-clause-carried g c = if_ok c.leaf.result (λ x told. told.0) c.leaf.ensures.carried

pub returns-then-is_no_better-clause-leaves : goal.returns-then-is_no_better-clause-leaves
returns-then-is_no_better-clause-leaves g c = if_ok c.leaf.result (λ x told. none_left c.args.walk.now c.leaf.new.walk c.args.depth _ _ told.1) c.leaf.ensures.carried

pub returns-then-not-may_cut-clause-leaves : goal.returns-then-not-may_cut-clause-leaves
returns-then-not-may_cut-clause-leaves g c =
    let w = c.args.walk.now in
    if_ok c.meet-then-not-may_cut.result
    (λ x told. best_left w c.meet-then-not-may_cut.new.walk c.args.depth w.ray c.args.bound _ _ c.in-Ok.mults told.0 (sym c.is_some.ensures ∙ c.if-is_some.false) c.in-Ok.ensures told.1 told.2)
    c.meet-then-not-may_cut.ensures.leaves

pub returns-clause-leaves : goal.returns-clause-leaves
returns-clause-leaves g c =
    let w = c.args.walk.now in
    if_ok c.improve.result
    (λ x told. best_left w c.improve.new.walk c.args.depth w.ray c.args.bound _ _ c.in-Ok.mults told.0 (sym c.is_some.ensures ∙ c.if-is_some.false) c.in-Ok.ensures told.1 told.2)
    c.improve.ensures.leaves

-- the walk stays where the search is given up
pub returns-in-Err-clause-stays : goal.returns-in-Err-clause-stays
returns-in-Err-clause-stays g c =
    let r = c.args.relaxation.now in
    let v = c.args.level.now in
    for_memory_at r r v v c.args.walk.now c.give_up.new.walk c.give_up.result c.give_up.ensures.is

pub returns-then-is_some-clause-stays : goal.returns-then-is_some-clause-stays
returns-then-is_some-clause-stays g c =
    let r = c.args.relaxation.now in
    let v = c.args.level.now in
    if_err c.meet.result (λ ended stays. stays_at r r v v c.args.walk.now c.meet.new.walk ended refl refl refl stays) c.meet.ensures.stays

pub returns-then-is_no_better-clause-stays : goal.returns-then-is_no_better-clause-stays
returns-then-is_no_better-clause-stays g c =
    let r = c.args.relaxation.now in
    let v = c.args.level.now in
    if_err c.leaf.result (λ ended lacks. for_memory_at r r v v c.args.walk.now c.leaf.new.walk ended lacks) c.leaf.ensures.memory

pub returns-then-not-may_cut-clause-stays : goal.returns-then-not-may_cut-clause-stays
returns-then-not-may_cut-clause-stays g c =
    let r = c.args.relaxation.now in
    let v = c.args.level.now in
    if_err c.meet-then-not-may_cut.result (λ ended stays. stays_at r r v v c.args.walk.now c.meet-then-not-may_cut.new.walk ended refl refl refl stays) c.meet-then-not-may_cut.ensures.stays
