use Rattle.std.proofs.Common.{inl, inr, refl, ap}
use Rattle.evidence.specs.Cases.{ClashAt}
use Rattle.certificate.specs.Meanings as Means
use Rattle.instance.proofs.Terms.{if_ok}
use Rattle.search_rules.specs.Search.{Outcome, To, Out}
use Rattle.branch_bound.specs.Cases.{clock_at}
use Rattle.branch_bound.proofs.Moments.{closes}
use Rattle.branch_bound.proofs.Ready.{gone_on, if_ok₃}
use Rattle.branch_bound.proofs.PointSteps.{if_err, or_memory, kept_values}
use Rattle.branch_bound.proofs.KeptAfter.{none_left}
use Rattle.certificate.specs.declared.causes.Cause.TheVariants.{TurnLimit}
use Rattle.branch_bound.proofs.GivenUp.{given_up, for_memory_at, stays_at}
use Rattle.branch_bound.proofs.visit.visit.Goals as goal

pub returns-in-Clash-clause-on : goal.returns-in-Clash-clause-on
returns-in-Clash-clause-on g c =
    if_ok₃ c.leaf.result
    (λ x walk by one.
    let at = c.requires.ready.at in
    gone_on c.args.instance.now c.args.limits c.args.relaxation.now c.args.level.now c.args.walk.now c.leaf.new.walk c.args.depth c.requires.ready (rw at.width at walk)
    (kept_values c.args.instance.now c.args.walk.now.best c.leaf.new.walk.best by.point c.requires.values) one)
    c.leaf.ensures.walk c.leaf.ensures.ok c.leaf.ensures.one

pub returns-in-Clash-clause-ok : goal.returns-in-Clash-clause-ok
returns-in-Clash-clause-ok g c =
    let a = c.args in
    rw c.in-Clash.is (if_ok c.leaf.result (λ x by L D t before at lvl rounds basis none. (D, lvl, ap To (closes a.instance.now L D a.level.now at a.walk.now a.depth c.leaf.new.walk (ClashAt c.in-Clash.col) by))) c.leaf.ensures.ok)

pub returns-in-Clash-clause-err : goal.returns-in-Clash-clause-err
returns-in-Clash-clause-err g c = if_err c.leaf.result (λ ended lacks. inl lacks) c.leaf.ensures.err

pub returns-in-Empty-clause-on : goal.returns-in-Empty-clause-on
returns-in-Empty-clause-on g c =
    if_ok₃ c.at_empty.result (λ x walk values one. gone_on c.args.instance.now c.args.limits c.args.relaxation.now c.args.level.now c.args.walk.now c.at_empty.new.walk c.args.depth c.requires.ready walk values one) c.at_empty.ensures.walk c.at_empty.ensures.values c.at_empty.ensures.one

pub returns-in-Empty-clause-ok : goal.returns-in-Empty-clause-ok
returns-in-Empty-clause-ok g c =
    let v = c.args.level.now in
    rw c.in-Empty.is (if_ok c.at_empty.result (λ x goes L D t before at lvl rounds basis none. (D, lvl, goes L D v t before at)) c.at_empty.ensures.ok)

pub returns-in-Empty-clause-err : goal.returns-in-Empty-clause-err
returns-in-Empty-clause-err g c =
    let v = c.args.level.now in
    rw c.in-Empty.is (if_err c.at_empty.result (λ ended. or_memory c.args.walk.now ended (λ goes L D t before looks lvl rounds turns basis none. goes L D v t before looks)) c.at_empty.ensures.err)

pub at_best-requires-clause-ran : goal.at_best-requires-clause-ran
at_best-requires-clause-ran g c = let ran = rw c.in-Best.is at c.requires.ran in ran refl

pub at_best-requires-clause-stands : goal.at_best-requires-clause-stands
at_best-requires-clause-stands g c = let stands = rw c.in-Best.is at c.requires.stands in stands refl

pub returns-in-Best-clause-ok : goal.returns-in-Best-clause-ok
returns-in-Best-clause-ok g c = rw c.in-Best.is (if_ok c.at_best.result (λ x goes L D t before at lvl rounds basis none. goes L D t before at lvl rounds (basis refl)) c.at_best.ensures.ok)

pub returns-in-Best-clause-err : goal.returns-in-Best-clause-err
returns-in-Best-clause-err g c =
    rw c.in-Best.is (if_err c.at_best.result (λ ended. or_memory c.args.walk.now ended (λ goes L D t before looks lvl rounds turns basis none. goes L D t before looks lvl rounds turns (basis refl))) c.at_best.ensures.err)

pub returns-in-Endless-clause-on : goal.returns-in-Endless-clause-on
returns-in-Endless-clause-on g c =
    if_ok₃ c.at_endless.result (λ x walk values one. gone_on c.args.instance.now c.args.limits c.args.relaxation.now c.args.level.now c.args.walk.now c.at_endless.new.walk c.args.depth c.requires.ready walk values one) c.at_endless.ensures.walk c.at_endless.ensures.values c.at_endless.ensures.one

pub returns-in-Endless-clause-ok : goal.returns-in-Endless-clause-ok
returns-in-Endless-clause-ok g c =
    let v = c.args.level.now in
    rw c.in-Endless.is (if_ok c.at_endless.result (λ x goes L D t before at lvl rounds basis none. (D, lvl, goes (none refl) L D v t before at)) c.at_endless.ensures.ok)

pub returns-in-Endless-clause-err : goal.returns-in-Endless-clause-err
returns-in-Endless-clause-err g c =
    let v = c.args.level.now in
    rw c.in-Endless.is (if_err c.at_endless.result (λ ended. or_memory c.args.walk.now ended (λ goes L D t before looks lvl rounds turns basis none. goes (none refl) L D v t before looks)) c.at_endless.ensures.err)

pub returns-in-TurnLimit-clause-err : goal.returns-in-TurnLimit-clause-err
returns-in-TurnLimit-clause-err g c =
    rw c.in-TurnLimit.is (inr (λ L D t before looks lvl rounds turns basis none. ap (λ (o : Outcome). Out o (clock_at c.args.relaxation.now looks)) (rw turns (c.give_up.ensures.told (Means.certificates c.args.level.now.certs)))))

pub returns-in-Wide-clause-err : goal.returns-in-Wide-clause-err
returns-in-Wide-clause-err g c =
    let v = c.args.level.now in
    rw c.in-Wide.is (inr (λ L D t before looks lvl rounds turns basis none. ap (λ (o : Outcome). Out o (clock_at c.args.relaxation.now looks)) (c.too_wide.ensures.told (Means.certificates v.certs) c.args.instance.now L D v looks)))

pub returns-in-Stopped-clause-err : goal.returns-in-Stopped-clause-err
returns-in-Stopped-clause-err g c = let s = rw c.in-Stopped.is at c.requires.went_on in absurd (cc)

pub returns-in-Stopped-clause-went_on : goal.returns-in-Stopped-clause-went_on
returns-in-Stopped-clause-went_on g c = let s = rw c.in-Stopped.is at c.requires.went_on in absurd (cc)

-- what is left to the cases that come in its place
pub returns-in-Clash-clause-carried : goal.returns-in-Clash-clause-carried
returns-in-Clash-clause-carried g c = if_ok c.leaf.result (λ x told. told.0) c.leaf.ensures.carried

pub returns-in-Clash-clause-leaves : goal.returns-in-Clash-clause-leaves
returns-in-Clash-clause-leaves g c = if_ok c.leaf.result (λ x told. none_left c.args.walk.now c.leaf.new.walk c.args.depth _ _ told.1) c.leaf.ensures.carried

pub returns-in-Empty-clause-leaves : goal.returns-in-Empty-clause-leaves
returns-in-Empty-clause-leaves g c = if_ok c.at_empty.result (λ x leaves. none_left c.args.walk.now c.at_empty.new.walk c.args.depth _ _ leaves) c.at_empty.ensures.leaves

pub returns-in-Best-clause-leaves : goal.returns-in-Best-clause-leaves
returns-in-Best-clause-leaves g c = rw c.in-Best.is c.at_best.ensures.leaves

pub returns-in-Endless-clause-leaves : goal.returns-in-Endless-clause-leaves
returns-in-Endless-clause-leaves g c =
    rw c.in-Endless.is c.at_endless.ensures.leaves

-- the walk stays where the search is given up
pub returns-in-Clash-clause-stays : goal.returns-in-Clash-clause-stays
returns-in-Clash-clause-stays g c =
    let r = c.args.relaxation.now in
    let v = c.args.level.now in
    if_err c.leaf.result (λ ended lacks. for_memory_at r r v v c.args.walk.now c.leaf.new.walk ended lacks) c.leaf.ensures.memory

pub returns-in-Empty-clause-stays : goal.returns-in-Empty-clause-stays
returns-in-Empty-clause-stays g c =
    let r = c.args.relaxation.now in
    let v = c.args.level.now in
    if_err c.at_empty.result (λ ended stays. stays_at r r v v c.args.walk.now c.at_empty.new.walk ended refl refl refl stays) c.at_empty.ensures.stays

pub returns-in-Endless-clause-stays : goal.returns-in-Endless-clause-stays
returns-in-Endless-clause-stays g c =
    let r = c.args.relaxation.now in
    let v = c.args.level.now in
    if_err c.at_endless.result (λ ended stays. stays_at r r v v c.args.walk.now c.at_endless.new.walk ended refl refl refl stays) c.at_endless.ensures.stays

pub returns-in-TurnLimit-clause-stays : goal.returns-in-TurnLimit-clause-stays
returns-in-TurnLimit-clause-stays g c =
    let r = c.args.relaxation.now in
    let v = c.args.level.now in
    stays_at r r v v c.args.walk.now c.give_up.new.walk c.give_up.result refl refl refl (given_up c.args.walk.now c.give_up.new.walk c.give_up.result (TurnLimit c.args.limits.turns) c.give_up.ensures.is c.give_up.ensures.rest)

pub returns-in-Wide-clause-stays : goal.returns-in-Wide-clause-stays
returns-in-Wide-clause-stays g c =
    let r = c.args.relaxation.now in
    let v = c.args.level.now in
    let is = c.too_wide.ensures.is in
    stays_at r r v v c.args.walk.now c.too_wide.new.walk c.too_wide.result refl refl refl (given_up c.args.walk.now c.too_wide.new.walk c.too_wide.result is.0 is.1 c.too_wide.ensures.rest)

pub returns-in-Stopped-clause-stays : goal.returns-in-Stopped-clause-stays
returns-in-Stopped-clause-stays g c = let s = rw c.in-Stopped.is at c.requires.went_on in absurd (cc)
