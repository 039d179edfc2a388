use Rattle.std.proofs.Common.{◌≡◌, inl, Bool, None, List, refl, sym, ◌∙◌, subst}
use Rattle.fraction.specs.Frac.{ratios}
use Rattle.certificate.specs.declared.causes.Cause.TheVariants.{Memory}
use Rattle.certificate.specs.Meanings as Means
use Rattle.instance.specs.Program.{program}
use Rattle.cert_checker.specs.declared.at_hand.Added.{Added}
use Rattle.cert_checker.specs.Programs.{with_rows}
use Rattle.search_rules.specs.Search.{Unbounded, early}
use Rattle.branch_bound.specs.Bounds.{asked, carried, AllBound, FindsBoundAt}
use Rattle.branch_bound.specs.Claims.{TellsStop, is_kill}
use Rattle.branch_bound.specs.Walks.{best, waiting}
use Rattle.branch_bound.proofs.EarlyEnds.{is_told, not_told, told_stop, told_want, without_bound, wanting, with_bound, an_end, closing_walk, closing_keeps, closing_carried, closing_bounds, closing_values, closing_shown}
use Rattle.branch_bound.proofs.searching.end_early.Goals as goal

pub returns-in-Unbounded : goal.returns-in-Unbounded
returns-in-Unbounded g c =
    let tells = c.claim_endless.ensures in
    let f = c.in-Unbounded.found in
    rw c.in-Unbounded.is (
      Unbounded (ratios f.point) (ratios f.values) (Means.certificates c.args.level.certs) (ratios c.in-Unbounded.ray),
      None,
      record { says = tells.says; cause = tells.cause },
      inl refl,
      λ t start k answer. answer,
    )

pub returns-then-not-tells_bound : goal.returns-then-not-tells_bound
returns-then-not-tells_bound g c =
    let a = c.args in
    let b = c.in-Early.best in
    let k = c.in-Early.cause in
    rw c.in-Early.is (
      early (best b) k,
      None,
      c.claim_early.ensures,
      told_stop a.limits.bound (best b) k,
      without_bound a.instance.now (asked a.limits) a.relaxation.now a.level a.walk b k (not_told a.limits.bound k (sym c.tells_bound.ensures ∙ c.if-not-tells_bound.true)),
    )

pub bound_of-requires-clause-walk : goal.bound_of-requires-clause-walk
bound_of-requires-clause-walk g c =
    let a = c.args in
    let b = c.in-Early.best in
    let k = c.in-Early.cause in
    let p = a.instance.now in
    let q = asked a.limits in
    let r = a.relaxation.now in
    let told = is_told a.limits.bound k (sym c.tells_bound.ensures ∙ c.if-not-tells_bound.false) in
    let e = an_end p q r a.level a.walk b k a.ended c.in-Early.is told.1 c.requires.ended in
    closing_walk p e.0 q e.1 r a.level a.walk (early (best b) k) b e.2 e.3

pub bound_of-requires-clause-keeps : goal.bound_of-requires-clause-keeps
bound_of-requires-clause-keeps g c =
    let a = c.args in
    let b = c.in-Early.best in
    let k = c.in-Early.cause in
    let p = a.instance.now in
    let q = asked a.limits in
    let r = a.relaxation.now in
    let told = is_told a.limits.bound k (sym c.tells_bound.ensures ∙ c.if-not-tells_bound.false) in
    let e = an_end p q r a.level a.walk b k a.ended c.in-Early.is told.1 c.requires.ended in
    closing_keeps p e.0 q e.1 r a.level a.walk (early (best b) k) b e.2 e.3 told.0

pub bound_of-requires-clause-carried : goal.bound_of-requires-clause-carried
bound_of-requires-clause-carried g c =
    let a = c.args in
    let b = c.in-Early.best in
    let k = c.in-Early.cause in
    let p = a.instance.now in
    let q = asked a.limits in
    let r = a.relaxation.now in
    let told = is_told a.limits.bound k (sym c.tells_bound.ensures ∙ c.if-not-tells_bound.false) in
    let e = an_end p q r a.level a.walk b k a.ended c.in-Early.is told.1 c.requires.ended in
    closing_carried p e.0 q e.1 r a.level a.walk (early (best b) k) b e.2 e.3

pub bound_of-requires-clause-bounds : goal.bound_of-requires-clause-bounds
bound_of-requires-clause-bounds g c =
    let a = c.args in
    let b = c.in-Early.best in
    let k = c.in-Early.cause in
    let p = a.instance.now in
    let q = asked a.limits in
    let r = a.relaxation.now in
    let told = is_told a.limits.bound k (sym c.tells_bound.ensures ∙ c.if-not-tells_bound.false) in
    let e = an_end p q r a.level a.walk b k a.ended c.in-Early.is told.1 c.requires.ended in
    λ zero. subst (λ (rows : List Added). AllBound (waiting (with_rows (program p) rows) (record a.walk { ray = None }) a.walk.next) (carried (record a.walk { ray = None }))) (sym c.as_slice-rows.ensures.value) (closing_bounds p e.0 q e.1 r a.level a.walk (early (best b) k) b e.2 e.3 told.0 zero)

pub bound_of-requires-clause-values : goal.bound_of-requires-clause-values
bound_of-requires-clause-values g c =
    let a = c.args in
    let b = c.in-Early.best in
    let k = c.in-Early.cause in
    let p = a.instance.now in
    let q = asked a.limits in
    let r = a.relaxation.now in
    let told = is_told a.limits.bound k (sym c.tells_bound.ensures ∙ c.if-not-tells_bound.false) in
    let e = an_end p q r a.level a.walk b k a.ended c.in-Early.is told.1 c.requires.ended in
    closing_values p e.0 q e.1 r a.level a.walk (early (best b) k) b e.2 e.3

pub bound_of-requires-clause-shown : goal.bound_of-requires-clause-shown
bound_of-requires-clause-shown g c =
    let a = c.args in
    let b = c.in-Early.best in
    let k = c.in-Early.cause in
    let p = a.instance.now in
    let q = asked a.limits in
    let r = a.relaxation.now in
    let told = is_told a.limits.bound k (sym c.tells_bound.ensures ∙ c.if-not-tells_bound.false) in
    let e = an_end p q r a.level a.walk b k a.ended c.in-Early.is told.1 c.requires.ended in
    closing_shown p e.0 q e.1 r a.level a.walk (early (best b) k) b e.2 e.3

pub returns-in-Ok : goal.returns-in-Ok
returns-in-Ok g c =
    let a = c.args in
    let b = c.in-Early.best in
    let k = c.in-Early.cause in
    let told = is_told a.limits.bound k (sym c.tells_bound.ensures ∙ c.if-not-tells_bound.false) in
    let d = c.in-Ok.bound in
    rw c.in-Early.is (
      early (best b) k,
      Means.bound d,
      c.claim_early-in-Ok.ensures,
      told_stop a.limits.bound (best b) k,
      with_bound a.instance.now (asked a.limits) a.relaxation.now a.level a.walk b k told.0 told.1 c.goals-some.ensures.valid.some_goal d
          (subst (λ (rows : List Added). a.level.goal ≡ 0 → FindsBoundAt a.instance.now a.level (record a.walk { ray = None }) rows b d) c.as_slice-rows.ensures.value c.in-Ok.ensures.first)
          c.in-Ok.ensures.later,
    )

pub returns-in-Err : goal.returns-in-Err
returns-in-Err g c =
    let a = c.args in
    let b = c.in-Early.best in
    let k = c.in-Early.cause in
    let told = is_told a.limits.bound k (sym c.tells_bound.ensures ∙ c.if-not-tells_bound.false) in
    rw c.in-Early.is (
      early (best b) Memory,
      None,
      c.claim_early-in-Err.ensures,
      subst (λ (asks : Bool). TellsStop asks (is_kill k) (early (best b) Memory)) (sym told.0) (told_want (best b) (is_kill k)),
      wanting a.instance.now (asked a.limits) a.relaxation.now a.level a.walk b k told.0,
    )
