use Rattle.std.proofs.Common.{get_or, arith, refl, sym, ap, ◌∙◌, subst}
use Rattle.fraction.specs.Frac.{ratios}
use Rattle.evidence.specs.Instance.{Instance, width, height}
use Rattle.evidence.specs.Point.{IsRay}
use Rattle.evidence.specs.Width.{RayFits}
use Rattle.cert_checker.specs.Rays.{RayRefuses}
use Rattle.cert_checker.proofs.HandRows.{hand_level, hand_width, hand_height}
use Rattle.cert_checker.proofs.certs.check_along.Goals as goal

pub check_ray-requires-clause-point : goal.check_ray-requires-clause-point
check_ray-requires-clause-point c = c.requires.point ∙ sym (ap width c.of-program.ensures ∙ hand_width c.args.instance.now c.args.added.now c.index-goals-level.result)

pub check_ray-requires-clause-few : goal.check_ray-requires-clause-few
check_ray-requires-clause-few c =
    let w = ap width c.of-program.ensures ∙ hand_width c.args.instance.now c.args.added.now c.index-goals-level.result in
    let h = ap height c.of-program.ensures ∙ hand_height c.args.instance.now c.args.added.now c.index-goals-level.result in
    let vars = c.goals-goals.ensures.valid.few_vars in
    let rows = c.goals-goals.ensures.valid.few_rows in
    let goals = c.goals-goals.ensures.valid.few_goals in
    let few = c.requires.few in
    let level = c.requires.level in
    omega arith

pub returns-in-Ok-clause-ok : goal.returns-in-Ok-clause-ok
returns-in-Ok-clause-ok c =
    let g = c.index-goals-level.result in
    let is = c.index-goals-level.is ∙ ap (λ l. get_or l c.args.level g) c.goals-goals.ensures.value in
    subst (λ (I : Instance). IsRay I (ratios c.args.point.now) (ratios c.args.ray.now)) (c.of-program.ensures ∙ hand_level c.args.instance.now c.args.added.now g c.args.level c.requires.level is) c.in-Ok.ensures.ok

pub returns-in-Ok-clause-fits : goal.returns-in-Ok-clause-fits
returns-in-Ok-clause-fits c =
    let g = c.index-goals-level.result in
    let is = c.index-goals-level.is ∙ ap (λ l. get_or l c.args.level g) c.goals-goals.ensures.value in
    subst (λ (I : Instance). RayFits I (ratios c.args.ray.now)) (c.of-program.ensures ∙ hand_level c.args.instance.now c.args.added.now g c.args.level c.requires.level is) c.in-Ok.ensures.fits

pub returns-in-Err-clause-err : goal.returns-in-Err-clause-err
returns-in-Err-clause-err c =
    let g = c.index-goals-level.result in
    let is = c.index-goals-level.is ∙ ap (λ l. get_or l c.args.level g) c.goals-goals.ensures.value in (
      c.in-Err.why,
      subst (λ (I : Instance). RayRefuses I (ratios c.args.point.now) (ratios c.args.ray.now) c.in-Err.why) (c.of-program.ensures ∙ hand_level c.args.instance.now c.args.added.now g c.args.level c.requires.level is) c.in-Err.ensures.err,
      refl,
    )
