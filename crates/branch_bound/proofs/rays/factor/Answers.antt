use Rattle.std.proofs.Common.{rules, ◌+◌, ◌<◌, pos, ◌<ℤ◌, length, slice_index_or, sym, subst, ◌∙◌, ap, ℤ}
use Rattle.std.specs.Prelude.{unsigned_abs}
use mir.Val.{SFits, to_z}
use mir.Syntax.{w128}
use Rattle.std.proofs.Math.Facts.{to_z-of_z}
use Rattle.fraction.specs.Frac.{ratio}
use Rattle.instance.specs.declared.parts.Var.{Var}
use Rattle.instance.specs.Program.{program, variable}
use Rattle.instance.proofs.Terms.{at_err}
use Rattle.simplex.specs.Memory.{ray_of}
use Rattle.search_rules.specs.Rays.{IsFactor}
use Rattle.branch_bound.proofs.Factors.{factor_more, no_factor}
use Rattle.branch_bound.proofs.Places.{whole_at}
use Rattle.branch_bound.proofs.rays.factor.Goals as goal

pub returns-in_err-factor-clause-wide : goal.returns-in_err-factor-clause-wide
returns-in_err-factor-clause-wide g c =
    let p = c.args.instance.now in
    let w = c.args.work.now in
    let j = c.loop-j.j in
    let low : j < length p.vars = search rules in
    let is = rw c.vars-vars.ensures.value at c.index-vars-j.is in
    at_err c.from_residual.result
    (no_factor (program p) (ray_of w) j (length p.vars) (unsigned_abs (to_z w128 c.loop-j.factor-bits)) (slice_index_or c.vars-vars.result.now j c.index-vars-j.result).whole (ratio c.movement.result) low (whole_at variable p.vars j c.index-vars-j.result low is ∙ ap (λ (v : Var). v.whole) c.index-vars-j.is) c.movement.ensures c.loop-j.invariant.is c.in_err-factor.ensures.wide)

pub loop-j-preserved : goal.loop-j-preserved
loop-j-preserved g c =
    let p = c.args.instance.now in
    let w = c.args.work.now in
    let j = c.loop-j.j in
    let low : j < length p.vars = search rules in
    let is = rw c.vars-vars.ensures.value at c.index-vars-j.is in
    let f : SFits w128 c.in_ok-factor.factor = search rules in
    record {
      above = subst (λ (z : ℤ). pos 0 <ℤ z) (sym (to_z-of_z f)) c.in_ok-factor.ensures.above;
      is = subst (λ (z : ℤ). IsFactor (program p) (ray_of w) (j + 1) (unsigned_abs z)) (sym (to_z-of_z f))
          (factor_more (program p) (ray_of w) j (unsigned_abs (to_z w128 c.loop-j.factor-bits)) (unsigned_abs c.in_ok-factor.factor) (slice_index_or c.vars-vars.result.now j c.index-vars-j.result).whole (ratio c.movement.result) (whole_at variable p.vars j c.index-vars-j.result low is ∙ ap (λ (v : Var). v.whole) c.index-vars-j.is) c.movement.ensures c.loop-j.invariant.is c.in_ok-factor.ensures.ok);
    }
