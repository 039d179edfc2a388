use Rattle.std.proofs.Common.{rules, ◌≡◌, ◌+◌, ◌<◌, ◌≤◌, ◌++◌, ◌∷◌, [], pos, ◌<ℤ◌, length, sym, subst, ◌∙◌, ap, ℤ, arith}
use Rattle.std.specs.Prelude.{unsigned_abs}
use Rattle.std.proofs.lemmas.List.{length-map, length-append}
use mir.Val.{SFits, to_z, of_z}
use mir.Syntax.{w128}
use Rattle.std.proofs.Math.Facts.{to_z-of_z}
use Rattle.rational.specs.Ratio.{Ratio, whole}
use Rattle.fraction.specs.Frac.{ratio}
use Rattle.fraction.specs.declared.frac.Frac.{Frac}
use Rattle.evidence.specs.Instance as Of
use Rattle.evidence.specs.Point.{value_at}
use Rattle.instance.specs.Program.{program, variable}
use Rattle.simplex.specs.Memory.{ray_of}
use Rattle.search_rules.specs.Rays.{IsFactor, IsMultiple}
use Rattle.branch_bound.proofs.Multiples.{factor_is, multiple_of, ratios_more, no_ray}
use Rattle.branch_bound.proofs.rays.read_ray.Goals as goal

-- the factor as a fraction
pub record Is (b : Frac) (k : ℤ) : Type 0 where
  numer : b.numer ≡ k
  by : ratio b ≡ whole (pos (unsigned_abs b.numer))

factored : (b : Frac) (k : ℤ) → SFits w128 k → pos 0 <ℤ k → ratio b ≡ whole (to_z w128 (of_z w128 k)) → Is b k
factored b k f up e =
    let q : ratio b ≡ whole k = e ∙ ap whole (to_z-of_z f) in
    record { numer = ap (λ (r : Ratio). r.num) q; by = factor_is b k q up }

pub returns-in-Err-mul : goal.returns-in-Err-mul
returns-in-Err-mul g c =
    let p = c.args.instance.now in
    let w = c.args.work.now in
    let j = c.loop-j.j in
    let fits : SFits w128 c.in-Ok.factor = search rules in
    let is = factored c.whole-by.result c.in-Ok.factor fits c.in-Ok.ensures.above c.whole-by.ensures in
    let least = subst (λ (z : ℤ). IsFactor (program p) (ray_of w) (length p.vars) (unsigned_abs z)) (sym is.numer) c.in-Ok.ensures.ok in
    let least = subst (λ n. IsFactor (program p) (ray_of w) n (unsigned_abs c.whole-by.result.numer)) (sym (length-map p.vars variable)) least in
    let low : j < length p.vars = search rules in
    let inside : j < Of.width (program p) = let n = length-map p.vars variable in omega arith in
    no_ray (program p) (ray_of w) (unsigned_abs c.whole-by.result.numer) j c.movement.result c.whole-by.result least inside c.movement.ensures is.by c.in-Err-mul.ensures.wide

pub loop-j-preserved : goal.loop-j-preserved
loop-j-preserved g c =
    let p = c.args.instance.now in
    let w = c.args.work.now in
    let j = c.loop-j.j in
    let f = unsigned_abs c.whole-by.result.numer in
    let fits : SFits w128 c.in-Ok.factor = search rules in
    let is = factored c.whole-by.result c.in-Ok.factor fits c.in-Ok.ensures.above c.whole-by.ensures in
    let low : j < length p.vars = search rules in
    let e : c.push.new.self ≡ c.loop-j.ray ++ c.in-Ok-mul.movement ∷ [] = search rules in
    record {
      count = ap length e ∙ length-append c.loop-j.ray (c.in-Ok-mul.movement ∷ []) ∙ ap (λ n. n + 1) c.loop-j.invariant.count;
      movements = rw e (ratios_more (λ i x. IsMultiple f (value_at (ray_of w) i) x) c.loop-j.ray j c.in-Ok-mul.movement c.loop-j.invariant.count c.loop-j.invariant.movements
          (multiple_of f (value_at (ray_of w) j) c.movement.result c.whole-by.result c.in-Ok-mul.movement c.movement.ensures is.by c.in-Ok-mul.ensures.ok));
    }

pub returns : goal.returns
returns g c =
    let p = c.args.instance.now in
    let w = c.args.work.now in
    let fits : SFits w128 c.in-Ok.factor = search rules in
    let is = factored c.whole-by.result c.in-Ok.factor fits c.in-Ok.ensures.above c.whole-by.ensures in
    let n = length-map p.vars variable in
    let least = subst (λ (z : ℤ). IsFactor (program p) (ray_of w) (length p.vars) (unsigned_abs z)) (sym is.numer) c.in-Ok.ensures.ok in
    let out : length p.vars ≤ c.loop-j.j = search rules in
    let end : c.loop-j.j ≤ length p.vars = search rules in
    let all : c.loop-j.j ≡ length p.vars = omega arith in
    record {
      factor = unsigned_abs c.whole-by.result.numer;
      least = subst (λ n. IsFactor (program p) (ray_of w) n (unsigned_abs c.whole-by.result.numer)) (sym n) least;
      count = length-map c.loop-j.ray ratio ∙ c.loop-j.invariant.count ∙ all ∙ sym n;
      movements = λ j h. c.loop-j.invariant.movements j (omega arith);
    }
