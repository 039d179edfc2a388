use Rattle.std.proofs.Common.{◌≡◌, ◌+◌, ◌*◌, ◌^◌, ◌<◌, ◌≤◌, ◌-◌, ℤ, pos, negsuc, ◌<ℤ◌, true, Fits, FitsSigned, w64, ℕ, rules, arith, sym}
use mir.Syntax.{w128}
use Rattle.std.specs.Prelude.{unsigned_abs, int_lt}
use Rattle.std.proofs.Math.Nat.{mul-le-mul}
use Rattle.std.proofs.lemmas.Bool.{ltb-true}
use Rattle.std.proofs.lemmas.Int.{to_z-of_z, ints}
use Rattle.fraction.proofs.Wholes.{narrow_size}
use Rattle.dictionary.proofs.changing.is_small.Goals as goal

-- a word times a number's size
times_fits : (n s : ℕ) → n < 2 ^ 64 → s ≤ 2 ^ 63 → n * s ≤ (2 ^ 64 - 1) * 2 ^ 63
times_fits n s l h = let low : n ≤ 2 ^ 64 - 1 = omega arith in mul-le-mul low h

pub overflow_mul-left : goal.overflow_mul-left
overflow_mul-left c =
    let s : FitsSigned w64 c.args.parts.scale = search rules in
    let n : Fits w64 c.args.row = c.ranges.row in
    let e = simp to_z-of_z at c.unsigned_abs.ensures.value in
    let l = narrow_size c.args.parts.scale s in
    let t = times_fits c.args.row c.unsigned_abs.result n.fits (omega arith) in
    record { fits = omega (arith, t) }

pub overflow_mul-right : goal.overflow_mul-right
overflow_mul-right c =
    let k : FitsSigned w64 c.args.parts.factor = search rules in
    let n : Fits w64 c.args.by = c.ranges.by in
    let e = simp to_z-of_z at c.unsigned_abs-2.ensures.value in
    let l = narrow_size c.args.parts.factor k in
    let t = times_fits c.args.by c.unsigned_abs-2.result n.fits (omega arith) in
    record { fits = omega (arith, t) }

pub overflow_add-left : goal.overflow_add-left
overflow_add-left c =
    let s : FitsSigned w64 c.args.parts.scale = search rules in
    let k : FitsSigned w64 c.args.parts.factor = search rules in
    let n : Fits w64 c.args.row = c.ranges.row in
    let m : Fits w64 c.args.by = c.ranges.by in
    let e = simp to_z-of_z at c.unsigned_abs.ensures.value in
    let f = simp to_z-of_z at c.unsigned_abs-2.ensures.value in
    let a = narrow_size c.args.parts.scale s in
    let b = narrow_size c.args.parts.factor k in
    let t = times_fits c.args.row c.unsigned_abs.result n.fits (omega arith) in
    let u = times_fits c.args.by c.unsigned_abs-2.result m.fits (omega arith) in
    record { fits = omega (arith, t, u) }

size_below : (z : ℤ) → pos 0 <ℤ z → int_lt z (pos (2 ^ 60)) ≡ true → unsigned_abs z < 2 ^ 60
size_below (pos n) up t = ltb-true n (2 ^ 60) t
size_below (negsuc n) up t = absurd (omega (arith, ints))

pub returns : goal.returns
returns c t =
    let s : FitsSigned w64 c.args.parts.scale = search rules in
    let k : FitsSigned w64 c.args.parts.factor = search rules in
    let d : FitsSigned w128 c.args.denom = c.ranges.denom in
    let e = simp to_z-of_z at c.unsigned_abs.ensures.value in
    let f = simp to_z-of_z at c.unsigned_abs-2.ensures.value in
    let l = c.if-left-right.false in
    let small : c.args.row * unsigned_abs c.args.parts.scale + c.args.by * unsigned_abs c.args.parts.factor < 2 ^ 60 = rw (sym e, sym f) (omega arith) in
    (small, size_below c.args.denom c.requires (simp to_z-of_z at t))
