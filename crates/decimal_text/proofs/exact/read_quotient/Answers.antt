use Rattle.std.proofs.Common.{◌<◌, length, inl, inr, sym, refl, ◌∙◌, arith}
use Rattle.std.proofs.lemmas.Bool.{eqb-true, eqb-false}
use Rattle.fraction.specs.Frac.{ratio}
use Rattle.decimal_text.proofs.RatioTexts.{top_missing, under_missing, wide_top, wide_bottom, ratio_made, same_top, unreduced}
use Rattle.decimal_text.proofs.exact.read_quotient.Goals as goal

pub returns-then-is_empty-clause-err : goal.returns-then-is_empty-clause-err
returns-then-is_empty-clause-err c =
    let sign = c.strip-is_negative in
    let split = c.split_positive in
    let top = split.result.0.now in
    let rest = split.result.1.now in
    inl (top_missing _ sign.result.1.now top rest sign.result.0 _ sign.ensures.parts split.ensures (eqb-true (length top) 0 (sym c.if-is_empty.ensures)) sign.ensures.absent c.requires refl)

pub returns-in-Err-clause-err : goal.returns-in-Err-clause-err
returns-in-Err-clause-err c =
    let sign = c.strip-is_negative in
    let split = c.split_positive in
    let top = split.result.0.now in
    let rest = split.result.1.now in
    let up = let k = eqb-false (length top) 0 (sym c.if-is_empty.ensures) in let m : 0 < length top = omega (arith, k) in m in
    inl (under_missing _ sign.result.1.now top rest sign.result.0 _ c.in-Err.left sign.ensures.parts split.ensures up c.in-Err.ensures.err refl)

pub returns-in_default-clause-err : goal.returns-in_default-clause-err
returns-in_default-clause-err c =
    let sign = c.strip-is_negative in
    let split = c.split_positive in
    let top = split.result.0.now in
    let rest = split.result.1.now in
    let up = let k = eqb-false (length top) 0 (sym c.if-is_empty.ensures) in let m : 0 < length top = omega (arith, k) in m in
    wide_top _ sign.result.1.now top rest c.in-Ok.bottom.now sign.result.0 sign.ensures.parts split.ensures up c.in-Ok.ensures.ok c.in_default.ensures

pub returns-in_default-denominator-clause-err : goal.returns-in_default-denominator-clause-err
returns-in_default-denominator-clause-err c =
    let sign = c.strip-is_negative in
    let split = c.split_positive in
    let top = split.result.0.now in
    let rest = split.result.1.now in
    let up = let k = eqb-false (length top) 0 (sym c.if-is_empty.ensures) in let m : 0 < length top = omega (arith, k) in m in
    wide_bottom _ sign.result.1.now top rest c.in-Ok.bottom.now sign.result.0 sign.ensures.parts split.ensures up c.in-Ok.ensures.ok c.in_default-denominator.ensures

pub returns-then-x-denom-clause-err : goal.returns-then-x-denom-clause-err
returns-then-x-denom-clause-err c =
    let sign = c.strip-is_negative in
    let split = c.split_positive in
    let top = split.result.0.now in
    let rest = split.result.1.now in
    let up = let k = eqb-false (length top) 0 (sym c.if-is_empty.ensures) in let m : 0 < length top = omega (arith, k) in m in
    let x = c.in-Ok-quotient.x in
    inr (refl, unreduced _ sign.result.1.now top rest c.in-Ok.bottom.now sign.result.0 (ratio x) c.in-Some.size c.in-Some-denominator.denom sign.ensures.parts split.ensures up c.in-Ok.ensures.ok (x.above, x.reduced) c.in-Ok-quotient.ensures.ok c.in-Some.ensures c.in-Some-denominator.ensures c.if-x-denom.true)

pub returns-clause-ok : goal.returns-clause-ok
returns-clause-ok c =
    let sign = c.strip-is_negative in
    let split = c.split_positive in
    let top = split.result.0.now in
    let rest = split.result.1.now in
    let up = let k = eqb-false (length top) 0 (sym c.if-is_empty.ensures) in let m : 0 < length top = omega (arith, k) in m in
    let x = c.in-Ok-quotient.x in
    let size = c.in-Some.ensures in
    let denom = c.in-Some-denominator.ensures in
    ratio_made _ sign.result.1.now top rest c.in-Ok.bottom.now sign.result.0 (ratio x) sign.ensures.parts split.ensures up c.in-Ok.ensures.ok (same_top (ratio x) sign.result.0 c.in-Some.size c.in-Some-denominator.denom _ c.in-Ok.bottom.now c.in-Ok-quotient.ensures.ok c.if-x-denom.false size.0 denom.0 c.in-Ok.ensures.ok.good) (c.if-x-denom.false ∙ denom.0)
