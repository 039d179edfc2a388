use Rattle.std.proofs.Common.{rules, ◌≡◌, FitsSigned, true, false, pos, subst, ℤ}
use Rattle.std.specs.Prelude.{int_lt}
use Rattle.std.specs.Int.{w128}
use Rattle.std.proofs.lemmas.Int.{to_z-of_z}
use Rattle.osol_grammar.proofs.SaidGaps.{no_gap, below_0, from_0}
use Rattle.osol_grammar.proofs.gaps.read_gap.Goals as goal

pub returns-in_default : goal.returns-in_default
returns-in_default c = let parts = c.before_percent-is_percent in no_gap parts.result.0 parts.result.1.now c.args.text.now parts.ensures c.in_default.ensures

pub returns-then-number-lt0 : goal.returns-then-number-lt0
returns-then-number-lt0 c =
    let parts = c.before_percent-is_percent in
    let z = c.in-Some.number.numer in
    let fits : FitsSigned w128 z = search rules in
    let below : int_lt z (pos 0) ≡ true = subst (λ (n : ℤ). int_lt n (pos 0) ≡ true) (to_z-of_z w128 z fits) c.if-number-lt0.true in
    below_0 parts.result.0 parts.result.1.now c.args.text.now c.in-Some.number parts.ensures c.in-Some.ensures below

pub returns : goal.returns
returns c =
    let parts = c.before_percent-is_percent in
    let z = c.in-Some.number.numer in
    let fits : FitsSigned w128 z = search rules in
    let other : int_lt z (pos 0) ≡ false = subst (λ (n : ℤ). int_lt n (pos 0) ≡ false) (to_z-of_z w128 z fits) c.if-number-lt0.false in
    record { digits = parts.result.1.now; before = parts.ensures; number = c.in-Some.ensures; above = from_0 z other }
