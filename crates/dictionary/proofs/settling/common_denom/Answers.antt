use Rattle.std.proofs.Common.{FitsSigned, w64, rules, arith, sym, ◌∙◌, subst, refl}
use Rattle.std.specs.Prelude.{unsigned_abs}
use Rattle.std.specs.Int.{◌∣◌}
use Rattle.std.proofs.Math.Nat.{dvd-mul_left}
use Rattle.std.proofs.lemmas.Bool.{false≢true}
use Rattle.std.proofs.lemmas.Int.{to_z-of_z}
use Rattle.rational.specs.Ratio.{Ratio}
use Rattle.fraction.specs.Frac.{ratio, ratios}
use Rattle.evidence.specs.Point.{value_at}
use Rattle.evidence.proofs.Columns.{by_eq, by_lt}
use Rattle.instance.proofs.Terms.{read}
use Rattle.marks.specs.Marks.{size_of, is_marked}
use Rattle.dictionary.proofs.NumbersOver.{over_less}
use Rattle.dictionary.specs.Scratch.{AreDivided}
use Rattle.dictionary.specs.Numbers.{IsOver}
use Rattle.dictionary.proofs.settling.common_denom.Goals as goal

pub index-requires : goal.index-requires
index-requires c = let i = c.requires.inside c.in-Some.c c.in-Some.ensures.first.is in let v = c.args.scratch.now.values in let e = v.ok.0 in omega arith

pub overflow_add-from : goal.overflow_add-from
unfolding size_of
overflow_add-from c =
    let s = c.args.scratch.now in
    let i = c.requires.inside c.in-Some.c c.in-Some.ensures.first.is in
    let m = s.marks in
    let f = s.found.few in
    record { fits = omega arith }

pub loop-c-init : goal.loop-c-init
loop-c-init c = record { kept = c.new-walk.ensures (is_marked c.args.scratch.now.found); over = λ j l h. absurd (omega arith) }

pub next_by-requires : goal.next_by-requires
next_by-requires c = c.loop-c.invariant.kept

pub loop-c-preserved : goal.loop-c-preserved
loop-c-preserved c =
    let s = c.args.scratch.now in
    let first = c.in-Some.ensures.first in
    let d : FitsSigned w64 c.in_ok-denom.denom = search rules in
    let told = simp to_z-of_z at c.in_ok-number_over.ensures.some in
    let is = read s.values.items c.in-Some.c c.index.result.now (let i = c.requires.inside c.in-Some.c first.is in omega arith) c.index.ensures in
    record {
      kept = c.in-Some.ensures.kept;
      over = λ j l h. simp to_z-of_z (by_eq j c.in-Some.c
          (λ e. subst (λ i. IsOver (unsigned_abs c.in_ok-denom.denom) (value_at (ratios s.values.items) i)) (sym e) (subst (λ (v : Ratio). IsOver (unsigned_abs c.in_ok-denom.denom) v) (sym is) told.over))
          (λ n. by_lt j c.loop-c.from (λ b. simp to_z-of_z at (c.loop-c.invariant.over j b h)) (λ b. absurd (false≢true (sym (first.first j b (omega arith)) ∙ h)))));
    }

pub returns-clause-over : goal.returns-clause-over
returns-clause-over c j h =
    let d : FitsSigned w64 c.in_ok-denom.denom = search rules in
    simp to_z-of_z (by_lt j c.loop-c.from (λ b. simp to_z-of_z at (c.loop-c.invariant.over j b h)) (λ b. absurd (false≢true (sym (c.in_default.ensures.first j b) ∙ h))))

pub returns-clause-least : goal.returns-clause-least
returns-clause-least c =
    let d : FitsSigned w64 c.in_ok-denom.denom = search rules in
    simp to_z-of_z c.in_ok-denom.ensures.least

pub returns-in_err-denom-clause-none : goal.returns-in_err-denom-clause-none
returns-in_err-denom-clause-none c none m up low over =
    let l = c.in_err-denom.ensures.none refl m up (λ j h. let o = over j h in subst (λ k. (value_at (ratios c.args.scratch.now.values.items) j).den ∣ k) o.is (dvd-mul_left (value_at (ratios c.args.scratch.now.values.items) j).den o.times)) in
    omega arith

pub returns-in_err-number_over-clause-none : goal.returns-in_err-number_over-clause-none
returns-in_err-number_over-clause-none c none m up low over =
    let s = c.args.scratch.now in
    let first = c.in-Some.ensures.first in
    let v = c.index.result.now in
    let d : FitsSigned w64 c.in_ok-denom.denom = search rules in
    let is = read s.values.items c.in-Some.c v (let i = c.requires.inside c.in-Some.c first.is in omega arith) c.index.ensures in
    let divided : AreDivided s m = λ j h. let o = over j h in subst (λ k. (value_at (ratios s.values.items) j).den ∣ k) o.is (dvd-mul_left (value_at (ratios s.values.items) j).den o.times) in
    let refused = simp to_z-of_z at c.in_err-number_over.ensures.none in
    refused refl (over_less (ratio v) (unsigned_abs c.in_ok-denom.denom) m v.above up (subst (λ (x : Ratio). x.den ∣ unsigned_abs c.in_ok-denom.denom) is (c.in_ok-denom.ensures.all c.in-Some.c first.is)) (c.in_ok-denom.ensures.least m divided) (subst (λ (x : Ratio). IsOver m x) is (over c.in-Some.c first.is)))
