use Rattle.std.proofs.Common.{◌≡◌, ℕ, ◌+◌, ◌<◌, ◌*◌, true, FitsSigned, w64, rules, arith, refl, sym, ◌∙◌, ap, subst}
use Rattle.std.specs.Prelude.{unsigned_abs}
use Rattle.std.specs.Int.{◌∣◌}
use Rattle.std.proofs.Math.Nat.{dvd-mul_right}
use Rattle.std.proofs.lemmas.Bool.{false≢true}
use Rattle.std.proofs.lemmas.Int.{to_z-of_z}
use Rattle.std.proofs.lemmas.Nat.Gcd.{dvd_trans}
use Rattle.rational.specs.Ratio.{Ratio}
use Rattle.fraction.specs.Frac.{ratio, ratios}
use Rattle.evidence.specs.Point.{value_at}
use Rattle.evidence.proofs.Columns.{by_eq, by_lt}
use Rattle.instance.proofs.Terms.{read}
use Rattle.marks.specs.Marks.{size_of, is_marked}
use Rattle.dictionary.specs.Scratch.{AreDivided}
use Rattle.dictionary.proofs.RowForms.{sized_above}
use Rattle.dictionary.proofs.NumbersOver.{none_joined}
use Rattle.dictionary.proofs.settling.joined_denom.Goals as goal
use Rattle.dictionary.proofs.settling.joined_denom.Goals.{After-index}

pub index-requires : goal.index-requires
index-requires c = let i = c.requires.inside c.in-Some.c c.in-Some.ensures.first.is in let v = c.args.scratch.now.values in let e = v.ok.0 in omega arith

pub overflow_add-from : goal.overflow_add-from
unfolding size_of
overflow_add-from c =
    let s = c.args.scratch.now in
    let i = c.requires.inside c.in-Some.c c.in-Some.ensures.first.is in
    let m = s.marks in
    let f = s.found.few in
    record { fits = omega arith }

pub loop-c-init : goal.loop-c-init
loop-c-init c = record {
  kept = c.new-walk.ensures (is_marked c.args.scratch.now.found);
  above = search rules;
  divided = λ j l. absurd (omega arith);
  least = λ m h. let e : 1 * m ≡ m = omega arith in subst (λ k. 1 ∣ k) e (dvd-mul_right 1 m);
}

pub next_by-requires : goal.next_by-requires
next_by-requires c = c.loop-c.invariant.kept

-- the value that was read
value : (c : After-index) → value_at (ratios c.args.scratch.now.values.items) c.in-Some.c ≡ ratio c.index.result.now
value c = read c.args.scratch.now.values.items c.in-Some.c c.index.result.now (let i = c.requires.inside c.in-Some.c c.in-Some.ensures.first.is in omega arith) c.index.ensures

pub loop-c-preserved : goal.loop-c-preserved
loop-c-preserved c =
    let s = c.args.scratch.now in
    let i = c.loop-c.invariant in
    let first = c.in-Some.ensures.first in
    let own = value (goal.at.loop-c-preserved c).After-index in
    let is = c.in_ok-all.ensures.some in
    let all : (j : ℕ) → j < c.in-Some.c + 1 → is_marked s.found j ≡ true → (value_at (ratios s.values.items) j).den ∣ unsigned_abs c.in_ok-all.all = λ j l h. by_eq j c.in-Some.c
    (λ e. subst (λ (v : Ratio). v.den ∣ unsigned_abs c.in_ok-all.all) (sym (ap (value_at (ratios s.values.items)) e ∙ own)) is.1)
    (λ d. by_lt j c.loop-c.from (λ b. dvd_trans (value_at (ratios s.values.items) j).den (i.divided j b h) is.0) (λ b. absurd (false≢true (sym (first.first j b (omega arith)) ∙ h)))) in
    let least : (m : ℕ) → AreDivided s m → unsigned_abs c.in_ok-all.all ∣ m = λ m h. is.2 m (i.least m h) (subst (λ (v : Ratio). v.den ∣ m) own (h c.in-Some.c first.is)) in
    let new : FitsSigned w64 c.in_ok-all.all = search rules in
    record { kept = c.in-Some.ensures.kept; above = simp to_z-of_z c.in_ok-all.ensures.above; divided = simp to_z-of_z all; least = simp to_z-of_z least }

pub returns-in_err-all-clause-none : goal.returns-in_err-all-clause-none
returns-in_err-all-clause-none c none m up h =
    let i = c.loop-c.invariant in
    let own = value (goal.at.returns-in_err-all-clause-none c).After-index in
    none_joined _ c.index.result.now.denom (sized_above _ i.above) (c.in_err-all.ensures.none refl) m up (i.least m h) (subst (λ (v : Ratio). v.den ∣ m) own (h c.in-Some.c c.in-Some.ensures.first.is))

pub returns-clause-all : goal.returns-clause-all
returns-clause-all c j h = by_lt j c.loop-c.from (λ b. c.loop-c.invariant.divided j b h) (λ b. absurd (false≢true (sym (c.in_default.ensures.first j b) ∙ h)))
