use Rattle.std.proofs.Common.{◌≡◌, ℕ, ℤ, ◌+◌, ◌^◌, ◌<◌, ◌+ℤ◌, ◌*ℤ◌, pos, FitsSigned, w64, Bool, get_or-set_other, rules, arith, refl, sym, ◌∙◌, ap, ap₂, subst}
use mir.Syntax.{w128}
use Rattle.std.specs.Prelude.{unsigned_abs}
use Rattle.std.proofs.lemmas.Bool.{false≢true}
use Rattle.std.proofs.lemmas.Int.{to_z-of_z}
use Rattle.evidence.proofs.Columns.{by_eq}
use Rattle.marks.specs.Words.{is_set}
use Rattle.dictionary.specs.Words.{number_at}
use Rattle.dictionary.proofs.Words.{passed_all, told_none, told_next, stepped, steps_next, count_none, none_yet}
use Rattle.dictionary.proofs.changing.sum_word.Goals as goal

pub loop-left-init : goal.loop-left-init
loop-left-init g c =
    let w = c.args.word in
    record {
      left = λ i l h. h;
      told = λ i l h. told_none (λ j. number_at c.args.sums.now (w.first + j) ≡ number_at c.args.numers.now (w.first + j) *ℤ c.args.parts.scale +ℤ number_at c.args.by.now (w.first + j) *ℤ c.args.parts.factor) w.columns i h;
      before = λ j l. refl;
      cost = let z = count_none _ (none_yet 0 w.own w.other w.columns) in omega arith;
    }

pub wide_sum-sum-requires-clause-x : goal.wide_sum-sum-requires-clause-x
wide_sum-sum-requires-clause-x g c =
    let x : FitsSigned w64 c.read-x.result = search rules in
    simp to_z-of_z (subst (λ (z : ℤ). unsigned_abs z < 2 ^ 63) (sym c.read-x.ensures.number) (c.requires.x (c.args.word.first + c.take_first-i.result)))

pub wide_sum-sum-requires-clause-y : goal.wide_sum-sum-requires-clause-y
wide_sum-sum-requires-clause-y g c =
    let y : FitsSigned w64 c.read-y.result = search rules in
    simp to_z-of_z (subst (λ (z : ℤ). unsigned_abs z < 2 ^ 63) (sym c.read-y.ensures.number) (c.requires.y (c.args.word.first + c.take_first-i.result)))

pub loop-left-preserved : goal.loop-left-preserved
loop-left-preserved g c =
    let w = c.args.word in
    let i = c.loop-left.invariant in
    let b : ℕ = c.take_first-i.result in
    let t = c.take_first-i.ensures in
    let s : ℤ = c.args.parts.scale in
    let k : ℤ = c.args.parts.factor in
    let x : FitsSigned w64 c.read-x.result = search rules in
    let y : FitsSigned w64 c.read-y.result = search rules in
    let z : FitsSigned w128 c.wide_sum-sum.result = search rules in
    let column = i.left b t.below t.own in
    let told = simp to_z-of_z at c.wide_sum-sum.ensures.value in
    let is = told ∙ ap₂ (λ p q. p *ℤ s +ℤ q *ℤ k) c.read-x.ensures.number c.read-y.ensures.number in
    let inside = c.requires.inside b t.below column in
    let length = c.loop-left.auto.sums in
    let next = told_next w.first w.own w.columns s k c.args.numers.now c.args.by.now 0 c.loop-left.left c.take_first-i.new.word b t.below column t.own t.gone t.others (λ j v. v ≡ number_at c.args.numers.now (w.first + j) *ℤ s +ℤ number_at c.args.by.now (w.first + j) *ℤ k) c.loop-left.sums c.wide_sum-sum.result (let l = inside.2 in omega arith) is i.told in
    record {
      left = λ j l h. by_eq j b (λ e. absurd (false≢true (sym t.gone ∙ ap (is_set c.take_first-i.new.word) (sym e) ∙ h))) (λ d. i.left j l (sym (t.others j l d) ∙ h));
      told = simp to_z-of_z next;
      before = λ j l. get_or-set_other c.loop-left.sums (w.first + b) j _ (pos 0) (λ e. omega arith) ∙ i.before j l;
      cost =
          let more = steps_next w.first w.own w.columns s k c.args.numers.now c.args.by.now 0 c.loop-left.left c.take_first-i.new.word b t.below column t.own t.gone t.others 0 w.other in
          let p = stepped c.has_bit.result (is_set w.own b) c.read-x.new.steps c.loop-left.steps c.has_bit.ensures c.read-x.ensures.cost in
          let q = stepped c.has_bit-in-loop-left.result (is_set w.other b) c.read-y.new.steps c.read-x.new.steps c.has_bit-in-loop-left.ensures c.read-y.ensures.cost in
          let before = i.cost in
          omega arith;
    }

pub returns-clause-sums : goal.returns-clause-sums
returns-clause-sums g c i l h = c.loop-left.invariant.told i l (ap (λ (f : ℕ → Bool). f i) (passed_all c.args.word.columns c.loop-left.left c.loop-left-test.false) ∙ h)
