use Rattle.std.proofs.Common.{◌≡◌, ℕ, ℤ, ◌+◌, ◌*◌, ◌^◌, ◌<◌, not, nat_eq, to_z, of_z, ◌+ℤ◌, ◌*ℤ◌, Bool, FitsSigned, w64, bit_or, rules, arith, sym, ◌∙◌, ap, ap₂, subst}
use Rattle.std.specs.Prelude.{unsigned_abs, slice_set}
use Rattle.std.proofs.lemmas.Bool.{false≢true}
use Rattle.std.proofs.lemmas.Int.{to_z-of_z}
use Rattle.evidence.proofs.Columns.{by_eq}
use Rattle.marks.specs.Words.{is_set}
use Rattle.dictionary.specs.Words.{number_at, AreChanged}
use Rattle.dictionary.proofs.Words.{passed, passed_all, left_before, undone, changed_none, changed_next, stepped, steps_next, count_none, none_yet}
use Rattle.dictionary.proofs.changing.change_word.Goals as goal
use Rattle.dictionary.proofs.changing.change_word.Goals.{After-read-y}

pub loop-left-init : goal.loop-left-init
loop-left-init g c =
    let w = c.args.word in
    record {
      left = λ i l h. h;
      changed = changed_none w.first w.own w.columns c.args.parts.scale c.args.parts.factor c.args.numers.now c.args.by.now c.args.size c.requires.size;
      cost = let z = count_none _ (none_yet 1 w.own w.other w.columns) in omega arith;
    }

-- what was read are the row's number before, and the other one's
left : (g : _) (c : After-read-y g) → c.read-x.result ≡ number_at c.args.numers.now (c.args.word.first + c.take_first-i.result)
left g c = c.read-x.ensures.number ∙ undone c.loop-left.invariant.changed c.take_first-i.result (left_before c.args.word.columns c.loop-left.left c.take_first-i.result c.take_first-i.ensures.own)

pub small_sum-number-requires : goal.small_sum-number-requires
small_sum-number-requires g c =
    let x : FitsSigned w64 c.read-x.result = search rules in
    let y : FitsSigned w64 c.read-y.result = search rules in
    let i : ℕ = c.take_first-i.result in
    let t = c.take_first-i.ensures in
    let a : ℕ = unsigned_abs c.args.parts.scale in
    let b : ℕ = unsigned_abs c.args.parts.factor in
    simp to_z-of_z (subst (λ (p : ℤ). unsigned_abs p * a + unsigned_abs c.read-y.result * b < 2 ^ 60) (sym (left g (goal.at.small_sum-number-requires g c).After-read-y))
    (subst (λ (q : ℤ). unsigned_abs (number_at c.args.numers.now (c.args.word.first + i)) * a + unsigned_abs q * b < 2 ^ 60) (sym c.read-y.ensures.number) (c.requires.small i t.below (c.loop-left.invariant.left i t.below t.own))))

pub loop-left-preserved : goal.loop-left-preserved
loop-left-preserved g c =
    let w = c.args.word in
    let i = c.loop-left.invariant in
    let b : ℕ = c.take_first-i.result in
    let t = c.take_first-i.ensures in
    let s : ℤ = c.args.parts.scale in
    let k : ℤ = c.args.parts.factor in
    let x : FitsSigned w64 c.read-x.result = search rules in
    let y : FitsSigned w64 c.read-y.result = search rules in
    let z : FitsSigned w64 c.small_sum-number.result = search rules in
    let column = i.left b t.below t.own in
    let told = simp to_z-of_z at c.small_sum-number.ensures.value in
    let narrow = c.small_sum-number.ensures.small in
    let size = simp to_z-of_z at c.unsigned_abs-more.ensures.value in
    let is = told ∙ ap₂ (λ p q. p *ℤ s +ℤ q *ℤ k) (left g (goal.at.loop-left-preserved g c).After-read-y) c.read-y.ensures.number in
    let inside = c.requires.inside b t.below column in
    let next = changed_next w.first w.own w.columns s k c.args.numers.now c.args.by.now c.args.size c.loop-left.left c.take_first-i.new.word b t.below column t.own t.gone t.others c.loop-left.numers c.loop-left.entries c.keep-entries.result c.loop-left.size c.small_sum-number.result (let l = inside.0 in let e = i.changed.count in omega arith) is narrow (λ h. c.keep-entries.ensures.own h ∙ ap (λ (n : ℕ). not (nat_eq n 0)) size) c.keep-entries.ensures.others i.changed in
    record {
      left = λ j l h. by_eq j b (λ e. absurd (false≢true (sym t.gone ∙ ap (is_set c.take_first-i.new.word) (sym e) ∙ h))) (λ d. i.left j l (sym (t.others j l d) ∙ h));
      changed = subst (λ n. AreChanged w.first w.own w.columns (passed w.columns c.take_first-i.new.word) s k c.args.numers.now c.args.by.now (slice_set c.loop-left.numers (w.first + b) (to_z w64 (of_z w64 c.small_sum-number.result))) c.args.size c.keep-entries.result (bit_or c.loop-left.size n)) (sym size) (simp to_z-of_z next);
      cost =
          let more = steps_next w.first w.own w.columns s k c.args.numers.now c.args.by.now c.args.size c.loop-left.left c.take_first-i.new.word b t.below column t.own t.gone t.others 1 w.other in
          let p = stepped c.has_bit.result (is_set w.own b) c.read-x.new.steps c.loop-left.steps c.has_bit.ensures c.read-x.ensures.cost in
          let q = stepped c.has_bit-in-loop-left.result (is_set w.other b) c.read-y.new.steps c.read-x.new.steps c.has_bit-in-loop-left.ensures c.read-y.ensures.cost in
          let r = c.tick.ensures in
          let before = i.cost in
          omega arith;
    }

pub returns-clause-changed : goal.returns-clause-changed
returns-clause-changed g c = let w = c.args.word in subst (λ (done : ℕ → Bool). AreChanged w.first w.own w.columns done c.args.parts.scale c.args.parts.factor c.args.numers.now c.args.by.now c.loop-left.numers c.args.size c.loop-left.entries c.loop-left.size) (passed_all w.columns c.loop-left.left c.loop-left-test.false) c.loop-left.invariant.changed
