use Rattle.std.proofs.Common.{◌≡◌, ◌<◌, ◌∙◌, ap, sym, true, false, length, arith, refl}
use Rattle.evidence.proofs.Columns.{by_eq, by_lt}
use Rattle.marks.specs.Marks.{is_marked}
use Rattle.dictionary.specs.Dict.{entry_of}
use Rattle.simplex.proofs.BasicColumns.{not_left, mark_less, told_basic}
use Rattle.simplex.proofs.keeping.forget.Goals as goal

pub forget_at-requires-clause-col : goal.forget_at-requires-clause-col
forget_at-requires-clause-col g c =
    let i = c.basic_columns-basic.ensures.inside c.in-Some.c c.in-Some.ensures.first.is in
    record { inside = i; is = sym (c.basic_columns-basic.ensures.basic c.in-Some.c i) ∙ c.in-Some.ensures.first.is }

pub forget_at-requires-clause-moving : goal.forget_at-requires-clause-moving
forget_at-requires-clause-moving g c =
    let s = c.requires.statuses in
    let h : c.args.moving < length c.args.statuses.now = omega (arith, c.requires.moving, c.requires.goal) in
    record { inside = omega (arith, s.count, h); is = sym (told_basic c.args.dict.now c.args.statuses.now s c.args.moving h) ∙ c.requires.nonbasic }

pub forget_at-requires-clause-room : goal.forget_at-requires-clause-room
forget_at-requires-clause-room g c =
    let s = c.requires.statuses in
    omega (arith, c.basic_columns-basic.ensures.inside c.in-Some.c c.in-Some.ensures.first.is, s.count, c.requires.goal, c.requires.room, c.loop-c.invariant.size)

pub loop-c-init : goal.loop-c-init
loop-c-init g c = record {
  kept = c.new-walk.ensures (is_marked c.basic_columns-basic.result.now);
  less = λ k h. h;
  apart = λ k l. absurd (omega arith);
  inside = λ k l h. h;
  size = refl;
}

pub next_by-requires : goal.next_by-requires
next_by-requires g c = c.loop-c.invariant.kept

pub loop-c-preserved : goal.loop-c-preserved
loop-c-preserved g c =
    let v = c.loop-c.invariant in
    let f = c.forget_at.ensures in
    let at = c.in-Some.ensures.first in
    let less = mark_less c.loop-c.unknown c.forget_at.new.unknown c.in-Some.c f.less f.others in
    let inside = c.basic_columns-basic.ensures.inside c.in-Some.c at.is in
    let s = c.requires.statuses in
    record {
      kept = c.in-Some.ensures.kept;
      less = λ j t. v.less j (less j t);
      apart = λ j l h b t. by_eq j c.in-Some.c
          (λ e. ap (λ i. (entry_of c.args.dict.now i c.args.moving).num) e ∙ f.own (ap (is_marked c.forget_at.new.unknown) (sym e) ∙ t))
          (λ n. by_lt j c.loop-c.from
          (λ i. v.apart j i h b (less j t))
          (λ i. absurd (not_left c.args.dict.now c.args.statuses.now s c.basic_columns-basic.result.now c.basic_columns-basic.ensures.basic j (omega (arith, h, c.requires.goal)) b (at.first j i (omega arith)))));
      inside = λ j h t. f.others j (λ e. absurd (omega (arith, inside, s.count, c.requires.goal, h, e))) ∙ v.inside j h t;
      size = f.size ∙ v.size;
    }

pub returns-clause-forgotten : goal.returns-clause-forgotten
returns-clause-forgotten g c =
    let v = c.loop-c.invariant in
    let n = c.requires.goal in
    record {
      less = λ j t. v.less j (mark_less c.loop-c.unknown c.mark.new.self c.args.moving (λ e. let f : true ≡ false = sym c.mark.ensures.own ∙ e in absurd (cc)) c.mark.ensures.others j t);
      own = c.mark.ensures.own;
      apart = λ j h b t. by_lt j c.loop-c.from
          (λ l. v.apart j l (omega arith) b (mark_less c.loop-c.unknown c.mark.new.self c.args.moving (λ e. let f : true ≡ false = sym c.mark.ensures.own ∙ e in absurd (cc)) c.mark.ensures.others j t))
          (λ l. absurd (not_left c.args.dict.now c.args.statuses.now c.requires.statuses c.basic_columns-basic.result.now c.basic_columns-basic.ensures.basic j h b (c.in_default.ensures.first j l)));
      inside = λ j h t. c.mark.ensures.others j (λ e. let m = c.requires.moving in absurd (omega arith)) ∙ v.inside j (omega arith) t;
    }
