use Rattle.std.proofs.Common.{◌<◌, length, subst, sym, ◌∙◌, arith}
use Rattle.rational.specs.Ratio.{Ratio}
use Rattle.evidence.specs.Instance.{Range, column_at}
use Rattle.evidence.proofs.Columns.{by_eq, by_lt}
use Rattle.fraction.specs.Frac.{ratio}
use Rattle.instance.proofs.Terms.{read}
use Rattle.marks.specs.Marks.{is_marked}
use Rattle.simplex_rules.specs.Turns.{Misses}
use Rattle.simplex.specs.Cuts.{ranges_in, range_of}
use Rattle.simplex.specs.Tables.{values_in}
use Rattle.simplex.proofs.ColumnEnds.{read_range}
use Rattle.simplex.proofs.BasicColumns.{not_left, marked_status}
use Rattle.simplex.proofs.valued.first_out.Goals as goal

pub loop-c-init : goal.loop-c-init
loop-c-init g c = record { kept = c.new-walk.ensures (is_marked c.basic_columns-basic.result.now); before = λ k h. absurd (omega arith) }

pub returns-in-Some-misses : goal.returns-in-Some-misses
returns-in-Some-misses g c = λ I u e.
    let s = c.requires.statuses in
    let at = c.in-Some.ensures.first in
    let i = c.basic_columns-basic.ensures.inside c.in-Some.c at.is in
    let l : c.in-Some.c < length c.args.statuses.now = omega (arith, s.count, i) in
    let h : c.in-Some.c < length c.args.ends.now = omega (arith, c.requires.ends, l) in
    let hv : c.in-Some.c < length c.args.values.now = omega (arith, c.requires.values, l) in
    let r = sym (e.is c.in-Some.c ∙ read_range c.args.ends.now c.in-Some.c c.index-ends-c.result c.index-ends-c.is h) in
    let v = sym (read c.args.values.now c.in-Some.c c.index-values-c.result hv c.index-values-c.is) in
    record {
      inside = omega (arith, e.count, c.requires.ends, l);
      out = record {
        basic = sym (marked_status c.args.dict.now c.args.statuses.now s c.basic_columns-basic.result.now c.basic_columns-basic.ensures.basic c.in-Some.c l) ∙ at.is;
        misses = subst (λ (x : Ratio). Misses c.in-Some-misses.way (column_at I c.in-Some.c) x) v (subst (λ (x : Range). Misses c.in-Some-misses.way x (ratio c.index-values-c.result)) r c.in-Some-misses.ensures);
      };
      before = λ k a w p.
          let n : k < c.args.goal = omega (arith, a, l, c.requires.goal) in
          by_lt k c.loop-c.from (λ j. c.loop-c.invariant.before k j n w p.basic (subst (λ (x : Range). Misses w x (values_in c.args.values.now k)) (e.is k) p.misses))
          (λ j. not_left c.args.dict.now c.args.statuses.now s c.basic_columns-basic.result.now c.basic_columns-basic.ensures.basic k (omega (arith, n, c.requires.goal)) p.basic (at.first k j a));
    }

pub next_by-requires : goal.next_by-requires
next_by-requires g c = c.loop-c.invariant.kept

pub loop-c-preserved : goal.loop-c-preserved
loop-c-preserved g c =
    let s = c.requires.statuses in
    let at = c.in-Some.ensures.first in
    let i = c.basic_columns-basic.ensures.inside c.in-Some.c at.is in
    let h : c.in-Some.c < length c.args.ends.now = omega (arith, s.count, c.requires.ends, i) in
    let hv : c.in-Some.c < length c.args.values.now = omega (arith, s.count, c.requires.values, i) in
    let r = read_range c.args.ends.now c.in-Some.c c.index-ends-c.result c.index-ends-c.is h in
    let x = read c.args.values.now c.in-Some.c c.index-values-c.result hv c.index-values-c.is in
    record {
      kept = c.in-Some.ensures.kept;
      before = λ k l b v o p. by_eq k c.in-Some.c
          (λ e. c.in_default-misses.ensures v
          (subst (λ (z : Ratio). Misses v (range_of c.index-ends-c.result) z) x
          (subst (λ (z : Range). Misses v z (values_in c.args.values.now c.in-Some.c)) r
          (subst (λ j. Misses v (ranges_in c.args.ends.now j) (values_in c.args.values.now j)) e p))))
          (λ n. by_lt k c.loop-c.from (λ j. c.loop-c.invariant.before k j b v o p)
          (λ j. not_left c.args.dict.now c.args.statuses.now s c.basic_columns-basic.result.now c.basic_columns-basic.ensures.basic k (omega (arith, b, c.requires.goal)) o (at.first k j (omega arith))));
    }

pub returns : goal.returns
returns g c = λ I u e k h v p.
    let s = c.requires.statuses in
    let b : k < c.args.goal = omega (arith, e.count, c.requires.ends, c.requires.goal, h) in
    by_lt k c.loop-c.from (λ j. c.loop-c.invariant.before k j b v p.basic (subst (λ (x : Range). Misses v x (values_in c.args.values.now k)) (e.is k) p.misses))
    (λ j. not_left c.args.dict.now c.args.statuses.now s c.basic_columns-basic.result.now c.basic_columns-basic.ensures.basic k (omega (arith, b, c.requires.goal)) p.basic (c.in_default.ensures.first k j))
