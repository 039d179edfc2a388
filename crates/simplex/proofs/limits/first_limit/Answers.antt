use Rattle.std.proofs.Common.{ℕ, ◌≡◌, ◌<◌, length, nat_eq, sym, ◌∙◌, subst, arith, below_more, Option}
use Rattle.evidence.specs.Instance.{Range}
use Rattle.evidence.proofs.Columns.{by_lt}
use Rattle.rational.specs.Ratio.{Ratio}
use Rattle.fraction.specs.Frac.{ratio}
use Rattle.instance.proofs.Terms.{read}
use Rattle.simplex_rules.specs.Statuses.{basic_in}
use Rattle.simplex_rules.specs.Turns.{rate, limit_one}
use Rattle.simplex_rules.specs.Widths.{OneFits}
use Rattle.simplex.specs.Limits.{IsLimit}
use Rattle.dictionary.specs.Dict.{entry_of}
use Rattle.simplex.specs.Cuts.{ranges_in, range_of}
use Rattle.simplex.specs.Tables.{values_in}
use Rattle.simplex.proofs.ColumnEnds.{read_range}
use Rattle.instance.proofs.Terms.{at_err}
use Rattle.simplex.proofs.LeastLimits.{keep_to, limit_known, limits_known, limit_fits}
use Rattle.simplex.proofs.BasicColumns.{still_none, still_fits}
use Rattle.simplex.proofs.limits.first_limit.Goals as goal

pub loop-c-init : goal.loop-c-init
loop-c-init g c = record { best = λ k h. absurd (omega arith); fits = λ k h. absurd (omega arith); inside = omega arith }

pub returns-in_err-next-clause-wide : goal.returns-in_err-next-clause-wide
returns-in_err-next-clause-wide g c = λ I e.
    let h : c.in-Some.c < length c.args.ends.now = let a = c.requires.ends in let s = c.requires.statuses in let b = s.count in let i = c.in-Some.ensures.inside in omega arith in
    let hv : c.in-Some.c < length c.args.values.now = let a = c.requires.values in let s = c.requires.statuses in let b = s.count in let i = c.in-Some.ensures.inside in omega arith in
    let r = read_range c.args.ends.now c.in-Some.c c.index-ends-c.result c.index-ends-c.is h in
    let v = read c.args.values.now c.in-Some.c c.index-values-c.result hv c.index-values-c.is in
    let u = entry_of c.args.dict.now in
    at_err c.from_residual.result
    (λ f. c.in_err-next.ensures.wide
    (subst (λ (x : Ratio). OneFits (basic_in c.args.statuses.now c.in-Some.c) (nat_eq c.in-Some.c c.args.moving.col) (range_of c.index-ends-c.result) x (rate c.args.moving.way (entry_of c.args.dict.now c.in-Some.c c.args.moving.col))) v
    (subst (λ (x : Range). OneFits (basic_in c.args.statuses.now c.in-Some.c) (nat_eq c.in-Some.c c.args.moving.col) x (values_in c.args.values.now c.in-Some.c) (rate c.args.moving.way (entry_of c.args.dict.now c.in-Some.c c.args.moving.col))) r
    (limit_fits I c.args.ends.now e c.args.statuses.now (entry_of c.args.dict.now) (values_in c.args.values.now) c.args.moving c.in-Some.c h f))))

pub loop-c-preserved : goal.loop-c-preserved
loop-c-preserved g c =
    let h : c.in-Some.c < length c.args.ends.now = let a = c.requires.ends in let s = c.requires.statuses in let b = s.count in let i = c.in-Some.ensures.inside in omega arith in
    let hv : c.in-Some.c < length c.args.values.now = let a = c.requires.values in let s = c.requires.statuses in let b = s.count in let i = c.in-Some.ensures.inside in omega arith in
    let r = sym (read_range c.args.ends.now c.in-Some.c c.index-ends-c.result c.index-ends-c.is h) in
    let v = sym (read c.args.values.now c.in-Some.c c.index-values-c.result hv c.index-values-c.is) in
    let at = c.in-Some.ensures in
    let s = c.requires.statuses in
    let f : ℕ → Option Ratio = λ k. limit_one (basic_in c.args.statuses.now k) (nat_eq k c.args.moving.col) (ranges_in c.args.ends.now k) (values_in c.args.values.now k) (rate c.args.moving.way (entry_of c.args.dict.now k c.args.moving.col)) in
    record {
      best =
          c.lesser-best.ensures f (keep_to f c.loop-c.from c.in-Some.c c.loop-c.best at.later c.loop-c.invariant.best (λ k a b. still_none c.args.dict.now c.args.statuses.now s c.args.moving.col k (omega arith) (at.before k a b) (ranges_in c.args.ends.now k) (values_in c.args.values.now k) (rate c.args.moving.way (entry_of c.args.dict.now k c.args.moving.col))))
          (subst (λ (x : Ratio). IsLimit (limit_one (basic_in c.args.statuses.now c.in-Some.c) (nat_eq c.in-Some.c c.args.moving.col) (ranges_in c.args.ends.now c.in-Some.c) x (rate c.args.moving.way (entry_of c.args.dict.now c.in-Some.c c.args.moving.col))) c.in_ok-next.next) v
          (subst (λ (x : Range). IsLimit (limit_one (basic_in c.args.statuses.now c.in-Some.c) (nat_eq c.in-Some.c c.args.moving.col) x (ratio c.index-values-c.result) (rate c.args.moving.way (entry_of c.args.dict.now c.in-Some.c c.args.moving.col))) c.in_ok-next.next) r c.in_ok-next.ensures.ok));
      fits =
          below_more (λ k. OneFits (basic_in c.args.statuses.now k) (nat_eq k c.args.moving.col) (ranges_in c.args.ends.now k) (values_in c.args.values.now k) (rate c.args.moving.way (entry_of c.args.dict.now k c.args.moving.col))) c.in-Some.c
          (λ k l. by_lt k c.loop-c.from (λ i. c.loop-c.invariant.fits k i) (λ i. still_fits c.args.dict.now c.args.statuses.now s c.args.moving.col k (omega arith) (at.before k i l) (ranges_in c.args.ends.now k) (values_in c.args.values.now k) (rate c.args.moving.way (entry_of c.args.dict.now k c.args.moving.col))))
          (subst (λ (x : Ratio). OneFits (basic_in c.args.statuses.now c.in-Some.c) (nat_eq c.in-Some.c c.args.moving.col) (ranges_in c.args.ends.now c.in-Some.c) x (rate c.args.moving.way (entry_of c.args.dict.now c.in-Some.c c.args.moving.col))) v
          (subst (λ (x : Range). OneFits (basic_in c.args.statuses.now c.in-Some.c) (nat_eq c.in-Some.c c.args.moving.col) x (ratio c.index-values-c.result) (rate c.args.moving.way (entry_of c.args.dict.now c.in-Some.c c.args.moving.col))) r c.in_ok-next.ensures.fits));
      inside = let a = c.requires.goal in omega (arith, a, s.count, at.inside);
    }

pub returns-clause-ok : goal.returns-clause-ok
returns-clause-ok g c = λ I e.
    let s = c.requires.statuses in
    let n : c.args.goal ≡ length c.args.ends.now = c.requires.goal ∙ sym c.requires.ends in
    let f : ℕ → Option Ratio = λ k. limit_one (basic_in c.args.statuses.now k) (nat_eq k c.args.moving.col) (ranges_in c.args.ends.now k) (values_in c.args.values.now k) (rate c.args.moving.way (entry_of c.args.dict.now k c.args.moving.col)) in
    let all = keep_to f c.loop-c.from c.args.goal c.loop-c.best c.loop-c.invariant.inside c.loop-c.invariant.best
    (λ k a b. still_none c.args.dict.now c.args.statuses.now s c.args.moving.col k (omega (arith, c.requires.goal)) (c.in_default.ensures k a (omega (arith, c.requires.goal, s.count))) (ranges_in c.args.ends.now k) (values_in c.args.values.now k) (rate c.args.moving.way (entry_of c.args.dict.now k c.args.moving.col))) in
    limit_known I c.args.ends.now e c.args.statuses.now (entry_of c.args.dict.now) (values_in c.args.values.now) c.args.moving c.loop-c.best c.args.goal n all

pub returns-clause-fits : goal.returns-clause-fits
returns-clause-fits g c = λ I e.
    let s = c.requires.statuses in
    let n : c.args.goal ≡ length c.args.ends.now = c.requires.goal ∙ sym c.requires.ends in
    limits_known I c.args.ends.now e c.args.statuses.now (entry_of c.args.dict.now) (values_in c.args.values.now) c.args.moving c.args.goal n
    (λ k l. by_lt k c.loop-c.from (λ i. c.loop-c.invariant.fits k i)
    (λ i. still_fits c.args.dict.now c.args.statuses.now s c.args.moving.col k (omega (arith, c.requires.goal)) (c.in_default.ensures k i (omega (arith, c.requires.goal, s.count))) (ranges_in c.args.ends.now k) (values_in c.args.values.now k) (rate c.args.moving.way (entry_of c.args.dict.now k c.args.moving.col))))
