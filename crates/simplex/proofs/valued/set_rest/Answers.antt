use Rattle.std.proofs.Common.{◌<◌, length, refl, sym, ◌∙◌, ap, arith}
use Rattle.evidence.specs.Instance.{Range}
use Rattle.evidence.proofs.Columns.{by_eq}
use Rattle.simplex_rules.specs.Statuses.{status_at, rest_at}
use Rattle.simplex.specs.Cuts.{ranges_in}
use Rattle.dictionary.specs.Dict.{place_values}
use Rattle.simplex.proofs.ColumnEnds.{read_range}
use Rattle.simplex.proofs.valued.set_rest.Goals as goal

pub loop-c-init : goal.loop-c-init
loop-c-init c = record { count = refl; before = λ k h. absurd (omega arith) }

pub loop-c-preserved : goal.loop-c-preserved
loop-c-preserved c =
    let t = c.loop-c-test.true in
    let h : c.loop-c.c < length c.args.ends.now = let a = c.requires.ends in let g = c.requires.goal in omega arith in
    let r = read_range c.args.ends.now c.loop-c.c c.index-ends-c.result c.index-ends-c.is h in
    record {
      count = c.set.ensures.count ∙ c.loop-c.invariant.count;
      before = λ k l. by_eq k c.loop-c.c
          (λ e. ap (place_values c.set.new.self) e ∙ c.set.ensures.own ∙ c.rest_value-value.ensures ∙ ap (λ (z : Range). rest_at z (status_at c.args.statuses.now c.loop-c.c)) (sym r) ∙ ap (λ j. rest_at (ranges_in c.args.ends.now j) (status_at c.args.statuses.now j)) (sym e))
          (λ d. c.set.ensures.others k d ∙ c.loop-c.invariant.before k (omega arith));
    }
