use Rattle.std.proofs.Common.{Bool, cond, sym, ◌∙◌, ap}
use Rattle.fraction.specs.Frac.{ratios}
use Rattle.evidence.specs.Sums.{none}
use Rattle.evidence.specs.Point.{value_at}
use Rattle.instance.proofs.Terms.{read}
use Rattle.dictionary.proofs.replacing.value_of.Goals as goal

pub returns-then-not-has : goal.returns-then-not-has
returns-then-not-has c = c.zero.ensures ∙ sym (ap (λ (b : Bool). cond b (value_at (ratios c.args.values.now) c.args.c) none) (sym c.has.ensures ∙ c.if-not-has.true))

pub returns : goal.returns
returns c = sym (read c.args.values.now c.args.c c.index-values-c.result c.requires.values c.index-values-c.is) ∙ sym (ap (λ (b : Bool). cond b (value_at (ratios c.args.values.now) c.args.c) none) (sym c.has.ensures ∙ c.if-not-has.false))
