use Rattle.std.proofs.Common.{false, IsTrue, refl, inr}
use Rattle.cert_checker.proofs.Values.{value_to, value_from}
use Rattle.cert_checker.proofs.point.check_value.Goals as goal

pub returns-then-is_same-clause-ok : goal.returns-then-is_same-clause-ok
returns-then-is_same-clause-ok c = record {
  fits = c.in-Ok.ensures.fits;
  is = value_to c.args.instance.now c.args.point.now c.args.values.now c.args.goal c.index-values-goal.result c.in-Ok.objective c.requires.value c.index-values-goal.is c.in-Ok.ensures.ok (c.is_same.ensures.0 c.if-is_same.true);
}

pub returns-else-is_same-clause-err : goal.returns-else-is_same-clause-err
returns-else-is_same-clause-err c =
    inr (
      c.in-Ok.ensures.fits,
      λ e. let t : IsTrue false = c.if-is_same.ensures.1 (value_from c.args.instance.now c.args.point.now c.args.values.now c.args.goal c.index-values-goal.result c.in-Ok.objective c.requires.value c.index-values-goal.is c.in-Ok.ensures.ok e) in cc,
      refl,
    )
