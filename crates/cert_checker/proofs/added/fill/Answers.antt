use Rattle.std.proofs.Common.{None, arith, sym, ◌∙◌}
use Rattle.std.proofs.lemmas.List.{get_or_default}
use Rattle.cert_checker.proofs.Additions.{numbers_next}
use Rattle.cert_checker.proofs.added.fill.Goals as goal

pub loop-j-preserved : goal.loop-j-preserved
loop-j-preserved c =
    let a = c.loop-j.auto.numbers in
    numbers_next c.loop-j.numbers c.args.slots.now c.loop-j.j c.number_of.result (omega arith)
    (λ x e. c.number_of.ensures x (c.index-slots-j.is ∙ sym (get_or_default c.args.slots.now c.loop-j.j None c.index-slots-j.result c.loop-j-test.true) ∙ e))
    c.loop-j.invariant
