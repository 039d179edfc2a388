use Rattle.std.proofs.Common.{None, arith, ◌∙◌, sym, subst}
use Rattle.fraction.specs.Frac.{ratio, ratios}
use Rattle.evidence.specs.Point.{value_at}
use Rattle.std.proofs.lemmas.List.{get_or_default}
use Rattle.cert_checker.specs.Slots.{slot_at, IsStep}
use Rattle.cert_checker.proofs.Additions.{first_added, next_added}
use Rattle.cert_checker.proofs.slots.add_numbers.Goals as goal

pub loop-j-init : goal.loop-j-init
loop-j-init c = first_added (ratio c.args.by) (value_at (ratios c.args.numbers.now)) c.args.slots.now

pub loop-j-preserved : goal.loop-j-preserved
loop-j-preserved c =
    next_added (ratio c.args.by) (value_at (ratios c.args.numbers.now)) c.args.slots.now c.loop-j.slots c.loop-j.j c.plus.result (let a = c.loop-j.auto.slots in omega arith) c.loop-j.invariant
    (subst (λ x. IsStep (slot_at c.loop-j.slots c.loop-j.j) (ratio c.args.by) x c.plus.result) c.number_at.ensures
    (subst (λ w. IsStep w (ratio c.args.by) (ratio c.number_at.result) c.plus.result) (sym (get_or_default c.loop-j.slots c.loop-j.j None c.index-slots-j.result (let a = c.loop-j.auto.slots in omega arith) ∙ sym c.index-slots-j.is)) c.plus.ensures))

pub returns : goal.returns
returns c = λ j h. (c.loop-j.invariant).done j (omega arith)
