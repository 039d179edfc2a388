use Rattle.std.proofs.Common.{◌≡◌, ◌+◌, ◌<◌, ◌++◌, ◌∷◌, [], length, take, slice_set, arith, ◌∙◌}
use Rattle.std.proofs.lemmas.List.{take_more_set, length-take-le, length-set}
use Rattle.decimal_text.proofs.Expansions.{another_at, a_zero}
use Rattle.decimal_text.proofs.expand.expand.Goals as goal
use Rattle.decimal_text.proofs.expand.expand.Goals.{then-digit-ne0, else-digit-ne0}

pub loop-i-preserved : goal.loop-i-preserved
loop-i-preserved c =
    let l = c.loop-i in
    let step = c.next_digit-digit in
    let within : l.i < length l.digits = omega (arith, c.loop-i-test.true, l.invariant.long) in
    let long : length (take l.i l.digits) ≡ l.i = length-take-le l.i l.digits (omega (arith, within)) in
    let more : take (l.i + 1) (slice_set l.digits l.i (48 + step.result.0)) ≡ take l.i l.digits ++ (48 + step.result.0) ∷ [] =
    take_more_set l.digits l.i (48 + step.result.0) within in
    record {
      so_far = rw more (
          elim c.if-digit-ne0.branch [
            | then-digit-ne0 w ↦ rw w.used-is
                (another_at _ _ _ _ step.result.0 step.result.1 l.i _ long l.invariant.so_far step.ensures.digit w.if-digit-ne0.true step.ensures.value step.ensures.below)
            | else-digit-ne0 w ↦
                let none : step.result.0 ≡ 0 = omega (arith, w.if-digit-ne0.false) in
                rw (w.used-is, none) (a_zero _ _ _ _ step.result.1 _ l.invariant.so_far (rw none at step.ensures.value) step.ensures.below)
          ]);
      inside = omega (arith, c.loop-i-test.true);
      long = length-set l.digits l.i (48 + step.result.0) ∙ l.invariant.long;
    }
