use Rattle.std.proofs.Common.{◌≤◌, pos, ◌*ℤ◌}
use Rattle.std.specs.Prelude.{unsigned_abs}
use Rattle.std.proofs.Math.Nat.{not-le_of_lt}
use Rattle.std.proofs.lemmas.Result.{IfOk-weaker, on_err_weaker}
use Rattle.rational.specs.Width.{most}
use Rattle.fraction.proofs.Forms.{at_err}
use Rattle.fraction.proofs.Wholes.{kept}
use Rattle.fraction.proofs.frac.Frac.joint.Goals as goal

pub returns-in_err-left-clause-wide : goal.returns-in_err-left-clause-wide
returns-in_err-left-clause-wide c =
    let past = rw (kept c.args.self.numer c.args.self.numer_within) at c.in_err-left.ensures.wide in
    at_err c.from_residual.result (λ fits. not-le_of_lt past fits.0)

pub returns-in_err-right-clause-wide : goal.returns-in_err-right-clause-wide
returns-in_err-right-clause-wide c =
    let past = rw (kept c.args.other.numer c.args.other.numer_within) at c.in_err-right.ensures.wide in
    at_err c.from_residual-in_err-right.result (λ fits. not-le_of_lt past fits.1)

pub returns-clause-value : goal.returns-clause-value
returns-clause-value c =
    let left = rw (kept c.args.self.numer c.args.self.numer_within) at c.in_ok-left.ensures.value in
    let right = rw (kept c.args.other.numer c.args.other.numer_within) at c.in_ok-right.ensures.value in
    let kept_left = kept c.in_ok-left.left c.in_ok-left.ensures.small in
    let kept_right = kept c.in_ok-right.right c.in_ok-right.ensures.small in
    rw (kept_left, kept_right, left, right) at c.total.ensures.value

pub returns-clause-left : goal.returns-clause-left
returns-clause-left c =
    let left = rw (kept c.args.self.numer c.args.self.numer_within) at c.in_ok-left.ensures.value in
    IfOk-weaker c.total.result _ (λ n. unsigned_abs (c.args.self.numer *ℤ pos c.args.by) ≤ most)
    (λ n small. rw left at c.in_ok-left.ensures.small) c.total.ensures.small

pub returns-clause-right : goal.returns-clause-right
returns-clause-right c =
    let right = rw (kept c.args.other.numer c.args.other.numer_within) at c.in_ok-right.ensures.value in
    IfOk-weaker c.total.result _ (λ n. unsigned_abs (c.args.other.numer *ℤ pos c.args.other_by) ≤ most)
    (λ n small. rw right at c.in_ok-right.ensures.small) c.total.ensures.small

pub returns-clause-total : goal.returns-clause-total
returns-clause-total c = c.total.ensures.small

pub returns-clause-wide : goal.returns-clause-wide
returns-clause-wide c =
    let left = rw (kept c.args.self.numer c.args.self.numer_within) at c.in_ok-left.ensures.value in
    let right = rw (kept c.args.other.numer c.args.other.numer_within) at c.in_ok-right.ensures.value in
    let kept_left = kept c.in_ok-left.left c.in_ok-left.ensures.small in
    let kept_right = kept c.in_ok-right.right c.in_ok-right.ensures.small in
    on_err_weaker c.total.result (λ past fits. not-le_of_lt past fits.2) (rw (kept_left, kept_right, left, right) at c.total.ensures.wide)
