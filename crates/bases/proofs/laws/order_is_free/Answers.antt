use Rattle.std.proofs.Common.{lit<}
use Rattle.evidence.specs.Sums.{none}
use Rattle.evidence.proofs.Numbers.{◌≈◌}
use Rattle.bases.proofs.Order.{order_free}
use Rattle.bases.proofs.laws.order_is_free.Goals as goal

pub returns : goal.returns
returns c n k basic at place f through p zero =
    let all = order_free n k basic at place through f p (λ a h t. let z : f a ≈ none = record { left = p a; right = lit< tt; is = zero a h t } in z) in all.is
