use Rattle.std.proofs.Common.{◌≡◌, take}
use Rattle.items.proofs.Items.try_copy_each.Given as goal

abbrev pub invariant-loop-i : goal.invariant-loop-i
invariant-loop-i g l = l.copy ≡ take l.i l.items
