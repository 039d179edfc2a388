use Rattle.std.proofs.Common.{◌≡◌, length, reverse}
use Rattle.decimal_text.specs.Space.{without_leading_space}
use Rattle.decimal_text.proofs.space.trim_end.Given as goal

abbrev pub invariant-loop-rest : goal.invariant-loop-rest
invariant-loop-rest l = without_leading_space (reverse l.text) ≡ without_leading_space (reverse l.rest)

abbrev pub decreases-loop-rest : goal.decreases-loop-rest
decreases-loop-rest l = length l.rest
