use Rattle.std.proofs.Common.{◌≡◌, map, take}
use Rattle.simplex.specs.Cuts.{own_ends}
use Rattle.simplex.proofs.cuts.Cuts.of.Given as goal

abbrev pub invariant-loop-var : goal.invariant-loop-var
invariant-loop-var l = l.ends.items ≡ map own_ends (take l.var-index l.vars)
