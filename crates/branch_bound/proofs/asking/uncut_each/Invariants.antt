use Rattle.std.proofs.Common.{◌≡◌, map, take}
use Rattle.instance.specs.Program.{variable}
use Rattle.case_tree.specs.Cuts.{cut_variable}
use Rattle.branch_bound.proofs.asking.uncut_each.Given as goal

abbrev pub invariant-loop-j : goal.invariant-loop-j
invariant-loop-j l = map cut_variable (take l.j l.cuts) ≡ map variable (take l.j l.vars)
