use Rattle.std.proofs.Common.{◌≡◌, map, take}
use Rattle.instance.specs.Program.{variable}
use Rattle.case_tree.specs.Cuts.{cut_variable}
use Rattle.branch_bound.proofs.searching.uncut_all.Given as goal

abbrev pub invariant-loop-var : goal.invariant-loop-var
invariant-loop-var l = map cut_variable l.cuts.items ≡ map variable (take l.var-index l.vars)
