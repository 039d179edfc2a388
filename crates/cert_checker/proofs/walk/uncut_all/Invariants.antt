use Rattle.std.proofs.Common.{◌≡◌, map, take}
use Rattle.instance.specs.Program.{variable}
use Rattle.case_tree.specs.Cuts.{cut_variable}
use Rattle.cert_checker.proofs.walk.uncut_all.Given as goal

abbrev pub invariant-loop-j : goal.invariant-loop-j
invariant-loop-j l = take l.j (map cut_variable l.cuts) ≡ take l.j (map variable l.vars)
