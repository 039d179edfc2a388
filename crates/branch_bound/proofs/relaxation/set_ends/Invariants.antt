use Rattle.std.proofs.Common.{◌≡◌, length, map, take}
use Rattle.branch_bound.specs.Levels.{ends_in}
use Rattle.branch_bound.proofs.relaxation.set_ends.Given as goal

abbrev pub invariant-loop-j : goal.invariant-loop-j
invariant-loop-j l = record {
  long : length l.ends.ends ≡ length l.cuts;
  rest : l.ends ≡ record l.initial.ends { ends = l.ends.ends };
  ends : take l.j l.ends.ends ≡ map ends_in (take l.j l.cuts);
}
