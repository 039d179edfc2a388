use Rattle.std.proofs.Common.{List, length, sym, subst, ◌<◌}
use Rattle.fraction.specs.declared.frac.Frac.{Frac}
use Rattle.branch_bound.proofs.bounds.reached_bound.Goals as goal

pub bounds-as_slice-0 : goal.bounds-as_slice-0
bounds-as_slice-0 c = subst (λ (l : List Frac). 0 < length l) (sym c.as_slice.ensures) (c.requires.values c.in-Some.found c.in-Some.is)
