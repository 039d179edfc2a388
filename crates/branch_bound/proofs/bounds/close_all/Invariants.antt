use Rattle.std.proofs.Common.{◌≡◌, true, Option, length}
use Rattle.fraction.specs.declared.frac.Frac.{Frac}
use Rattle.instance.specs.Program.{program}
use Rattle.cert_checker.specs.Programs.{with_rows}
use Rattle.branch_bound.specs.declared.walk.Walk.{Walk}
use Rattle.branch_bound.specs.Walks.{waiting, IsWalk}
use Rattle.branch_bound.specs.Bounds.{carried, kept_by, AllBound, HasCarried, ClosesAll}
use Rattle.branch_bound.proofs.bounds.close_all.Given as goal

abbrev pub invariant-loop-walk : goal.invariant-loop-walk
invariant-loop-walk l = record {
  walk : IsWalk (length l.instance.vars) l.walk;
  keeps : l.walk.keeps ≡ true;
  places : HasCarried l.walk;
  bounds : AllBound (waiting (with_rows (program l.instance) l.rows) l.walk l.walk.next) (carried l.walk);
  answers : (y : Walk) (r : Option Frac) → ClosesAll l.instance l.rows l.walk y l.number r → ClosesAll l.instance l.rows l.initial.walk y l.fn.best r;
}

abbrev pub decreases-loop-walk : goal.decreases-loop-walk
decreases-loop-walk l = length (kept_by l.walk l.walk.next)
