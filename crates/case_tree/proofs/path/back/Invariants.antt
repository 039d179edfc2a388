use Rattle.std.proofs.Common.{◌≡◌, ◌≤◌}
use Rattle.evidence.specs.Instance as Of
use Rattle.case_tree.specs.Cuts.{pending, pending_places}
use Rattle.case_tree.proofs.path.back.Given as goal

abbrev pub invariant-loop-place : goal.invariant-loop-place
invariant-loop-place l = record {
  within : l.place ≤ l.initial.place;
  branches : l.branches ≡ l.initial.branches;
  places : pending_places l.branches l.place ≡ pending_places l.initial.branches l.initial.place;
  same : (I : Of.Instance) → pending I l.cuts l.branches l.place ≡ pending I l.initial.cuts l.initial.branches l.initial.place;
}

abbrev pub decreases-loop-place : goal.decreases-loop-place
decreases-loop-place l = l.place
