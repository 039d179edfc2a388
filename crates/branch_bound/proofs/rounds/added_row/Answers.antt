use Rattle.std.proofs.Common.{ap}
use Rattle.instance.specs.declared.parts.Row.{Row}
use Rattle.branch_bound.proofs.CutRows.{not_above, not_below}
use Rattle.branch_bound.proofs.rounds.added_row.Goals as goal

pub returns-clause-added : goal.returns-clause-added
returns-clause-added c =
    let row = c.args.row.now in
    let is = c.in_ok-entries.ensures in
    let inside = rw c.as_slice.ensures.value at is.inside in
    record {
      rows = is.own;
      ascending = is.ascending;
      inside = inside;
      nonzero = is.nonzero;
      low = not_above row.ends.lb c.requires.ends.0 (ap (λ (r : Row). r.lb) c.requires.ends.1);
      high = not_below row.ends.ub (ap (λ (r : Row). r.ub) c.requires.ends.1);
    }

pub returns-clause-values : goal.returns-clause-values
returns-clause-values c = rw c.as_slice.ensures.value at c.in_ok-entries.ensures.values
