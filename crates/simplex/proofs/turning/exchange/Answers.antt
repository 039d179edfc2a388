use Rattle.simplex.proofs.TurnSteps.{swapped_statuses}
use Rattle.simplex.proofs.turning.exchange.Goals as goal

pub returns-clause-held : goal.returns-clause-held
returns-clause-held g c = record {
  rows = c.requires.held.rows;
  holds = c.in_ok-pivot.ensures.holds c.requires.held.rows c.requires.held.holds;
  statuses = swapped_statuses c.args.dict.now c.pivot.new.self c.args.statuses.now c.requires.held.statuses c.args.swap c.requires.swap c.in_ok-pivot.ensures.size c.in_ok-pivot.ensures.basis;
}
