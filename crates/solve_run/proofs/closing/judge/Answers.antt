use Rattle.solve_run.proofs.ClaimNodes.{shown_range}
use Rattle.solve_run.proofs.closing.judge.Goals as goal

pub is_accepted-requires-clause-range : goal.is_accepted-requires-clause-range
is_accepted-requires-clause-range c = shown_range c.args.instance.now c.args.claim.now c.requires.valid c.requires.shown c.requires.few
