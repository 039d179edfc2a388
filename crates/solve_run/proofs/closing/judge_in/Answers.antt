use Rattle.solve_run.proofs.ClaimNodes.{shown_range}
use Rattle.solve_run.proofs.WidthRefusals.{width_alone}
use Rattle.solve_run.proofs.closing.judge_in.Goals as goal

pub check-requires-clause-range : goal.check-requires-clause-range
check-requires-clause-range c = shown_range c.args.instance.now c.args.claim.now c.requires.valid c.requires.shown c.requires.few

pub wide_node-requires : goal.wide_node-requires
wide_node-requires c =
    let laws = c.shown_is_refused_for_width_alone.ensures in
    width_alone (record { optimal = laws.optimal; infeasible = laws.infeasible; unbounded = laws.unbounded }) c.args.instance.now c.args.claim.now c.in-Err.refused
    (c.problems_have_numbers.ensures.numbers c.args.instance.now) c.requires.is_final c.requires.shown c.in-Err.ensures.err

pub returns-in-Err-clause-judged : goal.returns-in-Err-clause-judged
returns-in-Err-clause-judged c = (c.requires.is_final, c.in-Err.refused, c.in-Err.ensures.err, c.wide_node.ensures)
