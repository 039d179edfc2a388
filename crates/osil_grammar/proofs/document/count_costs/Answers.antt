use Rattle.osil_grammar.proofs.Words.{arith}
use Rattle.osil_grammar.proofs.CostCounts.{counts_next, counts_all}
use Rattle.osil_grammar.proofs.document.count_costs.Goals as goal

pub loop-cost-preserved : goal.loop-cost-preserved
loop-cost-preserved c = record {
  few = omega (arith, c.count_cost-count.ensures.few, c.loop-cost.invariant.few);
  counts = counts_next c.args.costs.now c.loop-cost.cost-index c.loop-cost.count c.count_cost-count.result c.cost-item.result (omega arith) c.cost-item.is c.loop-cost.invariant.counts c.count_cost-count.ensures.counts;
}

pub returns : goal.returns
returns c = counts_all c.args.costs.now c.loop-cost.cost-index c.loop-cost.count (omega arith) c.loop-cost.invariant.counts
