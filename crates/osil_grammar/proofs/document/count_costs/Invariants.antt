use Rattle.osil_grammar.proofs.Words.{ℕ, ◌+◌, ◌≤◌, drop, CountsCosts}
use Rattle.osil_grammar.proofs.document.count_costs.Given as goal

abbrev pub invariant-loop-cost : goal.invariant-loop-cost
invariant-loop-cost l = record {
  few : l.count ≤ l.cost-index;
  counts : (n : ℕ) → CountsCosts (drop l.cost-index l.costs) n → CountsCosts l.costs (l.count + n);
}
