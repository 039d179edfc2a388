use Rattle.std.proofs.Common.{◌≡◌, List, [], ◌++◌, drop}
use Rattle.tree_grammar.specs.Elements.{Event, nodes_events}
use Rattle.element_tree.specs.Building.{said}
use Rattle.ospl_grammar.specs.Writing.{jobs_nodes}
use Rattle.ospl_grammar.proofs.writing.tell_jobs.Given as goal

abbrev pub invariant-loop-job : goal.invariant-loop-job
invariant-loop-job l = record {
  waiting : l.b.attributes ≡ [];
  told : (behind : List Event) → said l.b ++ nodes_events (jobs_nodes (drop l.job-index l.jobs)) behind ≡ said l.fn.b ++ nodes_events (jobs_nodes l.jobs) behind;
}
