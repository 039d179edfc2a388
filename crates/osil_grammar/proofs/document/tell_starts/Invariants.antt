use Rattle.osil_grammar.proofs.Words.{ℕ, ◌-◌, List, Event, nodes_events, counts_nodes, row_starts}
use Rattle.tree_writing.specs.Awaiting.{Awaits}
use Rattle.osil_grammar.proofs.document.tell_starts.Given as goal

abbrev pub invariant-loop-row : goal.invariant-loop-row
invariant-loop-row l = (behind : List Event) (text : List ℕ) → Awaits l.initial.w (nodes_events (counts_nodes (row_starts l.entries 0 l.rows)) behind) text → Awaits l.w (nodes_events (counts_nodes (row_starts l.entries l.row (l.rows - l.row))) behind) text
