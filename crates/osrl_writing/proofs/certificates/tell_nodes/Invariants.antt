use Rattle.osrl_writing.proofs.Names.{◌≡◌, List, [], ◌++◌, drop, map, Event, nodes_events, said, item_nodes, node_text}
use Rattle.osrl_writing.proofs.certificates.tell_nodes.Given as goal

abbrev pub invariant-loop-node : goal.invariant-loop-node
invariant-loop-node l = record {
  waiting : l.b.attributes ≡ [];
  told : (behind : List Event) → said l.b ++ nodes_events (item_nodes (map node_text (drop l.node-index l.nodes))) behind ≡ said l.fn.b ++ nodes_events (item_nodes (map node_text l.nodes)) behind;
}
