use Rattle.osrl_grammar.proofs.Names.{sym, IfOk-weaker, pieces, more, node_word, all_node_words, node_behind, tree_head, SaysTree}
use Rattle.osrl_grammar.proofs.Heads.{begun_read}
use Rattle.osrl_grammar.proofs.item_reading.read_tree_item.Goals as goal

pub returns-in-Some : goal.returns-in-Some
returns-in-Some c = IfOk-weaker c.tree_item_of.result _ _ (λ r h. begun_read node_word all_node_words node_behind tree_head SaysTree (pieces c.args.text.now) c.first_piece.result.0.now (more c.first_piece.result.1) c.in-Some.word r c.first_piece.ensures (sym c.in-Some.ensures) h) c.tree_item_of.ensures
