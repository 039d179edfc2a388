use Rattle.osrl_grammar.proofs.Names.{node_word, all_node_words}
use Rattle.osrl_grammar.proofs.WordValues.{is_worded, each_node_word}
use Rattle.osrl_grammar.proofs.item_reading.node_word.Goals as goal

pub returns : goal.returns
returns c = is_worded node_word all_node_words c.args.word.now c.with_word.result each_node_word c.with_word.ensures
