use Rattle.osrl_grammar.proofs.Names.{round_word, all_round_words}
use Rattle.osrl_grammar.proofs.WordValues.{is_worded, each_round_word}
use Rattle.osrl_grammar.proofs.item_reading.round_word.Goals as goal

pub returns : goal.returns
returns c = is_worded round_word all_round_words c.args.word.now c.with_word.result each_round_word c.with_word.ensures
