use Rattle.osrl_grammar.proofs.Names.{cause_word, all_cause_words}
use Rattle.osrl_grammar.proofs.WordValues.{is_worded, each_cause_word}
use Rattle.osrl_grammar.proofs.item_reading.cause_word.Goals as goal

pub returns : goal.returns
returns c = is_worded cause_word all_cause_words c.args.word.now c.with_word.result each_cause_word c.with_word.ensures
