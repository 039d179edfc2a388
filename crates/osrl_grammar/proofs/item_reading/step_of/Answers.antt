use Rattle.osrl_grammar.proofs.Names.{step_text, all_steps}
use Rattle.osrl_grammar.proofs.WordValues.{is_worded, each_step}
use Rattle.osrl_grammar.proofs.item_reading.step_of.Goals as goal

pub returns : goal.returns
returns c = is_worded step_text all_steps c.args.word.now c.with_word.result each_step c.with_word.ensures
