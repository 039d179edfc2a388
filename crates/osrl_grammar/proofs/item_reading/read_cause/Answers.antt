use Rattle.osrl_grammar.proofs.Names.{sym, pieces, more, cause_word, all_cause_words, cause_behind, cause_head, SaysCause}
use Rattle.osrl_grammar.proofs.Heads.{begun_read}
use Rattle.osrl_grammar.proofs.item_reading.read_cause.Goals as goal

pub returns-in-Some : goal.returns-in-Some
returns-in-Some c = begun_read cause_word all_cause_words cause_behind cause_head SaysCause (pieces c.args.text.now) c.first_piece.result.0.now (more c.first_piece.result.1) c.in-Some.word c.cause_of.result c.first_piece.ensures (sym c.in-Some.ensures) c.cause_of.ensures
