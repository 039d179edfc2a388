use Rattle.osrl_grammar.proofs.Names.{sym, IfOk-weaker, pieces, more, round_word, all_round_words, round_behind, round_head, SaysRound}
use Rattle.osrl_grammar.proofs.Heads.{begun_read}
use Rattle.osrl_grammar.proofs.item_reading.read_round.Goals as goal

pub returns-in-Some : goal.returns-in-Some
returns-in-Some c = IfOk-weaker c.round_of.result _ _ (λ r h. begun_read round_word all_round_words round_behind round_head SaysRound (pieces c.args.text.now) c.first_piece.result.0.now (more c.first_piece.result.1) c.in-Some.word r c.first_piece.ensures (sym c.in-Some.ensures) h) c.round_of.ensures
