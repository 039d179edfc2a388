use Rattle.osil_grammar.proofs.Words.{subst, State, EndsAt}
use Rattle.osil_grammar.proofs.Beginnings.{at_end}
use Rattle.osil_grammar.proofs.parse_state.ParseState.close.Goals as goal

pub returns : goal.returns
returns c = λ name. at_end c.args.self.now c.end-2.new.self name c.end-2.result (subst (λ (s : State). EndsAt c.args.self.now s.place c.end-2.new.self c.end-2.result) c.end.view_is c.end-2.ensures)
