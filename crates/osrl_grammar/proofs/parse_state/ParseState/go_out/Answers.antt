use Rattle.osrl_grammar.proofs.Steps.{end_at}
use Rattle.osrl_grammar.proofs.parse_state.ParseState.go_out.Goals as goal

pub returns : goal.returns
returns c = λ name. end_at _ _ c.args.self.now c.end-2.new.self name c.end-2.result c.self.view_is c.end.view_is c.if-self-gt0.false c.end-2.ensures
