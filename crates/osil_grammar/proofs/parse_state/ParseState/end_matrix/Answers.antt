use Rattle.osil_grammar.proofs.EndTagTests.{matrix_ends}
use Rattle.osil_grammar.proofs.parse_state.ParseState.end_matrix.Goals as goal

pub returns-in-Ok : goal.returns-in-Ok
returns-in-Ok c =
    let starts = c.new in let indices = c.new-in-Ok in let values = c.new-in-Ok-2 in
    matrix_ends _ c.args.self.now c.self.view_is c.in-Ok.entries.items starts.result.items indices.result.items values.result.items starts.ensures.items indices.ensures.items values.ensures.items c.in-Ok.ensures
