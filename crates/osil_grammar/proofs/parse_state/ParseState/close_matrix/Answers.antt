use Rattle.osil_grammar.proofs.Words.{inr, ap, arith, stored, State, lists_so_far, AreEntriesOf, IsMatrixOf}
use Rattle.osil_grammar.specs.declared.elements.Place.TheVariants as places
use Rattle.osil_grammar.specs.declared.elements.Part.TheVariants as parts
use Rattle.osil_grammar.proofs.EndTagTests.{answers_more}
use Rattle.osil_grammar.proofs.parse_state.ParseState.close_matrix.Goals as goal

pub returns-then-self-ge3 : goal.returns-then-self-ge3
returns-then-self-ge3 c =
    let at = ap (λ (s : State). s.lists) c.self.view_is in let some = c.if-self-ge3.true in
    answers_more c.args.self.now (places.Part parts.Coefficients) c.close_lists.result (λ es. AreEntriesOf (stored (lists_so_far c.args.self.now)) es.items) (λ es. IsMatrixOf c.args.self.now es.items) (λ es h. inr ((λ none. omega (arith, at, some, none)), h)) c.close_lists.ensures
