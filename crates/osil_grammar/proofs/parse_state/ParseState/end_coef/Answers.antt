use Rattle.osil_grammar.proofs.Words.{◌∙◌, ℕ, List, [], ◌∷◌, refl, ap, subst, IsUnread, told_refusal, State, great_cost}
use Rattle.osil_grammar.specs.declared.elements.Place.TheVariants as places
use Rattle.osil_grammar.specs.Grammars.{decimal}
use Rattle.osil_grammar.proofs.EndTagTests.{end_refused, text_refused}
use Rattle.osil_grammar.proofs.parse_state.ParseState.end_coef.Goals as goal

pub returns-in-Err : goal.returns-in-Err
returns-in-Err c =
    let text = c.as_slice.ensures.value ∙ ap (λ (s : State). s.text) c.self.view_is in
    end_refused c.args.self.now places.Coef _ c.refusal.result c.args.self.now.count c.refused_latest.result c.refused_latest.ensures refl
    (λ name. text_refused c.args.self.now name decimal c.in-Err.unread (great_cost ∷ []) (told_refusal c.refusal.result) (subst (λ (t : List ℕ). IsUnread c.in-Err.unread decimal t) text c.in-Err.ensures) c.refusal.ensures)
