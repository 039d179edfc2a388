use Rattle.osil_grammar.proofs.Words.{◌∙◌, ℕ, List, refl, ap, subst, whole, IsUnread, told_refusal, State}
use Rattle.osil_grammar.specs.declared.elements.Place.TheVariants as places
use Rattle.osil_grammar.proofs.EndTagTests.{end_refused, whole_text}
use Rattle.osil_grammar.proofs.parse_state.ParseState.end_whole.Goals as goal

pub returns-in-Err : goal.returns-in-Err
returns-in-Err c =
    let text = c.as_slice.ensures.value ∙ ap (λ (s : State). s.text) c.self.view_is in
    end_refused c.args.self.now (places.El c.args.list) _ c.refusal.result c.args.self.now.count c.refused_latest.result c.refused_latest.ensures refl
    (λ name. whole_text c.args.self.now name c.args.list c.in-Err.unread (told_refusal c.refusal.result) c.requires.other (subst (λ (t : List ℕ). IsUnread c.in-Err.unread whole t) text c.in-Err.ensures) c.refusal.ensures)
