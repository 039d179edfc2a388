use Rattle.osil_grammar.proofs.Words.{◌≡◌, ◌≤◌, ℕ, List, inr, refl, ap, subst, arith, Option, None, Err, told_refusal, count, HasSuch, IsDeclared, IsUnread, SaysCount, State, part_row, count_name}
use Rattle.osil_grammar.specs.declared.elements.Place.TheVariants as places
use Rattle.osil_grammar.proofs.TagNumbers.{count_read, field_read}
use Rattle.osil_grammar.proofs.StartTagTests.{numbers_refused}
use Rattle.osil_grammar.proofs.Beginnings.{begin_refused}
use Rattle.osil_grammar.proofs.parse_state.ParseState.begin_part.Goals as goal

pub returns-in-Err : goal.returns-in-Err
returns-in-Err c =
    let as' = c.args.attributes.now in
    let name = count_name c.args.part in
    let early : part_row c.args.part ≤ c.args.self.now.part → ⊥ = λ late. let same = ap (λ (s : State). s.part) c.self.view_is in let row = c.row_of.ensures in let less = c.if-row_of-self.false in omega arith in
    let unread = subst (λ (n : List ℕ). HasSuch as' n (IsUnread c.in-Err.unread count)) c.count_name_of.ensures c.in-Err.ensures in
    begin_refused c.args.self.now c.args.self.now c.args.name.now as' (places.Part c.args.part) c.refusal.result _ c.refused.result c.refused.ensures refl
    (inr (early, numbers_refused {X = Option ℕ} c.args.self.now c.args.name.now as' (places.Part c.args.part) c.in-Err.unread (λ x. SaysCount as' name x) (told_refusal c.refusal.result) (field_read as' name count (Err c.in-Err.unread) (λ (y : Option ℕ). y ≡ None) IsDeclared count_read unread) c.refusal.ensures))
