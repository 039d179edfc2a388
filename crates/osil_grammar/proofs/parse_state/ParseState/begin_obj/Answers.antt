use Rattle.osil_grammar.proofs.Words.{◌≡◌, length, refl, ap, sym, ◌∙◌, arith, State}
use Rattle.osil_grammar.specs.declared.elements.Place.TheVariants as places
use Rattle.osil_grammar.proofs.Beginnings.{begin_refused, obj_begun}
use Rattle.osil_grammar.proofs.parse_state.ParseState.begin_obj.Goals as goal

pub returns-in_ok-push_times-in-Ok : goal.returns-in_ok-push_times-in-Ok
returns-in_ok-push_times-in-Ok c =
    let before : length c.self.inside.goals.items ≡ c.len.result = omega (arith, c.self.inside.goals.ok.0) in
    let width : c.len-in-Ok.result ≡ length c.self.inside.vars.items = omega (arith, c.self.inside.vars.ok.0) in
    obj_begun _ c.args.self.now c.self.view_is c.args.name.now c.args.attributes.now c.in-Ok.tag.sense c.in-Ok.tag.constant c.in-Ok.tag.declared c.in-Ok.tag.times c.zero.result _ _ _ c.go.new.self c.go.ensures c.in_ok-push_times-in-Ok.ensures c.clear.ensures.items width c.zero.ensures
    (c.in-Ok.ensures c.args.self.now c.args.name.now (ap (λ (s : State). length s.goals) (sym c.self.view_is) ∙ before))

pub returns-in-Err : goal.returns-in-Err
returns-in-Err c =
    let before : length c.self.inside.goals.items ≡ c.len.result = omega (arith, c.self.inside.goals.ok.0) in
    begin_refused c.args.self.now c.args.self.now c.args.name.now c.args.attributes.now places.Obj c.in-Err.refusal _ c.refused.result c.refused.ensures refl (c.in-Err.ensures c.args.self.now c.args.name.now (ap (λ (s : State). length s.goals) (sym c.self.view_is) ∙ before))
