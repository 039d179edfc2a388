use Rattle.osil_grammar.proofs.Words.{◌≡◌, length, refl, ap, sym, ◌∙◌, arith, State}
use Rattle.osil_grammar.specs.declared.elements.Place.TheVariants as places
use Rattle.osil_grammar.proofs.Beginnings.{begin_refused, coef_begun}
use Rattle.osil_grammar.proofs.parse_state.ParseState.begin_coef.Goals as goal

pub returns-in-Ok : goal.returns-in-Ok
returns-in-Ok c =
    let width : length c.self.inside.vars.items ≡ c.len.result = omega (arith, c.self.inside.vars.ok.0) in
    coef_begun _ c.args.self.now c.self.view_is c.args.name.now c.args.attributes.now c.in-Ok.j _ c.go.new.self c.go.ensures c.clear.ensures.items (c.in-Ok.ensures.reads c.args.self.now c.args.name.now (ap (λ (s : State). length s.vars) (sym c.self.view_is) ∙ width))

pub returns-in-Err : goal.returns-in-Err
returns-in-Err c =
    let width : length c.self.inside.vars.items ≡ c.len.result = omega (arith, c.self.inside.vars.ok.0) in
    begin_refused c.args.self.now c.args.self.now c.args.name.now c.args.attributes.now places.Coef c.in-Err.refusal _ c.refused.result c.refused.ensures refl (c.in-Err.ensures.reads c.args.self.now c.args.name.now (ap (λ (s : State). length s.vars) (sym c.self.view_is) ∙ width))
