use Rattle.osil_grammar.proofs.Words.{◌≡◌, length, refl, ap, sym, ◌∙◌, arith, State}
use Rattle.osil_grammar.specs.declared.elements.Place.TheVariants as places
use Rattle.osil_grammar.specs.declared.elements.Listing.TheVariants as listings
use Rattle.osil_grammar.proofs.Beginnings.{begin_refused, value_begun}
use Rattle.osil_grammar.proofs.parse_state.ParseState.begin_value.Goals as goal

pub returns-in-Ok : goal.returns-in-Ok
returns-in-Ok c =
    let before : length c.self.inside.matrix.values.items ≡ c.len.result = omega (arith, c.self.inside.matrix.values.ok.0) in
    value_begun _ c.args.self.now c.self.view_is c.args.name.now c.args.attributes.now c.in-Ok.times c.in-Ok.step _ c.go.new.self c.go.ensures c.clear.ensures.items (c.in-Ok.ensures c.args.self.now c.args.name.now (ap (λ (s : State). length s.values) (sym c.self.view_is) ∙ before))

pub returns-in-Err : goal.returns-in-Err
returns-in-Err c =
    let before : length c.self.inside.matrix.values.items ≡ c.len.result = omega (arith, c.self.inside.matrix.values.ok.0) in
    begin_refused c.args.self.now c.args.self.now c.args.name.now c.args.attributes.now (places.El listings.Values) c.in-Err.refusal _ c.refused.result c.refused.ensures refl (c.in-Err.ensures c.args.self.now c.args.name.now (ap (λ (s : State). length s.values) (sym c.self.view_is) ∙ before))
