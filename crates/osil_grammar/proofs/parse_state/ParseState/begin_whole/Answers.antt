use Rattle.osil_grammar.proofs.Words.{SFits, w64, refl, sym, rules, to_z-of_z}
use Rattle.osil_grammar.specs.declared.elements.Place.TheVariants as places
use Rattle.osil_grammar.proofs.Beginnings.{begin_refused, whole_begun}
use Rattle.osil_grammar.proofs.parse_state.ParseState.begin_whole.Goals as goal

pub returns-in-Ok : goal.returns-in-Ok
returns-in-Ok c =
    let fits : SFits w64 c.in-Ok.step = search rules in
    let went = simp to_z-of_z at c.go.ensures in
    whole_begun _ c.args.self.now c.self.view_is c.args.name.now c.args.attributes.now c.args.list c.requires.other c.in-Ok.times c.in-Ok.step _ c.go.new.self went c.clear.ensures.items (c.in-Ok.ensures c.args.self.now c.args.name.now (sym c.list_len.ensures))

pub returns-in-Err : goal.returns-in-Err
returns-in-Err c = begin_refused c.args.self.now c.args.self.now c.args.name.now c.args.attributes.now (places.El c.args.list) c.in-Err.refusal _ c.refused.result c.refused.ensures refl (c.in-Err.ensures c.args.self.now c.args.name.now (sym c.list_len.ensures))
