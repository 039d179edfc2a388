use Rattle.osil_grammar.proofs.Words.{ap, sym, ◌∙◌, State, leads}
use Rattle.osil_grammar.specs.declared.elements.Led.TheVariants as led
use Rattle.osil_grammar.proofs.Beginnings.{at_begin}
use Rattle.osil_grammar.proofs.parse_state.ParseState.enter.Goals as goal

pub returns-in-To : goal.returns-in-To
returns-in-To c = at_begin c.args.self.now c.args.name.now c.args.attributes.now (led.To c.in-To.place) c.begin.new.self c.begin.result (ap (λ (s : State). leads s.place c.args.name.now) (sym c.self.view_is) ∙ sym c.in-To.ensures) c.begin.ensures
