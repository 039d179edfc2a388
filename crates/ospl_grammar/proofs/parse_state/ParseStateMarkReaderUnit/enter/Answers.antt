use Rattle.std.proofs.Common.{◌∙◌, ap}
use Rattle.doc_tree.specs.Marks.{Start}
use Rattle.tag_tests.specs.declared.places.Led.{Led}
use Rattle.ospl_grammar.specs.declared.place.Place.{Place}
use Rattle.tag_tests.specs.Places.{begins, led_from}
use Rattle.ospl_grammar.specs.Marked.{by_kinds}
use Rattle.tag_tests.proofs.Readers.{step_as}
use Rattle.ospl_grammar.proofs.parse_state.ParseStateMarkReaderUnit.enter.Goals as goal

pub returns : goal.returns
returns c = step_as by_kinds c.args.self.now c.begin.new.self (Start c.args.name.now c.args.attributes.now) (begins c.led_from-led.result c.args.attributes.now) c.begin.result (ap (λ (l : Led Place). begins l c.args.attributes.now) (c.led_from-led.ensures ∙ ap (led_from c.args.self.now.depth) c.leads.ensures)) c.begin.ensures
