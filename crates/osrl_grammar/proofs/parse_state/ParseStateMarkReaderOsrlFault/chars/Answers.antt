use Rattle.osrl_grammar.proofs.Names.{◌∙◌, sym}
use Rattle.osrl_grammar.proofs.CharMarks.{chars_heard, chars_over}
use Rattle.osrl_grammar.proofs.parse_state.ParseStateMarkReaderOsrlFault.chars.Goals as goal

pub returns-then-not-keeps : goal.returns-then-not-keeps
returns-then-not-keeps c = chars_over _ c.args.self.now c.self.view_is c.args.text.now (sym c.if-not-keeps.true ∙ c.keeps.ensures)

pub returns : goal.returns
returns c = chars_heard _ c.args.self.now c.self.view_is c.args.text.now c.extend_from_slice.new.self.items (sym c.if-not-keeps.false ∙ c.keeps.ensures) c.in_ok-extend_from_slice.ensures.items
