use Rattle.osil_grammar.proofs.Words.{◌∙◌, sym}
use Rattle.osil_grammar.proofs.CharMarks.{chars_kept, chars_passed}
use Rattle.osil_grammar.proofs.parse_state.ParseState.chars.Goals as goal

pub returns-then-keeps_text : goal.returns-then-keeps_text
returns-then-keeps_text c = chars_kept _ c.args.self.now c.self.view_is c.args.text.now c.extend_from_slice.result (sym c.keeps_text.ensures ∙ c.if-keeps_text.true) c.extend_from_slice.new.self.items c.extend_from_slice.ensures.items

pub returns : goal.returns
returns c = chars_passed _ c.args.self.now c.self.view_is c.args.text.now (sym c.keeps_text.ensures ∙ c.if-keeps_text.false)
