use Rattle.osrl_grammar.proofs.Names.{◌∙◌, refl}
use Rattle.osrl_grammar.proofs.Endings.{after_kept, none_bad}
use Rattle.osrl_grammar.proofs.parse_state.ParseState.read_item.Goals as goal

pub returns : goal.returns
returns c = after_kept c.args.self.now _ _ c.keep_read.new.self c.args.part c.add.new.self c.in_ok-read.read c.as_slice.result.now (none_bad _ c.args.self.now c.self.view_is c.if-is_some.ensures) (c.self-2.view_is ∙ c.note_level.ensures) refl c.as_slice.ensures.value c.in_ok-read.ensures.read c.in_ok-read.ensures.bound c.keep_read.ensures
