use Rattle.std.proofs.Common.{◌∙◌, sym, refl}
use Rattle.tag_tests.proofs.Characters.{chars_kept, chars_passed}
use Rattle.osol_grammar.specs.Marked.{osol}
use Rattle.osol_grammar.proofs.parse_state.ParseStateMarkReaderRefused.chars.Goals as goal

pub returns-then-not-keeps_text : goal.returns-then-not-keeps_text
returns-then-not-keeps_text c = let s = c.args.self.now in chars_passed osol (λ t. record s { text = t }) _ (λ t x. (tt, refl)) s.text c.args.text.now (sym c.keeps_text.ensures ∙ c.if-not-keeps_text.true)

pub returns : goal.returns
returns c = let s = c.args.self.now in chars_kept osol (λ t. record s { text = t }) _ (λ t x. (tt, refl)) s.text c.args.text.now c.extend.new.self (sym c.keeps_text.ensures ∙ c.if-not-keeps_text.false) c.in_ok-extend.ensures.ok
