use Rattle.std.proofs.Common.{◌∙◌, sym, refl}
use Rattle.tag_tests.proofs.Characters.{chars_kept, chars_passed}
use Rattle.ospl_grammar.specs.Marked.{ospl}
use Rattle.ospl_grammar.proofs.parse_state.ParseStateMarkReaderUnit.chars.Goals as goal

pub returns-then-not-keeps : goal.returns-then-not-keeps
returns-then-not-keeps c = let s = c.args.self.now in chars_passed ospl (λ t. record s { text = t }) _ (λ t x. (tt, refl)) s.text c.args.text.now (sym c.keeps.ensures ∙ c.if-not-keeps.true)

pub returns : goal.returns
returns c = let s = c.args.self.now in chars_kept ospl (λ t. record s { text = t }) _ (λ t x. (tt, refl)) s.text c.args.text.now c.extend.new.self (sym c.keeps.ensures ∙ c.if-not-keeps.false) c.in_ok-extend.ensures.ok
