use Rattle.osrl_grammar.proofs.Names.{◌≡◌, ◌∙◌, ap, subst, get_or, All, take_all}
use Rattle.std.proofs.lemmas.List.Elements.{All-more}
use Rattle.osrl_grammar.proofs.WordValues.{other_word}
use Rattle.osrl_grammar.proofs.words.with_word.Goals as goal

pub loop-value-preserved : goal.loop-value-preserved
loop-value-preserved g c =
    All-more (λ v. c.args.word.now ≡ g.T.Worded.text v → ⊥) c.args.values.now c.loop-value.value-index c.value-item.result c.loop-value-test.true c.loop-value.invariant
    (other_word c.args.word.now c.word.result.now (g.T.Worded.text (get_or c.args.values.now c.loop-value.value-index c.value-item.result)) c.eq.result c.eq.ensures (c.word.ensures ∙ ap g.T.Worded.text c.value-item.is) c.if-eq.false)

pub returns : goal.returns
returns g c = subst (All (λ v. c.args.word.now ≡ g.T.Worded.text v → ⊥)) (take_all c.loop-value.value-index c.args.values.now c.loop-value-test.false) c.loop-value.invariant
