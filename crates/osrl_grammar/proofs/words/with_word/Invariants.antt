use Rattle.osrl_grammar.proofs.Names.{◌≡◌, take, All}
use Rattle.osrl_grammar.proofs.words.with_word.Given as goal

abbrev pub invariant-loop-value : goal.invariant-loop-value
invariant-loop-value g l = All (λ v. l.word ≡ g.T.Worded.text v → ⊥) (take l.value-index l.values)
