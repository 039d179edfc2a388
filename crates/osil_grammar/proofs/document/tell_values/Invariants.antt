use Rattle.osil_grammar.proofs.Words.{Entry, HasDecimal, WriteValues}
use Rattle.osil_grammar.proofs.Tellings.{ToldFirst}
use Rattle.osil_grammar.proofs.document.tell_values.Given as goal

abbrev pub invariant-loop-entry : goal.invariant-loop-entry
invariant-loop-entry l = ToldFirst (λ (e : Entry). HasDecimal e.value) (λ i. WriteValues) l.initial.w l.w l.entries l.entry-index
