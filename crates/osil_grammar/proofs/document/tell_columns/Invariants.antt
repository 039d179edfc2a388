use Rattle.osil_grammar.proofs.Words.{Entry}
use Rattle.osil_grammar.proofs.Tellings.{ToldFirst}
use Rattle.osil_grammar.proofs.NodeJoins.{WriteColumns}
use Rattle.osil_grammar.proofs.document.tell_columns.Given as goal

abbrev pub invariant-loop-entry : goal.invariant-loop-entry
invariant-loop-entry l = ToldFirst (λ (e : Entry). Unit {0}) WriteColumns l.initial.w l.w l.entries l.entry-index
