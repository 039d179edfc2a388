use Rattle.osil_grammar.proofs.Words.{HasDecimal, WriteCosts}
use Rattle.osil_grammar.proofs.Tellings.{ToldFirst}
use Rattle.osil_grammar.proofs.document.tell_costs.Given as goal

abbrev pub invariant-loop-j : goal.invariant-loop-j
invariant-loop-j l = ToldFirst HasDecimal WriteCosts l.initial.w l.w l.costs l.j
