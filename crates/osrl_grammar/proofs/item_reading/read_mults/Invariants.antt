use Rattle.osrl_grammar.proofs.Names.{length, more}
use Rattle.osrl_grammar.proofs.Mults.{SoFar}
use Rattle.osrl_grammar.proofs.item_reading.read_mults.Given as goal

abbrev pub invariant-loop-rest : goal.invariant-loop-rest
invariant-loop-rest l = SoFar (more l.pairs) (more l.rest) l.mults l.so_far

abbrev pub decreases-loop-rest : goal.decreases-loop-rest
decreases-loop-rest l = length (more l.rest)
