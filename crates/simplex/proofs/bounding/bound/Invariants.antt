use Rattle.fraction.specs.Frac.{ratio}
use Rattle.evidence.proofs.Steps.{IsSum}
use Rattle.bases.specs.Dictionary.{Values}
use Rattle.dictionary.specs.Dict.{entry_of, place_values}
use Rattle.simplex.specs.Values.{cost_in, AreTerms}
use Rattle.simplex.proofs.bounding.bound.Given as goal

abbrev pub invariant-loop-c : goal.invariant-loop-c
invariant-loop-c g l = (a x : Values) → AreTerms (cost_in l.statuses (entry_of l.dict l.goal)) (place_values l.rest) l.goal a x → IsSum (ratio l.fn.start) l.c a x (ratio l.sum)
