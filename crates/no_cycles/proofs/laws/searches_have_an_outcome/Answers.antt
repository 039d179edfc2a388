use Rattle.no_cycles.proofs.SearchEnds.{searches_end}
use Rattle.no_cycles.proofs.laws.searches_have_an_outcome.Goals as goal

pub returns : goal.returns
returns c = λ P t good within none. searches_end P t good within (λ x. let (o, d, s) = x in none o d s)
