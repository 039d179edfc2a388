use Rattle.osil_grammar.proofs.WrittenRoots.{root_means}
use Rattle.osil_grammar.proofs.laws.written_root_is_accepted.Goals as goal

pub returns : goal.returns
returns c = λ p root valid has is. let z = root_means p root valid has is in (z.0, z.1)
