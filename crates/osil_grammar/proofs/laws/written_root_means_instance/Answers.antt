use Rattle.osil_grammar.proofs.WrittenRoots.{root_means}
use Rattle.osil_grammar.proofs.laws.written_root_means_instance.Goals as goal

pub returns : goal.returns
returns c = root_means
