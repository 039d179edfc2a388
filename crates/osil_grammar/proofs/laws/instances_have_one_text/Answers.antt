use Rattle.osil_grammar.proofs.Words.{◌∙◌, sym, ap}
use Rattle.tree_grammar.specs.WrittenText.{written}
use Rattle.osil_grammar.proofs.OneRoot.{root_once}
use Rattle.osil_grammar.proofs.laws.instances_have_one_text.Goals as goal

pub returns : goal.returns
returns c = λ p s t first second. first.says ∙ ap written (root_once p first.root second.root first.writes second.writes) ∙ sym second.says
