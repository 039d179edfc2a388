use Rattle.osil_grammar.proofs.WrittenTexts.{read_back}
use Rattle.osil_grammar.proofs.laws.instances_are_read_back.Goals as goal

pub returns : goal.returns
returns c = λ p text r valid has is short ok err. read_back p text r valid has is short ok err
