use Rattle.decimal_text.proofs.OneDecimal.{decimal_read_back}
use Rattle.decimal_text.proofs.laws.decimals_are_read_back.Goals as goal

pub returns : goal.returns
returns c = λ x text r d ok err. decimal_read_back x text r d ok err
