use Rattle.decimal_text.proofs.OneRatio.{ratio_read_back}
use Rattle.decimal_text.proofs.laws.ratios_are_read_back.Goals as goal

pub returns : goal.returns
returns c = λ x r ok err. ratio_read_back x r ok err
