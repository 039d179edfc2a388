use Rattle.generator.proofs.Validity.{valid}
use Rattle.generator.proofs.laws.generated_is_valid.Goals as goal

pub returns : goal.returns
returns c = valid
