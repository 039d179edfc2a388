use Rattle.generator.proofs.Texts.{decimals, short, only_memory}
use Rattle.generator.proofs.laws.generated_is_encoded.Goals as goal

pub returns-clause-decimals : goal.returns-clause-decimals
returns-clause-decimals c = decimals

pub returns-clause-short : goal.returns-clause-short
returns-clause-short c = short c.decimals_have_one_text.ensures.one

pub returns-clause-faults : goal.returns-clause-faults
returns-clause-faults c = only_memory c.decimals_have_one_text.ensures.one
