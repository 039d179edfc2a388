use Rattle.dictionary.proofs.EqualRows.{equal_rows}
use Rattle.dictionary.proofs.laws.dictionaries_of_equal_rows.Goals as goal

pub returns : goal.returns
returns c = equal_rows
