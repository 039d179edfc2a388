use Rattle.dictionary.proofs.MarkedColumns.{marked_inside, marked_basic}
use Rattle.dictionary.proofs.dict.Dict.basic_columns.Goals as goal

pub returns-clause-inside : goal.returns-clause-inside
returns-clause-inside g c = marked_inside c.args.self.now c.requires.loaded

pub returns-clause-basic : goal.returns-clause-basic
returns-clause-basic g c = marked_basic c.args.self.now c.requires.loaded
