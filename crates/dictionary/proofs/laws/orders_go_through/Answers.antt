use Rattle.dictionary.proofs.DictColumns.{through_nonbasic, through_basic}
use Rattle.dictionary.proofs.laws.orders_go_through.Goals as goal

pub returns-clause-nonbasic : goal.returns-clause-nonbasic
returns-clause-nonbasic g c d = through_nonbasic d

pub returns-clause-basic : goal.returns-clause-basic
returns-clause-basic g c d = through_basic d
