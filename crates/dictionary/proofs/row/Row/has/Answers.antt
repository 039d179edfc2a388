use Rattle.dictionary.specs.Rows.{entries_at}
use Rattle.dictionary.proofs.row.Row.has.Goals as goal

pub returns : goal.returns
unfolding entries_at
returns g c = c.has.ensures
