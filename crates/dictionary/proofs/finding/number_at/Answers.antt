use Rattle.std.proofs.Common.{refl, sym, ◌∙◌}
use Rattle.dictionary.specs.Row.{entries_of}
use Rattle.dictionary.proofs.Rows.{none_there}
use Rattle.dictionary.proofs.finding.number_at.Goals as goal

pub returns-in-Some-clause-number : goal.returns-in-Some-clause-number
returns-in-Some-clause-number g c = let e = c.in-Some.ensures.found in sym e.is

pub returns-in-None-clause-number : goal.returns-in-None-clause-number
returns-in-None-clause-number g c = c.zero.ensures ∙ sym (none_there (entries_of c.args.row.now) c.args.col (c.in-None.ensures.absent refl))
