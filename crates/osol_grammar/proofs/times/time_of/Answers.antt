use Rattle.osol_grammar.proofs.SaidTimes.{no_number}
use Rattle.osol_grammar.proofs.times.time_of.Goals as goal

pub returns-in-Some : goal.returns-in-Some
returns-in-Some c = c.seconds_of.ensures c.args.text.now c.in-Some.ensures

pub returns-in-None : goal.returns-in-None
returns-in-None c = no_number c.args.unit c.args.text.now c.in-None.ensures
