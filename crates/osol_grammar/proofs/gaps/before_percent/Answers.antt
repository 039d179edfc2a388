use Rattle.std.proofs.Common.{None, Some, refl}
use Rattle.std.specs.Prelude.{codes}
use Rattle.std.proofs.lemmas.Bool.Decides.{Decides-eqb}
use Rattle.std.proofs.lemmas.Slice.Eq.{strip_suffix_is}
use Rattle.osol_grammar.proofs.gaps.before_percent.Goals as goal

pub returns-in-Some : goal.returns-in-Some
returns-in-Some c = strip_suffix_is Decides-eqb c.args.text.now (codes "%") (Some c.in-Some.digits) c.in-Some.ensures.cases

pub returns-in-None : goal.returns-in-None
returns-in-None c = (refl, strip_suffix_is Decides-eqb c.args.text.now (codes "%") None c.in-None.ensures.cases)
