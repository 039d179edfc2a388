use Rattle.osil_grammar.proofs.OneDocument.{root_not_both}
use Rattle.osil_grammar.proofs.reading_laws.accepted_is_not_refused.Goals as goal

pub returns : goal.returns
returns c = root_not_both
