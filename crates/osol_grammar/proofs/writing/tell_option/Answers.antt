use Rattle.osol_grammar.proofs.WrittenLimits.{option_told}
use Rattle.osol_grammar.proofs.writing.tell_option.Goals as goal

pub returns : goal.returns
returns c = option_told c.close.result _ _ _ _ _ _ _ c.requires c.in_ok-attribute.ensures c.in_ok-attribute-2.ensures c.in_ok-open_after.ensures c.close.ensures
