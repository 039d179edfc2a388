use Rattle.std.proofs.Common.{◌∙◌, ap}
use Rattle.osol_grammar.specs.Limits.{amount_text}
use Rattle.osol_grammar.proofs.WrittenLimits.{told_so}
use Rattle.osol_grammar.proofs.writing.tell_limit.Goals as goal

pub returns : goal.returns
returns c = told_so c.tell_option.result _ _ _ _ _ _ c.row.ensures.name (c.text_of-value.ensures ∙ ap (amount_text c.args.limit) c.amount.ensures) c.tell_option.ensures
