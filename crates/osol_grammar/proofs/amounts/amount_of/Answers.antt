use Rattle.osol_grammar.proofs.SaidAmounts.{no_form, counted}
use Rattle.osol_grammar.proofs.amounts.amount_of.Goals as goal

pub returns-in-Nodes : goal.returns-in-Nodes
returns-in-Nodes c = counted c.args.limit c.args.attributes.now c.in_ok-text.text.now c.count_of.result (no_form c.args.limit c.in-Nodes.is) c.in_ok-text.ensures c.count_of.ensures
