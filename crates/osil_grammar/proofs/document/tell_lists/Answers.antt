use Rattle.osil_grammar.proofs.Words.{◌≡◌, []}
use Rattle.osil_grammar.proofs.WholeInstance.{lists_told, not_empty}
use Rattle.osil_grammar.proofs.document.tell_lists.Goals as goal

pub returns : goal.returns
returns c =
    let values = c.in_ok-tell_values.ensures in
    let some : c.args.entries.now ≡ [] → ⊥ = λ empty. not_empty c.args.entries.now c.is_empty.result c.is_empty.ensures c.if-is_empty.false empty in
    let told = lists_told c.args.rows c.args.entries.now c.args.w.now c.tell_starts.new.w c.tell_columns.new.w c.tell_values.new.w some c.in_ok-tell_starts.ensures c.in_ok-tell_columns.ensures (values.1, values.2, values.3) in
    (values.0, told.0, told.1, told.2)
