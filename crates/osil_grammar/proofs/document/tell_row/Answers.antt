use Rattle.osil_grammar.proofs.Parts.{row_told}
use Rattle.osil_grammar.proofs.document.tell_row.Goals as goal

pub returns : goal.returns
returns c =
    let ends = c.in_ok-tell_ends.ensures in
    let told = row_told c.args.row c.args.w.now c.begin.new.self c.tell_ends.new.w c.end.new.self ends.1 c.in_ok-begin.ensures ends.2 ends.3 c.in_ok-end.ensures in
    (ends.0, told.0, told.1, told.2)
