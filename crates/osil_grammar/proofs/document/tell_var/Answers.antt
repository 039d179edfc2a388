use Rattle.osil_grammar.proofs.VarTags.{var_told}
use Rattle.osil_grammar.proofs.document.tell_var.Goals as goal

pub returns : goal.returns
returns c =
    let ends = c.in_ok-tell_ends.ensures in
    let told = var_told c.args.var c.args.w.now c.begin.new.self c.attribute.new.self c.tell_ends.new.w c.end.new.self _ ends.1 c.type_of.ensures c.in_ok-begin.ensures c.in_ok-attribute.ensures ends.2 ends.3 c.in_ok-end.ensures in
    (ends.0, told.0, told.1, told.2)
