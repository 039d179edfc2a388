use Rattle.osil_grammar.proofs.Words.{refl}
use Rattle.tree_grammar.specs.WrittenText.{written}
use Rattle.osil_grammar.proofs.document.encode.Goals as goal

pub returns-in-None-clause-err : goal.returns-in-None-clause-err
returns-in-None-clause-err c =
    let told = c.in_ok-tell_instance.ensures in
    let long = c.in-None.ensures (written told.1) (told.3 (written told.1) (c.in_ok-w.ensures told.1)) in
    (told.0, (written told.1, record { root = told.1; writes = told.2; says = refl }, long))
