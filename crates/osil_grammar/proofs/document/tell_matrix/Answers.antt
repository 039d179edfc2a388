use Rattle.osil_grammar.proofs.Words.{refl, length, codes, decimal, none, counted_element}
use Rattle.document_tags.specs.Writing.{only}
use Rattle.osil_grammar.proofs.Tellings.{wrote_around}
use Rattle.osil_grammar.proofs.document.tell_matrix.Goals as goal

pub returns : goal.returns
returns c =
    let one = c.in_ok-tell_lists.ensures in
    let n = length c.args.entries.now in
    (one.0, counted_element (codes "linearConstraintCoefficients") (codes "numberOfValues") n one.1 none, (one.1, one.2, refl), wrote_around c.args.w.now c.open_counted.new.w c.tell_lists.new.w c.end.new.self (codes "linearConstraintCoefficients") (only (codes "numberOfValues") (decimal n)) one.1 c.in_ok-open_counted.ensures one.3 c.in_ok-end.ensures)
