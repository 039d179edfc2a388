use Rattle.osil_grammar.proofs.Words.{refl, arith, length, codes, decimal, none, Row, counted_element, WriteRows, EndsHaveTexts}
use Rattle.osil_grammar.proofs.Tellings.{wrote_around, one_told, all_told}
use Rattle.osil_grammar.proofs.NodeJoins.{rows_join}
use Rattle.document_tags.specs.Writing.{only}
use Rattle.osil_grammar.proofs.document.tell_rows.Goals as goal

pub loop-row-preserved : goal.loop-row-preserved
loop-row-preserved c =
    let one = c.in_ok-tell_row.ensures in
    one_told (λ (r : Row). EndsHaveTexts r.lb r.ub) (λ i. WriteRows) rows_join _ c.loop-row.w c.tell_row.new.w c.args.rows.now c.loop-row.row-index c.row-item.result (omega arith) c.row-item.is c.loop-row.invariant one.0 one.1 one.2 one.3

pub returns : goal.returns
returns c =
    let all = all_told (λ (r : Row). EndsHaveTexts r.lb r.ub) (λ i. WriteRows) _ _ c.args.rows.now c.loop-row.row-index (omega arith) refl c.loop-row.invariant in
    (all.0, counted_element (codes "constraints") (codes "numberOfConstraints") (length c.args.rows.now) all.1 none, (all.1, all.2, refl), wrote_around c.args.w.now c.open_counted.new.w c.loop-row.w c.end.new.self (codes "constraints") (only (codes "numberOfConstraints") (decimal (length c.args.rows.now))) all.1 c.in_ok-open_counted.ensures all.3 c.in_ok-end.ensures)
