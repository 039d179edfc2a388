use Rattle.osil_grammar.proofs.Words.{refl, arith, [], codes, err_from_is_err_and, none, element, Entry, HasDecimal, WriteValues}
use Rattle.osil_grammar.proofs.Tellings.{begun, wrote_around, none_at, one_told, all_told}
use Rattle.osil_grammar.proofs.NodeJoins.{values_join}
use Rattle.osil_grammar.proofs.document.tell_values.Goals as goal

pub returns-in_err-tell_value : goal.returns-in_err-tell_value
returns-in_err-tell_value c =
    let p = err_from_is_err_and c.from_residual-in_err-tell_value.result c.from_residual-in_err-tell_value.ensures.1 in
    rw (p.1, p.2) (none_at (λ (e : Entry). HasDecimal e.value) c.args.entries.now c.loop-entry.entry-index c.entry-item.result c.in_err-tell_value.field-0.0 (omega arith) c.entry-item.is c.in_err-tell_value.ensures)

pub loop-entry-preserved : goal.loop-entry-preserved
loop-entry-preserved c =
    let one = c.in_ok-tell_value.ensures in
    one_told (λ (e : Entry). HasDecimal e.value) (λ i. WriteValues) values_join _ c.loop-entry.w c.tell_value.new.w c.args.entries.now c.loop-entry.entry-index c.entry-item.result (omega arith) c.entry-item.is c.loop-entry.invariant one.0 one.1 one.2 one.3

pub returns : goal.returns
returns c =
    let all = all_told (λ (e : Entry). HasDecimal e.value) (λ i. WriteValues) _ _ c.args.entries.now c.loop-entry.entry-index (omega arith) refl c.loop-entry.invariant in
    (all.0, element (codes "value") [] all.1 none, (all.1, all.2, refl), wrote_around c.args.w.now c.begin.new.self c.loop-entry.w c.end.new.self (codes "value") [] all.1 (begun c.args.w.now c.begin.new.self (codes "value") c.in_ok-begin.ensures) all.3 c.in_ok-end.ensures)
