use Rattle.osil_grammar.proofs.Words.{refl, arith, [], ◌∷◌, subst, map, codes, on_ok_weaker, Nodes, nodes_events, Entry, counts_nodes, Wrote}
use Rattle.osil_grammar.proofs.Tellings.{begun, wrote_around, one_told, all_told}
use Rattle.osil_grammar.proofs.NodeJoins.{WriteColumns, columns_join}
use Rattle.osil_grammar.proofs.document.tell_columns.Goals as goal

pub loop-entry-preserved : goal.loop-entry-preserved
loop-entry-preserved c =
    one_told (λ (e : Entry). Unit {0}) WriteColumns columns_join _ c.loop-entry.w c.tell_count.new.w c.args.entries.now c.loop-entry.entry-index c.entry-item.result (omega arith) c.entry-item.is c.loop-entry.invariant tt (counts_nodes (c.entry-item.result.col ∷ [])) refl c.in_ok-tell_count.ensures

pub returns : goal.returns
returns c =
    let all = all_told (λ (e : Entry). Unit {0}) WriteColumns _ _ c.args.entries.now c.loop-entry.entry-index (omega arith) refl c.loop-entry.invariant in
    let inside = subst (λ (n : Nodes). Wrote c.begin.new.self c.loop-entry.w (nodes_events n)) all.2 all.3 in
    on_ok_weaker c.end.result (λ ends. wrote_around c.args.w.now c.begin.new.self c.loop-entry.w c.end.new.self (codes "colIdx") [] (counts_nodes (map (λ (e : Entry). e.col) c.args.entries.now)) (begun c.args.w.now c.begin.new.self (codes "colIdx") c.in_ok-begin.ensures) inside ends) c.end.ensures
