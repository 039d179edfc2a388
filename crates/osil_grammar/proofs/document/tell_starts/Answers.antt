use Rattle.osil_grammar.proofs.Words.{◌≡◌, ◌+◌, ◌-◌, [], arith, codes, on_ok_weaker, Nodes, nodes_events, counts_nodes, row_starts, Wrote}
use Rattle.osil_grammar.proofs.Starts.{start_told, last_start}
use Rattle.osil_grammar.proofs.Tellings.{begun, wrote_around}
use Rattle.osil_grammar.proofs.document.tell_starts.Goals as goal

pub loop-row-preserved : goal.loop-row-preserved
loop-row-preserved c behind text awaits =
    start_told c.args.entries.now c.loop-row.w c.tell_count.new.w c.loop-row.row (c.args.rows - c.loop-row.row) (c.args.rows - (c.loop-row.row + 1)) c.entries_before.result behind text (omega arith) c.entries_before.ensures c.in_ok-tell_count.ensures (c.loop-row.invariant behind text awaits)

pub returns : goal.returns
returns c =
    let starts : Nodes = counts_nodes (row_starts c.args.entries.now 0 c.args.rows) in
    let over : c.args.rows ≡ c.loop-row.row = omega arith in
    let left : c.args.rows - c.loop-row.row ≡ 0 = omega arith in
    let inside : Wrote c.begin.new.self c.tell_count-2.new.w (nodes_events starts) = λ behind text awaits.
    last_start c.args.entries.now c.loop-row.w c.tell_count-2.new.w c.args.rows c.loop-row.row (c.args.rows - c.loop-row.row) c.entries_before-2.result behind text over left c.entries_before-2.ensures c.in_ok-tell_count-2.ensures (c.loop-row.invariant behind text awaits) in
    on_ok_weaker c.end.result (λ ends. wrote_around c.args.w.now c.begin.new.self c.tell_count-2.new.w c.end.new.self (codes "start") [] starts (begun c.args.w.now c.begin.new.self (codes "start") c.in_ok-begin.ensures) inside ends) c.end.ensures
