use Rattle.osrl_writing.proofs.Names.{◌+◌, ◌∷◌, ◌∙◌, ap, sym, Cert, drop, map, nodes_events, item_nodes, level_text, level_texts, node_text}
use Rattle.document_tags.proofs.Tellings.{one_told}
use Rattle.osrl_writing.proofs.ItemLists.{levels_more}
use Rattle.osrl_writing.proofs.certificates.tell_levels.Goals as goal

pub loop-i-preserved : goal.loop-i-preserved
loop-i-preserved c =
    let i = c.loop-i.i in
    let cs = c.args.later.now in
    let first = c.index-later-i.result in
    let one = nodes_events (item_nodes (level_text (i + 2) ∷ map node_text first.nodes)) in
    let tells = rw (c.as_slice.ensures ∙ ap (λ (d : Cert). d.nodes) (sym c.index-later-i.is)) at c.in_ok-tell_level.ensures in
    record {
      waiting = tells.waiting;
      told = one_told c.args.b.now c.loop-i.b c.tell_level.new.b (nodes_events (item_nodes (level_texts 2 cs))) (nodes_events (item_nodes (level_texts (i + 2) (drop i cs)))) one (nodes_events (item_nodes (level_texts (i + 1 + 2) (drop (i + 1) cs)))) (levels_more i cs first c.loop-i-test.true c.index-later-i.is) tells c.loop-i.invariant.told;
    }
