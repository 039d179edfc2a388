use Rattle.osrl_writing.proofs.Names.{List, length, codes, ap, none, Event, Nodes, nodes_events, claiming_text, group, typed, point_values, point_parts, trees_parts, dual_values, told_then, ends_told, ok_told_as}
use Rattle.osrl_writing.proofs.NamedTexts.{points_lent, duals_lent}
use Rattle.osrl_writing.specs.declared.parts.Claiming.TheVariants as claiming
use Rattle.osrl_writing.proofs.ItemLists.{duals_then}
use Rattle.osrl_writing.proofs.document.tell_optimal.Goals as goal

pub returns : goal.returns
returns c =
    let ns = c.args.names.now in
    let x = c.args.point.now in
    let vs = c.args.values.now in
    let cs = c.args.certs.now in
    let rest : Nodes = group (codes "otherSolutionResults") (point_parts x vs (trees_parts cs)) none in
    let before : List Event → List Event = λ events. nodes_events (typed (codes "status") (claiming_text claiming.Optimal) none) (nodes_events (point_values ns.variables x vs none) events) in
    ok_told_as c.close.result _ _ (λ k. before (nodes_events (dual_values ns.rows (length x) vs cs none) (nodes_events rest k))) _ (λ k. ap before (duals_then ns.rows (length x) vs cs rest k))
    (ends_told c.close.result _ _ _ _ _ (told_then _ _ _ _ _ (told_then _ _ _ _ _ (told_then _ _ _ _ _ (told_then _ _ _ _ _ (told_then _ _ _ _ _ c.in_ok-tell_status.ensures (points_lent _ _ _ _ _ _ c.as_slice.ensures c.in_ok-tell_point_values.ensures)) (duals_lent _ _ _ _ (length x) vs cs c.as_slice-2.ensures c.in_ok-tell_dual_values.ensures)) c.in_ok-open.ensures) c.in_ok-tell_point.ensures) c.in_ok-tell_certs.ensures) c.close.ensures)
