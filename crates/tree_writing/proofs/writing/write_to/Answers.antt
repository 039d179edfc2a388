use Rattle.std.proofs.Common.{◌+◌, ◌++◌, drop, ap, sym, ◌∙◌, arith}
use Rattle.std.proofs.lemmas.List.{drop_all}
use Rattle.tree_grammar.specs.WrittenText.{written_declaration, written_element, written_events}
use Rattle.element_tree.specs.Items.{event_at}
use Rattle.tree_writing.specs.TextParts.{event_text}
use Rattle.os_io.proofs.Pieces.{writes_same, writes_part, so_far_more, so_far_fails, so_far_all}
use Rattle.tree_writing.proofs.Texts.{event_step, whole_text}
use Rattle.tree_writing.proofs.writing.write_to.Goals as goal

pub returns-in_err-put : goal.returns-in_err-put
returns-in_err-put g c e same =
    writes_part _ c.from_residual.result c.from_residual.ensures.1 c.in_err-put.field-0.0 written_declaration (written_element e) c.in_err-put.ensures

pub returns-in_err-is_open : goal.returns-in_err-is_open
returns-in_err-is_open g c e same =
    let n = c.len-i-end.ensures.len in
    let t = c.loop-i-test.true in
    writes_same _ _ _ (whole_text c.args.tree.now e same c.written_in_document_order.ensures)
    (so_far_fails _ c.from_residual-in_err-is_open.result c.from_residual-in_err-is_open.ensures.1 c.in_err-is_open.field-0.0 _ _ _ _ c.loop-i.invariant
    (event_step c.args.tree.now c.loop-i.i c.loop-i.is_open (omega (arith, n, t))) c.in_err-is_open.ensures.writes)

pub loop-i-preserved : goal.loop-i-preserved
loop-i-preserved g c =
    let n = c.len-i-end.ensures.len in
    let t = c.loop-i-test.true in
    let told = c.args.tree.now in
    so_far_more c.in_ok-is_open.is_open _ _ _ _ c.loop-i.invariant
    (event_step told c.loop-i.i c.loop-i.is_open (omega (arith, n, t)) ∙ ap (λ o. event_text c.loop-i.is_open (event_at told c.loop-i.i) ++ written_events o (drop (c.loop-i.i + 1) told)) (sym c.in_ok-is_open.ensures.open)) c.in_ok-is_open.ensures.writes

pub returns : goal.returns
returns g c e same =
    let n = c.len-i-end.ensures.len in
    let past = c.loop-i-test.false in
    writes_same _ _ _ (whole_text c.args.tree.now e same c.written_in_document_order.ensures)
    (so_far_all _ _ c.loop-i.invariant (ap (written_events c.loop-i.is_open) (drop_all c.loop-i.i c.args.tree.now (omega (arith, n, past)))))
