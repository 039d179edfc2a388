use Rattle.std.proofs.Common.{flat_map, ap}
use Rattle.tree_writing.specs.Escapes.{escaped_by}
use Rattle.os_io.proofs.Pieces.{so_far_more, so_far_fails}
use Rattle.tree_writing.proofs.writing.put_escaped.Goals as goal

pub returns-in_err-put_character : goal.returns-in_err-put_character
returns-in_err-put_character g c =
    so_far_fails _ c.from_residual.result c.from_residual.ensures.1 c.in_err-put_character.field-0.0 _ _ _ (flat_map (escaped_by c.args.in_value) c.in-Some.behind.now) c.loop-first.invariant
    (ap (flat_map (escaped_by c.args.in_value)) c.in-Some.ensures.cases.0) c.in_err-put_character.ensures

pub loop-first-preserved-then-is_empty : goal.loop-first-preserved-then-is_empty
loop-first-preserved-then-is_empty g c =
    so_far_more c.in_ok-put_character.field-0 _ _ _ (flat_map (escaped_by c.args.in_value) c.in-Some.behind.now) c.loop-first.invariant
    (ap (flat_map (escaped_by c.args.in_value)) c.in-Some.ensures.cases.0) c.in_ok-put_character.ensures

pub returns-in_err-put : goal.returns-in_err-put
returns-in_err-put g c =
    so_far_fails _ c.from_residual-in_err-put.result c.from_residual-in_err-put.ensures.1 c.in_err-put.field-0.0 _ _ _ _ c.loop-first.invariant c.plain_front.ensures.text c.in_err-put.ensures

pub loop-first-preserved : goal.loop-first-preserved
loop-first-preserved g c =
    so_far_more c.in_ok-put.field-0 _ _ _ _ c.loop-first.invariant c.plain_front.ensures.text c.in_ok-put.ensures
