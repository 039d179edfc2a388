use Rattle.std.proofs.Common.{[], ◌∷◌}
use Rattle.os_io.proofs.Pieces.{writes_same, writes_then, writes_part}
use Rattle.tree_writing.proofs.Texts.{open_text}
use Rattle.tree_writing.proofs.writing.put_tag.Goals as goal

pub returns-in_err-put : goal.returns-in_err-put
returns-in_err-put g c =
    writes_same _ _ _ (open_text c.args.is_open c.end_of_tag.result.now c.args.name.now c.end_of_tag.ensures)
    (writes_part _ c.from_residual.result c.from_residual.ensures.1 c.in_err-put.field-0.0 c.end_of_tag.result.now (60 ∷ c.args.name.now) c.in_err-put.ensures)

pub returns-in_err-put-2 : goal.returns-in_err-put-2
returns-in_err-put-2 g c =
    writes_same _ _ _ (open_text c.args.is_open c.end_of_tag.result.now c.args.name.now c.end_of_tag.ensures)
    (writes_then c.in_ok-put.field-0 _ c.end_of_tag.result.now (60 ∷ c.args.name.now) c.in_ok-put.ensures
    (writes_part _ c.from_residual-in_err-put-2.result c.from_residual-in_err-put-2.ensures.1 c.in_err-put-2.field-0.0 (60 ∷ []) c.args.name.now c.in_err-put-2.ensures))

pub returns : goal.returns
returns g c =
    writes_same _ _ _ (open_text c.args.is_open c.end_of_tag.result.now c.args.name.now c.end_of_tag.ensures)
    (writes_then c.in_ok-put.field-0 _ c.end_of_tag.result.now (60 ∷ c.args.name.now) c.in_ok-put.ensures
    (writes_then c.in_ok-put-2.field-0 _ (60 ∷ []) c.args.name.now c.in_ok-put-2.ensures c.put-3.ensures))
