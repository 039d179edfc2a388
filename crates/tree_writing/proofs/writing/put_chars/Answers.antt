use Rattle.tree_grammar.specs.WrittenText.{escaped}
use Rattle.os_io.proofs.Pieces.{writes_same, writes_then, writes_part}
use Rattle.tree_writing.proofs.Texts.{chars_text}
use Rattle.tree_writing.proofs.writing.put_chars.Goals as goal

pub returns-in_err-put : goal.returns-in_err-put
returns-in_err-put g c =
    writes_same _ _ _ (chars_text c.args.is_open c.end_of_tag.result.now c.args.text.now c.end_of_tag.ensures)
    (writes_part _ c.from_residual.result c.from_residual.ensures.1 c.in_err-put.field-0.0 c.end_of_tag.result.now (escaped c.args.text.now) c.in_err-put.ensures)

pub returns : goal.returns
returns g c =
    writes_same _ _ _ (chars_text c.args.is_open c.end_of_tag.result.now c.args.text.now c.end_of_tag.ensures)
    (writes_then c.in_ok-put.field-0 _ c.end_of_tag.result.now (escaped c.args.text.now) c.in_ok-put.ensures c.put_escaped.ensures)
