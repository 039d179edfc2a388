use Rattle.std.proofs.Common.{[], ◌∷◌, ◌++◌}
use Rattle.tree_grammar.specs.WrittenText.{escaped_value}
use Rattle.os_io.proofs.Pieces.{writes_then, writes_part}
use Rattle.tree_writing.proofs.writing.put_attribute.Goals as goal

pub returns-in_err-put : goal.returns-in_err-put
returns-in_err-put g c =
    writes_part _ c.from_residual.result c.from_residual.ensures.1 c.in_err-put.field-0.0 (32 ∷ []) (c.args.name.now ++ (61 ∷ 34 ∷ (escaped_value c.args.value.now ++ (34 ∷ [])))) c.in_err-put.ensures

pub returns-in_err-put-2 : goal.returns-in_err-put-2
returns-in_err-put-2 g c =
    writes_then c.in_ok-put.field-0 _ (32 ∷ []) (c.args.name.now ++ (61 ∷ 34 ∷ (escaped_value c.args.value.now ++ (34 ∷ [])))) c.in_ok-put.ensures
    (writes_part _ c.from_residual-in_err-put-2.result c.from_residual-in_err-put-2.ensures.1 c.in_err-put-2.field-0.0 c.args.name.now (61 ∷ 34 ∷ (escaped_value c.args.value.now ++ (34 ∷ []))) c.in_err-put-2.ensures)

pub returns-in_err-put-3 : goal.returns-in_err-put-3
returns-in_err-put-3 g c =
    writes_then c.in_ok-put.field-0 _ (32 ∷ []) (c.args.name.now ++ (61 ∷ 34 ∷ (escaped_value c.args.value.now ++ (34 ∷ [])))) c.in_ok-put.ensures
    (writes_then c.in_ok-put-2.field-0 _ c.args.name.now (61 ∷ 34 ∷ (escaped_value c.args.value.now ++ (34 ∷ []))) c.in_ok-put-2.ensures
    (writes_part _ c.from_residual-in_err-put-3.result c.from_residual-in_err-put-3.ensures.1 c.in_err-put-3.field-0.0 (61 ∷ 34 ∷ []) (escaped_value c.args.value.now ++ (34 ∷ [])) c.in_err-put-3.ensures))

pub returns-in_err-put_escaped : goal.returns-in_err-put_escaped
returns-in_err-put_escaped g c =
    writes_then c.in_ok-put.field-0 _ (32 ∷ []) (c.args.name.now ++ (61 ∷ 34 ∷ (escaped_value c.args.value.now ++ (34 ∷ [])))) c.in_ok-put.ensures
    (writes_then c.in_ok-put-2.field-0 _ c.args.name.now (61 ∷ 34 ∷ (escaped_value c.args.value.now ++ (34 ∷ []))) c.in_ok-put-2.ensures
    (writes_then c.in_ok-put-3.field-0 _ (61 ∷ 34 ∷ []) (escaped_value c.args.value.now ++ (34 ∷ [])) c.in_ok-put-3.ensures
    (writes_part _ c.from_residual-in_err-put_escaped.result c.from_residual-in_err-put_escaped.ensures.1 c.in_err-put_escaped.field-0.0 (escaped_value c.args.value.now) (34 ∷ []) c.in_err-put_escaped.ensures)))

pub returns : goal.returns
returns g c =
    writes_then c.in_ok-put.field-0 _ (32 ∷ []) (c.args.name.now ++ (61 ∷ 34 ∷ (escaped_value c.args.value.now ++ (34 ∷ [])))) c.in_ok-put.ensures
    (writes_then c.in_ok-put-2.field-0 _ c.args.name.now (61 ∷ 34 ∷ (escaped_value c.args.value.now ++ (34 ∷ []))) c.in_ok-put-2.ensures
    (writes_then c.in_ok-put-3.field-0 _ (61 ∷ 34 ∷ []) (escaped_value c.args.value.now ++ (34 ∷ [])) c.in_ok-put-3.ensures
    (writes_then c.in_ok-put_escaped.field-0 _ (escaped_value c.args.value.now) (34 ∷ []) c.in_ok-put_escaped.ensures c.put-4.ensures)))
