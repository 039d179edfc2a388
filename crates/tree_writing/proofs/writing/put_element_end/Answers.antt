use Rattle.std.proofs.Common.{[], ◌∷◌, ◌++◌, sym, ap}
use Rattle.tree_grammar.specs.WrittenText.{element_end}
use Rattle.os_io.proofs.Pieces.{writes_then, writes_part, writes_same}
use Rattle.tree_writing.proofs.writing.put_element_end.Goals as goal

pub returns-in_err-put : goal.returns-in_err-put
returns-in_err-put g c =
    writes_same _ _ _ (ap (λ o. element_end o c.args.name.now []) (sym c.if-is_open.false))
    (writes_part _ c.from_residual.result c.from_residual.ensures.1 c.in_err-put.field-0.0 (60 ∷ 47 ∷ []) (c.args.name.now ++ (62 ∷ [])) c.in_err-put.ensures)

pub returns-in_err-put-2 : goal.returns-in_err-put-2
returns-in_err-put-2 g c =
    writes_same _ _ _ (ap (λ o. element_end o c.args.name.now []) (sym c.if-is_open.false))
    (writes_then c.in_ok-put.field-0 c.from_residual-in_err-put-2.result (60 ∷ 47 ∷ []) (c.args.name.now ++ (62 ∷ [])) c.in_ok-put.ensures
    (writes_part _ c.from_residual-in_err-put-2.result c.from_residual-in_err-put-2.ensures.1 c.in_err-put-2.field-0.0 c.args.name.now (62 ∷ []) c.in_err-put-2.ensures))

pub returns : goal.returns
returns g c =
    writes_same _ _ _ (ap (λ o. element_end o c.args.name.now []) (sym c.if-is_open.false))
    (writes_then c.in_ok-put.field-0 c.put-4.result (60 ∷ 47 ∷ []) (c.args.name.now ++ (62 ∷ [])) c.in_ok-put.ensures
    (writes_then c.in_ok-put-2.field-0 c.put-4.result c.args.name.now (62 ∷ []) c.in_ok-put-2.ensures c.put-4.ensures))
