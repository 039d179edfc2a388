use Rattle.std.proofs.Common.{◌∙◌}
use Rattle.std.proofs.lemmas.Result.{IfOk-weaker}
use Rattle.handed_results.proofs.OneResult.{document_hands, is_some}
use Rattle.handed_results.proofs.reading.read_handed.Goals as goal

pub returns-in-Ok : goal.returns-in-Ok
returns-in-Ok c =
    IfOk-weaker c.trimmed.result _ _ (λ h is. document_hands c.args.bytes.now c.new.result c.in-Ok.parse_state h (λ blank. is_some c.is_empty.result c.trim.result.now c.is_empty.ensures c.if-is_empty.false (c.trim.ensures ∙ blank)) c.new.ensures (c.documents_have_one_tree.ensures c.args.bytes.now) is c.in-Ok.ensures.ok)
    c.trimmed.ensures
