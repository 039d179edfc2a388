use Rattle.os_app.proofs.Verdicts.{answer_to, status_same}
use Rattle.os_app.proofs.checking.answer_to.Goals as goal

pub returns : goal.returns
returns c =
    status_same _ _ _ _ _ c.check_status.ensures
    (answer_to _ _ c.check_docs-answer.result c.is_ok.result c.in_ok-line.line c.is_ok.ensures.value c.check_docs-answer.ensures.ok c.check_docs-answer.ensures.err
    c.in_ok-line.ensures)
