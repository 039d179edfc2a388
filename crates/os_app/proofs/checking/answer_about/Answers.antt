use Rattle.os_app.proofs.Verdicts.{answer_about_files, answer_of_texts, held_still}
use Rattle.os_app.proofs.checking.answer_about.Goals as goal

pub returns-in-Ok-clause-ok : goal.returns-in-Ok-clause-ok
returns-in-Ok-clause-ok g c =
    answer_about_files _ _ c.in_ok-instance.instance c.in_ok-result.result _ _ c.in_ok-instance.ensures.ok
    (held_still _ _ c.args.osrl.now c.in_ok-result.result c.in_ok-instance.ensures.held c.in_ok-result.ensures.ok)
    (answer_of_texts _ _ _ _ _ _ c.as_slice.ensures c.as_slice-2.ensures c.in-Ok.ensures)
