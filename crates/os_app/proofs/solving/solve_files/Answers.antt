use Rattle.command_answers.proofs.Outputs.{named_still}
use Rattle.os_app.proofs.Solves.{document_about, result_of_text, result_still, right_of_texts, right_still}
use Rattle.os_app.proofs.solving.solve_files.Goals as goal

pub returns-in-Ok-clause-ok : goal.returns-in-Ok-clause-ok
returns-in-Ok-clause-ok g c =
    document_about _ _ _ _ _ _ c.in_ok-instance.instance c.in_ok-options.options c.in_ok-beside.beside _ c.in-Ok.document c.in_ok-instance.ensures.ok
    (named_still _ _ c.args.options _ c.in_ok-instance.ensures.held c.in_ok-options.ensures.ok)
    (result_still _ _ c.args.handed _ c.in_ok-beside.beside c.in_ok-instance.ensures.held (result_still _ _ c.args.handed _ c.in_ok-beside.beside c.in_ok-options.ensures.held
    (result_of_text _ _ _ c.in_ok-beside.beside c.as_slice.ensures c.in_ok-beside.ensures.ok)))
    c.solve_status.ensures
    (right_still _ _ c.args.halt _ _ _ _ _ c.in-Ok.document c.in_ok-instance.ensures.held
    (right_still _ _ c.args.halt _ _ _ _ _ c.in-Ok.document c.in_ok-options.ensures.held
    (right_still _ _ c.args.halt _ _ _ _ _ c.in-Ok.document c.in_ok-beside.ensures.held
    (right_of_texts _ _ _ _ _ _ _ _ c.in-Ok.document c.as_slice-2.ensures c.as_slice-3.ensures c.in-Ok.ensures))))
