use Rattle.solve_run.proofs.Acceptance.{answer_accepted, text_accepted}
use Rattle.solve_run.proofs.laws.claims_are_accepted.Goals as goal

pub returns-clause-accepted : goal.returns-clause-accepted
returns-clause-accepted c = answer_accepted c.options_have_names.ensures c.problems_have_numbers.ensures.numbers (record { outcome = c.asked_searches_are_shown.ensures.outcome; bound = c.asked_searches_are_shown.ensures.bound }) c.written_texts_are_reports.ensures c.read_claims_fit.ensures.back

pub returns-clause-is_true : goal.returns-clause-is_true
returns-clause-is_true c = λ beside osil osol asked p r claim k text answers stands says.
    c.accepted_documents_are_true.ensures.is_true osil _ k p r claim
    (answer_accepted c.options_have_names.ensures c.problems_have_numbers.ensures.numbers (record { outcome = c.asked_searches_are_shown.ensures.outcome; bound = c.asked_searches_are_shown.ensures.bound }) c.written_texts_are_reports.ensures c.read_claims_fit.ensures.back beside osil osol asked r claim k answers stands says)
    text (c.result_documents_are_read_back.ensures.read beside osil osol asked r answers) stands

pub returns-clause-told : goal.returns-clause-told
returns-clause-told c = λ beside osil osol asked r text claim k answers tells.
    text_accepted c.options_have_names.ensures c.problems_have_numbers.ensures.numbers (record { outcome = c.asked_searches_are_shown.ensures.outcome; bound = c.asked_searches_are_shown.ensures.bound }) c.written_texts_are_reports.ensures c.read_claims_fit.ensures.back beside osil osol asked r text claim k answers
    (c.result_documents_are_read_back.ensures.told beside osil osol asked r text answers tells)
