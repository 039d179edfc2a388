use Rattle.solve_run.proofs.Acceptance.{answer_read}
use Rattle.solve_run.proofs.ToldNames.{told_read}
use Rattle.solve_run.proofs.laws.result_documents_are_read_back.Goals as goal

pub returns-clause-read : goal.returns-clause-read
returns-clause-read c = answer_read c.options_have_names.ensures c.problems_have_numbers.ensures.numbers (record { outcome = c.asked_searches_are_shown.ensures.outcome; bound = c.asked_searches_are_shown.ensures.bound }) c.written_texts_are_reports.ensures c.read_claims_fit.ensures.back

pub returns-clause-short : goal.returns-clause-short
returns-clause-short c = λ beside osil osol asked r answers.
    (answer_read c.options_have_names.ensures c.problems_have_numbers.ensures.numbers (record { outcome = c.asked_searches_are_shown.ensures.outcome; bound = c.asked_searches_are_shown.ensures.bound }) c.written_texts_are_reports.ensures c.read_claims_fit.ensures.back beside osil osol asked r answers).document.short

pub returns-clause-told : goal.returns-clause-told
returns-clause-told c = λ beside osil osol asked r text answers tells.
    told_read c.names_are_of_characters.ensures c.named_texts_are_reports.ensures osil osol r text tells
    (answer_read c.options_have_names.ensures c.problems_have_numbers.ensures.numbers (record { outcome = c.asked_searches_are_shown.ensures.outcome; bound = c.asked_searches_are_shown.ensures.bound }) c.written_texts_are_reports.ensures c.read_claims_fit.ensures.back beside osil osol asked r answers)
