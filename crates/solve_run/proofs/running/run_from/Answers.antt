use Rattle.solve_run.proofs.Runs.{ran, shown_by, claim_shown, few_by}
use Rattle.solve_run.proofs.Firsts.{have_values}
use Rattle.solve_run.proofs.running.run_from.Goals as goal

pub found_document-requires-clause-shown : goal.found_document-requires-clause-shown
found_document-requires-clause-shown g c =
    claim_shown _ _ _ c.requires.first _ _ _ c.find_until-claim.ensures (shown_by _ _ _ c.requires.first _ _ _ c.find_until-claim.ensures (record { outcome = c.asked_searches_are_shown.ensures.outcome; bound = c.asked_searches_are_shown.ensures.bound }) c.problems_have_numbers.ensures.numbers)

pub found_document-requires-clause-few : goal.found_document-requires-clause-few
found_document-requires-clause-few g c = few_by _ _ _ c.requires.first _ _ _ c.find_until-claim.ensures c.requires.rounds

pub returns : goal.returns
returns g c = λ beside osil osol options_text instance_text due noting.
    ran _ _ _ c.requires.first _ _ _ c.find_until-claim.ensures beside osil osol c.args.names.now c.args.note c.found_document.result c.requires.valid (c.options_have_names.ensures osol c.args.options options_text) options_text instance_text due noting
    (shown_by _ _ _ c.requires.first _ _ _ c.find_until-claim.ensures (record { outcome = c.asked_searches_are_shown.ensures.outcome; bound = c.asked_searches_are_shown.ensures.bound }) c.problems_have_numbers.ensures.numbers) c.found_document.ensures

pub find_until-claim-requires-clause-values : goal.find_until-claim-requires-clause-values
find_until-claim-requires-clause-values g c = have_values c.args.instance.now c.args.options c.args.first c.requires.valid c.requires.first
