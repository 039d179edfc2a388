use Rattle.std.proofs.Common.{◌<◌, length, ◌∙◌, arith}
use Rattle.simplex_rules.specs.Statuses.{resting}
use Rattle.instance.proofs.Terms.{if_ok, on_err}
use Rattle.simplex.proofs.Values.{rest_is, values_found, fits_found, wide_found}
use Rattle.simplex.proofs.valued.find_values.Goals as goal

pub returns-clause-ok : goal.returns-clause-ok
returns-clause-ok g c = λ I e size.
    let n = c.requires.goal in
    let r = rest_is c.args.dict.now c.args.statuses.now c.requires.statuses c.args.ends.now I e size c.args.rest.now c.requires.resting in
    if_ok c.all_values.result
    (λ _ known. values_found c.args.dict.now c.args.statuses.now c.requires.statuses c.args.ends.now I e size c.args.rest.now c.requires.resting c.all_values.new.values (c.all_values.auto.values ∙ c.requires.values ∙ c.requires.goal) (λ k h. known k (omega arith)))
    (c.all_values.ensures.ok (resting I c.args.statuses.now) r)

pub returns-clause-fits : goal.returns-clause-fits
returns-clause-fits g c = λ I e size.
    let n = c.requires.goal in
    let r = rest_is c.args.dict.now c.args.statuses.now c.requires.statuses c.args.ends.now I e size c.args.rest.now c.requires.resting in
    if_ok c.all_values.result
    (λ _ known. fits_found c.args.dict.now c.args.statuses.now c.requires.statuses c.args.ends.now I e size c.args.rest.now c.requires.resting c.all_values.new.values (c.all_values.auto.values ∙ c.requires.values ∙ c.requires.goal) (λ k h. known k (omega arith)))
    (c.all_values.ensures.ok (resting I c.args.statuses.now) r)

pub returns-clause-wide : goal.returns-clause-wide
returns-clause-wide g c = λ I e size.
    let n = c.requires.goal in
    let r = rest_is c.args.dict.now c.args.statuses.now c.requires.statuses c.args.ends.now I e size c.args.rest.now c.requires.resting in
    on_err c.all_values.result
    (λ (b, h, f, w). wide_found c.args.dict.now c.args.statuses.now c.requires.statuses c.args.ends.now I e size c.args.rest.now c.requires.resting (b, (let k : b < length c.args.statuses.now = omega arith in k), f, w))
    (c.all_values.ensures.wide (resting I c.args.statuses.now) r)
