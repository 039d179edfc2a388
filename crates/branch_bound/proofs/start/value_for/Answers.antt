use Rattle.std.proofs.Common.{None, sym, ◌∙◌, ap}
use Rattle.std.proofs.Math.ListN.{get_or-map}
use Rattle.std.proofs.lemmas.List.{get_or_past, get_or_default}
use Rattle.search_rules.specs.Beginnings.{value_given}
use Rattle.branch_bound.specs.Beginnings.{given_ratio}
use Rattle.branch_bound.proofs.start.value_for.Goals as goal

pub returns-in-Some : goal.returns-in-Some
returns-in-Some c =
    let gs = c.args.given.now in
    let j = c.args.j in
    sym (ap value_given (get_or-map given_ratio gs j None ∙ ap given_ratio (get_or_default gs j None _ c.if-j-given.true ∙ c.in-Some.is)))

pub returns-in-None : goal.returns-in-None
returns-in-None c =
    let gs = c.args.given.now in
    let j = c.args.j in
    c.zero.ensures ∙ sym (ap value_given (get_or-map given_ratio gs j None ∙ ap given_ratio (get_or_default gs j None _ c.if-j-given.true ∙ c.in-None.is)))

pub returns-else-j-given : goal.returns-else-j-given
returns-else-j-given c =
    let gs = c.args.given.now in
    let j = c.args.j in
    c.zero-else-j-given.ensures ∙ sym (ap value_given (get_or-map given_ratio gs j None ∙ ap given_ratio (get_or_past gs j None c.if-j-given.false)))
