use Rattle.instance.specs.Program.{problem}
use Rattle.search_rules.specs.Asked.{asked}
use Rattle.solve_run.proofs.PartialClaims.{AskedAreShown, bound_shown}
use Rattle.solve_run.proofs.WidthRefusals.{width_alone}
use Rattle.solve_run.proofs.laws.found_claims_are_refused_for_width_alone.Goals as goal

pub returns : goal.returns
returns c = λ p t a gs start o b found clock r first search tells final refused.
    let laws = c.shown_is_refused_for_width_alone.ensures in
    let numbers = c.problems_have_numbers.ensures.numbers p in
    let shows : AskedAreShown = record { outcome = c.asked_searches_are_shown.ensures.outcome; bound = c.asked_searches_are_shown.ensures.bound } in
    width_alone (record { optimal = laws.optimal; infeasible = laws.infeasible; unbounded = laws.unbounded }) p found r numbers final
    (record {
      outcome = o;
      bound = b;
      tells = tells;
      shown = shows.outcome (problem p) t a gs start o b clock numbers first (asked search);
      bounded = bound_shown shows (problem p) t a gs start o b clock numbers first (asked search);
    }) refused
