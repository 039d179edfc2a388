use Rattle.solve_run.proofs.GapCauses.{gap_held}
use Rattle.solve_run.proofs.ToldBounds.{told_bounds, none_unasked}
use Rattle.solve_run.proofs.laws.bounds_are_told.Goals as goal

pub returns-clause-told : goal.returns-clause-told
returns-clause-told c = told_bounds (record { outcome = c.asked_searches_are_shown.ensures.outcome; bound = c.asked_searches_are_shown.ensures.bound }) c.problems_have_numbers.ensures.numbers

pub returns-clause-unasked : goal.returns-clause-unasked
returns-clause-unasked c = none_unasked

pub returns-clause-gap : goal.returns-clause-gap
returns-clause-gap c = gap_held c.near_points_are_within_the_gap.ensures c.problems_have_numbers.ensures.numbers
