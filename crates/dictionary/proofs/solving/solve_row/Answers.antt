use Rattle.dictionary.proofs.solving.solve_row.Goals as goal

pub solve_common-requires-clause-row : goal.solve_common-requires-clause-row
solve_common-requires-clause-row g c = let r = c.requires.row in (_, r.0, r.1, c.requires.inside)

pub returns-then-row-clause-row : goal.returns-then-row-clause-row
returns-then-row-clause-row g c n is = c.solve_common.ensures.row _ n is c.requires.inside

pub returns-then-row-clause-cost : goal.returns-then-row-clause-cost
returns-then-row-clause-cost g c = let r = c.requires.row in c.solve_common.ensures.cost _ r.0 r.1
