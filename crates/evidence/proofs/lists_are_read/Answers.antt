use Rattle.evidence.proofs.PendingNodes.{start, none_left, one_more, clash_step, farkas_step, bound_step, no_bound, grid_step, farkas_rows_step, bound_rows_step, grid_rows_step, no_grid, no_bound_rows, no_grid_rows, any_split_step, row_split_step, split_step, zero_step}
use Rattle.evidence.proofs.lists_are_read.Goals as goal

pub returns-clause-start : goal.returns-clause-start
returns-clause-start c = start

pub returns-clause-none_left : goal.returns-clause-none_left
returns-clause-none_left c = none_left

pub returns-clause-one_more : goal.returns-clause-one_more
returns-clause-one_more c = one_more

pub returns-clause-clash : goal.returns-clause-clash
returns-clause-clash c = clash_step

pub returns-clause-farkas : goal.returns-clause-farkas
returns-clause-farkas c = farkas_step

pub returns-clause-bound : goal.returns-clause-bound
returns-clause-bound c = bound_step

pub returns-clause-no_bound : goal.returns-clause-no_bound
returns-clause-no_bound c = no_bound

pub returns-clause-split : goal.returns-clause-split
returns-clause-split c = split_step

pub returns-clause-zero_or : goal.returns-clause-zero_or
returns-clause-zero_or c = zero_step

pub returns-clause-grid : goal.returns-clause-grid
returns-clause-grid c = grid_step

pub returns-clause-farkas_rows : goal.returns-clause-farkas_rows
returns-clause-farkas_rows c = farkas_rows_step

pub returns-clause-bound_rows : goal.returns-clause-bound_rows
returns-clause-bound_rows c = bound_rows_step

pub returns-clause-grid_rows : goal.returns-clause-grid_rows
returns-clause-grid_rows c = grid_rows_step

pub returns-clause-any_split : goal.returns-clause-any_split
returns-clause-any_split c = any_split_step

pub returns-clause-row_split : goal.returns-clause-row_split
returns-clause-row_split c = row_split_step

pub returns-clause-no_grid : goal.returns-clause-no_grid
returns-clause-no_grid c = no_grid

pub returns-clause-no_bound_rows : goal.returns-clause-no_bound_rows
returns-clause-no_bound_rows c = no_bound_rows

pub returns-clause-no_grid_rows : goal.returns-clause-no_grid_rows
returns-clause-no_grid_rows c = no_grid_rows
