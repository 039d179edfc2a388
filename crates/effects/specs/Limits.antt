-- What is not exceeded, whatever is done with a table of jobs.
use Rattle.std.specs.Prelude.{ℕ, ◌-◌, ◌^◌}

-- the most jobs that are held
abbrev pub most_jobs : ℕ
most_jobs = 10000

-- the last number of a job
abbrev pub last_number : ℕ
last_number = 2 ^ 63 - 1

-- the greatest number with which numbers may begin
abbrev pub most_first : ℕ
most_first = 2 ^ 62
