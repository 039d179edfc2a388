-- The numbers of the jobs that wait, which rise, and what the table counts beside its jobs.
use Rattle.std.specs.Prelude.{◌≡◌, ℕ, ◌^◌, ◌<◌, ◌≤◌, nat_lt, Bool, true, false, List, [], ◌∷◌, length, insert, remove, if◌then◌else◌}
use Rattle.std.specs.List.{prefix_len}
use Rattle.job_table.specs.Jobs.{HeldJobs, Rise, is_waiting, running_jobs}
use Rattle.job_table.specs.Steps.{most_jobs}

-- the numbers of those that wait, in order of issue
abbrev pub waiting_numbers : HeldJobs → List ℕ
waiting_numbers [] = []
waiting_numbers (held ∷ jobs) = if is_waiting held.1 then held.0 ∷ waiting_numbers jobs else waiting_numbers jobs

-- where a number stands among numbers that rise, or would
abbrev pub place_among : ℕ → List ℕ → ℕ
place_among n numbers = prefix_len (λ m. nat_lt m n) numbers

-- one number more, at its place
abbrev pub placed_among : ℕ → List ℕ → List ℕ
placed_among n numbers = insert numbers (place_among n numbers) n

-- the numbers without the one at that place
abbrev pub taken : ℕ → List ℕ → List ℕ
taken n numbers = remove numbers (place_among n numbers)

-- the numbers of those that wait, where one job waited or not, and waits or not
abbrev pub renewed : ℕ → Bool → Bool → List ℕ → List ℕ
renewed n true false numbers = taken n numbers
renewed n false true numbers = placed_among n numbers
renewed n true true numbers = numbers
renewed n false false numbers = numbers

-- the numbers rise
abbrev pub Climb : ℕ → List ℕ → Type 0
Climb low [] = Unit {0}
Climb low (n ∷ numbers) = (low < n) × Climb n numbers

-- what the table keeps beside its jobs: their numbers rise from the first one on, below the next one, the numbers of those that wait
-- stand in order in a list with room for all that are held, and those that run are counted
pub record IsKeptBeside (jobs : HeldJobs) (first next : ℕ) (waiting : List ℕ) (room : ℕ) (running : ℕ) : Type 0 where
  pub begins : 1 ≤ first
  pub fits : next ≤ 2 ^ 63
  pub rise : Rise first jobs next
  pub waiting_is : waiting ≡ waiting_numbers jobs
  pub room_is : length jobs ≤ room
  pub running_is : running ≡ running_jobs jobs
  pub few : length jobs ≤ most_jobs
