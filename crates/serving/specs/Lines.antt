-- The lines that a server writes.
use Rattle.std.specs.Prelude.{ℕ, List, [], ◌∷◌, ◌++◌, codes}
use Rattle.command_answers.specs.Outputs.{number_line}

-- links can come
abbrev pub listening : List ℕ
listening = codes "listening" ++ (10 ∷ [])

-- so many numbers of jobs were given
abbrev pub jobs_line : ℕ → List ℕ
jobs_line n = number_line (codes "jobs ") n
