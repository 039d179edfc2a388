-- What a run of `call` tells of what a server wrote.
use Rattle.std.specs.Prelude.{◌≡◌, ◌⊎◌, ℕ, List, ◌∷◌, ◌++◌, Some}
use Rattle.os_io.specs.Streams.{Tells}
use Rattle.command_answers.specs.Outputs.{IsSent}
use Rattle.os_client.specs.Runs.{CallRun}

-- the next link of the net gives these bytes first
abbrev pub GivesFirst : CallRun → List ℕ → Type 0
GivesFirst run bytes = (link : Tells) × (more : List Tells) × (rest : List ℕ) × (run.net.coming ≡ Some (link ∷ more)) × (link.left ≡ Some (bytes ++ rest))

-- so a run ends that was answered, and told it
abbrev pub HasAnswered : ℕ → Type 0
HasAnswered status = (status ≡ 0) ⊎ ((status ≡ 1) ⊎ (status ≡ 7))

-- if the run was answered and told it, this is its status, and this text was sent
abbrev pub Prints : (due : ℕ) → (text : List ℕ) → (status : ℕ) → CallRun → Type 0
Prints due text status run = HasAnswered status → (status ≡ due) × IsSent text run.output run.output_after
