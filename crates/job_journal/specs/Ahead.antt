-- What is held of a file that is read from its front on.
use Rattle.std.specs.Prelude.{◌≡◌, ◌⊎◌, ◌≤◌, ◌+◌, ◌-◌, ℕ, List, [], ◌++◌, length, take, drop}
use Rattle.job_journal.specs.declared.pieces.Ahead.{Ahead}

-- what was read and isn't passed
abbrev pub held_of : Ahead → List ℕ
held_of a = take (a.to - a.from) (drop a.from a.room.items)

-- how much of the file wasn't read yet
abbrev pub unread : Ahead → ℕ
unread a = a.len - (a.place + (a.to - a.from))

-- it is what the file has from that place on
pub record IsAhead (file : List ℕ) (place : ℕ) (held : List ℕ) : Type 0 where
  pub passed : List ℕ
  pub behind : List ℕ
  pub is : file ≡ passed ++ (held ++ behind)
  pub at : place ≡ length passed

-- and it is the rest of the file, or has as many bytes as a record with its gate and the one behind it
pub record IsReadOn (file : List ℕ) (place : ℕ) (held : List ℕ) : Type 0 where
  pub ahead : IsAhead file place held
  pub enough : (ahead.behind ≡ []) ⊎ (8388627 ≤ length held)

-- so it is of what is held, and how long the file is is known
abbrev pub StandsAhead : List ℕ → Ahead → Type 0
StandsAhead file a = (a.len ≡ length file) × IsAhead file a.place (held_of a)

-- and enough of it was read to find a record there, if there is one
abbrev pub StandsReadOn : List ℕ → Ahead → Type 0
StandsReadOn file a = (a.len ≡ length file) × IsReadOn file a.place (held_of a)
