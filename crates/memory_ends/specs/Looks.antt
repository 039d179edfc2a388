-- Looks of a watch in memory.
use Rattle.std.specs.Prelude.{◌≡◌, ℕ, ◌+◌, ◌==◌, Bool, List, [], ◌∷◌}
use Rattle.std.specs.List.{list_any}
use Rattle.os_io.specs.Looks.{stops_of, next_call}
use Rattle.memory_ends.specs.declared.mem_watch.MemWatch.{MemWatch}

-- after so many calls, calls with these answers made so many: an answer is whether the call's number is listed
abbrev pub AreAnswers : List ℕ → ℕ → List Bool → ℕ → Type 0
AreAnswers numbers calls [] calls' = calls' ≡ calls
AreAnswers numbers calls (answer ∷ more) calls' =
    (answer ≡ list_any (λ call. call == next_call calls) numbers) × AreAnswers numbers (next_call calls) more calls'

-- the new watch in memory is the old one after looks with these answers, in order
pub record CameInMemory (old new : MemWatch) (answers : List Bool) : Type 0 where
  pub same : new.script.fails ≡ old.script.fails
  pub listed : AreAnswers old.script.fails.items old.script.calls answers new.script.calls
  pub counted : new.stops ≡ old.stops + stops_of answers
