-- Texts that are sent, and names that may be given.
use Rattle.std.proofs.Common.{◌≡◌, ℕ, List, Option, Some, None, Ok, Err, refl, subst}
use Rattle.std.specs.Prelude.{option_map}
use Rattle.std.specs.Borrow.{Bor}
use Rattle.os_io.specs.Files.{Held}
use Rattle.os_io.specs.Streams.{Tells, Sends}
use Rattle.command_answers.specs.Outputs.{IsSent, BreaksOff}
use Rattle.command_answers.specs.FileNames.{ReadsNamed}

module _ {X E : Type 0} where
  -- a text that was written and handed on
  pub sent : (text : List ℕ) (x : X) (a b : Tells) → Sends {X = X} {E = E} (Ok x) text a b → IsSent text a b
  sent text x a b s = record { written = s.writes.written; handed_on = s.handed_on; all_written = s.writes.counted }

  -- a text of which a first part was written
  pub broken : (text : List ℕ) (e : E) (a b : Tells) → Sends {X = X} {E = E} (Err e) text a b → BreaksOff text a b
  broken text e a b s = record { written = s.writes.written; handed_on = s.writes.handed_on; failed = s.writes.counted }

-- the same files hold the same
pub named_still : (before after : List ℕ → Held) (name : Option (Bor (List ℕ))) (text : List ℕ) → after ≡ before → ReadsNamed (option_map (λ n. after n.now) name) text
    → ReadsNamed (option_map (λ n. before n.now) name) text
named_still before after name text same is = subst (λ (held : List ℕ → Held). ReadsNamed (option_map (λ n. held n.now) name) text) same is

-- what a name that may be given holds
pub held_by : (held : List ℕ → Held) (name : Option (Bor (List ℕ))) → option_map (λ n. held n.now) name ≡ option_map held (option_map (λ n. n.now) name)
held_by held None = refl
held_by held (Some name) = refl
