-- What waits for others.
use Rattle.std.specs.Prelude.{◌≡◌, ℕ, List, Some}
use Rattle.command_line.specs.Words.{asks, meant}
use Rattle.command_line.specs.declared.words.Asked.{Asked}
use Rattle.command_line.specs.declared.words.Asked.TheVariants as asked
use Rattle.os_app.specs.declared.command.Waits.{Waits}
use Rattle.os_app.specs.declared.command.Waits.TheVariants.{Session, Serve}

-- the words that ask for it
abbrev pub asked_to_wait : Waits → Asked
asked_to_wait (Session journal) = asked.Session journal
asked_to_wait (Serve to) = asked.Serve to

-- some words ask for it
pub record IsAskedFor (waits : Waits) : Type 0 where
  pub words : List (List ℕ)
  pub asked : asks words ≡ Some (meant (asked_to_wait waits))
