-- What a move makes of what lies in a desk's slot: of a table, and of a table beside what keeps the effects of its moves.
use Rattle.std.specs.Prelude.{◌≡◌, ◌⊎◌, ℕ, Bool, true, List, Option, Some, None}
use Rattle.effects.specs.Records.{Deed}
use Rattle.effects.specs.declared.store.NotStored.{NotStored}
use Rattle.effects.specs.Stores.{PutsIf}
use Rattle.job_table.specs.declared.entries.TableMove.{TableMove}
use Rattle.job_table.specs.declared.entries.Reply.{Reply}
use Rattle.job_table.specs.declared.entries.Reply.TheVariants as replies
use Rattle.job_table.specs.Jobs.{Register}
use Rattle.job_table.specs.Steps.{Step, May, fits}
use Rattle.job_table.specs.Plans.{planned}

module _ (right : List ℕ → List ℕ → Bool → Option (List ℕ) → Type 0) {S : Type 0} (keeps : S → List Deed → Type 0) (passes : S → S → List Deed → Deed → Type 0) (too_long : S → List Deed → Deed → Bool) (broken : S → Bool) (faults : S → ℕ) where
  -- the move was made, and its effect stored, where it has one
  pub record IsMade (old : Register × S) (move : TableMove) (reply : Reply) (new : Register × S) : Type 0 where
    pub fitting : fits move reply ≡ true
    pub step : Step right old.0 move reply new.0
    pub puts : PutsIf keeps passes too_long broken faults (planned move old.0) old.1 None new.1

  -- the effect of a move that may be made wasn't stored, and the table stays
  pub record IsMoveRefused (old : Register × S) (move : TableMove) (reply : Reply) (new : Register × S) : Type 0 where
    pub fault : NotStored
    pub says : reply ≡ replies.NotStored fault
    pub may : May right move
    pub stays : new.0 ≡ old.0
    pub puts : PutsIf keeps passes too_long broken faults (planned move old.0) old.1 (Some fault) new.1

  abbrev pub Moves : Register × S → TableMove → Reply → Register × S → Type 0
  Moves old move reply new = IsMade old move reply new ⊎ IsMoveRefused old move reply new
