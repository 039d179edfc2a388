-- Who has which job in hand: a job is looked at and finished by whoever it was given to alone.
use Rattle.std.specs.Prelude.{◌≡◌, Bool, true, false, List, [], ◌∷◌, Option, Some, None}
use Rattle.job_table.specs.declared.job.Job.{Job}
use Rattle.job_table.specs.declared.entries.TableMove.{TableMove}
use Rattle.job_table.specs.declared.entries.TableMove.TheVariants.{Enter, Claim, Look, Finish}
use Rattle.job_table.specs.declared.entries.Reply.{Reply}
use Rattle.job_table.specs.declared.entries.Reply.TheVariants.{Gave, Marked}
use Rattle.job_table.specs.History.{MoveEntry}

-- a job that was given and isn't finished, and whether a look said that it is to stop
pub record Hand : Type 0 where
  pub job : Job
  pub told : Bool

abbrev pub hand : Job → Bool → Hand
hand j told = record { job = j; told = told }

-- what is in hand after a reply that may give a job
abbrev pub after_gave : Reply → Option Hand → Option Hand
after_gave (Gave (Some j)) h = Some (hand j false)
after_gave said h = h

-- and after the reply of a look
abbrev pub after_look : Reply → Option Hand → Option Hand
after_look (Marked true) (Some h) = Some (hand h.job true)
after_look said h = h

-- what one who makes this move, and gets this reply, has in hand then
abbrev pub then_in_hand : TableMove → Reply → Option Hand → Option Hand
then_in_hand (Enter osil osol) said h = after_gave said h
then_in_hand (Claim worker) said h = after_gave said h
then_in_hand (Look n) said h = after_look said h
then_in_hand (Finish j asked document) said h = None
then_in_hand move said h = h

-- looks and finishes are of the job in hand, and the finish says that it was asked to stop only after a look that said so
abbrev pub Allows : Option Hand → TableMove → Type 0
Allows None (Look n) = ⊥
Allows (Some h) (Look n) = n ≡ h.job.number
Allows None (Finish j asked document) = ⊥
Allows (Some h) (Finish j asked document) = (j ≡ h.job) × (asked ≡ true → h.told ≡ true)
Allows h table_move = Unit {0}

-- so are all of these moves, by one who has this in hand before them
abbrev pub IsOrderly : Option Hand → List MoveEntry → Type 0
IsOrderly h [] = Unit {0}
IsOrderly h (e ∷ es) = Allows h e.table_move × IsOrderly (then_in_hand e.table_move e.reply h) es

-- what is in hand after them
abbrev pub in_hand_after : Option Hand → List MoveEntry → Option Hand
in_hand_after h [] = h
in_hand_after h (e ∷ es) = in_hand_after (then_in_hand e.table_move e.reply h) es
