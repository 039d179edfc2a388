-- What a move that is made behind the put of its effect answers, and does to the store.
use Rattle.std.specs.Prelude.{◌≡◌, ℕ, Bool, List, Option, Some, None, Result, Ok, Err}
use Rattle.effects.specs.declared.store.NotStored.{NotStored}
use Rattle.effects.specs.Records.{Deed}
use Rattle.effects.specs.Stores.{PutsIf}
use Rattle.job_table.specs.declared.entries.IssueFault.{IssueFault}
use Rattle.job_table.specs.declared.entries.Reply.{Reply}
use Rattle.job_table.specs.declared.entries.Reply.TheVariants as replies
use Rattle.job_table.specs.declared.job.Job.{Job}
use Rattle.job_table.specs.Jobs.{job}

-- the job with a new number and these texts, where there is one
abbrev pub with_texts : List ℕ → List ℕ → Result ℕ IssueFault → Result Job IssueFault
with_texts osil osol (Ok n) = Ok (job n osil osol)
with_texts osil osol (Err fault) = Err fault

-- the reply in an answer: none where there was no memory; where the effect wasn't stored it says so
abbrev pub said_in : {A : Type 0} → (A → Option Reply) → Result A NotStored → Option Reply
said_in said (Ok answer) = said answer
said_in said (Err fault) = Some (replies.NotStored fault)

module _ {S : Type 0} (keeps : S → List Deed → Type 0) (passes : S → S → List Deed → Deed → Type 0) (too_long : S → List Deed → Deed → Bool) (broken : S → Bool) (faults : S → ℕ) where
  -- where the move was made, its effect was stored, if it has one; without a reply there was no memory, and nothing was put
  abbrev pub KeptBy : Option Deed → S → Option Reply → S → Type 0
  KeptBy due old (Some reply) new = PutsIf keeps passes too_long broken faults due old None new
  KeptBy due old None new = new ≡ old
