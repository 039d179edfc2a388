use Rattle.std.proofs.Common.{◌≡◌, ◌∙◌, ap, Result, Err, ℕ, refl, subst}
use Rattle.effects.specs.Records as deeds
use Rattle.job_table.specs.declared.job.Phase.TheVariants.{Issued}
use Rattle.job_table.specs.declared.entries.IssueFault.{IssueFault}
use Rattle.job_table.specs.Jobs.{Register}
use Rattle.job_table.specs.Steps.{LeadsBy, adds, added_reply}
use Rattle.job_table.specs.declared.entries.Reply.{Reply}
use Rattle.job_table.proofs.RemadeEffects.{AddedAgain, adds_again}
use Rattle.job_table.proofs.jobs.Jobs.issue_again.Goals as goal

added : (old new : Register) (res x : Result ℕ IssueFault) → ((said : Reply) → LeadsBy (adds Issued said old) old (added_reply (λ _. said) res) new) → res ≡ x
    → AddedAgain deeds.Issue old x new
added old new res x leads is = subst (λ (y : Result ℕ IssueFault). AddedAgain deeds.Issue old y new) is (adds_again deeds.Issue Issued old new tt (λ l. refl) res leads)

pub returns-in-Ok : goal.returns-in-Ok
returns-in-Ok c = added _ _ _ _ c.add.ensures.added c.in-Ok.is

pub returns-in-Err-Full : goal.returns-in-Err-Full
returns-in-Err-Full c = added _ _ _ _ c.add.ensures.added (c.in-Err-Full.is ∙ ap (λ (f : IssueFault). Err f) c.in-Err-Full.field-0-is)

pub returns-in-Err-Spent : goal.returns-in-Err-Spent
returns-in-Err-Spent c = added _ _ _ _ c.add.ensures.added (c.in-Err-Spent.is ∙ ap (λ (f : IssueFault). Err f) c.in-Err-Spent.field-0-is)

pub returns-in-Err-Memory : goal.returns-in-Err-Memory
returns-in-Err-Memory c = added _ _ _ _ c.add.ensures.added (c.in-Err-Memory.is ∙ ap (λ (f : IssueFault). Err f) c.in-Err-Memory.field-0-is)
