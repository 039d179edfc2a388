use Rattle.std.proofs.Common.{◌≡◌, ◌∙◌, ap, sym, List, Result, Err, ℕ, subst}
use Rattle.effects.specs.Records as deeds
use Rattle.effects.specs.Fold.{with_job}
use Rattle.job_table.specs.declared.job.Phase.{Phase}
use Rattle.job_table.specs.declared.job.Phase.TheVariants.{Waiting}
use Rattle.job_table.specs.declared.entries.IssueFault.{IssueFault}
use Rattle.job_table.specs.declared.entries.Reply.{Reply}
use Rattle.job_table.specs.Jobs.{Register}
use Rattle.job_table.specs.Steps.{LeadsBy, adds, added_reply}
use Rattle.job_table.specs.Plans.{stage}
use Rattle.job_table.specs.Remade.{IsAtRest}
use Rattle.job_table.proofs.RemadeEffects.{AddedAgain, adds_again}
use Rattle.job_table.proofs.jobs.Jobs.enter_again.Goals as goal

added : (a b : List ℕ) (w : Phase) (old new : Register) (res x : Result ℕ IssueFault) → w ≡ Waiting a b
    → ((said : Reply) → LeadsBy (adds w said old) old (added_reply (λ _. said) res) new) → res ≡ x → AddedAgain (deeds.Enter a b) old x new
added a b w old new res x same leads is =
    subst (λ (y : Result ℕ IssueFault). AddedAgain (deeds.Enter a b) old y new) is
    (adds_again (deeds.Enter a b) w old new (subst IsAtRest (sym same) tt) (λ l. ap (λ (p : Phase). with_job (stage p) l) (sym same)) res leads)

pub returns-in-Ok-add : goal.returns-in-Ok-add
returns-in-Ok-add c = added _ _ _ _ _ _ _ c.in-Ok.ensures c.add.ensures.added c.in-Ok-add.is

pub returns-in-Err-Full : goal.returns-in-Err-Full
returns-in-Err-Full c = added _ _ _ _ _ _ _ c.in-Ok.ensures c.add.ensures.added (c.in-Err-Full.is ∙ ap (λ (f : IssueFault). Err f) c.in-Err-Full.field-0-is)

pub returns-in-Err-Spent : goal.returns-in-Err-Spent
returns-in-Err-Spent c = added _ _ _ _ _ _ _ c.in-Ok.ensures c.add.ensures.added (c.in-Err-Spent.is ∙ ap (λ (f : IssueFault). Err f) c.in-Err-Spent.field-0-is)

pub returns-in-Err-Memory : goal.returns-in-Err-Memory
returns-in-Err-Memory c = added _ _ _ _ _ _ _ c.in-Ok.ensures c.add.ensures.added (c.in-Err-Memory.is ∙ ap (λ (f : IssueFault). Err f) c.in-Err-Memory.field-0-is)
