use Rattle.std.proofs.Common.{◌≡◌, ℕ, Result, Ok, Err, IfOk, ◌∙◌, ap, sym, subst}
use Rattle.job_table.specs.declared.job.Phase.TheVariants.{Issued}
use Rattle.job_table.specs.declared.entries.IssueFault.{IssueFault}
use Rattle.job_table.specs.declared.entries.IssueFault.TheVariants as fault
use Rattle.job_table.specs.declared.entries.TableMove.TheVariants.{Issue}
use Rattle.job_table.specs.declared.entries.Reply.{Reply}
use Rattle.job_table.specs.declared.entries.Reply.TheVariants as reply
use Rattle.effects.specs.declared.store.NotStored.{NotStored}
use Rattle.job_table.specs.Jobs.{Register, next_number}
use Rattle.job_table.specs.Steps.{LeadsBy, Follows, adds, added_reply, outcome}
use Rattle.job_table.proofs.table.Table.issue_kept.Goals as goal

-- the reply is the number
numbered : (old new : Register) (x : Result ℕ IssueFault) → IfOk x (λ n. n ≡ next_number old)
    → ((said : Reply) → LeadsBy (adds Issued said old) old (added_reply (λ _. said) x) new) → Follows Issue old (added_reply reply.Issued x) new
numbered old new (Ok n) is added = added (reply.Issued (next_number old)) ∙ ap (λ k. outcome (reply.Issued k) new) (sym is)
numbered old new (Err fault.Full) is added = added (reply.Issued (next_number old))
numbered old new (Err fault.Spent) is added = added (reply.Issued (next_number old))
numbered old new (Err fault.Memory) is added = added (reply.Issued (next_number old))

numbered_if : (old new : Register) (res : Result (Result ℕ IssueFault) NotStored) → IfOk res (λ x. IfOk x (λ n. n ≡ next_number old))
    → IfOk res (λ x. (said : Reply) → LeadsBy (adds Issued said old) old (added_reply (λ _. said) x) new) → IfOk res (λ x. Follows Issue old (added_reply reply.Issued x) new)
numbered_if old new (Ok x) is added = numbered old new x is added
numbered_if old new (Err f) is added = tt

pub returns-clause-made : goal.returns-clause-made
returns-clause-made g c =
    subst (λ (old : Register). IfOk c.add_kept.result (λ x. Follows Issue old (added_reply reply.Issued x) c.add_kept.new.self)) c.self.view_is
    (numbered_if c.self.inside.jobs c.add_kept.new.self c.add_kept.result c.add_kept.ensures.number c.add_kept.ensures.added)
