use Rattle.std.proofs.Common.{◌≡◌, ℕ, List, Result, Ok, Err, IfOk, Some, sym, ◌∙◌, subst, false}
use Rattle.job_table.specs.declared.job.Job.{Job}
use Rattle.job_table.specs.declared.job.Phase.TheVariants.{Running}
use Rattle.job_table.specs.declared.entries.IssueFault.{IssueFault}
use Rattle.job_table.specs.declared.entries.IssueFault.TheVariants as fault
use Rattle.job_table.specs.declared.entries.TableMove.TheVariants.{Enter}
use Rattle.job_table.specs.declared.entries.Reply.{Reply}
use Rattle.job_table.specs.declared.entries.Reply.TheVariants as reply
use Rattle.job_table.specs.Jobs.{Register, next_number, job}
use Rattle.job_table.specs.Kept.{with_texts}
use Rattle.job_table.specs.Steps.{LeadsBy, Follows, adds, added_reply, outcome}
use Rattle.effects.specs.declared.store.NotStored.{NotStored}
use Rattle.job_table.proofs.table.Table.enter_kept.Goals.{in-Ok, in-Err}
use Rattle.job_table.proofs.table.Table.enter_kept.Goals as goal

-- the reply is the job, whose texts are those of both owners
entered : (old new : Register) (osil osol k l a b : List ℕ) (x : Result ℕ IssueFault) → k ≡ osil → l ≡ osol → a ≡ osil → b ≡ osol → IfOk x (λ n. n ≡ next_number old)
    → ((said : Reply) → LeadsBy (adds (Running k l false) said old) old (added_reply (λ _. said) x) new)
    → Follows (Enter osil osol) old (added_reply (λ j. reply.Gave (Some j)) (with_texts a b x)) new
entered old new osil osol k l a b (Ok n) same_k same_l same_a same_b is added =
    let said : Reply = reply.Gave (Some (job (next_number old) osil osol)) in
    (λ i. adds (Running (sym same_k i) (sym same_l i) false) said old) ∙ added said ∙ (λ i. outcome (reply.Gave (Some (job (sym is i) (sym same_a i) (sym same_b i)))) new)
entered old new osil osol k l a b (Err fault.Full) same_k same_l same_a same_b is added =
    (λ i. adds (Running (sym same_k i) (sym same_l i) false) (reply.Gave (Some (job (next_number old) osil osol))) old) ∙ added (reply.Gave (Some (job (next_number old) osil osol)))
entered old new osil osol k l a b (Err fault.Spent) same_k same_l same_a same_b is added =
    (λ i. adds (Running (sym same_k i) (sym same_l i) false) (reply.Gave (Some (job (next_number old) osil osol))) old) ∙ added (reply.Gave (Some (job (next_number old) osil osol)))
entered old new osil osol k l a b (Err fault.Memory) same_k same_l same_a same_b is added = added reply.Done

abbrev Made : (osil osol : List ℕ) → Register → Register → Result (Result Job IssueFault) NotStored → Type 0
Made osil osol old new res = IfOk res (λ x. Follows (Enter osil osol) old (added_reply (λ j. reply.Gave (Some j)) x) new)

pub returns-clause-made : goal.returns-clause-made
returns-clause-made g c = elim c.match-add_kept.branch [
  | in-Ok w ↦ subst (Made c.args.osil c.args.osol c.args.self.now c.add_kept.new.self) (sym w.result-is)
      (subst (λ (old : Register). Follows (Enter c.args.osil c.args.osol) old (added_reply (λ j. reply.Gave (Some j)) w.given.result) c.add_kept.new.self) c.self.view_is
      (subst (λ (x : Result Job IssueFault). Follows (Enter c.args.osil c.args.osol) c.self.inside.jobs (added_reply (λ j. reply.Gave (Some j)) x) c.add_kept.new.self) (sym w.given.ensures)
      (entered c.self.inside.jobs c.add_kept.new.self c.args.osil c.args.osol _ _ _ _ w.in-Ok.added c.split-kept_osil.ensures.0 c.split-kept_osol.ensures.0 c.split-kept_osil.ensures.1 c.split-kept_osol.ensures.1
      w.in-Ok.ensures.number w.in-Ok.ensures.added)))
  | in-Err w ↦ subst (Made c.args.osil c.args.osol c.args.self.now c.add_kept.new.self) (sym w.result-is) tt
]
