use Rattle.std.proofs.Common.{◌∙◌, ap, length, length-append, [], ◌∷◌, ◌++◌, arith}
use Rattle.job_table.specs.Jobs.{HeldJobs, phase_of}
use Rattle.job_table.specs.Places.{held_in}
use Rattle.job_table.proofs.JobLists.{none_below}
use Rattle.job_table.proofs.HeldPlaces.{behind_all}
use Rattle.job_table.proofs.phases.Phases.append.Goals as goal

pub sweep-requires-clause-new : goal.sweep-requires-clause-new
sweep-requires-clause-new g c = ap (phase_of c.args.number) c.self.view_is ∙ none_below c.args.number c.args.self.now c.requires.above

pub invariant_of-self : goal.invariant_of-self
invariant_of-self g c =
    let added = rw c.in-Ok-Ok.field-0-is at c.in-Ok-Ok.ensures.ok in
    let all =
    ap held_in added ∙ behind_all c.args.number c.args.phase c.sweep.new.places.entries ∙ ap (λ (jobs : HeldJobs). jobs ++ (c.args.number, c.args.phase) ∷ []) c.sweep.ensures.same in
    let many = ap length all ∙ length-append (held_in c.self.inside.places.entries) ((c.args.number, c.args.phase) ∷ []) in
    (c.append.ensures.unique, omega (arith, many, c.self.invariant.1))

pub returns-in-Ok-Ok-clause-ok : goal.returns-in-Ok-Ok-clause-ok
returns-in-Ok-Ok-clause-ok g c =
    let added = rw c.in-Ok-Ok.field-0-is at c.in-Ok-Ok.ensures.ok in
    ap held_in added ∙ behind_all c.args.number c.args.phase c.sweep.new.places.entries
    ∙ ap (λ (jobs : HeldJobs). jobs ++ (c.args.number, c.args.phase) ∷ []) (c.sweep.ensures.same ∙ c.self.view_is)
