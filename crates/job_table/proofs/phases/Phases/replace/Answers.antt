use Rattle.std.proofs.Common.{◌∙◌, sym, ap, subst, length, Option, Some, None, IsSome}
use Rattle.job_table.specs.declared.job.Phase.{Phase}
use Rattle.job_table.specs.Jobs.{HeldJobs, phase_of, with_phase}
use Rattle.job_table.specs.Places.{held_in}
use Rattle.job_table.proofs.JobLists.{not_held}
use Rattle.job_table.proofs.HeldPlaces.{phase_found, has_place, put_where_held, as_many}
use Rattle.job_table.proofs.phases.Phases.replace.Goals as goal

pub fill-requires : goal.fill-requires
fill-requires c =
    has_place c.args.number c.self.inside.places.entries c.self.invariant.0 (subst (λ (jobs : HeldJobs). IsSome (phase_of c.args.number jobs)) (sym c.self.view_is) c.requires)

pub unreachable-requires : goal.unreachable-requires
unreachable-requires c =
    not_held (phase_of c.args.number c.args.self.now)
    (phase_found c.args.number c.self.inside.places.entries c.args.self.now c.self.invariant.0 c.self.view_is None (c.fill.ensures.before ∙ ap (λ (o : Option Phase). Some o) c.in-None.is)) c.requires

pub invariant_of-self : goal.invariant_of-self
invariant_of-self c =
    let held = subst (λ (jobs : HeldJobs). IsSome (phase_of c.args.number jobs)) (sym c.self.view_is) c.requires in (
      c.fill.ensures.unique,
      c.self.invariant.1
          ∙ sym (ap length (ap held_in c.fill.ensures.places ∙ put_where_held c.args.number c.self.inside.places.entries c.self.invariant.0 c.args.phase held)
          ∙ as_many c.args.number c.args.phase (held_in c.self.inside.places.entries)),
    )

pub returns-clause-phases : goal.returns-clause-phases
returns-clause-phases c =
    let held = subst (λ (jobs : HeldJobs). IsSome (phase_of c.args.number jobs)) (sym c.self.view_is) c.requires in
    ap held_in c.fill.ensures.places ∙ put_where_held c.args.number c.self.inside.places.entries c.self.invariant.0 c.args.phase held
    ∙ ap (with_phase c.args.number c.args.phase) c.self.view_is

pub returns-clause-before : goal.returns-clause-before
returns-clause-before c =
    phase_found c.args.number c.self.inside.places.entries c.args.self.now c.self.invariant.0 c.self.view_is (Some c.in-Some.before)
    (c.fill.ensures.before ∙ ap (λ (o : Option Phase). Some o) c.in-Some.is)
