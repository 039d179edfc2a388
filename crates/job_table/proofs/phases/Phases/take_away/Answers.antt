use Rattle.std.proofs.Common.{◌∙◌, sym, ap, subst, length, IsSome, arith}
use Rattle.job_table.specs.Jobs.{HeldJobs, phase_of, without}
use Rattle.job_table.specs.Places.{held_in}
use Rattle.job_table.proofs.HeldPlaces.{has_place, out_where_held, one_less}
use Rattle.job_table.proofs.phases.Phases.take_away.Goals as goal

pub fill-requires : goal.fill-requires
fill-requires c =
    has_place c.args.number c.self.inside.places.entries c.self.invariant.0 (subst (λ (jobs : HeldJobs). IsSome (phase_of c.args.number jobs)) (sym c.self.view_is) c.requires)

pub invariant_of-self : goal.invariant_of-self
invariant_of-self c =
    let held = subst (λ (jobs : HeldJobs). IsSome (phase_of c.args.number jobs)) (sym c.self.view_is) c.requires in
    let rest = ap length (ap held_in c.fill.ensures.places ∙ out_where_held c.args.number c.self.inside.places.entries c.self.invariant.0 held) in
    (c.fill.ensures.unique, omega (arith, rest, one_less c.args.number (held_in c.self.inside.places.entries) held, c.self.invariant.1))

pub returns : goal.returns
returns c =
    let held = subst (λ (jobs : HeldJobs). IsSome (phase_of c.args.number jobs)) (sym c.self.view_is) c.requires in
    ap held_in c.fill.ensures.places ∙ out_where_held c.args.number c.self.inside.places.entries c.self.invariant.0 held ∙ ap (without c.args.number) c.self.view_is
