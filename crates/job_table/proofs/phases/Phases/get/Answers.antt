use Rattle.std.proofs.Common.{sym, Some, None}
use Rattle.job_table.proofs.HeldPlaces.{phase_found, phase_missed}
use Rattle.job_table.proofs.phases.Phases.get.Goals as goal

pub returns-in-Some-Some : goal.returns-in-Some-Some
returns-in-Some-Some c =
    let at = rw c.in-Some-Some.field-0-is at c.in-Some-Some.ensures.value in
    sym (phase_found c.args.number c.self.inside.places.entries c.args.self.now c.self.invariant.0 c.self.view_is (Some c.in-Some-Some.phase) (sym at))

pub returns-in-Some-None : goal.returns-in-Some-None
returns-in-Some-None c =
    let at = rw c.in-Some-None.field-0-is at c.in-Some-None.ensures.value in
    sym (phase_found c.args.number c.self.inside.places.entries c.args.self.now c.self.invariant.0 c.self.view_is None (sym at))

pub returns-in-None : goal.returns-in-None
returns-in-None c = sym (phase_missed c.args.number c.self.inside.places.entries c.args.self.now c.self.invariant.0 c.self.view_is (sym c.in-None.ensures.value))
