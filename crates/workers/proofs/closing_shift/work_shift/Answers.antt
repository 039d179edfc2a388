use Rattle.workers.proofs.Rounds.{comes_and_goes}
use Rattle.workers.proofs.closing_shift.work_shift.Goals as goal

pub returns : goal.returns
returns g c =
    let did = g.C.Mover.did in
    let joins = g.met.C.Mover.joins in
    let came = c.enlist.new.self in
    let rested = c.work_off.new.mover in
    comes_and_goes g.U.Runner.ran (λ es. did c.args.mover.now came es) (λ es. did came rested es) (λ es. did c.args.mover.now rested es)
    (λ es. did rested c.leave.new.self es) (λ es. did c.args.mover.now c.leave.new.self es)
    (λ a b. joins _ _ _ a b) (λ a b. joins _ _ _ a b) c.enlist.ensures c.work_off.ensures c.leave.ensures
