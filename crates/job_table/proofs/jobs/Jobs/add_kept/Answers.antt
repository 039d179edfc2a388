use Rattle.std.proofs.Common.{Bool, ◌+◌, ◌∙◌, ap, sym, subst, ℕ, List, length, ◌++◌, ◌∷◌, [], add_assoc, arith, cond, false, deque_capacity}
use Rattle.job_table.specs.Jobs.{HeldJobs}
use Rattle.job_table.specs.WaitingJobs.{Climb, IsKeptBeside, renewed}
use Rattle.job_table.proofs.WaitingJobs.{rises, waiting_few, all_below, kept_add}
use Rattle.job_table.proofs.jobs.Jobs.add_kept.Goals as goal

pub make_room-requires : goal.make_room-requires
make_room-requires g c =
    let few = waiting_few c.self.inside.phases _ _ _ _ _ c.self.invariant in
    omega (arith, few, c.len-held.ensures)

pub append-requires-clause-above : goal.append-requires-clause-above
append-requires-clause-above g c = all_below c.self.inside.phases _ _ _ _ _ c.self.invariant

pub append-requires-clause-few : goal.append-requires-clause-few
append-requires-clause-few g c = let fewer = c.if-held-ge-MOST_JOBS.false in omega (arith, fewer, c.len-held.ensures)

pub renew-requires-clause-rise : goal.renew-requires-clause-rise
renew-requires-clause-rise g c =
    subst (λ (ns : List ℕ). Climb 0 ns) (sym c.in-Ok.ensures.numbers) (rises c.self.inside.phases _ _ _ _ _ c.self.invariant)

pub renew-requires-clause-room : goal.renew-requires-clause-room
renew-requires-clause-room g c =
    let few = waiting_few c.self.inside.phases _ _ _ _ _ c.self.invariant in
    let enough = c.in-Ok.ensures.ok in
    omega (arith, few, enough, c.len-held.ensures, ap (λ (ns : List ℕ). length ns) c.in-Ok.ensures.numbers, c.make_room.new.numbers.ok.0)

pub invariant_of-self-2 : goal.invariant_of-self-2
invariant_of-self-2 g c =
    let jobs = c.self.inside.phases in
    let next : ℕ = c.self.inside.first + c.self.inside.issued in
    let room = deque_capacity c.renew.new.numbers in
    let running = c.recount-self-inside.result in
    let fewer = c.if-held-ge-MOST_JOBS.false in
    let held = c.len-held.ensures in
    let added = rw c.in-Ok-Ok.field-0-is at c.in-Ok-Ok.ensures.ok in
    let more =
    kept_add jobs _ _ _ _ _ c.self.invariant c.args.phase c.renew.new.numbers.items room running
    (c.renew.ensures.numbers ∙ ap (λ (b : Bool). renewed next false b c.make_room.new.numbers.items) c.is_waiting-waits.ensures ∙ ap (renewed next false _) c.in-Ok.ensures.numbers)
    (let below = c.if-number-gt-LAST_NUMBER.false in omega (arith, below)) (omega (arith, fewer, held)) (let enough = c.in-Ok.ensures.ok in let kept = c.renew.ensures.room in omega (arith, enough, kept, held))
    (c.recount-self-inside.ensures ∙ ap (λ b. c.self.inside.running + cond b 1 0) c.is_running-runs.ensures) in
    subst (λ (js : HeldJobs). IsKeptBeside js c.self.inside.first (c.self.inside.first + (c.self.inside.issued + 1)) c.renew.new.numbers.items room running)
    (sym added)
    (subst (λ (n : ℕ). IsKeptBeside (jobs ++ (next, c.args.phase) ∷ []) c.self.inside.first n c.renew.new.numbers.items room running) (add_assoc c.self.inside.first c.self.inside.issued 1) more)
