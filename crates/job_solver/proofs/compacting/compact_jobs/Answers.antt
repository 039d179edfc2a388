use Rattle.std.proofs.Common.{◌≡◌, true}
use Rattle.job_solver.proofs.Compactions.{rests_again, leaves_again}
use Rattle.job_solver.proofs.compacting.compact_jobs.Goals as goal

pub returns : goal.returns
returns g c =
    let done = c.compact.ensures in
    let file = g.D.Disk.seen c.args.old in
    let left = c.compact.result.2 in
    record {
      compacts = record {
        written = rests_again g.E.Disk file c.compact.new.table c.args.new left (g.D.Disk.told c.args.old ≡ true) c.compact.result.0 done.written;
        any_moment = λ t u. leaves_again g.E.Disk file c.compact.new.table c.args.new left (done.any_moment t u);
        old_at_any_moment = done.old_at_any_moment;
        taken = done.taken;
        untaken = done.untaken;
        long = λ is t u. let said = done.long is t u in (c.compact.new.table, said.0, said.1, said.2);
        damaged = done.damaged;
        stays = done.old_left;
        old_cause = done.old_cause;
        new_cause = done.new_cause;
      };
    }
