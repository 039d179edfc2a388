use denote.Exit.{no}
use denote.Param.Send.{param_send, arg_send}
use Rattle.std.proofs.Common.{ap, refl, map, subst, rules}
use Rattle.workers.specs.Bells.{Untold}
use Rattle.server_threads.specs.Talks.{DeskSeat, talk_met}
use Rattle.server_threads.specs.Serving.{HasServed}
use Rattle.server_threads.proofs.Rounds.{staffed_begins, serves}
use Rattle.server_threads.proofs.serve.serve_beside.Goals as goal

pub join_workers-requires-clause-staffed : goal.join_workers-requires-clause-staffed
join_workers-requires-clause-staffed g c κs within =
    let o = c.scoped-seat.ensures.1.2.0 in
    let is = ap (λ (seat : DeskSeat g.row.T.Denot). seat.me.0) c.of-was.ensures in
    (map talk_met o.returned, staffed_begins _ _ _ _ _ _ _ _ _ _ o is c.start_workers.ensures.hired)

pub returns-clause-served : goal.returns-clause-served
returns-clause-served g c =
    let limits = c.args.means.now.limits in
    let o = c.scoped-seat.ensures.1.2.0 in
    let is = ap (λ (seat : DeskSeat g.row.T.Denot). seat.me.0) c.of-was.ensures in
    let s = staffed_begins _ _ _ _ _ _ _ _ _ _ o is c.start_workers.ensures.hired in
    subst (λ (net : g.row.N.Denot). HasServed g.S.Runner.ran (g.S.Service.talked Untold) g.N.Listener.tells limits c.args.seat c.join_workers.new.first c.args.net.now net c.scoped-seat.result.2) (search rules) (
      o.links,
      serves _ _ _ _ _ _ _ _ _ _ _ _ is c.start_workers.ensures.hired refl refl refl o (c.join_workers.ensures.left (map talk_met o.returned) s) c.join_workers.ensures.seen refl refl refl,
      c.scoped-seat.ensures.1.2.1,
    )

pub scoped-seat-requires : goal.scoped-seat-requires
scoped-seat-requires g c =
    let bounds = c.type_bounds in record {
      at = λ a. (
        (c.start_workers.ensures.seat, c.start_workers.ensures.hired.keeps.first, c.requires.room.may),
        (
          param_send _ _ (arg_send _ no _ bounds.send-J),
          param_send _ _ (arg_send _ no _ bounds.send-T),
          param_send _ _ (arg_send _ no _ bounds.send-N-Conn),
          record { shared = bounds.sync-J.shared },
          record { shared = bounds.sync-T.shared },
          record { shared = bounds.sync-R.shared },
          record { shared = bounds.sync-S.shared },
        ),
      );
    }
