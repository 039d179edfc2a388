use Rattle.std.proofs.Common.{[], refl, sym, subst, inl, inr}
use Rattle.desk.specs.SeatMoves.{IsSeatOf}
use Rattle.desk.specs.SeatHistory.{made_none}
use Rattle.server_threads.specs.Talks.{IsShift, AnyHistory}
use Rattle.server_threads.proofs.Rounds.{acts_by}
use Rattle.server_threads.proofs.staff.work_by.Goals as goal

pub returns-then-load-number : goal.returns-then-load-number
returns-then-load-number g c = record {
  desk_is = subst (λ desk. IsSeatOf desk c.args.seat) (sym c.requires.desk_is) c.requires;
  said = [];
  asked = made_none AnyHistory c.args.seat.me.0;
  held = inl refl;
}

pub returns : goal.returns
returns g c =
    let w = c.work_loop.ensures.worked in
    let is = subst (λ desk. IsSeatOf desk c.work_loop.new.seat) (sym c.requires.desk_is) c.work_loop.ensures.seat in
    acts_by (IsShift g.S.Runner.ran) c.args.seat c.work_loop.new.seat w.0 is w.1 (inr w.2)
