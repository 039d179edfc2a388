use Rattle.std.proofs.Common.{refl}
use Rattle.job_table.specs.Jobs.{Register}
use Rattle.desk.specs.History.{LeadsFrom, IsLegalFrom}
use Rattle.desk.specs.SeatMoves.{first_number}
use Rattle.desk.specs.Legal.{legal_of, leads_of}
use Rattle.desk.proofs.Entries.{adds_so, lacks_so}
use Rattle.desk.proofs.plain.Desk+J.ask.Goals as goal

pub returns-clause-ok : goal.returns-clause-ok
returns-clause-ok g c =
    let right = g.J.Verdicts.right in
    let start = first_number c.args.self.now in
    adds_so _ (IsLegalFrom right start) (g.M.Move.said c.in-Ok.answer) c.args.me.now.me.0 c.make.new.me.me.0 (g.M.Move.table_move c.args.step) (legal_of right start) c.in-Ok.ensures.ok

pub returns-clause-sure : goal.returns-clause-sure
returns-clause-sure g c =
    let right = g.J.Verdicts.right in
    let start = first_number c.args.self.now in
    lacks_so (λ held. held.table) (λ (r : Register). r) _ (LeadsFrom right start) (λ held. held.table) (g.M.Move.said c.in-Ok.answer) (g.M.Move.table_move c.args.step) c.make.new.me.me.0.seen
    (λ held makes. leads_of right start c.make.new.me.me.0.seen held makes) (λ held. refl) c.in-Ok.ensures.sure
