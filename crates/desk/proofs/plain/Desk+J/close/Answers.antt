use Rattle.desk.specs.SeatMoves.{first_number}
use Rattle.desk.specs.History.{LeadsTo, moves_in}
use Rattle.job_table.proofs.Histories.{first_led}
use Rattle.desk.specs.Legal.{leads_of, led_to}
use Rattle.desk.proofs.Entries.{closes_so}
use Rattle.desk.proofs.plain.Desk+J.close.Goals as goal

pub returns-clause-closes : goal.returns-clause-closes
returns-clause-closes g c =
    let right = g.J.Verdicts.right in
    let start = first_number c.args.self in
    let held = c.end-table.result in
    closes_so _ (λ log. LeadsTo right log held.table) c.args.me.me.0 (λ log makes. led_to right start log held.table (leads_of right start log held makes)) c.end-table.ensures

pub returns-clause-first : goal.returns-clause-first
returns-clause-first g c =
    let right = g.J.Verdicts.right in
    let start = first_number c.args.self in
    let closed = c.end-table.ensures in
    first_led right start (moves_in closed.log) c.end-table.result.table (leads_of right start closed.log c.end-table.result closed.leads)
