use Rattle.desk.specs.Legal.{paired}
use Rattle.desk.specs.SeatMoves.{told_of}
use Rattle.desk.specs.Stores.{ClosesStored}
use Rattle.desk.proofs.Entries.{closes_so}
use Rattle.desk.proofs.StoreHistories.{all_lead, made_lead, stores_so}
use Rattle.desk.proofs.stored.StoredDesk+J+S.close_stored.Goals as goal

pub returns : goal.returns
returns g c =
    let right = g.J.Verdicts.right in
    let start = told_of c.args.self in
    let held = c.end-table.result in
    closes_so _ (λ log. ClosesStored right g.S.Store.keeps g.S.Store.passes g.S.Store.too_long g.S.Store.broken g.S.Store.faults start.table start.store log held.table held.store) c.args.me.me.0
    (λ log makes.
    let leads = paired right g.S.Store.keeps g.S.Store.passes g.S.Store.too_long g.S.Store.broken g.S.Store.faults start log held makes in record {
      leads = leads;
      moves = all_lead right g.S.Store.keeps g.S.Store.passes g.S.Store.too_long g.S.Store.broken g.S.Store.faults log (start.table, start.store) (held.table, held.store) leads;
      made = made_lead right g.S.Store.keeps g.S.Store.passes g.S.Store.too_long g.S.Store.broken g.S.Store.faults log (start.table, start.store) (held.table, held.store) leads;
      stores = λ sound. stores_so g.S.Store.keeps g.S.Store.passes g.S.Store.too_long g.S.Store.broken g.S.Store.faults right log (start.table, start.store) (held.table, held.store) leads sound;
    })
    c.end-table.ensures
