use Rattle.job_table.specs.Plans.{planned}
use Rattle.desk.proofs.StoreHistories.{moves_of, stays_of, lacks_of, may_refuse, has_effect}
use Rattle.desk.proofs.held.StoredSlotContents.make.Goals as goal

pub returns-clause-ok : goal.returns-clause-ok
returns-clause-ok g c =
    let e = c.make_kept.ensures in
    let old = c.args.self.now in
    let new = c.make_kept.new in
    moves_of g.J.Verdicts.right g.S.Store.keeps g.S.Store.passes g.S.Store.too_long g.S.Store.broken g.S.Store.faults g.M.Move.said (g.M.Move.table_move c.args.step) c.requires c.make_kept.result (old.table, old.store) (new.table, new.store)
    e.ok e.fits e.kept e.refused

pub returns-clause-sure : goal.returns-clause-sure
returns-clause-sure g c =
    lacks_of g.J.Verdicts.right g.S.Store.keeps g.S.Store.passes g.S.Store.too_long g.S.Store.broken g.S.Store.faults g.M.Move.said (g.M.Move.table_move c.args.step) c.make_kept.result _ c.make_kept.ensures.sure

pub returns-clause-err : goal.returns-clause-err
returns-clause-err g c =
    let e = c.make_kept.ensures in
    let old = c.args.self.now in
    stays_of g.J.Verdicts.right g.S.Store.keeps g.S.Store.passes g.S.Store.too_long g.S.Store.broken g.S.Store.faults g.M.Move.said (g.M.Move.table_move c.args.step) c.make_kept.result (planned (g.M.Move.table_move c.args.step) old.table) _ _
    e.err e.kept

pub returns-clause-refused : goal.returns-clause-refused
returns-clause-refused g c = may_refuse c.make_kept.result

pub returns-clause-effect : goal.returns-clause-effect
returns-clause-effect g c =
    let old = c.args.self.now in
    let new = c.make_kept.new in
    has_effect g.S.Store.keeps g.S.Store.passes g.S.Store.too_long g.S.Store.broken g.S.Store.faults c.make_kept.result (g.M.Move.table_move c.args.step) old.table new.table old.store new.store c.make_kept.ensures.refused
