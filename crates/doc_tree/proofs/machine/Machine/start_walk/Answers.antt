use Rattle.doc_tree.proofs.Words.{Walks, arith, refl, subst, sym, take, view}
use Rattle.doc_tree.proofs.Walking.Pieces.{closed_taken, open_few}
use Rattle.doc_tree.proofs.Walking.Steps.{start_walks, start_taken, start_good, opened_walks}
use Rattle.doc_tree.proofs.machine.Machine.start_walk.Goals as goal

pub tag_opens-requires : goal.tag_opens-requires
tag_opens-requires c =
    let s = view c.args.self.now in
    let name = take c.name_length-length.result c.args.rest.now in
    let m = c.if-length-eq0.false in
    let k = c.if-len-ge-DEPTH.false in let o = c.len.ensures in
    start_good s _ name c.requires.place c.requires.good refl (start_walks s name _ _ c.requires.place c.requires.good (c.name_length-length.ensures.name (omega arith)) (open_few (λ v. v.items) c.args.self.now.names.items (omega arith)) c.in_ok-refill.ensures c.clear.ensures)

pub returns-then-rest-length-eq62-clause-walks : goal.returns-then-rest-length-eq62-clause-walks
returns-then-rest-length-eq62-clause-walks c =
    let s = view c.args.self.now in
    let n = c.name_length-length.result in
    let m = c.if-length-eq0.false in
    let k = c.if-len-ge-DEPTH.false in let o = c.len.ensures in
    let w = start_walks s (take n c.args.rest.now) _ _ c.requires.place c.requires.good (c.name_length-length.ensures.name (omega arith)) (open_few (λ v. v.items) c.args.self.now.names.items (omega arith)) c.in_ok-refill.ensures c.clear.ensures in
    subst (λ z. Walks s z (view c.tag_opens.new.self)) (sym (closed_taken n 0 c.args.rest.now c.if-length-rest.true c.if-rest-length-eq62.true)) (opened_walks s (take n c.args.rest.now) _ _ (view c.tag_opens.new.self) w c.in_ok-tag_opens.ensures)

pub returns-clause-walks : goal.returns-clause-walks
returns-clause-walks c =
    let s = view c.args.self.now in
    let n = c.name_length-length.result in
    let m = c.if-length-eq0.false in
    let k = c.if-len-ge-DEPTH.false in let o = c.len.ensures in
    let w = start_walks s (take n c.args.rest.now) _ _ c.requires.place c.requires.good (c.name_length-length.ensures.name (omega arith)) (open_few (λ v. v.items) c.args.self.now.names.items (omega arith)) c.in_ok-refill.ensures c.clear.ensures in
    start_taken s n c.args.rest.now _ _ w
