use Rattle.std.proofs.Common.{◌+◌, ◌∙◌, arith}
use Rattle.dictionary.proofs.DictColumns.{IsRead, place_in, row_in, read_basic, row_is, said_there, digits_there, column_asked}
use Rattle.dictionary.proofs.dict.Dict.entry.Goals as goal
use Rattle.dictionary.proofs.dict.Dict.entry.Goals.{After-index}

read : (g : _) (c : After-index g) → IsRead c.args.self.now c.args.basic c.index.result.now
read g c = read_basic c.args.self.now c.requires.loaded c.args.basic c.row_of-r.result c.requires.basic c.row_of-r.ensures c.index.result.now c.index.ensures

pub row_of-r-requires : goal.row_of-r-requires
row_of-r-requires g c = place_in c.args.self.now c.args.basic c.requires.basic

pub index-requires : goal.index-requires
index-requires g c = let d = c.args.self.now in let v = d.rows in let o = v.ok.0 in let i = row_in d c.args.basic c.requires.basic in let e = c.row_of-r.ensures in omega arith

pub value-requires : goal.value-requires
value-requires g c = column_asked c.args.self.now c.args.basic c.index.result.now (read g (goal.at.value-requires g c).After-index) c.args.nonbasic c.requires.nonbasic

pub returns-clause-entry : goal.returns-clause-entry
returns-clause-entry g c = c.value.ensures.value ∙ said_there c.args.self.now c.args.basic c.index.result.now (read g (goal.at.returns-clause-entry g c).After-index) c.args.nonbasic

pub returns-clause-cost : goal.returns-clause-cost
returns-clause-cost g c b l =
    let d = c.args.self.now in
    let is = read g (goal.at.returns-clause-cost g c).After-index in
    c.value.ensures.cost (d.width + (d.height + 1)) d.width b (row_is d c.args.basic c.index.result.now is) (digits_there d c.args.basic c.index.result.now is b l)
