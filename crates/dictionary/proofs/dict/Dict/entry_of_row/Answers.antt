use Rattle.std.proofs.Common.{◌+◌, ◌∙◌, arith}
use Rattle.dictionary.proofs.DictColumns.{IsRead, equation_place, equation_row, read_equation, row_is, said_there, digits_there, column_asked}
use Rattle.dictionary.proofs.dict.Dict.entry_of_row.Goals as goal
use Rattle.dictionary.proofs.dict.Dict.entry_of_row.Goals.{After-index}

read : (g : _) (c : After-index g) → IsRead c.args.self.now c.args.row c.index.result.now
read g c = read_equation c.args.self.now c.requires.loaded c.args.row c.row_of-r.result c.requires.row c.requires.basic c.row_of-r.ensures c.index.result.now c.index.ensures

pub row_of-r-requires : goal.row_of-r-requires
row_of-r-requires g c = equation_place c.args.self.now c.args.row c.requires.row

pub index-requires : goal.index-requires
index-requires g c = let d = c.args.self.now in let v = d.rows in let o = v.ok.0 in let i = equation_row d c.args.row c.requires.row in let e = c.row_of-r.ensures in omega arith

pub value-requires : goal.value-requires
value-requires g c = column_asked c.args.self.now c.args.row c.index.result.now (read g (goal.at.value-requires g c).After-index) c.args.nonbasic c.requires.nonbasic

pub returns-clause-entry : goal.returns-clause-entry
returns-clause-entry g c = c.value.ensures.value ∙ said_there c.args.self.now c.args.row c.index.result.now (read g (goal.at.returns-clause-entry g c).After-index) c.args.nonbasic

pub returns-clause-cost : goal.returns-clause-cost
returns-clause-cost g c b l =
    let d = c.args.self.now in
    let is = read g (goal.at.returns-clause-cost g c).After-index in
    c.value.ensures.cost (d.width + (d.height + 1)) d.width b (row_is d c.args.row c.index.result.now is) (digits_there d c.args.row c.index.result.now is b l)
