use Rattle.std.proofs.Common.{◌∙◌, arith}
use Rattle.dictionary.proofs.DictColumns.{IsRead, equation_place, equation_row, read_equation, mark_there, column_asked}
use Rattle.dictionary.proofs.dict.Dict.has_entry.Goals as goal
use Rattle.dictionary.proofs.dict.Dict.has_entry.Goals.{After-index}

read : (g : _) (c : After-index g) → IsRead c.args.self.now c.args.row c.index.result.now
read g c = read_equation c.args.self.now c.requires.loaded c.args.row c.row_of-r.result c.requires.row c.requires.basic c.row_of-r.ensures c.index.result.now c.index.ensures

pub row_of-r-requires : goal.row_of-r-requires
row_of-r-requires g c = equation_place c.args.self.now c.args.row c.requires.row

pub index-requires : goal.index-requires
index-requires g c = let d = c.args.self.now in let v = d.rows in let o = v.ok.0 in let i = equation_row d c.args.row c.requires.row in let e = c.row_of-r.ensures in omega arith

pub has-requires : goal.has-requires
has-requires g c = column_asked c.args.self.now c.args.row c.index.result.now (read g (goal.at.has-requires g c).After-index) c.args.nonbasic c.requires.nonbasic

pub returns : goal.returns
returns g c = c.has.ensures ∙ mark_there c.args.self.now c.args.row c.index.result.now (read g (goal.at.returns g c).After-index) c.args.nonbasic
