use Rattle.std.proofs.Common.{◌+◌, ◌∙◌, arith}
use Rattle.dictionary.specs.Dict.{width_of, height_of}
use Rattle.dictionary.proofs.DictColumns.{IsRead, read_goal, row_is, said_there, digits_there, column_asked}
use Rattle.dictionary.proofs.dict.Dict.cost.Goals as goal
use Rattle.dictionary.proofs.dict.Dict.cost.Goals.{After-index}

read : (g : _) (c : After-index g) → let d = c.args.self.now in IsRead d (d.width + d.height) c.index.result.now
read g c = read_goal c.args.self.now c.requires.loaded c.index.result.now c.index.ensures

pub index-requires : goal.index-requires
index-requires g c = let d = c.args.self.now in let v = d.rows in let o = v.ok.0 in let e = d.count in omega arith

pub value-requires : goal.value-requires
value-requires g c =
    let d = c.args.self.now in
    column_asked d (d.width + d.height) c.index.result.now (read g (goal.at.value-requires g c).After-index) c.args.nonbasic c.requires.nonbasic

pub returns-clause-entry : goal.returns-clause-entry
unfolding width_of height_of
returns-clause-entry g c =
    let d = c.args.self.now in
    c.value.ensures.value ∙ said_there d (d.width + d.height) c.index.result.now (read g (goal.at.returns-clause-entry g c).After-index) c.args.nonbasic

pub returns-clause-cost : goal.returns-clause-cost
returns-clause-cost g c b l =
    let d = c.args.self.now in
    let is = read g (goal.at.returns-clause-cost g c).After-index in
    c.value.ensures.cost (d.width + (d.height + 1)) d.width b (row_is d (d.width + d.height) c.index.result.now is) (digits_there d (d.width + d.height) c.index.result.now is b l)
