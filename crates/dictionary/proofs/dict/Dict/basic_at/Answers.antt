use Rattle.std.proofs.Common.{◌+◌, arith, sym, subst}
use Rattle.dictionary.specs.Dict.{width_of, height_of, column_standing, IsBasic}
use Rattle.dictionary.proofs.DictColumns.{basic_there}
use Rattle.dictionary.proofs.DictParts.{same_number}
use Rattle.dictionary.proofs.dict.Dict.basic_at.Goals as goal

pub index-requires : goal.index-requires
unfolding width_of height_of
index-requires g c = let d = c.args.self.now in let v = d.columns in let e = v.ok.0 in let l = c.requires in let n = d.columns_count in omega arith

pub returns-clause-column : goal.returns-clause-column
unfolding width_of height_of column_standing
returns-clause-column g c = let d = c.args.self.now in let l = c.requires in let n = d.columns_count in same_number d.columns.items (c.args.self.now.width + c.args.i) c.index.result.now (omega arith) c.index.ensures

pub returns-clause-basic : goal.returns-clause-basic
unfolding width_of height_of
returns-clause-basic g c =
    let d = c.args.self.now in
    let l = c.requires in
    let n = d.columns_count in
    subst (λ k. IsBasic d k) (sym (same_number d.columns.items (c.args.self.now.width + c.args.i) c.index.result.now (omega arith) c.index.ensures)) (basic_there d c.args.i c.requires)
