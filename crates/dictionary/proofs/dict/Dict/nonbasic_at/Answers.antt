use Rattle.std.proofs.Common.{arith, sym, subst}
use Rattle.dictionary.specs.Dict.{width_of, height_of, column_standing, IsNonbasic}
use Rattle.dictionary.proofs.DictColumns.{nonbasic_there}
use Rattle.dictionary.proofs.DictParts.{same_number}
use Rattle.dictionary.proofs.dict.Dict.nonbasic_at.Goals as goal

pub index-requires : goal.index-requires
unfolding width_of height_of
index-requires g c = let d = c.args.self.now in let v = d.columns in let e = v.ok.0 in let l = c.requires in let n = d.columns_count in omega arith

pub returns-clause-column : goal.returns-clause-column
unfolding width_of height_of column_standing
returns-clause-column g c = let d = c.args.self.now in let l = c.requires in let n = d.columns_count in same_number d.columns.items (c.args.j) c.index.result.now (omega arith) c.index.ensures

pub returns-clause-nonbasic : goal.returns-clause-nonbasic
unfolding width_of height_of
returns-clause-nonbasic g c =
    let d = c.args.self.now in
    let l = c.requires in
    let n = d.columns_count in
    subst (λ k. IsNonbasic d k) (sym (same_number d.columns.items (c.args.j) c.index.result.now (omega arith) c.index.ensures)) (nonbasic_there d c.args.j c.requires)
