use Rattle.std.proofs.Common.{ℕ, Bool, MatchOption, arith, subst}
use Rattle.std.proofs.Math.Path.{fun_ext}
use Rattle.marks.specs.Words.{IsFirst, HasNone}
use Rattle.dictionary.specs.Rows.{entries_at}
use Rattle.dictionary.proofs.DictColumns.{IsRead, equation_place, equation_row, read_equation, mark_there, first_there}
use Rattle.dictionary.proofs.dict.Dict.next_entry.Goals as goal
use Rattle.dictionary.proofs.dict.Dict.next_entry.Goals.{After-index}

read : (g : _) (c : After-index g) → IsRead c.args.self.now c.args.row c.index.result.now
read g c = read_equation c.args.self.now c.requires.loaded c.args.row c.row_of-r.result c.requires.row c.requires.basic c.row_of-r.ensures c.index.result.now c.index.ensures

pub row_of-r-requires : goal.row_of-r-requires
row_of-r-requires g c = equation_place c.args.self.now c.args.row c.requires.row

pub index-requires : goal.index-requires
index-requires g c = let d = c.args.self.now in let v = d.rows in let o = v.ok.0 in let i = equation_row d c.args.row c.requires.row in let e = c.row_of-r.ensures in omega arith

pub returns-clause-first : goal.returns-clause-first
unfolding entries_at
returns-clause-first g c =
    subst (λ (f : ℕ → Bool). MatchOption c.next.result (HasNone f c.args.from) (IsFirst f c.args.from))
    (fun_ext (mark_there c.args.self.now c.args.row c.index.result.now (read g (goal.at.returns-clause-first g c).After-index))) c.next.ensures

pub returns-clause-nonbasic : goal.returns-clause-nonbasic
unfolding entries_at
returns-clause-nonbasic g c = first_there c.args.self.now c.args.row c.index.result.now (read g (goal.at.returns-clause-nonbasic g c).After-index) c.args.from c.next.result c.next.ensures
