use Rattle.std.proofs.Common.{ℕ, ◌<◌, ◌≤◌, ◌+◌, IfOk, OnErr, arith, subst}
use Rattle.rational.specs.Ratio.{Ratio, IsSame}
use Rattle.fraction.specs.Frac.{ratio}
use Rattle.bases.specs.Dictionary.{value_by}
use Rattle.bases.specs.Pivot.{ValueFits}
use Rattle.dictionary.specs.Numbers.{HasNumber}
use Rattle.dictionary.specs.Rows.{numbers_of}
use Rattle.dictionary.specs.Steps.{nonzeros}
use Rattle.dictionary.specs.Dict.{columns_of}
use Rattle.dictionary.proofs.DictColumns.{IsRead, place_in, row_in, read_basic, row_is, entry_there, told_numbers, values_there}
use Rattle.dictionary.proofs.dict.Dict.value_of.Goals as goal
use Rattle.dictionary.proofs.dict.Dict.value_of.Goals.{After-index}

read : (g : _) (c : After-index g) → IsRead c.args.self.now c.args.basic c.index.result.now
read g c = read_basic c.args.self.now c.requires.loaded c.args.basic c.row_of-r.result c.requires.basic c.row_of-r.ensures c.index.result.now c.index.ensures

inside : (g : _) (c : After-index g) → (j : ℕ) → HasNumber (numbers_of c.index.result.now) j → j < columns_of c.args.self.now
inside g c j h = let n = entry_there c.args.self.now c.args.basic c.index.result.now (read g c) j h in let i = n.inside in omega arith

pub row_of-r-requires : goal.row_of-r-requires
row_of-r-requires g c = place_in c.args.self.now c.args.basic c.requires.basic

pub index-requires : goal.index-requires
index-requires g c = let d = c.args.self.now in let v = d.rows in let o = v.ok.0 in let i = row_in d c.args.basic c.requires.basic in let e = c.row_of-r.ensures in omega arith

pub sum_row-requires-clause-row : goal.sum_row-requires-clause-row
sum_row-requires-clause-row g c =
    let d = c.args.self.now in
    (d.width + (d.height + 1), d.width, row_is d c.args.basic c.index.result.now (read g (goal.at.sum_row-requires-clause-row g c).After-index))

pub sum_row-requires-clause-inside : goal.sum_row-requires-clause-inside
sum_row-requires-clause-inside g c j h =
    let n = entry_there c.args.self.now c.args.basic c.index.result.now (read g (goal.at.sum_row-requires-clause-inside g c).After-index) j h in
    let i = n.inside in
    let p = c.requires.places in
    omega arith

pub returns-clause-ok : goal.returns-clause-ok
returns-clause-ok g c w rest =
    let d = c.args.self.now in
    let is = read g (goal.at.returns-clause-ok g c).After-index in
    subst (λ (f : ℕ → Ratio). IfOk c.sum_row.result (λ r. IsSame (ratio r) (value_by (columns_of d) f w))) (told_numbers d c.args.basic c.index.result.now is)
    (c.sum_row.ensures.ok (columns_of d) w (values_there d c.args.basic c.index.result.now is c.args.places.now w rest))

pub returns-clause-fits : goal.returns-clause-fits
returns-clause-fits g c w rest =
    let d = c.args.self.now in
    let is = read g (goal.at.returns-clause-fits g c).After-index in
    subst (λ (f : ℕ → Ratio). IfOk c.sum_row.result (λ _. ValueFits (columns_of d) f w)) (told_numbers d c.args.basic c.index.result.now is)
    (c.sum_row.ensures.fits (columns_of d) w (values_there d c.args.basic c.index.result.now is c.args.places.now w rest))

pub returns-clause-wide : goal.returns-clause-wide
returns-clause-wide g c w rest =
    let d = c.args.self.now in
    let is = read g (goal.at.returns-clause-wide g c).After-index in
    subst (λ (f : ℕ → Ratio). OnErr c.sum_row.result (ValueFits (columns_of d) f w → ⊥)) (told_numbers d c.args.basic c.index.result.now is)
    (c.sum_row.ensures.wide (columns_of d) w (values_there d c.args.basic c.index.result.now is c.args.places.now w rest))

pub returns-clause-cost : goal.returns-clause-cost
returns-clause-cost g c =
    let d = c.args.self.now in
    let at' = (goal.at.returns-clause-cost g c).After-index in
    subst (λ (f : ℕ → Ratio). c.sum_row.new.steps ≤ c.args.steps.now + nonzeros (columns_of d) f) (told_numbers d c.args.basic c.index.result.now (read g at'))
    (c.sum_row.ensures.cost (columns_of d) (inside g at'))
