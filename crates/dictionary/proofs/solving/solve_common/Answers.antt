use Rattle.std.proofs.Common.{◌≡◌, ℕ, zero, suc, ℤ, ◌+◌, ◌<◌, ◌≤◌, ◌^◌, pos, negsuc, ◌<ℤ◌, Bool, true, false, cond, FitsSigned, w64, rules, arith, refl, sym, ◌∙◌, ap, subst}
use Rattle.std.specs.Prelude.{unsigned_abs}
use Rattle.std.proofs.lemmas.Int.{to_z-of_z, ints}
use Rattle.rational.specs.Ratio.{Ratio}
use Rattle.dictionary.specs.Rows.{numbers_of, numer_at, entries_at, IsRow, IsRowDivided}
use Rattle.dictionary.specs.Steps.{nonzeros}
use Rattle.dictionary.proofs.Nonzeros.{one_more}
use Rattle.dictionary.proofs.RowForms.{common_number, lowest_alike, lowest_none, sized_above, has_below}
use Rattle.dictionary.proofs.SolvedRows.{row_solved, row_fits}
use Rattle.dictionary.proofs.solving.solve_common.Goals as goal
use Rattle.dictionary.proofs.solving.solve_common.Goals.{After-write, After-divide_down, After-divide_up}

-- what was read isn't 0
stands : (g : _) (c : After-write g) → numer_at c.args.row.now c.args.nonbasic ≡ pos 0 → ⊥
stands g c z =
    let row = c.args.row.now in
    let a = lowest_alike (numer_at row c.args.nonbasic) (unsigned_abs row.denom) (sized_above row.denom row.above) in
    c.requires.stands (ap (λ x. x.num) (common_number row c.requires.common c.args.nonbasic) ∙ a.zero.1 z)

pub read-pivot-requires : goal.read-pivot-requires
read-pivot-requires g c = let r = c.requires.row in let l = has_below c.args.row.now r.0 r.1 r.2 c.args.nonbasic c.requires.stands in (r.0, r.1, r.2, omega arith)

pub write-requires-clause-row : goal.write-requires-clause-row
write-requires-clause-row g c = let r = c.requires.row in (r.0, r.1, r.2, has_below c.args.row.now r.0 r.1 r.2 c.args.nonbasic c.requires.stands)

pub divide_up-requires-clause-row : goal.divide_up-requires-clause-row
divide_up-requires-clause-row g c = let r = c.requires.row in (r.0, r.1, c.write.ensures.row r.0 r.1 r.2 (has_below c.args.row.now r.0 r.1 r.2 c.args.nonbasic c.requires.stands), r.3)

pub divide_down-requires-clause-row : goal.divide_down-requires-clause-row
divide_down-requires-clause-row g c = let r = c.requires.row in (r.0, r.1, c.write.ensures.row r.0 r.1 r.2 (has_below c.args.row.now r.0 r.1 r.2 c.args.nonbasic c.requires.stands), r.3)

below : (z : ℤ) → (z ≡ pos 0 → ⊥) → (pos 0 <ℤ z → ⊥) → z <ℤ pos 0
below (pos zero) d l = absurd (d refl)
below (pos (suc n)) d l = absurd (l (omega (arith, ints)))
below (negsuc n) d l = omega (arith, ints)

pub divide_down-requires-clause-pivot : goal.divide_down-requires-clause-pivot
divide_down-requires-clause-pivot g c =
    let x : FitsSigned w64 c.read-pivot.result = search rules in
    let low = simp to_z-of_z at c.if-pivot-gt0.false in
    simp to_z-of_z (below c.read-pivot.result (λ z. stands g (goal.at.divide_down-requires-clause-pivot g c).After-write (sym c.read-pivot.ensures.number ∙ z)) (λ l. omega (arith, ints)))

pub divide_down-requires-clause-small : goal.divide_down-requires-clause-small
divide_down-requires-clause-small g c =
    let r = c.requires.row in
    let x : FitsSigned w64 c.read-pivot.result = search rules in
    let w = subst (λ z. unsigned_abs z ≤ c.args.row.now.size) (sym c.read-pivot.ensures.number) (r.2.within c.args.nonbasic) in
    let s = r.2.small in
    let small : unsigned_abs c.read-pivot.result < 2 ^ 63 = omega arith in
    simp to_z-of_z small

-- the row without the number at the column that goes
less_zero : (g : _) (c : After-write g) → (numbers_of c.write.new.self c.args.nonbasic).num ≡ pos 0
less_zero g c = let row = c.args.row.now in ap (λ (v : Ratio). v.num) (c.write.ensures.own ∙ lowest_none (unsigned_abs row.denom) (sized_above row.denom row.above))

one_less : (g : _) (c : After-write g) (k n : ℕ) → IsRow k n c.args.row.now → nonzeros k (numbers_of c.args.row.now) ≡ nonzeros k (numbers_of c.write.new.self) + 1
one_less g c k n is = let l = has_below c.args.row.now k n is c.args.nonbasic c.requires.stands in one_more k c.args.nonbasic (numbers_of c.write.new.self) (numbers_of c.args.row.now) (omega arith) (less_zero g c) c.requires.stands c.write.ensures.others

begun : (g : _) (c : After-write g) → c.write.new.steps ≤ c.args.steps.now + 2
begun g c = one (entries_at c.args.row.now c.args.nonbasic) (let p = c.read-pivot.ensures.cost in let q = c.write.ensures.cost in omega arith)
  where
    one : (t : Bool) → c.write.new.steps ≡ c.args.steps.now + cond t 1 0 + 1 → c.write.new.steps ≤ c.args.steps.now + 2
    one true h = omega arith
    one false h = omega arith

-- what divides the row is its number there
up : (g : _) (c : After-divide_up g) → IsRowDivided c.write.new.self c.args.basic (numer_at c.args.row.now c.args.nonbasic) c.divide_up.new.row
up g c =
    let x : FitsSigned w64 c.read-pivot.result = search rules in
    let divided = simp to_z-of_z at c.divide_up.ensures.divided in
    subst (λ (z : ℤ). IsRowDivided c.write.new.self c.args.basic z c.divide_up.new.row) c.read-pivot.ensures.number divided

down : (g : _) (c : After-divide_down g) → IsRowDivided c.write.new.self c.args.basic (numer_at c.args.row.now c.args.nonbasic) c.divide_down.new.row
down g c =
    let x : FitsSigned w64 c.read-pivot.result = search rules in
    let divided = simp to_z-of_z at c.divide_down.ensures.divided in
    subst (λ (z : ℤ). IsRowDivided c.write.new.self c.args.basic z c.divide_down.new.row) c.read-pivot.ensures.number divided

pub returns-then-pivot-gt0-clause-row : goal.returns-then-pivot-gt0-clause-row
returns-then-pivot-gt0-clause-row g c k n is l =
    let d = up g c in
    d.rows k n (c.write.ensures.row k n is (has_below c.args.row.now k n is c.args.nonbasic c.requires.stands)) l

pub returns-then-pivot-gt0-clause-is : goal.returns-then-pivot-gt0-clause-is
returns-then-pivot-gt0-clause-is g c =
    let at' = goal.at.returns-then-pivot-gt0-clause-is g c in
    row_solved c.args.row.now c.write.new.self c.divide_up.new.row c.args.basic c.args.nonbasic c.requires.common c.write.ensures.denom c.write.ensures.number c.write.ensures.rest c.requires.apart (stands g at'.After-write) (up g c)

pub returns-then-pivot-gt0-clause-fits : goal.returns-then-pivot-gt0-clause-fits
returns-then-pivot-gt0-clause-fits g c =
    let at' = goal.at.returns-then-pivot-gt0-clause-fits g c in
    let r = c.requires.row in
    let row = c.args.row.now in
    let d = subst (λ z. unsigned_abs z < 2 ^ 63) c.write.ensures.denom c.divide_up.ensures.small in
    row_fits row c.write.new.self c.divide_up.new.row c.args.basic c.args.nonbasic c.requires.common c.write.ensures.denom c.write.ensures.number c.write.ensures.rest c.requires.apart (stands g at'.After-write) (up g c) r.0 r.1 r.2 (omega arith)

pub returns-then-pivot-gt0-clause-cost : goal.returns-then-pivot-gt0-clause-cost
returns-then-pivot-gt0-clause-cost g c k n is =
    let at' = (goal.at.returns-then-pivot-gt0-clause-cost g c).After-write in
    let a = c.divide_up.ensures.cost k n (c.write.ensures.row k n is (has_below c.args.row.now k n is c.args.nonbasic c.requires.stands)) in
    let b = begun g at' in
    let e = one_less g at' k n is in
    omega arith

pub returns-clause-row : goal.returns-clause-row
returns-clause-row g c k n is l =
    let d = down g c in
    d.rows k n (c.write.ensures.row k n is (has_below c.args.row.now k n is c.args.nonbasic c.requires.stands)) l

pub returns-clause-is : goal.returns-clause-is
returns-clause-is g c =
    let at' = goal.at.returns-clause-is g c in
    row_solved c.args.row.now c.write.new.self c.divide_down.new.row c.args.basic c.args.nonbasic c.requires.common c.write.ensures.denom c.write.ensures.number c.write.ensures.rest c.requires.apart (stands g at'.After-write) (down g c)

pub returns-clause-fits : goal.returns-clause-fits
returns-clause-fits g c =
    let at' = goal.at.returns-clause-fits g c in
    let r = c.requires.row in
    let row = c.args.row.now in
    let d = subst (λ z. unsigned_abs z < 2 ^ 63) c.write.ensures.denom c.divide_down.ensures.small in
    row_fits row c.write.new.self c.divide_down.new.row c.args.basic c.args.nonbasic c.requires.common c.write.ensures.denom c.write.ensures.number c.write.ensures.rest c.requires.apart (stands g at'.After-write) (down g c) r.0 r.1 r.2 (omega arith)

pub returns-clause-cost : goal.returns-clause-cost
returns-clause-cost g c k n is =
    let at' = (goal.at.returns-clause-cost g c).After-write in
    let a = c.divide_down.ensures.cost in
    let b = begun g at' in
    omega arith
