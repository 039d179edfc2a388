use Rattle.std.proofs.Common.{◌≡◌, ℕ, ◌+◌, ◌*◌, ◌<◌, ◌≤◌, ◌⊎◌, inl, inr, pos, length, set, arith, lit<, sym, ◌∙◌, ap, subst}
use Rattle.std.proofs.Math.ListN.{length-set}
use Rattle.rational.specs.Ratio.{Ratio, whole, negative, quotient, inverse}
use Rattle.rational.specs.Width.{IsReduced}
use Rattle.evidence.specs.Sums.{none}
use Rattle.evidence.proofs.Columns.{by_eq}
use Rattle.evidence.proofs.Numbers.{product-number}
use Rattle.evidence.proofs.Inverses.{inverse-number}
use Rattle.instance.proofs.Terms.{at_err}
use Rattle.dictionary.specs.declared.row.Row.{Row}
use Rattle.dictionary.specs.Numbers.{HasNumber}
use Rattle.dictionary.specs.Rows.{numbers_of, numbers_in, IsRow, AreRows, IsSolvedFor, SolutionFits, HasRoomFor, replacements_cost}
use Rattle.dictionary.specs.Steps.{nonzeros}
use Rattle.dictionary.proofs.RowForms.{numbers-reduced, zero_none, has_inside, has_below, one_nonzero}
use Rattle.dictionary.proofs.PivotRows.{numbers_there, row_there, rows_set, set_numbers, other_numbers, table_turned, table_fits, rows_fit, own_cost, aside_cost}
use Rattle.dictionary.proofs.AsideRows.{aside_stays, solved_few}
use Rattle.dictionary.proofs.DictPivots.{table-number, table-reduced}
use Rattle.dictionary.proofs.pivoting.pivot_rows.Goals as goal
use Rattle.dictionary.proofs.pivoting.pivot_rows.Goals.{After-swap, After-solve_row, After-replace_all, After-swap-2}

-- the row that was taken out is that of the table, and the one put in has nothing
own_row : (g : _) (c : After-swap g) → numbers_of c.swap.new.y ≡ numbers_in c.args.rows.now c.args.p
own_row g c = ap numbers_of c.swap.ensures.y_after ∙ numbers_there c.args.rows.now c.args.p _ c.requires.p

own_is : (g : _) (c : After-swap g) (n : ℕ) → AreRows (length c.args.scratch.now.values.items) n c.args.rows.now → IsRow (length c.args.scratch.now.values.items) n c.swap.new.y
own_is g c n are = subst (λ (row : Row _ _). IsRow (length c.args.scratch.now.values.items) n row) (sym c.swap.ensures.y_after) (row_there _ n c.args.rows.now are c.args.p _ c.requires.p)

rows_are : (g : _) (c : After-swap g) (n : ℕ) → AreRows (length c.args.scratch.now.values.items) n c.args.rows.now → IsRow (length c.args.scratch.now.values.items) n c.args.own.now → AreRows (length c.args.scratch.now.values.items) n (set c.args.rows.now c.args.p c.swap.new.x)
rows_are g c n are is = rows_set _ n c.args.rows.now are c.args.p c.swap.new.x (subst (λ (row : Row _ _). IsRow (length c.args.scratch.now.values.items) n row) (sym c.swap.ensures.x_after) is)

aside : (g : _) (c : After-swap g) → numbers_in (set c.args.rows.now c.args.p c.swap.new.x) c.args.p ≡ (λ j. none)
aside g c =
    let r = c.requires.rows in
    let own = c.args.own.now in
    set_numbers c.args.rows.now c.args.p c.swap.new.x c.requires.p ∙ ap numbers_of c.swap.ensures.x_after ∙ (λ i j. zero_none (numbers_of own j) (numbers-reduced own _ r.0 r.2 j) (c.requires.empty j) i)

same : (g : _) (c : After-swap g) (r : ℕ) → (r ≡ c.args.p → ⊥) → numbers_in (set c.args.rows.now c.args.p c.swap.new.x) r ≡ numbers_in c.args.rows.now r
same g c r d = other_numbers c.args.rows.now c.args.p r c.swap.new.x d

count : (g : _) (c : After-swap g) → length (set c.args.rows.now c.args.p c.swap.new.x) ≡ length c.args.rows.now
count g c = length-set c.args.rows.now c.args.p c.swap.new.x

pub solve_row-requires-clause-row : goal.solve_row-requires-clause-row
solve_row-requires-clause-row g c =
    let r = c.requires.rows in
    let at' = (goal.at.solve_row-requires-clause-row g c).After-swap in
    let room = r.3 in
    (r.0, own_is g at' r.0 r.1, subst (λ (f : ℕ → Ratio). nonzeros (length c.args.scratch.now.values.items) f ≤ r.0) (sym (own_row g at')) room.own)

pub solve_row-requires-clause-stands : goal.solve_row-requires-clause-stands
solve_row-requires-clause-stands g c = subst (λ (f : ℕ → Ratio). HasNumber f c.args.nonbasic) (sym (own_row g (goal.at.solve_row-requires-clause-stands g c).After-swap)) c.requires.stands

pub solve_row-requires-clause-absent : goal.solve_row-requires-clause-absent
solve_row-requires-clause-absent g c = subst (λ (f : ℕ → Ratio). (f c.args.basic).num ≡ pos 0) (sym (own_row g (goal.at.solve_row-requires-clause-absent g c).After-swap)) c.requires.absent

-- the entries of the row at hand are some
some : (g : _) (c : After-swap g) → 1 ≤ nonzeros (length c.args.scratch.now.values.items) (numbers_in c.args.rows.now c.args.p)
some g c =
    let r = c.requires.rows in
    let row = c.swap.new.y in
    let is = own_is g c r.0 r.1 in
    let stands = subst (λ (f : ℕ → Ratio). HasNumber f c.args.nonbasic) (sym (own_row g c)) c.requires.stands in
    subst (λ (f : ℕ → Ratio). 1 ≤ nonzeros (length c.args.scratch.now.values.items) f) (own_row g c) (one_nonzero _ c.args.nonbasic (numbers_of row) (has_inside row _ r.0 is c.args.nonbasic stands) stands)

solve_cost : (g : _) (c : After-solve_row g) → numbers_of c.swap.new.y ≡ numbers_in c.args.rows.now c.args.p → c.solve_row.new.steps ≤ c.args.steps.now + 3 * (1 + nonzeros (length c.args.scratch.now.values.items) (numbers_in c.args.rows.now c.args.p))
solve_cost g c own = subst (λ (f : ℕ → Ratio). c.solve_row.new.steps ≤ c.args.steps.now + 3 * (1 + nonzeros (length c.args.scratch.now.values.items) f)) own c.solve_row.ensures.cost

pub returns-in_err-solve_row-clause-rows : goal.returns-in_err-solve_row-clause-rows
returns-in_err-solve_row-clause-rows g c = rows_are g (goal.at.returns-in_err-solve_row-clause-rows g c).After-swap

pub returns-in_err-solve_row-clause-own : goal.returns-in_err-solve_row-clause-own
returns-in_err-solve_row-clause-own g c n are is = c.solve_row.ensures.row n (own_is g (goal.at.returns-in_err-solve_row-clause-own g c).After-swap n are)

pub returns-in_err-solve_row-clause-wide : goal.returns-in_err-solve_row-clause-wide
returns-in_err-solve_row-clause-wide g c =
    at_err c.from_residual.result (λ fits. c.in_err-solve_row.ensures.wide (subst (λ (f : ℕ → Ratio). SolutionFits f c.args.nonbasic) (sym (own_row g (goal.at.returns-in_err-solve_row-clause-wide g c).After-swap)) fits.own))

pub returns-in_err-solve_row-clause-cost : goal.returns-in_err-solve_row-clause-cost
returns-in_err-solve_row-clause-cost g c =
    let at' = goal.at.returns-in_err-solve_row-clause-cost g c in
    let a = solve_cost g at'.After-solve_row (own_row g at'.After-swap) in
    let b = own_cost (length c.args.scratch.now.values.items) (length c.args.rows.now) c.args.p c.args.nonbasic (numbers_in c.args.rows.now) c.requires.p c.requires.stands (some g at'.After-swap) in
    omega arith

quotients : (g : _) (c : After-swap g) (j : ℕ) → 0 < (negative (quotient (numbers_in c.args.rows.now c.args.p j) (numbers_in c.args.rows.now c.args.p c.args.nonbasic))).den
quotients g c j = let T = numbers_in c.args.rows.now c.args.p in product-number (T j) (inverse (T c.args.nonbasic)) (table-number c.args.rows.now c.args.p j) (inverse-number (T c.args.nonbasic) c.requires.stands)

lead : (g : _) (c : After-swap g) → 0 < (quotient (whole (pos 1)) (numbers_in c.args.rows.now c.args.p c.args.nonbasic)).den
lead g c = let T = numbers_in c.args.rows.now c.args.p in product-number (whole (pos 1)) (inverse (T c.args.nonbasic)) (lit< tt) (inverse-number (T c.args.nonbasic) c.requires.stands)

-- the row taken out is solved, as the table has it
reduced : (g : _) (c : After-solve_row g) (n : ℕ) → IsRow (length c.args.scratch.now.values.items) n c.swap.new.y → (j : ℕ) → IsReduced (numbers_of c.solve_row.new.row j)
reduced g c n is = numbers-reduced c.solve_row.new.row _ n (c.solve_row.ensures.row n is)

few : (g : _) (c : After-solve_row g) → IsSolvedFor (numbers_of c.swap.new.y) c.args.basic c.args.nonbasic (numbers_of c.solve_row.new.row) → (n : ℕ) → IsRow (length c.args.scratch.now.values.items) n c.swap.new.y → numbers_of c.swap.new.y ≡ numbers_in c.args.rows.now c.args.p → nonzeros (length c.args.scratch.now.values.items) (numbers_of c.solve_row.new.row) ≤ nonzeros (length c.args.scratch.now.values.items) (numbers_in c.args.rows.now c.args.p)
few g c is n row_is own =
    let row = c.swap.new.y in
    let stands = subst (λ (f : ℕ → Ratio). HasNumber f c.args.nonbasic) (sym own) c.requires.stands in
    let l = c.requires.inside in
    subst (λ (f : ℕ → Ratio). nonzeros (length c.args.scratch.now.values.items) (numbers_of c.solve_row.new.row) ≤ nonzeros (length c.args.scratch.now.values.items) f) own
    (solved_few (numbers_of row) (numbers_of c.solve_row.new.row) c.args.basic c.args.nonbasic (numbers-reduced row _ n row_is) (reduced g c n row_is) stands is (length c.args.scratch.now.values.items) (omega arith) (has_inside row _ n row_is c.args.nonbasic stands))

as_told : (g : _) (c : After-solve_row g) → numbers_of c.swap.new.y ≡ numbers_in c.args.rows.now c.args.p → IsSolvedFor (numbers_of c.swap.new.y) c.args.basic c.args.nonbasic (numbers_of c.solve_row.new.row) → IsSolvedFor (numbers_in c.args.rows.now c.args.p) c.args.basic c.args.nonbasic (numbers_of c.solve_row.new.row)
as_told g c own is = subst (λ (f : ℕ → Ratio). IsSolvedFor f c.args.basic c.args.nonbasic (numbers_of c.solve_row.new.row)) own is

-- what stands in the table meanwhile stood there before
stood : (g : _) (c : After-swap g) (r j : ℕ) → HasNumber (numbers_in (set c.args.rows.now c.args.p c.swap.new.x) r) j → HasNumber (numbers_in c.args.rows.now r) j
stood g c r j h = by_eq r c.args.p
    (λ e. absurd (h (ap (λ k. (numbers_in (set c.args.rows.now c.args.p c.swap.new.x) k j).num) e ∙ ap (λ (f : ℕ → Ratio). (f j).num) (aside g c))))
    (λ d. subst (λ (f : ℕ → Ratio). HasNumber f j) (same g c r d) h)

pub replace_all-requires-clause-rows : goal.replace_all-requires-clause-rows
replace_all-requires-clause-rows g c =
    let r = c.requires.rows in
    let at' = goal.at.replace_all-requires-clause-rows g c in
    let n = sym c.solve_row.ensures.count in
    let room = r.3 in (
      r.0,
      subst (λ k. AreRows k r.0 (set c.args.rows.now c.args.p c.swap.new.x)) n (rows_are g at'.After-swap r.0 r.1 r.2),
      subst (λ k. IsRow k r.0 c.solve_row.new.row) n (c.solve_row.ensures.row r.0 (own_is g at'.After-swap r.0 r.1)),
      λ q l. subst (λ k. HasRoomFor k (numbers_in (set c.args.rows.now c.args.p c.swap.new.x) q) (numbers_of c.solve_row.new.row) c.args.nonbasic r.0) n
          (λ f sub. room.others (numbers_of c.solve_row.new.row) (reduced g at'.After-solve_row c.requires.rows.0 (own_is g at'.After-swap c.requires.rows.0 c.requires.rows.1)) (as_told g at'.After-solve_row (own_row g at'.After-swap) c.in_ok-solve_row.ensures.is) q (let e = count g at'.After-swap in omega arith) f
          (λ j h. let s = sub j h in (s.0, either q j s.1))),
    )
  where
    either : (q j : ℕ) → HasNumber (numbers_in (set c.args.rows.now c.args.p c.swap.new.x) q) j ⊎ HasNumber (numbers_of c.solve_row.new.row) j → HasNumber (numbers_in c.args.rows.now q) j ⊎ HasNumber (numbers_of c.solve_row.new.row) j
    either q j (inl h) = inl (stood g (goal.at.replace_all-requires-clause-rows g c).After-swap q j h)
    either q j (inr h) = inr h

pub replace_all-requires-clause-inside : goal.replace_all-requires-clause-inside
replace_all-requires-clause-inside g c =
    let r = c.requires.rows in
    let at' = (goal.at.replace_all-requires-clause-inside g c).After-swap in
    let row = c.swap.new.y in
    let l = has_below row _ r.0 (own_is g at' r.0 r.1) c.args.nonbasic (subst (λ (f : ℕ → Ratio). HasNumber f c.args.nonbasic) (sym (own_row g at')) c.requires.stands) in
    let n = c.solve_row.ensures.count in
    omega arith

pub replace_all-requires-clause-gone : goal.replace_all-requires-clause-gone
replace_all-requires-clause-gone g c = let s = c.in_ok-solve_row.ensures.is in ap (λ (v : Ratio). v.num) s.gone

-- the rows, and the one that is aside, after the replacement
rows_after : (g : _) (c : After-replace_all g) (n : ℕ) → AreRows (length c.args.scratch.now.values.items) n (set c.args.rows.now c.args.p c.swap.new.x) → AreRows (length c.args.scratch.now.values.items) n c.replace_all.new.rows
rows_after g c n are =
    let m = c.solve_row.ensures.count in
    subst (λ k. AreRows k n c.replace_all.new.rows) m (c.replace_all.ensures.rows n (subst (λ k. AreRows k n (set c.args.rows.now c.args.p c.swap.new.x)) (sym m) are))

replace_cost : (g : _) (c : After-replace_all g) → length (set c.args.rows.now c.args.p c.swap.new.x) ≡ length c.args.rows.now → c.replace_all.new.steps ≤ c.solve_row.new.steps + replacements_cost (length c.args.scratch.now.values.items) (numbers_in (set c.args.rows.now c.args.p c.swap.new.x)) (numbers_of c.solve_row.new.row) c.args.nonbasic (length c.args.rows.now)
replace_cost g c many =
    subst (λ k. c.replace_all.new.steps ≤ c.solve_row.new.steps + replacements_cost k (numbers_in (set c.args.rows.now c.args.p c.swap.new.x)) (numbers_of c.solve_row.new.row) c.args.nonbasic (length c.args.rows.now)) c.solve_row.ensures.count
    (subst (λ m. c.replace_all.new.steps ≤ c.solve_row.new.steps + replacements_cost (length c.solve_row.new.scratch.values.items) (numbers_in (set c.args.rows.now c.args.p c.swap.new.x)) (numbers_of c.solve_row.new.row) c.args.nonbasic m) many c.replace_all.ensures.cost)

pub returns-in_err-replace_all-clause-rows : goal.returns-in_err-replace_all-clause-rows
returns-in_err-replace_all-clause-rows g c n are is =
    let at' = goal.at.returns-in_err-replace_all-clause-rows g c in
    rows_after g at'.After-replace_all n (rows_are g at'.After-swap n are is)

pub returns-in_err-replace_all-clause-own : goal.returns-in_err-replace_all-clause-own
returns-in_err-replace_all-clause-own g c n are is = c.solve_row.ensures.row n (own_is g (goal.at.returns-in_err-replace_all-clause-own g c).After-swap n are)

pub returns-in_err-replace_all-clause-count : goal.returns-in_err-replace_all-clause-count
returns-in_err-replace_all-clause-count g c = c.replace_all.ensures.count ∙ c.solve_row.ensures.count

pub returns-in_err-replace_all-clause-wide : goal.returns-in_err-replace_all-clause-wide
returns-in_err-replace_all-clause-wide g c =
    let at' = goal.at.returns-in_err-replace_all-clause-wide g c in
    at_err c.from_residual-in_err-replace_all.result (λ fits. c.in_err-replace_all.ensures.wide (λ r l.
    rows_fit (numbers_in c.args.rows.now) (numbers_in (set c.args.rows.now c.args.p c.swap.new.x)) (numbers_of c.solve_row.new.row) c.args.p c.args.basic c.args.nonbasic (length c.args.rows.now) (aside g at'.After-swap) (same g at'.After-swap) (as_told g at'.After-solve_row (own_row g at'.After-swap) c.in_ok-solve_row.ensures.is) (reduced g at'.After-solve_row c.requires.rows.0 (own_is g at'.After-swap c.requires.rows.0 c.requires.rows.1)) fits r (let e = count g at'.After-swap in omega arith)))

pub returns-in_err-replace_all-clause-cost : goal.returns-in_err-replace_all-clause-cost
returns-in_err-replace_all-clause-cost g c =
    let at' = goal.at.returns-in_err-replace_all-clause-cost g c in
    let r = c.requires.rows in
    let k : ℕ = length c.args.scratch.now.values.items in
    let own = own_row g at'.After-swap in
    let a = solve_cost g at'.After-solve_row own in
    let b = replace_cost g at'.After-replace_all (count g at'.After-swap) in
    let less = few g at'.After-solve_row c.in_ok-solve_row.ensures.is r.0 (own_is g at'.After-swap r.0 r.1) own in
    let d = aside_cost k (length c.args.rows.now) c.args.p c.args.nonbasic (numbers_in c.args.rows.now) (numbers_in (set c.args.rows.now c.args.p c.swap.new.x)) (numbers_of c.solve_row.new.row) (aside g at'.After-swap) (same g at'.After-swap) c.requires.p c.requires.stands less (some g at'.After-swap) in
    omega arith

-- the row comes back
back : (g : _) (c : After-swap-2 g) → c.args.p < length c.replace_all.new.rows → numbers_in (set c.replace_all.new.rows c.args.p c.swap-2.new.x) c.args.p ≡ numbers_of c.solve_row.new.row
back g c l = set_numbers c.replace_all.new.rows c.args.p c.swap-2.new.x l ∙ ap numbers_of c.swap-2.ensures.x_after

left_is : (g : _) (c : After-swap-2 g) → c.args.p < length c.replace_all.new.rows → numbers_of c.swap-2.new.y ≡ numbers_in c.replace_all.new.rows c.args.p
left_is g c l = ap numbers_of c.swap-2.ensures.y_after ∙ numbers_there c.replace_all.new.rows c.args.p _ l

pub returns-clause-rows : goal.returns-clause-rows
returns-clause-rows g c n are is =
    let at' = goal.at.returns-clause-rows g c in
    rows_set _ n c.replace_all.new.rows (rows_after g at'.After-replace_all n (rows_are g at'.After-swap n are is)) c.args.p c.swap-2.new.x
    (subst (λ (row : Row _ _). IsRow (length c.args.scratch.now.values.items) n row) (sym c.swap-2.ensures.x_after) (c.solve_row.ensures.row n (own_is g at'.After-swap n are)))

pub returns-clause-own : goal.returns-clause-own
returns-clause-own g c n are is =
    let at' = goal.at.returns-clause-own g c in
    let l : c.args.p < length c.replace_all.new.rows = let e = c.replace_all.auto.rows in let f = count g at'.After-swap in let l = c.requires.p in omega arith in
    subst (λ (row : Row _ _). IsRow (length c.args.scratch.now.values.items) n row) (sym c.swap-2.ensures.y_after) (row_there _ n c.replace_all.new.rows (rows_after g at'.After-replace_all n (rows_are g at'.After-swap n are is)) c.args.p _ l)

pub returns-clause-count : goal.returns-clause-count
returns-clause-count g c = c.replace_all.ensures.count ∙ c.solve_row.ensures.count

pub returns-clause-empty : goal.returns-clause-empty
returns-clause-empty g c j =
    let r = c.requires.rows in
    let at' = goal.at.returns-clause-empty g c in
    let l : c.args.p < length (set c.args.rows.now c.args.p c.swap.new.x) = let f = count g at'.After-swap in let l = c.requires.p in omega arith in
    ap (λ (f : ℕ → Ratio). (f j).num) (left_is g c (let e = c.replace_all.auto.rows in let f = count g at'.After-swap in let l = c.requires.p in omega arith))
    ∙ ap (λ (v : Ratio). v.num) (aside_stays (numbers_in (set c.args.rows.now c.args.p c.swap.new.x) c.args.p) (numbers_of c.solve_row.new.row) (numbers_in c.replace_all.new.rows c.args.p) c.args.nonbasic (λ q. ap (λ (f : ℕ → Ratio). f q) (aside g at'.After-swap)) (λ q. (reduced g at'.After-solve_row c.requires.rows.0 (own_is g at'.After-swap c.requires.rows.0 c.requires.rows.1) q).0)
    (table-reduced _ r.0 c.replace_all.new.rows (rows_after g at'.After-replace_all r.0 (rows_are g at'.After-swap r.0 r.1 r.2)) c.args.p) (c.in_ok-replace_all.ensures.is c.args.p l) j)

pub returns-clause-is : goal.returns-clause-is
returns-clause-is g c =
    let at' = goal.at.returns-clause-is g c in
    table_turned (numbers_in c.args.rows.now) (numbers_in (set c.args.rows.now c.args.p c.swap.new.x)) (numbers_of c.solve_row.new.row) c.args.p c.args.basic c.args.nonbasic (length c.args.rows.now) (aside g at'.After-swap) (same g at'.After-swap) (as_told g at'.After-solve_row (own_row g at'.After-swap) c.in_ok-solve_row.ensures.is)
    (numbers_in c.replace_all.new.rows) (numbers_in (set c.replace_all.new.rows c.args.p c.swap-2.new.x)) (back g c (let e = c.replace_all.auto.rows in let f = count g at'.After-swap in let l = c.requires.p in omega arith)) (λ r d. other_numbers c.replace_all.new.rows c.args.p r c.swap-2.new.x d) (λ r l. c.in_ok-replace_all.ensures.is r (let e = count g at'.After-swap in omega arith))

pub returns-clause-fits : goal.returns-clause-fits
returns-clause-fits g c =
    let at' = goal.at.returns-clause-fits g c in
    table_fits (numbers_in c.args.rows.now) (numbers_in (set c.args.rows.now c.args.p c.swap.new.x)) (numbers_of c.solve_row.new.row) c.args.p c.args.basic c.args.nonbasic (length c.args.rows.now) (aside g at'.After-swap) (same g at'.After-swap) (as_told g at'.After-solve_row (own_row g at'.After-swap) c.in_ok-solve_row.ensures.is) (reduced g at'.After-solve_row c.requires.rows.0 (own_is g at'.After-swap c.requires.rows.0 c.requires.rows.1))
    (quotients g at'.After-swap) (lead g at'.After-swap) (subst (λ (f : ℕ → Ratio). SolutionFits f c.args.nonbasic) (own_row g at'.After-swap) c.in_ok-solve_row.ensures.fits) (λ r l. c.in_ok-replace_all.ensures.fits r (let e = count g at'.After-swap in omega arith))

pub returns-clause-cost : goal.returns-clause-cost
returns-clause-cost g c =
    let at' = goal.at.returns-clause-cost g c in
    let r = c.requires.rows in
    let k : ℕ = length c.args.scratch.now.values.items in
    let own = own_row g at'.After-swap in
    let a = solve_cost g at'.After-solve_row own in
    let b = replace_cost g at'.After-replace_all (count g at'.After-swap) in
    let less = few g at'.After-solve_row c.in_ok-solve_row.ensures.is r.0 (own_is g at'.After-swap r.0 r.1) own in
    let d = aside_cost k (length c.args.rows.now) c.args.p c.args.nonbasic (numbers_in c.args.rows.now) (numbers_in (set c.args.rows.now c.args.p c.swap.new.x)) (numbers_of c.solve_row.new.row) (aside g at'.After-swap) (same g at'.After-swap) c.requires.p c.requires.stands less (some g at'.After-swap) in
    omega arith
