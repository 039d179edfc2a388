use Rattle.std.proofs.Common.{◌≡◌, ℕ, ℤ, ◌+◌, ◌*◌, ◌<◌, ◌≤◌, ◌+ℤ◌, ◌*ℤ◌, pos, ◌⊎◌, true, List, length, FitsSigned, w64, rules, arith, sym, ◌∙◌, ap, subst}
use Rattle.std.specs.Prelude.{unsigned_abs, slice_index_or}
use Rattle.std.specs.Vec.{with_items}
use Rattle.std.proofs.lemmas.Int.{to_z-of_z, unsigned_abs-mul}
use Rattle.std.proofs.lemmas.List.{with_items_is}
use Rattle.rational.specs.Ratio.{Ratio, IsSame}
use Rattle.fraction.proofs.Wholes.{narrow_size}
use Rattle.common_rows.specs.Row.{over}
use Rattle.common_rows.proofs.Sizes.{widened, product_fits}
use Rattle.dictionary.specs.Lowest.{lowest}
use Rattle.dictionary.specs.Numbers.{HasNumber}
use Rattle.dictionary.specs.Rows.{numbers_of, numer_at, either_at, AreSums, IsRow}
use Rattle.dictionary.specs.Scratch.{found_at}
use Rattle.dictionary.specs.Steps.{nonzeros}
use Rattle.dictionary.proofs.RowForms.{sized_above}
use Rattle.dictionary.proofs.ChangedSums.{few_of_both, both_above, sums_inside, sums_most, reduced_is, reduced_has}
use Rattle.dictionary.proofs.changing.change_sums.Goals as goal
use Rattle.dictionary.proofs.changing.change_sums.Goals.{After-as_mut_slice-sums, After-as_slice-sums, After-write_divided, After-reduce_sums}

pub overflow_mul-over : goal.overflow_mul-over
overflow_mul-over g c =
    let row = c.args.row.now in
    let parts = c.args.parts in
    let d : FitsSigned w64 row.denom = search rules in
    let s : FitsSigned w64 parts.scale = search rules in
    let wide_d = widened row.denom d in
    let wide_s = widened parts.scale s in
    simp to_z-of_z (product_fits row.denom parts.scale d s)

-- as many sums as values, before they are written and after
before : (g : _) (c : After-as_mut_slice-sums g) → length c.as_mut_slice-sums.result.now ≡ length c.args.scratch.now.values.items
before g c = let s = c.args.scratch.now in ap length c.as_mut_slice-sums.ensures.value ∙ s.as_many

pub write_sums-content-requires : goal.write_sums-content-requires
write_sums-content-requires g c =
    let r = c.requires.rows in
    let n = sym (before g (goal.at.write_sums-content-requires g c).After-as_mut_slice-sums) in
    record { rows = (r.0, subst (λ k. IsRow k r.0 c.args.row.now) n r.1, subst (λ k. IsRow k r.0 c.args.by.now) n r.2) }

written : (g : _) (c : After-as_slice-sums g) → (with_items c.args.scratch.now.sums c.write_sums-content.new.sums).items ≡ c.write_sums-content.new.sums
written g c = with_items_is c.args.scratch.now.sums c.write_sums-content.new.sums (c.write_sums-content.auto.sums ∙ c.as_mut_slice-sums.ensures.len)

after : (g : _) (c : After-as_slice-sums g) → c.as_slice-sums.result.now ≡ c.write_sums-content.new.sums
after g c = c.as_slice-sums.ensures.value ∙ written g c

count : (g : _) (c : After-as_slice-sums g) → length c.as_slice-sums.result.now ≡ length c.args.scratch.now.values.items
count g c = let s = c.args.scratch.now in ap length (after g c) ∙ c.write_sums-content.auto.sums ∙ ap length c.as_mut_slice-sums.ensures.value ∙ s.as_many

pub write_divided-requires-clause-rows : goal.write_divided-requires-clause-rows
write_divided-requires-clause-rows g c =
    let r = c.requires.rows in
    let n = sym (count g (goal.at.write_divided-requires-clause-rows g c).After-as_slice-sums) in
    (r.0, subst (λ k. IsRow k r.0 c.args.row.now) n r.1, subst (λ k. IsRow k r.0 c.args.by.now) n r.2)

pub write_divided-requires-clause-sums : goal.write_divided-requires-clause-sums
write_divided-requires-clause-sums g c =
    subst (λ (xs : List ℤ). AreSums c.args.row.now c.args.by.now c.args.parts.scale c.args.parts.factor xs) (sym (after g (goal.at.write_divided-requires-clause-sums g c).After-as_slice-sums)) c.write_sums-content.ensures.sums

-- the steps so far
so_far : (g : _) (c : After-write_divided g) → length c.as_mut_slice-sums.result.now ≡ length c.args.scratch.now.values.items → length c.as_slice-sums.result.now ≡ length c.args.scratch.now.values.items → c.write_divided.new.steps ≤ c.args.steps.now + 2 * (nonzeros (length c.args.scratch.now.values.items) (numbers_of c.args.row.now) + nonzeros (length c.args.scratch.now.values.items) (numbers_of c.args.by.now))
so_far g c e f =
    let row = c.args.row.now in
    let by = c.args.by.now in
    let a = subst (λ m. c.write_sums-content.new.steps ≤ c.args.steps.now + (nonzeros m (numbers_of row) + nonzeros m (numbers_of by))) e c.write_sums-content.ensures.cost in
    let b = subst (λ m. c.write_divided.new.steps ≤ c.write_sums-content.new.steps + (nonzeros m (numbers_of row) + nonzeros m (numbers_of by))) f c.write_divided.ensures.cost in
    omega arith

pub returns-then-write_divided-clause-row : goal.returns-then-write_divided-clause-row
returns-then-write_divided-clause-row g c n is = c.write_divided.ensures.row _ n is

pub returns-then-write_divided-clause-is : goal.returns-then-write_divided-clause-is
returns-then-write_divided-clause-is g c = c.write_divided.ensures.is c.if-write_divided.true

pub returns-then-write_divided-clause-cost : goal.returns-then-write_divided-clause-cost
returns-then-write_divided-clause-cost g c =
    let at' = goal.at.returns-then-write_divided-clause-cost g c in
    let a = so_far g at'.After-write_divided (before g at'.After-as_mut_slice-sums) (count g at'.After-as_slice-sums) in
    omega arith

-- the sums that stand beside the rows
told : (g : _) (c : After-write_divided g) → AreSums c.args.row.now c.args.by.now c.args.parts.scale c.args.parts.factor (with_items c.args.scratch.now.sums c.write_sums-content.new.sums).items
told g c = subst (λ (xs : List ℤ). AreSums c.args.row.now c.args.by.now c.args.parts.scale c.args.parts.factor xs) (sym (with_items_is c.args.scratch.now.sums c.write_sums-content.new.sums (c.write_sums-content.auto.sums ∙ c.as_mut_slice-sums.ensures.len))) c.write_sums-content.ensures.sums

pub invariant_of-scratch : goal.invariant_of-scratch
invariant_of-scratch g c =
    let s = c.args.scratch.now in
    let is = with_items_is s.sums c.write_sums-content.new.sums (c.write_sums-content.auto.sums ∙ c.as_mut_slice-sums.ensures.len) in
    record { same = s.same; as_many = ap length is ∙ c.write_sums-content.auto.sums ∙ ap length c.as_mut_slice-sums.ensures.value ∙ s.as_many; marks = s.marks }

pub reduce_sums-requires-clause-size : goal.reduce_sums-requires-clause-size
reduce_sums-requires-clause-size g c =
    let r = c.requires.rows in
    let now = c.write_divided.ensures.row _ r.0 r.1 in
    r.2.columns ∙ sym now.columns

pub reduce_sums-requires-clause-inside : goal.reduce_sums-requires-clause-inside
reduce_sums-requires-clause-inside g c =
    let r = c.requires.rows in
    sums_inside c.args.row.now c.args.by.now c.write_divided.new.row c.args.parts.scale c.args.parts.factor _ r.0 r.1 r.2 _ (told g (goal.at.reduce_sums-requires-clause-inside g c).After-write_divided) c.write_divided.ensures.left c.write_divided.ensures.within

pub reduce_sums-requires-clause-above : goal.reduce_sums-requires-clause-above
reduce_sums-requires-clause-above g c =
    let row = c.args.row.now in
    let parts = c.args.parts in
    let d : FitsSigned w64 row.denom = search rules in
    let s : FitsSigned w64 parts.scale = search rules in
    let wide_d = widened row.denom d in
    let wide_s = widened parts.scale s in
    let all = product_fits row.denom parts.scale d s in
    simp to_z-of_z (both_above row.denom parts.scale row.above parts.rises)

pub reduce_sums-requires-clause-fit : goal.reduce_sums-requires-clause-fit
reduce_sums-requires-clause-fit g c =
    let r = c.requires.rows in
    let parts = c.args.parts in
    let s : FitsSigned w64 parts.scale = search rules in
    let k : FitsSigned w64 parts.factor = search rules in
    sums_most c.args.row.now c.args.by.now c.write_divided.new.row parts.scale parts.factor _ r.0 r.1 r.2 _ (told g (goal.at.reduce_sums-requires-clause-fit g c).After-write_divided) c.write_divided.ensures.left c.write_divided.ensures.within (narrow_size parts.scale s) (narrow_size parts.factor k)

-- the denominator of the fractions
abbrev size : (g : _) (c : After-reduce_sums g) → ℕ
size g c = unsigned_abs (c.args.row.now.denom *ℤ c.args.parts.scale)

up : (g : _) (c : After-reduce_sums g) → 0 < size g c
up g c = let row = c.args.row.now in let parts = c.args.parts in sized_above (row.denom *ℤ parts.scale) (both_above row.denom parts.scale row.above parts.rises)

have : (g : _) (c : After-reduce_sums g) (j : ℕ) → either_at c.write_divided.new.row c.args.by.now j ≡ true → found_at c.reduce_sums.new.scratch j ≡ lowest (slice_index_or (with_items c.args.scratch.now.sums c.write_sums-content.new.sums).items j (pos 0)) (size g c)
have g c j h =
    let row = c.args.row.now in
    let parts = c.args.parts in
    let d : FitsSigned w64 row.denom = search rules in
    let s : FitsSigned w64 parts.scale = search rules in
    let wide_d = widened row.denom d in
    let wide_s = widened parts.scale s in
    let all = product_fits row.denom parts.scale d s in
    let is = simp to_z-of_z at c.reduce_sums.ensures.is in
    is j h

sums_are : (g : _) (c : After-reduce_sums g) → AreSums c.args.row.now c.args.by.now c.args.parts.scale c.args.parts.factor (with_items c.args.scratch.now.sums c.write_sums-content.new.sums).items
sums_are g c = subst (λ (xs : List ℤ). AreSums c.args.row.now c.args.by.now c.args.parts.scale c.args.parts.factor xs) (sym (with_items_is c.args.scratch.now.sums c.write_sums-content.new.sums (c.write_sums-content.auto.sums ∙ c.as_mut_slice-sums.ensures.len))) c.write_sums-content.ensures.sums

has : (g : _) (c : After-reduce_sums g) (j : ℕ) → HasNumber (found_at c.reduce_sums.new.scratch) j → HasNumber (numbers_of c.args.row.now) j ⊎ HasNumber (numbers_of c.args.by.now) j
has g c =
    let r = c.requires.rows in
    reduced_has c.args.row.now c.args.by.now c.write_divided.new.row c.args.parts.scale c.args.parts.factor _ r.0 r.1 r.2 _ (sums_are g c) c.write_divided.ensures.left c.write_divided.ensures.within (found_at c.reduce_sums.new.scratch) (size g c) (up g c) (have g c) c.reduce_sums.ensures.none

pub settle-requires-clause-row : goal.settle-requires-clause-row
settle-requires-clause-row g c =
    let r = c.requires.rows in
    let n = c.reduce_sums.ensures.count in
    let room = r.3 (found_at c.reduce_sums.new.scratch) (has g (goal.at.settle-requires-clause-row g c).After-reduce_sums) in
    (r.0, subst (λ k. IsRow k r.0 c.write_divided.new.row) (sym n) (c.write_divided.ensures.row _ r.0 r.1), subst (λ k. nonzeros k (found_at c.reduce_sums.new.scratch) ≤ r.0) (sym n) room)

pub returns-clause-row : goal.returns-clause-row
returns-clause-row g c m is =
    let n = c.reduce_sums.ensures.count in
    subst (λ k. IsRow k m c.settle.new.row) n (c.settle.ensures.row m (subst (λ k. IsRow k m c.write_divided.new.row) (sym n) (c.write_divided.ensures.row _ m is)))

pub returns-clause-count : goal.returns-clause-count
returns-clause-count g c = c.reduce_sums.ensures.count

pub returns-clause-is : goal.returns-clause-is
returns-clause-is g c j =
    let r = c.requires.rows in
    let row = c.args.row.now in
    let parts = c.args.parts in
    let at' = (goal.at.returns-clause-is g c).After-reduce_sums in
    let z : ℤ = numer_at row j *ℤ parts.scale +ℤ numer_at c.args.by.now j *ℤ parts.factor in
    let is = reduced_is row c.args.by.now c.write_divided.new.row parts.scale parts.factor _ r.0 r.1 r.2 _ (sums_are g at') c.write_divided.ensures.left c.write_divided.ensures.within (found_at c.reduce_sums.new.scratch) (size g at') (up g at') (have g at') c.reduce_sums.ensures.none j in
    subst (λ (x : Ratio). IsSame x (over z (unsigned_abs row.denom * unsigned_abs parts.scale))) (sym (c.settle.ensures.is j)) (subst (λ e. IsSame (found_at c.reduce_sums.new.scratch j) (over z e)) (unsigned_abs-mul row.denom parts.scale) is)

pub returns-clause-cost : goal.returns-clause-cost
returns-clause-cost g c =
    let all = goal.at.returns-clause-cost g c in
    let at' = all.After-reduce_sums in
    let a = so_far g all.After-write_divided (before g all.After-as_mut_slice-sums) (count g all.After-as_slice-sums) in
    let f = found_at c.reduce_sums.new.scratch in
    let b = subst (λ k. c.settle.new.steps ≤ c.write_divided.new.steps + nonzeros k f) c.reduce_sums.ensures.count c.settle.ensures.cost in
    let few = few_of_both (length c.args.scratch.now.values.items) f (numbers_of c.args.row.now) (numbers_of c.args.by.now) (has g at') in
    omega arith
