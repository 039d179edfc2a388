use Rattle.std.proofs.Common.{◌≡◌, ℕ, ℤ, ◌+◌, ◌^◌, ◌<◌, ◌≤◌, pos, Bool, true, false, cond, length, FitsSigned, w64, rules, arith, sym, ◌∙◌, ap, subst}
use Rattle.std.specs.Prelude.{unsigned_abs}
use Rattle.std.proofs.lemmas.Int.{to_z-of_z, unsigned_abs-mul}
use Rattle.rational.specs.Ratio.{Ratio}
use Rattle.common_rows.proofs.Sizes.{widened, product_fits, size_above}
use Rattle.dictionary.specs.Numbers.{ArePartsOf}
use Rattle.dictionary.specs.Rows.{numbers_of, numer_at, entries_at, IsRow}
use Rattle.dictionary.specs.Steps.{nonzeros}
use Rattle.dictionary.proofs.Nonzeros.{one_more}
use Rattle.dictionary.proofs.RowForms.{has_below, lowest_alike, lowest_none, common_number, sized_above, numbers-reduced}
use Rattle.dictionary.proofs.Changes.{changed_others, changed_gone}
use Rattle.dictionary.proofs.ChangedSums.{both_above, common_fits, room_without}
use Rattle.dictionary.proofs.changing.change_common.Goals as goal
use Rattle.dictionary.proofs.changing.change_common.Goals.{After-write, After-parts_of-parts}

pub read-numer-requires : goal.read-numer-requires
read-numer-requires g c = let r = c.requires.rows in let l = has_below c.args.row.now _ r.0 r.1 c.args.skip c.requires.stands in (_, r.0, r.1, omega arith)

pub write-requires-clause-row : goal.write-requires-clause-row
write-requires-clause-row g c = let r = c.requires.rows in (_, r.0, r.1, c.requires.inside)

-- the row without the number at the column that goes
less : (g : _) (c : After-write g) (n : ℕ) → IsRow (length c.args.scratch.now.values.items) n c.args.row.now → IsRow (length c.args.scratch.now.values.items) n c.write.new.self
less g c n is = c.write.ensures.row _ n is c.requires.inside

gone : (g : _) (c : After-write g) → (numbers_of c.write.new.self c.args.skip).num ≡ pos 0
gone g c = let row = c.args.row.now in ap (λ (v : Ratio). v.num) (c.write.ensures.own ∙ lowest_none (unsigned_abs row.denom) (sized_above row.denom row.above))

one_less : (g : _) (c : After-write g) → nonzeros (length c.args.scratch.now.values.items) (numbers_of c.args.row.now) ≡ nonzeros (length c.args.scratch.now.values.items) (numbers_of c.write.new.self) + 1
one_less g c = let l = c.requires.inside in one_more (length c.args.scratch.now.values.items) c.args.skip (numbers_of c.write.new.self) (numbers_of c.args.row.now) (omega arith) (gone g c) c.requires.stands c.write.ensures.others

pub parts_of-parts-requires-clause-above : goal.parts_of-parts-requires-clause-above
parts_of-parts-requires-clause-above g c =
    let by = c.args.by.now in
    let p : FitsSigned w64 by.denom = search rules in
    simp to_z-of_z by.above

pub parts_of-parts-requires-clause-small : goal.parts_of-parts-requires-clause-small
parts_of-parts-requires-clause-small g c =
    let r = c.requires.rows in
    let x : FitsSigned w64 c.read-numer.result = search rules in
    let w = subst (λ z. unsigned_abs z ≤ c.args.row.now.size) (sym c.read-numer.ensures.number) (r.1.within c.args.skip) in
    let s = r.1.small in
    let small : unsigned_abs c.read-numer.result < 2 ^ 63 = omega arith in
    simp to_z-of_z small

-- the parts are those of the number at the column that goes
parts : (g : _) (c : After-parts_of-parts g) → ArePartsOf (numer_at c.args.row.now c.args.skip) (unsigned_abs c.args.by.now.denom) c.parts_of-parts.result.scale c.parts_of-parts.result.factor
parts g c =
    let by = c.args.by.now in
    let x : FitsSigned w64 c.read-numer.result = search rules in
    let p : FitsSigned w64 by.denom = search rules in
    let are = simp to_z-of_z at c.parts_of-parts.ensures in
    subst (λ (z : ℤ). ArePartsOf z (unsigned_abs by.denom) c.parts_of-parts.result.scale c.parts_of-parts.result.factor) c.read-numer.ensures.number are

pub overflow_mul-over : goal.overflow_mul-over
overflow_mul-over g c =
    let row = c.write.new.self in
    let parts = c.parts_of-parts.result in
    let d : FitsSigned w64 row.denom = search rules in
    let s : FitsSigned w64 parts.scale = search rules in
    let wide_d = widened row.denom d in
    let wide_s = widened parts.scale s in
    simp to_z-of_z (product_fits row.denom parts.scale d s)

pub is_small-requires : goal.is_small-requires
is_small-requires g c =
    let row = c.write.new.self in
    let parts = c.parts_of-parts.result in
    let d : FitsSigned w64 row.denom = search rules in
    let s : FitsSigned w64 parts.scale = search rules in
    let wide_d = widened row.denom d in
    let wide_s = widened parts.scale s in
    let all = product_fits row.denom parts.scale d s in
    simp to_z-of_z (both_above row.denom parts.scale row.above parts.rises)

pub change_small-requires-clause-row : goal.change_small-requires-clause-row
change_small-requires-clause-row g c = let r = c.requires.rows in (_, r.0, less g (goal.at.change_small-requires-clause-row g c).After-write r.0 r.1, r.2)

pub change_small-requires-clause-common : goal.change_small-requires-clause-common
change_small-requires-clause-common g c = (c.write.ensures.common, c.requires.common.1)

pub change_small-requires-clause-small : goal.change_small-requires-clause-small
change_small-requires-clause-small g c = let s = c.is_small.ensures c.if-is_small.true in s.0

pub change_small-requires-clause-denom : goal.change_small-requires-clause-denom
change_small-requires-clause-denom g c =
    let row = c.write.new.self in
    let parts = c.parts_of-parts.result in
    let d : FitsSigned w64 row.denom = search rules in
    let s : FitsSigned w64 parts.scale = search rules in
    let wide_d = widened row.denom d in
    let wide_s = widened parts.scale s in
    let all = product_fits row.denom parts.scale d s in
    let told = simp to_z-of_z at c.is_small.ensures in
    let small = (told c.if-is_small.true).1 in
    let size = unsigned_abs-mul row.denom parts.scale in
    omega arith

pub change_sums-requires-clause-rows : goal.change_sums-requires-clause-rows
change_sums-requires-clause-rows g c =
    let r = c.requires.rows in
    let at' = (goal.at.change_sums-requires-clause-rows g c).After-write in
    (r.0, less g at' r.0 r.1, r.2, room_without _ r.0 c.args.skip (numbers_of c.args.row.now) (numbers_of c.write.new.self) (numbers_of c.args.by.now) (gone g at') c.write.ensures.others c.requires.gone r.3)

pub change_sums-requires-clause-common : goal.change_sums-requires-clause-common
change_sums-requires-clause-common g c = (c.write.ensures.common, c.requires.common.1)

-- nothing stands in the other row at the column that goes
zero_in : (g : _) (c : After-write g) → numer_at c.args.by.now c.args.skip ≡ pos 0
zero_in g c =
    let by = c.args.by.now in
    let a = lowest_alike (numer_at by c.args.skip) (unsigned_abs by.denom) (sized_above by.denom by.above) in
    a.zero.0 (sym (ap (λ (v : Ratio). v.num) (common_number by c.requires.common.1 c.args.skip)) ∙ c.requires.gone)

pub returns-then-is_small-clause-row : goal.returns-then-is_small-clause-row
returns-then-is_small-clause-row g c n is = c.change_small.ensures.row _ n (less g (goal.at.returns-then-is_small-clause-row g c).After-write n is)

pub returns-then-is_small-clause-is : goal.returns-then-is_small-clause-is
returns-then-is_small-clause-is g c =
    let r = c.requires.rows in
    let at' = goal.at.returns-then-is_small-clause-is g c in
    let row = c.args.row.now in
    let by = c.args.by.now in
    let l = c.write.new.self in
    let new = c.change_small.new.row in
    let p = c.parts_of-parts.result in
    let is = c.change_small.ensures.row _ r.0 (less g at'.After-write r.0 r.1) in
    record {
      gone = changed_gone row l by new c.args.skip p.scale p.factor c.requires.common.0 c.requires.common.1 p.rises (parts g at'.After-parts_of-parts) c.write.ensures.denom c.write.ensures.number c.write.ensures.rest c.change_small.ensures.is (numbers-reduced new _ r.0 is) (zero_in g at'.After-write);
      others = changed_others row l by new c.args.skip p.scale p.factor c.requires.common.0 c.requires.common.1 p.rises (parts g at'.After-parts_of-parts) c.write.ensures.denom c.write.ensures.number c.write.ensures.rest c.change_small.ensures.is;
    }

pub returns-then-is_small-clause-fits : goal.returns-then-is_small-clause-fits
returns-then-is_small-clause-fits g c =
    let r = c.requires.rows in
    let row = c.args.row.now in
    let by = c.args.by.now in
    let d : FitsSigned w64 row.denom = search rules in
    let p : FitsSigned w64 by.denom = search rules in
    let ld = size_above row.denom d row.above in
    let lp = size_above by.denom p by.above in
    common_fits row by _ r.0 r.1 r.2 c.requires.common.0 c.requires.common.1 (omega arith) (omega arith) c.args.skip

-- the column that goes is read and written once
begun : (g : _) (c : After-write g) → c.write.new.steps ≤ c.args.steps.now + 2
begun g c = one (entries_at c.args.row.now c.args.skip) (let p = c.read-numer.ensures.cost in let q = c.write.ensures.cost in omega arith)
  where
    one : (t : Bool) → c.write.new.steps ≡ c.args.steps.now + cond t 1 0 + 1 → c.write.new.steps ≤ c.args.steps.now + 2
    one true h = omega arith
    one false h = omega arith

pub returns-then-is_small-clause-cost : goal.returns-then-is_small-clause-cost
returns-then-is_small-clause-cost g c =
    let r = c.requires.rows in
    let at' = (goal.at.returns-then-is_small-clause-cost g c).After-write in
    let a = c.change_small.ensures.cost _ r.0 (less g at' r.0 r.1) r.2 in
    let b = begun g at' in
    let e = one_less g at' in
    omega arith

pub returns-clause-row : goal.returns-clause-row
returns-clause-row g c n is = c.change_sums.ensures.row n (less g (goal.at.returns-clause-row g c).After-write n is)

pub returns-clause-is : goal.returns-clause-is
returns-clause-is g c =
    let r = c.requires.rows in
    let at' = goal.at.returns-clause-is g c in
    let row = c.args.row.now in
    let by = c.args.by.now in
    let l = c.write.new.self in
    let new = c.change_sums.new.row in
    let p = c.parts_of-parts.result in
    let is = c.change_sums.ensures.row r.0 (less g at'.After-write r.0 r.1) in
    record {
      gone = changed_gone row l by new c.args.skip p.scale p.factor c.requires.common.0 c.requires.common.1 p.rises (parts g at'.After-parts_of-parts) c.write.ensures.denom c.write.ensures.number c.write.ensures.rest c.change_sums.ensures.is (numbers-reduced new _ r.0 is) (zero_in g at'.After-write);
      others = changed_others row l by new c.args.skip p.scale p.factor c.requires.common.0 c.requires.common.1 p.rises (parts g at'.After-parts_of-parts) c.write.ensures.denom c.write.ensures.number c.write.ensures.rest c.change_sums.ensures.is;
    }

pub returns-clause-fits : goal.returns-clause-fits
returns-clause-fits g c =
    let r = c.requires.rows in
    let row = c.args.row.now in
    let by = c.args.by.now in
    let d : FitsSigned w64 row.denom = search rules in
    let p : FitsSigned w64 by.denom = search rules in
    let ld = size_above row.denom d row.above in
    let lp = size_above by.denom p by.above in
    common_fits row by _ r.0 r.1 r.2 c.requires.common.0 c.requires.common.1 (omega arith) (omega arith) c.args.skip

pub returns-clause-cost : goal.returns-clause-cost
returns-clause-cost g c =
    let at' = (goal.at.returns-clause-cost g c).After-write in
    let a = c.change_sums.ensures.cost in
    let b = begun g at' in
    let e = one_less g at' in
    omega arith
