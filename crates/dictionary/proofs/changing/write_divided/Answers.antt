use Rattle.std.proofs.Common.{◌≡◌, ◌*ℤ◌, pos, FitsSigned, w64, rules, refl}
use Rattle.std.proofs.lemmas.Int.{to_z-of_z}
use Rattle.common_rows.proofs.Sizes.{widened, product_fits}
use Rattle.dictionary.proofs.Denominators.{denom_row}
use Rattle.dictionary.proofs.ChangedSums.{either_sum, quotient_up, both_above, denom_parts, divided_row}
use Rattle.dictionary.proofs.changing.write_divided.Goals as goal
use Rattle.dictionary.proofs.changing.write_divided.Goals.{In-Some}

pub overflow_mul-over : goal.overflow_mul-over
overflow_mul-over g c =
    let row = c.args.row.now in
    let parts = c.args.parts in
    let d : FitsSigned w64 row.denom = search rules in
    let s : FitsSigned w64 parts.scale = search rules in
    let wide_d = widened row.denom d in
    let wide_s = widened parts.scale s in
    simp to_z-of_z (product_fits row.denom parts.scale d s)

pub returns-in_default-clause-left : goal.returns-in_default-clause-left
returns-in_default-clause-left g c j e = let r = c.requires.rows in either_sum c.args.row.now c.args.by.now _ r.0 r.1 r.2 j c.args.parts.scale c.args.parts.factor e

-- the denominator that is written, times the divisor
denom : (g : _) (c : In-Some g) → c.in-Some.denom *ℤ pos c.args.divisor.size ≡ c.args.row.now.denom *ℤ c.args.parts.scale
denom g c =
    let row = c.args.row.now in
    let parts = c.args.parts in
    let d : FitsSigned w64 row.denom = search rules in
    let s : FitsSigned w64 parts.scale = search rules in
    let wide_d = widened row.denom d in
    let wide_s = widened parts.scale s in
    let fits = product_fits row.denom parts.scale d s in
    simp to_z-of_z at c.in-Some.ensures

pub invariant_of-row : goal.invariant_of-row
invariant_of-row g c =
    let row = c.args.row.now in
    let parts = c.args.parts in
    let q : FitsSigned w64 c.in-Some.denom = search rules in
    let up = quotient_up c.in-Some.denom c.args.divisor.size (row.denom *ℤ parts.scale) (denom g (goal.at.invariant_of-row g c).In-Some) (both_above row.denom parts.scale row.above parts.rises) in
    record { above = simp to_z-of_z up }

pub returns-clause-row : goal.returns-clause-row
returns-clause-row g c k n is = denom_row c.write_quotients.new.row _ c.write_quotients.ensures.common c.write_quotients.ensures.common refl refl refl refl k n (c.write_quotients.ensures.row k n is)

pub returns-clause-is : goal.returns-clause-is
returns-clause-is g c _ j =
    let row = c.args.row.now in
    let parts = c.args.parts in
    let q : FitsSigned w64 c.in-Some.denom = search rules in
    let told = c.write_quotients.ensures.divided c.if-not-write_quotients.false j in
    let size = denom_parts c.in-Some.denom row.denom parts.scale c.args.divisor.size (denom g (goal.at.returns-clause-is g c).In-Some) in
    divided_row _ c.write_quotients.ensures.common j c.args.divisor.size _ _ told (simp to_z-of_z size)
