use Rattle.std.proofs.Common.{ℤ, ◌*◌, ◌^◌, ◌<◌, ◌*ℤ◌, FitsSigned, w64, rules, arith, refl}
use Rattle.std.specs.Prelude.{unsigned_abs}
use Rattle.std.proofs.lemmas.Int.{to_z-of_z, fits_signed_from_abs, unsigned_abs-mul, ints}
use Rattle.dictionary.proofs.Denominators.{denom_row}
use Rattle.dictionary.proofs.ChangedSums.{both_above, divided_row}
use Rattle.dictionary.proofs.changing.change_small.Goals as goal

-- the new denominator fits
denom_fits : (d s : ℤ) → unsigned_abs d * unsigned_abs s < 2 ^ 60 → FitsSigned w64 (d *ℤ s)
denom_fits d s l = fits_signed_from_abs w64 (d *ℤ s) (let e = unsigned_abs-mul d s in omega (arith, e))

pub overflow_mul-denom : goal.overflow_mul-denom
overflow_mul-denom g c =
    let d : FitsSigned w64 c.args.row.now.denom = search rules in
    let s : FitsSigned w64 c.args.parts.scale = search rules in
    simp to_z-of_z (denom_fits c.args.row.now.denom c.args.parts.scale c.requires.denom)

pub invariant_of-row : goal.invariant_of-row
invariant_of-row g c =
    let row = c.args.row.now in
    let parts = c.args.parts in
    let d : FitsSigned w64 row.denom = search rules in
    let s : FitsSigned w64 parts.scale = search rules in
    let fits = denom_fits row.denom parts.scale c.requires.denom in
    record { above = simp to_z-of_z (both_above row.denom parts.scale row.above parts.rises) }

pub returns-clause-row : goal.returns-clause-row
returns-clause-row g c k n is = denom_row c.change_numbers.new.row _ c.change_numbers.ensures.common c.change_numbers.ensures.common refl refl refl refl k n (c.change_numbers.ensures.row k n is)

pub returns-clause-is : goal.returns-clause-is
returns-clause-is g c j =
    let row = c.args.row.now in
    let parts = c.args.parts in
    let d : FitsSigned w64 row.denom = search rules in
    let s : FitsSigned w64 parts.scale = search rules in
    let fits = denom_fits row.denom parts.scale c.requires.denom in
    let told = c.change_numbers.ensures.changed j in
    let size = unsigned_abs-mul row.denom parts.scale in
    divided_row _ c.change_numbers.ensures.common j 1 _ _ (omega (arith, ints, told)) (simp to_z-of_z (omega (arith, size)))
