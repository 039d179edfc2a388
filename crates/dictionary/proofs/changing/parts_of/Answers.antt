use Rattle.std.proofs.Common.{◌^◌, ◌<◌, ℤ, pos, ◌<ℤ◌, FitsSigned, w64, rules, arith, sym, subst}
use mir.Syntax.{w128}
use Rattle.std.specs.Prelude.{unsigned_abs}
use Rattle.std.proofs.lemmas.Int.{to_z-of_z, to_z_pos, fits_signed_from_abs, ints}
use Rattle.rational.specs.Ratio.{IsSame, whole, quotient}
use Rattle.rational.specs.Width.{ReducedFits}
use Rattle.fraction.specs.Frac.{ratio}
use Rattle.fraction.proofs.Wholes.{narrow_size}
use Rattle.common_rows.proofs.Sizes.{widened, size_above}
use Rattle.common_rows.proofs.Accumulators.{quotient_fits}
use Rattle.dictionary.specs.Numbers.{ArePartsOf}
use Rattle.dictionary.proofs.RowForms.{sized, sized_above}
use Rattle.dictionary.proofs.Parts.{part_denom, part_numer, are_parts}
use Rattle.dictionary.proofs.changing.parts_of.Goals as goal
use Rattle.dictionary.proofs.changing.parts_of.Goals.{In-Ok}

pub unreachable-requires : goal.unreachable-requires
unreachable-requires c =
    let n = c.args.numer in
    let d = c.args.by in
    let fits_n : FitsSigned w64 n = c.ranges.numer in
    let fits_d : FitsSigned w64 d = c.ranges.by in
    let wide_n : FitsSigned w128 n = widened n fits_n in
    let wide_d : FitsSigned w128 d = widened d fits_d in
    let size = narrow_size n fits_n in
    let up = size_above d c.ranges.by c.requires.above in
    let no = simp to_z-of_z at c.in-Err.ensures.wide in
    no (subst (λ (z : ℤ). ReducedFits (quotient (whole n) (whole z))) (sym (sized d c.requires.above)) (quotient_fits n (unsigned_abs d) (sized_above d c.requires.above) (omega arith) (omega arith)))

-- what was made of the number over the other row's denominator
same : (c : In-Ok) → IsSame (ratio c.in-Ok.x) (quotient (whole c.args.numer) (whole c.args.by))
same c =
    let fits_n : FitsSigned w64 c.args.numer = c.ranges.numer in
    let fits_d : FitsSigned w64 c.args.by = c.ranges.by in
    let wide_n : FitsSigned w128 c.args.numer = widened c.args.numer fits_n in
    let wide_d : FitsSigned w128 c.args.by = widened c.args.by fits_d in
    simp to_z-of_z at c.in-Ok.ensures.ok

-- its parts have 64 bits
denom_small : (c : In-Ok) → c.in-Ok.x.denom < 2 ^ 63
denom_small c =
    let low = part_denom c.in-Ok.x c.args.numer c.args.by c.requires.above (same c) in
    let up = size_above c.args.by c.ranges.by c.requires.above in
    omega arith

numer_fits : (c : In-Ok) → FitsSigned w64 c.in-Ok.x.numer
numer_fits c =
    let low = part_numer c.in-Ok.x c.args.numer c.args.by c.requires.above (same c) in
    fits_signed_from_abs w64 c.in-Ok.x.numer (let l = c.requires.small in omega arith)

pub overflow_cast-result : goal.overflow_cast-result
overflow_cast-result c = fits_signed_from_abs w64 (pos c.in-Ok.x.denom) (denom_small (goal.at.overflow_cast-result c).In-Ok)

pub overflow_cast-result-in-Ok : goal.overflow_cast-result-in-Ok
overflow_cast-result-in-Ok c =
    let x = c.in-Ok.x in
    let own : FitsSigned w128 x.numer = search rules in
    let fits : FitsSigned w64 x.numer = numer_fits (goal.at.overflow_cast-result-in-Ok c).In-Ok in
    simp to_z-of_z fits

pub invariant_of-result : goal.invariant_of-result
invariant_of-result c =
    let x = c.in-Ok.x in
    let scale = to_z_pos w64 x.denom (denom_small (goal.at.invariant_of-result c).In-Ok) in
    let above : pos 0 <ℤ pos x.denom = let l = x.above in omega (arith, ints) in
    record { rises = subst (λ (s : ℤ). pos 0 <ℤ s) (sym scale) above }

pub returns : goal.returns
returns c =
    let x = c.in-Ok.x in
    let at' = (goal.at.returns c).In-Ok in
    let own : FitsSigned w128 x.numer = search rules in
    let fits : FitsSigned w64 x.numer = numer_fits at' in
    let scale = to_z_pos w64 x.denom (denom_small at') in
    simp to_z-of_z (subst (λ (s : ℤ). ArePartsOf c.args.numer (unsigned_abs c.args.by) s x.numer) (sym scale) (are_parts x c.args.numer c.args.by c.requires.above (same at')))
