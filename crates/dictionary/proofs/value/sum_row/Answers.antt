use Rattle.std.proofs.Common.{ℕ, ◌<◌, IfOk, OnErr, arith, sym, subst}
use Rattle.rational.specs.Ratio.{Ratio, IsSame}
use Rattle.fraction.specs.Frac.{ratio}
use Rattle.bases.specs.Dictionary.{Values, value_by}
use Rattle.bases.specs.Pivot.{ValueFits}
use Rattle.dictionary.specs.Numbers.{HasNumber}
use Rattle.dictionary.specs.Rows.{AreValuesOf}
use Rattle.dictionary.specs.Dict.{count_of, place_values}
use Rattle.dictionary.proofs.RowForms.{fraction_numbers, fractions_below}
use Rattle.dictionary.proofs.value.sum_row.Goals as goal

pub sum_fractions-requires-clause-inside : goal.sum_fractions-requires-clause-inside
sum_fractions-requires-clause-inside g c =
    let row = c.args.row.now in
    subst (λ (f : ℕ → Ratio). (j : ℕ) → HasNumber f j → j < count_of c.args.places.now) (fraction_numbers row c.if-row.false) c.requires.inside

pub returns-else-row-clause-ok : goal.returns-else-row-clause-ok
returns-else-row-clause-ok g c =
    let row = c.args.row.now in
    subst (λ (f : ℕ → Ratio). (k : ℕ) (w : Values) → AreValuesOf f (place_values c.args.places.now) k w → IfOk c.sum_fractions.result (λ r. IsSame (ratio r) (value_by k f w))) (sym (fraction_numbers row c.if-row.false)) c.sum_fractions.ensures.ok

pub returns-else-row-clause-fits : goal.returns-else-row-clause-fits
returns-else-row-clause-fits g c =
    let row = c.args.row.now in
    subst (λ (f : ℕ → Ratio). (k : ℕ) (w : Values) → AreValuesOf f (place_values c.args.places.now) k w → IfOk c.sum_fractions.result (λ _. ValueFits k f w)) (sym (fraction_numbers row c.if-row.false)) c.sum_fractions.ensures.fits

pub returns-else-row-clause-wide : goal.returns-else-row-clause-wide
returns-else-row-clause-wide g c =
    let row = c.args.row.now in
    subst (λ (f : ℕ → Ratio). (k : ℕ) (w : Values) → AreValuesOf f (place_values c.args.places.now) k w → OnErr c.sum_fractions.result (ValueFits k f w → ⊥)) (sym (fraction_numbers row c.if-row.false)) c.sum_fractions.ensures.wide

pub returns-else-row-clause-cost : goal.returns-else-row-clause-cost
returns-else-row-clause-cost g c k inside =
    let row = c.args.row.now in
    let r = c.requires.row in
    let few = fractions_below row r.0 r.1 r.2 c.if-row.false k inside in
    let cost = c.sum_fractions.ensures.cost in
    omega arith
