use Rattle.std.proofs.Common.{◌≡◌, ℕ, ◌+◌, ◌≤◌, pos, List, length, arith, sym, ◌∙◌, ap, subst}
use Rattle.std.specs.Vec.{with_items}
use Rattle.std.proofs.lemmas.List.{with_items_is}
use Rattle.rational.specs.Ratio.{Ratio, whole, product, quotient, IsSame}
use Rattle.rational.specs.Width.{ReducedFits}
use Rattle.rational.proofs.ReducedForms.{one_number}
use Rattle.fraction.specs.Frac.{ratio, ratios}
use Rattle.fraction.specs.declared.frac.Frac.{Frac}
use Rattle.evidence.specs.Point.{value_at}
use Rattle.instance.proofs.Terms.{read, at_err}
use Rattle.dictionary.specs.Numbers.{words_over}
use Rattle.dictionary.specs.Rows.{numbers_of, IsRow, IsSpread, IsSolvedFor}
use Rattle.dictionary.specs.Scratch.{found_at}
use Rattle.dictionary.specs.Steps.{nonzeros}
use Rattle.dictionary.proofs.RowForms.{numbers-number, numbers-reduced, has_inside}
use Rattle.dictionary.proofs.FoundValues.{found-reduced}
use Rattle.dictionary.proofs.AsideRows.{solved_few}
use Rattle.dictionary.proofs.SolvedFractions.{fractions_solved, fractions_fit, fractions_wide}
use Rattle.dictionary.proofs.solving.solve_fractions.Goals as goal
use Rattle.dictionary.proofs.solving.solve_fractions.Goals.{After-index, After-put, After-multiply_values}

pub spread-requires : goal.spread-requires
spread-requires g c = let r = c.requires.row in (r.0, subst (λ k. IsRow k r.0 c.args.row.now) (sym (ap length c.as_mut_slice.ensures.value)) r.1)

-- what was lent comes back
values : (g : _) (c : After-index g) → (with_items c.args.scratch.now.values c.spread.new.values).items ≡ c.spread.new.values
values g c = with_items_is c.args.scratch.now.values c.spread.new.values (c.spread.auto.values ∙ c.as_mut_slice.ensures.len)

count : (g : _) (c : After-index g) → length (with_items c.args.scratch.now.values c.spread.new.values).items ≡ length c.args.scratch.now.values.items
count g c = ap length (values g c) ∙ c.spread.auto.values ∙ ap length c.as_mut_slice.ensures.value

-- the pivot is the row's number at the column that goes
pivot : (g : _) (c : After-index g) → ratio c.index.result.now ≡ numbers_of c.args.row.now c.args.nonbasic
pivot g c =
    let r = c.requires.row in
    let l = has_inside c.args.row.now _ r.0 r.1 c.args.nonbasic c.requires.stands in
    let n = count g c in
    sym (read (with_items c.args.scratch.now.values c.spread.new.values).items c.args.nonbasic c.index.result.now (omega arith) c.index.ensures) ∙ ap (λ (xs : List Frac). value_at (ratios xs) c.args.nonbasic) (values g c) ∙ c.spread.ensures.spread c.args.nonbasic c.requires.stands

pub invariant_of-scratch : goal.invariant_of-scratch
invariant_of-scratch g c =
    let s = c.args.scratch.now in
    let vs : (with_items s.values c.spread.new.values).items ≡ c.spread.new.values = with_items_is s.values c.spread.new.values (c.spread.auto.values ∙ c.as_mut_slice.ensures.len) in
    let n : length (with_items s.values c.spread.new.values).items ≡ length s.values.items = ap length vs ∙ c.spread.auto.values ∙ ap length c.as_mut_slice.ensures.value in
    record {
      same = s.same ∙ sym n;
      as_many = s.as_many ∙ sym n;
      marks = s.marks ∙ ap words_over (sym n);
    }

pub div-requires : goal.div-requires
div-requires g c z = c.requires.stands (ap (λ (v : Ratio). v.num) (sym (pivot g (goal.at.div-requires g c).After-index)) ∙ z)

one_is : (g : _) (c : After-index g) → ratio c.one.result ≡ whole (pos 1)
one_is g c = one_number (ratio c.one.result) (whole (pos 1)) c.one.ensures.numer c.one.ensures.denom

pub returns-in_err-value-clause-count : goal.returns-in_err-value-clause-count
returns-in_err-value-clause-count g c = count g (goal.at.returns-in_err-value-clause-count g c).After-index

pub returns-in_err-value-clause-wide : goal.returns-in_err-value-clause-wide
returns-in_err-value-clause-wide g c =
    let at' = (goal.at.returns-in_err-value-clause-wide g c).After-index in
    at_err c.from_residual.result (λ fits. c.in_err-value.ensures.wide
    (subst (λ (v : Ratio). ReducedFits (quotient v (ratio c.index.result.now))) (sym (one_is g at')) (subst (λ (v : Ratio). ReducedFits (quotient (whole (pos 1)) v)) (sym (pivot g at')) fits.lead)))

pub multiply_values-requires-clause-row : goal.multiply_values-requires-clause-row
multiply_values-requires-clause-row g c =
    let r = c.requires.row in
    (r.0, subst (λ k. IsRow k r.0 c.args.row.now) (sym (count g (goal.at.multiply_values-requires-clause-row g c).After-index)) r.1)

pub multiply_values-requires-clause-values : goal.multiply_values-requires-clause-values
multiply_values-requires-clause-values g c = subst (λ (xs : List Frac). IsSpread c.args.row.now (ratios xs)) (sym (values g (goal.at.multiply_values-requires-clause-values g c).After-index)) c.spread.ensures.spread

-- one over the pivot
inverse_is : (g : _) (c : After-multiply_values g) → ratio c.one.result ≡ whole (pos 1) → ratio c.index.result.now ≡ numbers_of c.args.row.now c.args.nonbasic → IsSame (ratio c.in_ok-value.value) (quotient (whole (pos 1)) (numbers_of c.args.row.now c.args.nonbasic))
inverse_is g c one pivot =
    subst (λ (v : Ratio). IsSame (ratio c.in_ok-value.value) (quotient (whole (pos 1)) v)) pivot
    (subst (λ (v : Ratio). IsSame (ratio c.in_ok-value.value) (quotient v (ratio c.index.result.now))) one c.in_ok-value.ensures.ok)

pub returns-in_err-multiply_values-clause-count : goal.returns-in_err-multiply_values-clause-count
returns-in_err-multiply_values-clause-count g c = c.multiply_values.ensures.count ∙ count g (goal.at.returns-in_err-multiply_values-clause-count g c).After-index

pub returns-in_err-multiply_values-clause-wide : goal.returns-in_err-multiply_values-clause-wide
returns-in_err-multiply_values-clause-wide g c =
    let row = c.args.row.now in
    let all = goal.at.returns-in_err-multiply_values-clause-wide g c in
    at_err c.from_residual-in_err-multiply_values.result (fractions_wide (numbers_of row) c.args.nonbasic (numbers-number row) c.requires.stands c.in_ok-value.value c.neg.result (inverse_is g all.After-multiply_values (one_is g all.After-index) (pivot g all.After-index)) c.neg.ensures c.in_err-multiply_values.ensures.wide)

pub put-requires : goal.put-requires
put-requires g c =
    let n = c.multiply_values.ensures.count ∙ count g (goal.at.put-requires g c).After-index in
    let l = c.requires.inside in
    omega arith

-- what was found is the row solved
solved : (g : _) (c : After-put g) → IsSame (ratio c.in_ok-value.value) (quotient (whole (pos 1)) (numbers_of c.args.row.now c.args.nonbasic)) → IsSolvedFor (numbers_of c.args.row.now) c.args.basic c.args.nonbasic (found_at c.put.new.self)
solved g c inverse =
    let row = c.args.row.now in
    let f = c.in_ok-multiply_values.ensures in
    fractions_solved (numbers_of row) c.args.nonbasic (numbers-number row) c.requires.stands c.in_ok-value.value c.neg.result inverse c.neg.ensures (found_at c.put.new.self) c.args.basic (λ j. (found-reduced c.put.new.self j).0)
    (c.put.ensures.others c.args.nonbasic (λ h. c.requires.apart (sym h)) ∙ f.gone) c.put.ensures.own
    (λ j d n. subst (λ (v : Ratio). IsSame v (product (ratio c.neg.result) (numbers_of row j))) (sym (c.put.ensures.others j n)) (f.is j d))

few : (g : _) (c : After-put g) (n : ℕ) → IsRow (length c.args.scratch.now.values.items) n c.args.row.now → IsSolvedFor (numbers_of c.args.row.now) c.args.basic c.args.nonbasic (found_at c.put.new.self) → nonzeros (length c.args.scratch.now.values.items) (found_at c.put.new.self) ≤ nonzeros (length c.args.scratch.now.values.items) (numbers_of c.args.row.now)
few g c n is s =
    let row = c.args.row.now in
    let l = c.requires.inside in
    solved_few (numbers_of row) (found_at c.put.new.self) c.args.basic c.args.nonbasic (numbers-reduced row _ n is) (found-reduced c.put.new.self) c.requires.stands s (length c.args.scratch.now.values.items) (omega arith) (has_inside row _ n is c.args.nonbasic c.requires.stands)

pub settle-requires-clause-row : goal.settle-requires-clause-row
settle-requires-clause-row g c =
    let r = c.requires.row in
    let all = goal.at.settle-requires-clause-row g c in
    let n = sym (c.put.ensures.count ∙ c.multiply_values.ensures.count ∙ count g all.After-index) in
    let f = few g all.After-put r.0 r.1 (solved g all.After-put (inverse_is g all.After-multiply_values (one_is g all.After-index) (pivot g all.After-index))) in
    let small = r.2 in
    (r.0, subst (λ k. IsRow k r.0 c.args.row.now) n r.1, subst (λ k. nonzeros k (found_at c.put.new.self) ≤ r.0) n (omega arith))

pub settle-requires-clause-found : goal.settle-requires-clause-found
settle-requires-clause-found g c = c.put.ensures.found c.multiply_values.ensures.found

pub returns-clause-row : goal.returns-clause-row
returns-clause-row g c m is =
    let n = c.put.ensures.count ∙ c.multiply_values.ensures.count ∙ count g (goal.at.returns-clause-row g c).After-index in
    subst (λ k. IsRow k m c.settle.new.row) n (c.settle.ensures.row m (subst (λ k. IsRow k m c.args.row.now) (sym n) is))

pub returns-clause-count : goal.returns-clause-count
returns-clause-count g c = c.put.ensures.count ∙ c.multiply_values.ensures.count ∙ count g (goal.at.returns-clause-count g c).After-index

pub returns-clause-is : goal.returns-clause-is
returns-clause-is g c =
    let all = goal.at.returns-clause-is g c in
    subst (λ (f : ℕ → Ratio). IsSolvedFor (numbers_of c.args.row.now) c.args.basic c.args.nonbasic f) (λ i j. sym (c.settle.ensures.is j) i) (solved g all.After-put (inverse_is g all.After-multiply_values (one_is g all.After-index) (pivot g all.After-index)))

pub returns-clause-fits : goal.returns-clause-fits
returns-clause-fits g c =
    let row = c.args.row.now in
    let f = c.in_ok-multiply_values.ensures in
    let all = goal.at.returns-clause-fits g c in
    fractions_fit (numbers_of row) c.args.nonbasic (numbers-number row) c.requires.stands c.in_ok-value.value c.neg.result (inverse_is g all.After-multiply_values (one_is g all.After-index) (pivot g all.After-index)) c.neg.ensures f.fits

pub returns-clause-cost : goal.returns-clause-cost
returns-clause-cost g c =
    let r = c.requires.row in
    let all = goal.at.returns-clause-cost g c in
    let n = c.put.ensures.count ∙ c.multiply_values.ensures.count ∙ count g all.After-index in
    let a = subst (λ m. c.spread.new.steps ≤ c.args.steps.now + nonzeros m (numbers_of c.args.row.now)) (ap length c.as_mut_slice.ensures.value) c.spread.ensures.cost in
    let b = subst (λ m. c.settle.new.steps ≤ c.spread.new.steps + nonzeros m (found_at c.put.new.self)) n c.settle.ensures.cost in
    let f = few g all.After-put r.0 r.1 (solved g all.After-put (inverse_is g all.After-multiply_values (one_is g all.After-index) (pivot g all.After-index))) in
    omega arith
