use Rattle.std.proofs.Common.{◌≡◌, ℕ, ◌+◌, ◌≤◌, List, length, arith, sym, ◌∙◌, ap, subst}
use Rattle.std.specs.Vec.{with_items}
use Rattle.std.proofs.lemmas.List.{with_items_is}
use Rattle.fraction.specs.Frac.{ratio, ratios}
use Rattle.fraction.specs.declared.frac.Frac.{Frac}
use Rattle.evidence.specs.Point.{value_at}
use Rattle.instance.proofs.Terms.{read, at_err}
use Rattle.dictionary.specs.Numbers.{words_over}
use Rattle.dictionary.specs.Rows.{numbers_of, IsRow, IsSpread, HasRoomFor}
use Rattle.dictionary.specs.Scratch.{found_at}
use Rattle.dictionary.specs.Steps.{nonzeros}
use Rattle.dictionary.proofs.ChangedSums.{few_of_both}
use Rattle.dictionary.proofs.FilledColumns.{found_replaced, found_fit, found_wide, found_room}
use Rattle.dictionary.proofs.replacing.change_fractions.Goals as goal
use Rattle.dictionary.proofs.replacing.change_fractions.Goals.{After-index-factor, After-add_values}

pub spread-requires : goal.spread-requires
spread-requires g c = let r = c.requires.rows in (r.0, subst (λ k. IsRow k r.0 c.args.row.now) (sym (ap length c.as_mut_slice.ensures.value)) r.1)

pub spread-requires-2 : goal.spread-requires-2
spread-requires-2 g c =
    let r = c.requires.rows in
    let s = c.args.scratch.now in
    (r.0, subst (λ k. IsRow k r.0 c.args.by.now) (sym (ap length c.as_mut_slice-2.ensures.value ∙ s.same)) r.2)

-- what was lent comes back
values : (g : _) (c : After-index-factor g) → (with_items c.args.scratch.now.values c.spread.new.values).items ≡ c.spread.new.values
values g c = with_items_is c.args.scratch.now.values c.spread.new.values (c.spread.auto.values ∙ c.as_mut_slice.ensures.len)

others : (g : _) (c : After-index-factor g) → (with_items c.args.scratch.now.others c.spread-2.new.values).items ≡ c.spread-2.new.values
others g c = with_items_is c.args.scratch.now.others c.spread-2.new.values (c.spread-2.auto.values ∙ c.as_mut_slice-2.ensures.len)

count : (g : _) (c : After-index-factor g) → length (with_items c.args.scratch.now.values c.spread.new.values).items ≡ length c.args.scratch.now.values.items
count g c = ap length (values g c) ∙ c.spread.auto.values ∙ ap length c.as_mut_slice.ensures.value

-- the factor is the row's number at the column that goes
factor : (g : _) (c : After-index-factor g) → ratio c.index-factor.result.now ≡ numbers_of c.args.row.now c.args.skip
factor g c =
    let l = c.requires.inside in
    let n = count g c in
    sym (read (with_items c.args.scratch.now.values c.spread.new.values).items c.args.skip c.index-factor.result.now (omega arith) c.index-factor.ensures) ∙ ap (λ (xs : List Frac). value_at (ratios xs) c.args.skip) (values g c) ∙ c.spread.ensures.spread c.args.skip c.requires.stands

pub invariant_of-scratch : goal.invariant_of-scratch
invariant_of-scratch g c =
    let s = c.args.scratch.now in
    let vs : (with_items s.values c.spread.new.values).items ≡ c.spread.new.values = with_items_is s.values c.spread.new.values (c.spread.auto.values ∙ c.as_mut_slice.ensures.len) in
    let os : (with_items s.others c.spread-2.new.values).items ≡ c.spread-2.new.values = with_items_is s.others c.spread-2.new.values (c.spread-2.auto.values ∙ c.as_mut_slice-2.ensures.len) in
    let n : length (with_items s.values c.spread.new.values).items ≡ length s.values.items = ap length vs ∙ c.spread.auto.values ∙ ap length c.as_mut_slice.ensures.value in
    record {
      same = ap length os ∙ c.spread-2.auto.values ∙ ap length c.as_mut_slice-2.ensures.value ∙ s.same ∙ sym n;
      as_many = s.as_many ∙ sym n;
      marks = s.marks ∙ ap words_over (sym n);
    }

pub add_values-requires-clause-rows : goal.add_values-requires-clause-rows
add_values-requires-clause-rows g c =
    let r = c.requires.rows in
    let n = count g (goal.at.add_values-requires-clause-rows g c).After-index-factor in
    (r.0, subst (λ k. IsRow k r.0 c.args.row.now) (sym n) r.1, subst (λ k. IsRow k r.0 c.args.by.now) (sym n) r.2)

pub add_values-requires-clause-values : goal.add_values-requires-clause-values
add_values-requires-clause-values g c = subst (λ (xs : List Frac). IsSpread c.args.row.now (ratios xs)) (sym (values g (goal.at.add_values-requires-clause-values g c).After-index-factor)) c.spread.ensures.spread

pub add_values-requires-clause-others : goal.add_values-requires-clause-others
add_values-requires-clause-others g c = subst (λ (xs : List Frac). IsSpread c.args.by.now (ratios xs)) (sym (others g (goal.at.add_values-requires-clause-others g c).After-index-factor)) c.spread-2.ensures.spread

pub returns-in_err-add_values-clause-count : goal.returns-in_err-add_values-clause-count
returns-in_err-add_values-clause-count g c = c.add_values.ensures.count ∙ count g (goal.at.returns-in_err-add_values-clause-count g c).After-index-factor

pub returns-in_err-add_values-clause-wide : goal.returns-in_err-add_values-clause-wide
returns-in_err-add_values-clause-wide g c =
    let row = c.args.row.now in
    at_err c.from_residual.result (found_wide (numbers_of row) (numbers_of c.args.by.now) (found_at c.add_values.new.scratch) (numbers_of row) c.args.skip c.index-factor.result.now (factor g (goal.at.returns-in_err-add_values-clause-wide g c).After-index-factor) c.requires.gone c.in_err-add_values.ensures.wide)

pub settle-requires-clause-row : goal.settle-requires-clause-row
settle-requires-clause-row g c =
    let r = c.requires.rows in
    let n = c.add_values.ensures.count ∙ count g (goal.at.settle-requires-clause-row g c).After-index-factor in (
      r.0,
      subst (λ k. IsRow k r.0 c.args.row.now) (sym n) r.1,
      found_room _ r.0 c.args.skip (numbers_of c.args.row.now) (numbers_of c.args.by.now) (found_at c.add_values.new.scratch) c.in_ok-add_values.ensures.gone c.in_ok-add_values.ensures.stands (subst (λ k. HasRoomFor k (numbers_of c.args.row.now) (numbers_of c.args.by.now) c.args.skip r.0) (sym n) r.3),
    )

pub returns-clause-row : goal.returns-clause-row
returns-clause-row g c m is =
    let n = c.add_values.ensures.count ∙ count g (goal.at.returns-clause-row g c).After-index-factor in
    subst (λ k. IsRow k m c.settle.new.row) n (c.settle.ensures.row m (subst (λ k. IsRow k m c.args.row.now) (sym n) is))

pub returns-clause-count : goal.returns-clause-count
returns-clause-count g c = c.add_values.ensures.count ∙ count g (goal.at.returns-clause-count g c).After-index-factor

pub returns-clause-is : goal.returns-clause-is
returns-clause-is g c =
    let row = c.args.row.now in
    let found = c.in_ok-add_values.ensures in
    found_replaced (numbers_of row) (numbers_of c.args.by.now) (found_at c.add_values.new.scratch) (numbers_of c.settle.new.row) c.args.skip c.index-factor.result.now (factor g (goal.at.returns-clause-is g c).After-index-factor) c.requires.gone found.gone found.is c.settle.ensures.is

pub returns-clause-fits : goal.returns-clause-fits
returns-clause-fits g c =
    let row = c.args.row.now in
    found_fit (numbers_of row) (numbers_of c.args.by.now) (found_at c.add_values.new.scratch) (numbers_of c.settle.new.row) c.args.skip c.index-factor.result.now (factor g (goal.at.returns-clause-fits g c).After-index-factor) c.requires.gone c.in_ok-add_values.ensures.fits

pub returns-clause-cost : goal.returns-clause-cost
returns-clause-cost g c =
    let k : ℕ = length c.args.scratch.now.values.items in
    let s = c.args.scratch.now in
    let n = c.add_values.ensures.count ∙ count g (goal.at.returns-clause-cost g c).After-index-factor in
    let a = subst (λ m. c.spread.new.steps ≤ c.args.steps.now + nonzeros m (numbers_of c.args.row.now)) (ap length c.as_mut_slice.ensures.value) c.spread.ensures.cost in
    let b = subst (λ m. c.spread-2.new.steps ≤ c.spread.new.steps + nonzeros m (numbers_of c.args.by.now)) (ap length c.as_mut_slice-2.ensures.value ∙ s.same) c.spread-2.ensures.cost in
    let d = subst (λ m. c.settle.new.steps ≤ c.spread-2.new.steps + nonzeros m (found_at c.add_values.new.scratch)) n c.settle.ensures.cost in
    let few = few_of_both k (found_at c.add_values.new.scratch) (numbers_of c.args.row.now) (numbers_of c.args.by.now) c.in_ok-add_values.ensures.stands in
    omega arith
