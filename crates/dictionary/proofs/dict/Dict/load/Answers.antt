use Rattle.std.proofs.Common.{◌≡◌, ℕ, ◌+◌, ◌-◌, ◌<◌, ◌≤◌, List, length, slice_index, w8, arith, refl, sym, ◌∙◌, ap, ap₂, subst}
use Rattle.std.specs.Vec.{with_items}
use Rattle.std.specs.List.{All}
use Rattle.std.proofs.lemmas.List.{with_items_is}
use Rattle.std.proofs.lemmas.Int.{to_z-of_z}
use Rattle.rational.specs.Ratio.{Ratio}
use Rattle.evidence.specs.Sums.{none}
use Rattle.instance.specs.Parts.{IsInside}
use Rattle.dictionary.specs.declared.row.Row.{Row}
use Rattle.dictionary.specs.ProgramRows.{program_rows}
use Rattle.dictionary.specs.Rows.{numbers_in, AreRows}
use Rattle.dictionary.specs.Dict.{width_of, height_of, IsJustLoaded}
use Rattle.dictionary.proofs.FirstDictionary.{first_holds, first_basis, rows-number, own_places}
use Rattle.dictionary.proofs.MarkedColumns.{rows_marked}
use Rattle.dictionary.proofs.ProgramRows.{program_past}
use Rattle.dictionary.proofs.dict.Dict.load.Goals as goal
use Rattle.dictionary.proofs.dict.Dict.load.Goals.{After-as_mut_slice-places, After-mark_rows}

rows_count : (g : _) (c : After-as_mut_slice-places g) → length c.as_mut_slice-rows.result.now ≡ c.args.self.now.height + 1
rows_count g c = let d = c.args.self.now in ap length c.as_mut_slice-rows.ensures.value ∙ d.count

costs_count : (g : _) (c : After-as_mut_slice-places g) → length c.args.costs.now ≡ c.args.self.now.width
unfolding width_of
costs_count g c = c.requires.costs

-- as many columns as costs and rows
all_count : (g : _) (c : After-as_mut_slice-places g) → length c.args.costs.now + length c.as_mut_slice-rows.result.now ≡ c.args.self.now.width + (c.args.self.now.height + 1)
all_count g c = let m = rows_count g c in let n = costs_count g c in omega arith

inside : (g : _) (c : After-as_mut_slice-places g) → All (IsInside c.args.self.now.height (length c.args.costs.now)) c.args.matrix.now
unfolding width_of height_of
inside g c = subst (λ n. All (IsInside c.args.self.now.height n) c.args.matrix.now) (sym (costs_count g c)) c.requires.inside

pub clear-requires : goal.clear-requires
clear-requires g c = let d = c.args.self.now in (d.width + (d.height + 1), d.width, d.own_is)

pub load_rows-requires-clause-goal : goal.load_rows-requires-clause-goal
load_rows-requires-clause-goal g c = let m = rows_count g (goal.at.load_rows-requires-clause-goal g c).After-as_mut_slice-places in omega arith

pub load_rows-requires-clause-inside : goal.load_rows-requires-clause-inside
load_rows-requires-clause-inside g c =
    let at' = (goal.at.load_rows-requires-clause-inside g c).After-as_mut_slice-places in
    let m = rows_count g at' in
    subst (λ k. All (IsInside k (length c.args.costs.now)) c.args.matrix.now) (let e : c.args.self.now.height ≡ length c.as_mut_slice-rows.result.now - 1 = omega arith in e) (inside g at')

pub load_rows-requires-clause-columns : goal.load_rows-requires-clause-columns
load_rows-requires-clause-columns g c = let d = c.args.self.now in d.scratch_count ∙ sym (all_count g (goal.at.load_rows-requires-clause-columns g c).After-as_mut_slice-places)

pub load_rows-requires-clause-rows : goal.load_rows-requires-clause-rows
load_rows-requires-clause-rows g c =
    let d = c.args.self.now in
    let at' = (goal.at.load_rows-requires-clause-rows g c).After-as_mut_slice-places in
    subst (λ k. AreRows k (length c.args.costs.now) c.as_mut_slice-rows.result.now) (sym (all_count g at'))
    (subst (λ n. AreRows (d.width + (d.height + 1)) n c.as_mut_slice-rows.result.now) (sym (costs_count g at')) (subst (λ (R : List (Row _ _)). AreRows (d.width + (d.height + 1)) d.width R) (sym c.as_mut_slice-rows.ensures.value) d.rows_are))

pub mark_rows-requires-clause-inside : goal.mark_rows-requires-clause-inside
mark_rows-requires-clause-inside g c = let d = c.args.self.now in d.marks_count

pub mark_rows-requires-clause-few : goal.mark_rows-requires-clause-few
mark_rows-requires-clause-few g c = let d = c.args.self.now in let f = d.few in omega arith

-- what was lent comes back
new_rows : (g : _) (c : After-mark_rows g) → (with_items c.args.self.now.rows c.load_rows.new.rows).items ≡ c.load_rows.new.rows
new_rows g c = with_items_is c.args.self.now.rows c.load_rows.new.rows (c.load_rows.auto.rows ∙ c.as_mut_slice-rows.ensures.len)

rows_after : (g : _) (c : After-mark_rows g) → length c.args.costs.now ≡ c.args.self.now.width → length c.args.costs.now + length c.as_mut_slice-rows.result.now ≡ c.args.self.now.width + (c.args.self.now.height + 1) → AreRows (c.args.self.now.width + (c.args.self.now.height + 1)) c.args.self.now.width (with_items c.args.self.now.rows c.load_rows.new.rows).items
rows_after g c costs all =
    let d = c.args.self.now in
    subst (λ (R : List (Row _ _)). AreRows (d.width + (d.height + 1)) d.width R) (sym (new_rows g c))
    (subst (λ n. AreRows (d.width + (d.height + 1)) n c.load_rows.new.rows) costs (subst (λ k. AreRows k (length c.args.costs.now) c.load_rows.new.rows) all c.load_rows.ensures.rows))

at_is : (g : _) (c : After-mark_rows g) (k : ℕ) → k < c.args.self.now.width + (c.args.self.now.height + 1) → slice_index (with_items c.args.self.now.columns c.number.new.list).items k ≡ k
at_is g c k l =
    let d = c.args.self.now in
    let count : length c.as_mut_slice-columns.result.now ≡ d.width + (d.height + 1) = ap length c.as_mut_slice-columns.ensures.value ∙ d.columns_count in
    subst (λ (xs : List ℕ). slice_index xs k ≡ k) (sym (with_items_is d.columns c.number.new.list (c.number.auto.list ∙ c.as_mut_slice-columns.ensures.len))) (c.number.ensures k (omega arith))

place_is : (g : _) (c : After-mark_rows g) (k : ℕ) → k < c.args.self.now.width + (c.args.self.now.height + 1) → slice_index (with_items c.args.self.now.places c.number-2.new.list).items k ≡ k
place_is g c k l =
    let d = c.args.self.now in
    let count : length c.as_mut_slice-places.result.now ≡ d.width + (d.height + 1) = ap length c.as_mut_slice-places.ensures.value ∙ d.places_count in
    subst (λ (xs : List ℕ). slice_index xs k ≡ k) (sym (with_items_is d.places c.number-2.new.list (c.number-2.auto.list ∙ c.as_mut_slice-places.ensures.len))) (c.number-2.ensures k (omega arith))

told : (g : _) (c : After-mark_rows g) (r j : ℕ) → r < c.args.self.now.height + 1 → numbers_in (with_items c.args.self.now.rows c.load_rows.new.rows).items r j ≡ program_rows c.args.matrix.now c.args.costs.now c.args.factor c.args.self.now.height r j
told g c r j l =
    let d = c.args.self.now in
    let m : length c.as_mut_slice-rows.result.now ≡ d.height + 1 = ap length c.as_mut_slice-rows.ensures.value ∙ d.count in
    let last : length c.as_mut_slice-rows.result.now - 1 ≡ d.height = omega arith in
    ap (λ (R : List (Row _ _)). numbers_in R r j) (new_rows g c) ∙ c.load_rows.ensures.numbers r j (omega arith) ∙ ap₂ (λ z k. program_rows c.args.matrix.now c.args.costs.now z k r j) (to_z-of_z w8 c.args.factor c.ranges.factor) last

past : (g : _) (c : After-mark_rows g) → length c.args.costs.now ≡ c.args.self.now.width → All (IsInside c.args.self.now.height (length c.args.costs.now)) c.args.matrix.now → (r j : ℕ) → c.args.self.now.width ≤ j → program_rows c.args.matrix.now c.args.costs.now c.args.factor c.args.self.now.height r j ≡ none
past g c n inside r j l = program_past c.args.matrix.now c.args.costs.now c.args.factor c.args.self.now.height inside r j (omega arith)

pub invariant_of-self : goal.invariant_of-self
invariant_of-self g c =
    let d = c.args.self.now in
    let all = goal.at.invariant_of-self g c in
    let at' = all.After-mark_rows in
    record {
      count = ap length (new_rows g at') ∙ c.load_rows.auto.rows ∙ rows_count g all.After-as_mut_slice-places;
      rows_are = rows_after g at' (costs_count g all.After-as_mut_slice-places) (all_count g all.After-as_mut_slice-places);
      own_is = c.clear.ensures.row (d.width + (d.height + 1)) d.width d.own_is;
      own_empty = λ _ j. ap (λ (v : Ratio). v.num) (c.clear.ensures.none j);
      scratch_count = c.load_rows.ensures.count ∙ d.scratch_count;
      columns_count = ap length (with_items_is d.columns c.number.new.list (c.number.auto.list ∙ c.as_mut_slice-columns.ensures.len)) ∙ c.number.auto.list ∙ ap length c.as_mut_slice-columns.ensures.value ∙ d.columns_count;
      places_count = ap length (with_items_is d.places c.number-2.new.list (c.number-2.auto.list ∙ c.as_mut_slice-places.ensures.len)) ∙ c.number-2.auto.list ∙ ap length c.as_mut_slice-places.ensures.value ∙ d.places_count;
      basis = own_places (d.width + (d.height + 1)) (slice_index (with_items d.columns c.number.new.list).items) (slice_index (with_items d.places c.number-2.new.list).items) (at_is g at') (place_is g at');
      few = d.few;
      goal = at_is g at' (d.width + d.height) (omega arith);
      marks_count = let a = d.marks_count in let b = c.mark_rows.ensures.size in omega arith;
      marks_are = λ _. rows_marked (d.width + d.height) d.width _ c.mark_rows.new.basic (λ k l. place_is g at' k (omega arith)) c.mark_rows.ensures.variables c.mark_rows.ensures.rows c.mark_rows.ensures.past;
    }

pub returns-clause-size : goal.returns-clause-size
unfolding width_of height_of
returns-clause-size g c = record { width = refl; height = refl }

pub returns-clause-first : goal.returns-clause-first
unfolding width_of height_of IsJustLoaded
returns-clause-first g c =
    let all = goal.at.returns-clause-first g c in
    let at' = all.After-mark_rows in
    (rows-number c.args.matrix.now c.args.costs.now c.args.factor c.args.self.now.height, refl, told g at', past g at' (costs_count g all.After-as_mut_slice-places) (inside g all.After-as_mut_slice-places), at_is g at', place_is g at')

pub returns-clause-holds : goal.returns-clause-holds
returns-clause-holds g c = first_holds _ _ (returns-clause-first g c)

pub returns-clause-basis : goal.returns-clause-basis
unfolding width_of height_of
returns-clause-basis g c = first_basis _ _ (returns-clause-first g c)

pub returns-clause-cost : goal.returns-clause-cost
unfolding width_of
returns-clause-cost g c = let k = c.load_rows.ensures.cost in let n = costs_count g (goal.at.returns-clause-cost g c).After-as_mut_slice-places in omega arith
