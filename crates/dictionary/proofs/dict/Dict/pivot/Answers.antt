use Rattle.std.proofs.Common.{◌≡◌, ℕ, ◌+◌, ◌-◌, ◌<◌, ◌≤◌, pos, List, length, slice_index, arith, refl, sym, ◌∙◌, ap, subst}
use Rattle.std.specs.Vec.{with_items}
use Rattle.std.proofs.lemmas.List.{with_items_is}
use Rattle.instance.proofs.Terms.{at_err}
use Rattle.dictionary.specs.declared.row.Row.{Row}
use Rattle.dictionary.specs.Numbers.{HasNumber}
use Rattle.dictionary.specs.Rows.{numbers_in, IsRow, AreRows, IsTableTurned, TableFits, PivotHasRoom, replacements_cost}
use Rattle.dictionary.specs.Basis.{ChangePlaces}
use Rattle.dictionary.specs.Dict.{width_of, height_of, IsLoaded}
use Rattle.dictionary.proofs.DictParts.{cols, place, placed, not_loaded, moved_there}
use Rattle.dictionary.proofs.DictPivots.{carried, b_inside, e_inside, row_inside, row_stands, row_absent, room_there, b_apart, places_kept, goal_kept, never_fits, fits_there, bounded, turned_basis, turned_entries, turned_holds}
use Rattle.dictionary.proofs.MarkedColumns.{b_within, e_within, never, marked_after}
use Rattle.dictionary.proofs.dict.Dict.pivot.Goals as goal
use Rattle.dictionary.proofs.dict.Dict.pivot.Goals.{After-as_mut_slice-rows, After-pivot_rows, After-exchange}

-- what was read and lent is the dictionary's
row_is : (g : _) (c : After-as_mut_slice-rows g) → c.row_of-p.result ≡ place c.args.self.now c.args.basic - c.args.self.now.width
row_is g c = c.row_of-p.ensures

columns_are : (g : _) (c : After-as_mut_slice-rows g) → length c.args.self.now.scratch.values.items ≡ c.args.self.now.width + length c.args.self.now.rows.items
columns_are g c = let d = c.args.self.now in d.scratch_count ∙ ap (λ k. d.width + k) (sym d.count)

pub row_of-p-requires : goal.row_of-p-requires
row_of-p-requires g c = let d = c.args.self.now in let i = b_inside d c.args.basic c.args.nonbasic c.requires.basic c.requires.nonbasic in let p = d.places_count in let n = d.count in omega arith

pub pivot_rows-requires-clause-p : goal.pivot_rows-requires-clause-p
pivot_rows-requires-clause-p g c =
    let d = c.args.self.now in
    carried (λ R p. p < length R) c.as_mut_slice-rows.result.now d.rows.items c.row_of-p.result (place d c.args.basic - d.width) c.as_mut_slice-rows.ensures.value (row_is g (goal.at.pivot_rows-requires-clause-p g c).After-as_mut_slice-rows) (row_inside d c.args.basic c.args.nonbasic c.requires.basic c.requires.nonbasic c.requires.loaded)

pub pivot_rows-requires-clause-rows : goal.pivot_rows-requires-clause-rows
pivot_rows-requires-clause-rows g c =
    let d = c.args.self.now in
    let at' = (goal.at.pivot_rows-requires-clause-rows g c).After-as_mut_slice-rows in
    let k : ℕ = length d.scratch.values.items in
    let wide : k ≡ d.width + (d.height + 1) = d.scratch_count in (
      d.width,
      subst (λ (R : List (Row _ _)). AreRows k d.width R) (sym c.as_mut_slice-rows.ensures.value) (subst (λ m. AreRows m d.width d.rows.items) (sym wide) d.rows_are),
      subst (λ m. IsRow m d.width d.own) (sym wide) d.own_is,
      carried (λ R p. PivotHasRoom k (numbers_in R) p c.args.basic c.args.nonbasic (length R) d.width) c.as_mut_slice-rows.result.now d.rows.items c.row_of-p.result (place d c.args.basic - d.width) c.as_mut_slice-rows.ensures.value (row_is g at')
          (subst (λ m. PivotHasRoom m (numbers_in d.rows.items) (place d c.args.basic - d.width) c.args.basic c.args.nonbasic (length d.rows.items) d.width) (sym (columns_are g at')) (room_there d c.args.basic c.args.nonbasic c.requires.basic c.requires.nonbasic c.requires.loaded c.requires.nonzero)),
    )

pub pivot_rows-requires-clause-empty : goal.pivot_rows-requires-clause-empty
unfolding IsLoaded
pivot_rows-requires-clause-empty g c = let d = c.args.self.now in let h = c.requires.loaded in d.own_empty h.0

pub pivot_rows-requires-clause-inside : goal.pivot_rows-requires-clause-inside
pivot_rows-requires-clause-inside g c = let d = c.args.self.now in let b = b_within d c.args.basic c.args.nonbasic c.requires.basic c.requires.nonbasic c.requires.loaded in let k = d.scratch_count in omega arith

pub pivot_rows-requires-clause-stands : goal.pivot_rows-requires-clause-stands
pivot_rows-requires-clause-stands g c =
    let d = c.args.self.now in
    carried (λ R p. HasNumber (numbers_in R p) c.args.nonbasic) c.as_mut_slice-rows.result.now d.rows.items c.row_of-p.result (place d c.args.basic - d.width) c.as_mut_slice-rows.ensures.value (row_is g (goal.at.pivot_rows-requires-clause-stands g c).After-as_mut_slice-rows) (row_stands d c.args.basic c.args.nonbasic c.requires.basic c.requires.nonbasic c.requires.loaded c.requires.nonzero)

pub pivot_rows-requires-clause-absent : goal.pivot_rows-requires-clause-absent
pivot_rows-requires-clause-absent g c =
    let d = c.args.self.now in
    carried (λ R p. (numbers_in R p c.args.basic).num ≡ pos 0) c.as_mut_slice-rows.result.now d.rows.items c.row_of-p.result (place d c.args.basic - d.width) c.as_mut_slice-rows.ensures.value (row_is g (goal.at.pivot_rows-requires-clause-absent g c).After-as_mut_slice-rows) (row_absent d c.args.basic c.args.nonbasic c.requires.basic c.requires.nonbasic c.requires.loaded)

pub pivot_rows-requires-clause-apart : goal.pivot_rows-requires-clause-apart
pivot_rows-requires-clause-apart g c = b_apart c.args.self.now c.args.basic c.args.nonbasic c.requires.basic c.requires.nonbasic

-- what comes back
new_rows : (g : _) (c : After-pivot_rows g) → (with_items c.args.self.now.rows c.pivot_rows.new.rows).items ≡ c.pivot_rows.new.rows
new_rows g c = with_items_is c.args.self.now.rows c.pivot_rows.new.rows (c.pivot_rows.auto.rows ∙ c.as_mut_slice-rows.ensures.len)

rows_after : (g : _) (c : After-pivot_rows g) → AreRows (c.args.self.now.width + (c.args.self.now.height + 1)) c.args.self.now.width (with_items c.args.self.now.rows c.pivot_rows.new.rows).items
rows_after g c =
    let d = c.args.self.now in
    let k : ℕ = length d.scratch.values.items in
    let wide : k ≡ d.width + (d.height + 1) = d.scratch_count in
    let was : AreRows k d.width c.as_mut_slice-rows.result.now = subst (λ (R : List (Row _ _)). AreRows k d.width R) (sym c.as_mut_slice-rows.ensures.value) (subst (λ m. AreRows m d.width d.rows.items) (sym wide) d.rows_are) in
    subst (λ (R : List (Row _ _)). AreRows (d.width + (d.height + 1)) d.width R) (sym (new_rows g c)) (subst (λ m. AreRows m d.width c.pivot_rows.new.rows) wide (c.pivot_rows.ensures.rows d.width was (subst (λ m. IsRow m d.width d.own) (sym wide) d.own_is)))

own_after : (g : _) (c : After-pivot_rows g) → IsRow (c.args.self.now.width + (c.args.self.now.height + 1)) c.args.self.now.width c.pivot_rows.new.own
own_after g c =
    let d = c.args.self.now in
    let k : ℕ = length d.scratch.values.items in
    let wide : k ≡ d.width + (d.height + 1) = d.scratch_count in
    let was : AreRows k d.width c.as_mut_slice-rows.result.now = subst (λ (R : List (Row _ _)). AreRows k d.width R) (sym c.as_mut_slice-rows.ensures.value) (subst (λ m. AreRows m d.width d.rows.items) (sym wide) d.rows_are) in
    subst (λ m. IsRow m d.width c.pivot_rows.new.own) wide (c.pivot_rows.ensures.own d.width was (subst (λ m. IsRow m d.width d.own) (sym wide) d.own_is))

count_after : (g : _) (c : After-pivot_rows g) → length (with_items c.args.self.now.rows c.pivot_rows.new.rows).items ≡ c.args.self.now.height + 1
count_after g c = let d = c.args.self.now in ap length (new_rows g c) ∙ c.pivot_rows.auto.rows ∙ ap length c.as_mut_slice-rows.ensures.value ∙ d.count

cost_after : (g : _) (c : After-pivot_rows g) → c.row_of-p.result ≡ place c.args.self.now c.args.basic - c.args.self.now.width → length c.args.self.now.scratch.values.items ≡ c.args.self.now.width + length c.args.self.now.rows.items → c.pivot_rows.new.steps ≤ c.args.steps.now + replacements_cost (c.args.self.now.width + length c.args.self.now.rows.items) (numbers_in c.args.self.now.rows.items) (numbers_in c.args.self.now.rows.items (place c.args.self.now c.args.basic - c.args.self.now.width)) c.args.nonbasic (length c.args.self.now.rows.items)
cost_after g c there wide =
    let d = c.args.self.now in
    let s = c.args.steps.now in
    carried (λ R p. c.pivot_rows.new.steps ≤ s + replacements_cost (d.width + length d.rows.items) (numbers_in R) (numbers_in R p) c.args.nonbasic (length R)) d.rows.items c.as_mut_slice-rows.result.now (place d c.args.basic - d.width) c.row_of-p.result (sym c.as_mut_slice-rows.ensures.value) (sym there)
    (subst (λ k. c.pivot_rows.new.steps ≤ s + replacements_cost k (numbers_in c.as_mut_slice-rows.result.now) (numbers_in c.as_mut_slice-rows.result.now c.row_of-p.result) c.args.nonbasic (length c.as_mut_slice-rows.result.now)) wide c.pivot_rows.ensures.cost)

pub invariant_of-self-in-Break-1 : goal.invariant_of-self-in-Break-1
invariant_of-self-in-Break-1 g c =
    let d = c.args.self.now in
    let at' = (goal.at.invariant_of-self-in-Break-1 g c).After-pivot_rows in
    record {
      count = count_after g at';
      rows_are = rows_after g at';
      own_is = own_after g at';
      own_empty = λ h. never h;
      scratch_count = c.pivot_rows.ensures.count ∙ d.scratch_count;
      columns_count = d.columns_count;
      places_count = d.places_count;
      basis = d.basis;
      few = d.few;
      goal = d.goal;
      marks_count = d.marks_count;
      marks_are = λ h. never h;
    }

pub returns-in_err-pivot_rows-clause-size : goal.returns-in_err-pivot_rows-clause-size
unfolding width_of height_of
returns-in_err-pivot_rows-clause-size g c = record { width = refl; height = refl }

pub returns-in_err-pivot_rows-clause-wide : goal.returns-in_err-pivot_rows-clause-wide
returns-in_err-pivot_rows-clause-wide g c =
    let d = c.args.self.now in
    let at' = (goal.at.returns-in_err-pivot_rows-clause-wide g c).After-as_mut_slice-rows in
    at_err c.from_residual.result (never_fits d c.args.basic c.args.nonbasic c.requires.basic c.requires.nonbasic c.requires.loaded c.requires.nonzero
    (carried (λ R p. TableFits p c.args.basic c.args.nonbasic (numbers_in R) (length R) → ⊥) d.rows.items c.as_mut_slice-rows.result.now (place d c.args.basic - d.width) c.row_of-p.result (sym c.as_mut_slice-rows.ensures.value) (sym (row_is g at')) c.in_err-pivot_rows.ensures.wide))

pub returns-in_err-pivot_rows-clause-unloaded : goal.returns-in_err-pivot_rows-clause-unloaded
returns-in_err-pivot_rows-clause-unloaded g c = at_err c.from_residual.result (not_loaded _ refl)

pub returns-in_err-pivot_rows-clause-cost : goal.returns-in_err-pivot_rows-clause-cost
returns-in_err-pivot_rows-clause-cost g c digits l =
    let d = c.args.self.now in
    let all = goal.at.returns-in_err-pivot_rows-clause-cost g c in
    bounded d c.args.basic c.args.nonbasic c.requires.basic c.requires.nonbasic c.requires.loaded digits c.args.steps.now c.pivot_rows.new.steps (cost_after g all.After-pivot_rows (row_is g all.After-as_mut_slice-rows) (columns_are g all.After-as_mut_slice-rows))

pub exchange-requires-clause-a : goal.exchange-requires-clause-a
exchange-requires-clause-a g c = let d = c.args.self.now in let i = b_inside d c.args.basic c.args.nonbasic c.requires.basic c.requires.nonbasic in let j = e_inside d c.args.basic c.args.nonbasic c.requires.basic c.requires.nonbasic in let n = d.count in let q = d.places_count in let l = ap length c.as_mut_slice-places.ensures.value in omega arith

pub exchange-requires-clause-b : goal.exchange-requires-clause-b
exchange-requires-clause-b g c = let d = c.args.self.now in let i = b_inside d c.args.basic c.args.nonbasic c.requires.basic c.requires.nonbasic in let j = e_inside d c.args.basic c.args.nonbasic c.requires.basic c.requires.nonbasic in let n = d.count in let q = d.places_count in let l = ap length c.as_mut_slice-places.ensures.value in omega arith

pub exchange-requires-clause-a_stands : goal.exchange-requires-clause-a_stands
exchange-requires-clause-a_stands g c =
    let d = c.args.self.now in
    let i = b_inside d c.args.basic c.args.nonbasic c.requires.basic c.requires.nonbasic in
    let p = placed d in
    let s : place d c.args.basic < d.width + length d.rows.items = p.stands c.args.basic i in
    let n = d.count in
    let m = d.columns_count in
    let k = ap length c.as_mut_slice-columns.ensures.value in
    let e : slice_index c.as_mut_slice-places.result.now c.args.basic ≡ place d c.args.basic = ap (λ (X : List ℕ). slice_index X c.args.basic) c.as_mut_slice-places.ensures.value in
    omega arith

pub exchange-requires-clause-b_stands : goal.exchange-requires-clause-b_stands
exchange-requires-clause-b_stands g c =
    let d = c.args.self.now in
    let j = e_inside d c.args.basic c.args.nonbasic c.requires.basic c.requires.nonbasic in
    let p = placed d in
    let s : place d c.args.nonbasic < d.width + length d.rows.items = p.stands c.args.nonbasic j in
    let n = d.count in
    let m = d.columns_count in
    let k = ap length c.as_mut_slice-columns.ensures.value in
    let e : slice_index c.as_mut_slice-places.result.now c.args.nonbasic ≡ place d c.args.nonbasic = ap (λ (X : List ℕ). slice_index X c.args.nonbasic) c.as_mut_slice-places.ensures.value in
    omega arith

pub unmark-requires : goal.unmark-requires
unmark-requires g c = let d = c.args.self.now in let a = d.marks_count in let b = b_within d c.args.basic c.args.nonbasic c.requires.basic c.requires.nonbasic c.requires.loaded in omega arith

pub mark-requires : goal.mark-requires
mark-requires g c = let d = c.args.self.now in let a = d.marks_count in let b = e_within d c.args.basic c.args.nonbasic c.requires.basic c.requires.nonbasic c.requires.loaded in let s = c.unmark.ensures.size in omega arith

-- the columns and places after the exchange
new_columns : (g : _) (c : After-exchange g) → (with_items c.args.self.now.columns c.exchange.new.columns).items ≡ c.exchange.new.columns
new_columns g c = with_items_is c.args.self.now.columns c.exchange.new.columns (c.exchange.auto.columns ∙ c.as_mut_slice-columns.ensures.len)

new_places : (g : _) (c : After-exchange g) → (with_items c.args.self.now.places c.exchange.new.places).items ≡ c.exchange.new.places
new_places g c = with_items_is c.args.self.now.places c.exchange.new.places (c.exchange.auto.places ∙ c.as_mut_slice-places.ensures.len)

moved : (g : _) (c : After-exchange g) → ChangePlaces (place c.args.self.now c.args.basic) (place c.args.self.now c.args.nonbasic) (cols c.args.self.now) (slice_index (with_items c.args.self.now.columns c.exchange.new.columns).items)
moved g c =
    let d = c.args.self.now in
    subst (λ (X : List ℕ). ChangePlaces (place d c.args.basic) (place d c.args.nonbasic) (cols d) (slice_index X)) (sym (new_columns g c)) (moved_there d c.args.basic c.args.nonbasic c.as_mut_slice-places.result.now c.as_mut_slice-columns.result.now (slice_index c.exchange.new.columns) c.as_mut_slice-places.ensures.value c.as_mut_slice-columns.ensures.value c.exchange.ensures.columns)

changed : (g : _) (c : After-exchange g) → ChangePlaces c.args.basic c.args.nonbasic (place c.args.self.now) (slice_index (with_items c.args.self.now.places c.exchange.new.places).items)
changed g c =
    let d = c.args.self.now in
    subst (λ (X : List ℕ). ChangePlaces c.args.basic c.args.nonbasic (place d) (slice_index X)) (sym (new_places g c)) (subst (λ (X : List ℕ). ChangePlaces c.args.basic c.args.nonbasic (slice_index X) (slice_index c.exchange.new.places)) c.as_mut_slice-places.ensures.value c.exchange.ensures.places)

turned : (g : _) (c : After-exchange g) → c.row_of-p.result ≡ place c.args.self.now c.args.basic - c.args.self.now.width → (with_items c.args.self.now.rows c.pivot_rows.new.rows).items ≡ c.pivot_rows.new.rows → IsTableTurned (place c.args.self.now c.args.basic - c.args.self.now.width) c.args.basic c.args.nonbasic (numbers_in c.args.self.now.rows.items) (numbers_in (with_items c.args.self.now.rows c.pivot_rows.new.rows).items) (length c.args.self.now.rows.items)
turned g c there rows =
    let d = c.args.self.now in
    subst (λ (X : List (Row _ _)). IsTableTurned (place d c.args.basic - d.width) c.args.basic c.args.nonbasic (numbers_in d.rows.items) (numbers_in X) (length d.rows.items)) (sym rows)
    (carried (λ R p. IsTableTurned p c.args.basic c.args.nonbasic (numbers_in R) (numbers_in c.pivot_rows.new.rows) (length R)) d.rows.items c.as_mut_slice-rows.result.now (place d c.args.basic - d.width) c.row_of-p.result (sym c.as_mut_slice-rows.ensures.value) (sym there) c.in_ok-pivot_rows.ensures.is)

pub invariant_of-self-2 : goal.invariant_of-self-2
invariant_of-self-2 g c =
    let d = c.args.self.now in
    let all = goal.at.invariant_of-self-2 g c in
    let at' = all.After-exchange in
    record {
      count = count_after g all.After-pivot_rows;
      rows_are = rows_after g all.After-pivot_rows;
      own_is = own_after g all.After-pivot_rows;
      own_empty = λ _. c.in_ok-pivot_rows.ensures.empty;
      scratch_count = c.pivot_rows.ensures.count ∙ d.scratch_count;
      columns_count = ap length (new_columns g at') ∙ c.exchange.auto.columns ∙ ap length c.as_mut_slice-columns.ensures.value ∙ d.columns_count;
      places_count = ap length (new_places g at') ∙ c.exchange.auto.places ∙ ap length c.as_mut_slice-places.ensures.value ∙ d.places_count;
      basis = places_kept d c.args.basic c.args.nonbasic c.requires.basic c.requires.nonbasic (slice_index (with_items d.columns c.exchange.new.columns).items) (slice_index (with_items d.places c.exchange.new.places).items) (moved g at') (changed g at');
      few = d.few;
      goal = goal_kept d c.args.basic c.args.nonbasic c.requires.basic c.requires.nonbasic (slice_index (with_items d.columns c.exchange.new.columns).items) (moved g at');
      marks_count = let a = d.marks_count in let l = c.unmark.ensures.size in let m = c.mark.ensures.size in omega arith;
      marks_are = λ _. marked_after d c.args.basic c.args.nonbasic c.requires.basic c.requires.nonbasic c.requires.loaded (slice_index (with_items d.places c.exchange.new.places).items) c.unmark.new.self c.mark.new.self (changed g at') c.unmark.ensures.own c.unmark.ensures.others c.mark.ensures.own c.mark.ensures.others;
    }

pub returns-clause-size : goal.returns-clause-size
unfolding width_of height_of
returns-clause-size g c = record { width = refl; height = refl }

pub returns-clause-holds : goal.returns-clause-holds
returns-clause-holds g c =
    let d = c.args.self.now in
    let all = goal.at.returns-clause-holds g c in
    let at' = all.After-exchange in
    turned_holds d c.args.basic c.args.nonbasic c.requires.basic c.requires.nonbasic c.requires.loaded _ refl refl (turned g at' (row_is g all.After-as_mut_slice-rows) (new_rows g all.After-pivot_rows)) (moved g at') (changed g at') c.requires.nonzero refl

pub returns-clause-entries : goal.returns-clause-entries
returns-clause-entries g c =
    let d = c.args.self.now in
    let all = goal.at.returns-clause-entries g c in
    let at' = all.After-exchange in
    turned_entries d c.args.basic c.args.nonbasic c.requires.basic c.requires.nonbasic c.requires.loaded _ refl refl (turned g at' (row_is g all.After-as_mut_slice-rows) (new_rows g all.After-pivot_rows)) (moved g at') (changed g at') c.requires.nonzero

pub returns-clause-basis : goal.returns-clause-basis
returns-clause-basis g c =
    let d = c.args.self.now in
    let all = goal.at.returns-clause-basis g c in
    let at' = all.After-exchange in
    turned_basis d c.args.basic c.args.nonbasic c.requires.basic c.requires.nonbasic c.requires.loaded _ refl refl (turned g at' (row_is g all.After-as_mut_slice-rows) (new_rows g all.After-pivot_rows)) (moved g at') (changed g at') c.requires.nonzero

pub returns-clause-fits : goal.returns-clause-fits
returns-clause-fits g c =
    let d = c.args.self.now in
    let all = goal.at.returns-clause-fits g c in
    fits_there d c.args.basic c.args.nonbasic c.requires.basic c.requires.nonbasic c.requires.loaded (with_items d.rows c.pivot_rows.new.rows).items (rows_after g all.After-pivot_rows) (count_after g all.After-pivot_rows ∙ sym d.count) (turned g all.After-exchange (row_is g all.After-as_mut_slice-rows) (new_rows g all.After-pivot_rows)) c.requires.nonzero
    (carried (λ R p. TableFits p c.args.basic c.args.nonbasic (numbers_in R) (length R)) d.rows.items c.as_mut_slice-rows.result.now (place d c.args.basic - d.width) c.row_of-p.result (sym c.as_mut_slice-rows.ensures.value) (sym (row_is g all.After-as_mut_slice-rows)) c.in_ok-pivot_rows.ensures.fits)

pub returns-clause-cost : goal.returns-clause-cost
returns-clause-cost g c digits l =
    let d = c.args.self.now in
    let all = goal.at.returns-clause-cost g c in
    bounded d c.args.basic c.args.nonbasic c.requires.basic c.requires.nonbasic c.requires.loaded digits c.args.steps.now c.pivot_rows.new.steps (cost_after g all.After-pivot_rows (row_is g all.After-as_mut_slice-rows) (columns_are g all.After-as_mut_slice-rows))
