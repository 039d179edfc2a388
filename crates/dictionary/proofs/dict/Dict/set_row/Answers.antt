use Rattle.std.proofs.Common.{◌≡◌, ℕ, ◌+◌, List, length, arith, refl, sym, ◌∙◌, ap, subst}
use Rattle.std.specs.Vec.{with_items}
use Rattle.std.proofs.lemmas.List.{with_items_is}
use Rattle.dictionary.specs.declared.row.Row.{Row}
use Rattle.dictionary.specs.Rows.{numbers_in, AreRows}
use Rattle.dictionary.specs.Dict.{width_of, height_of, IsJustLoaded}
use Rattle.dictionary.proofs.SetRows.{set-number, set_told, set_past}
use Rattle.dictionary.proofs.dict.Dict.set_row.Goals as goal
use Rattle.dictionary.proofs.dict.Dict.set_row.Goals.{After-set_entries}

-- what was lent comes back
new_rows : (g : _) (c : After-set_entries g) → (with_items c.args.self.now.rows c.set_entries.new.rows).items ≡ c.set_entries.new.rows
new_rows g c = with_items_is c.args.self.now.rows c.set_entries.new.rows (c.set_entries.auto.rows ∙ c.as_mut_slice-rows.ensures.len)

pub set_entries-requires-clause-r : goal.set_entries-requires-clause-r
unfolding height_of
set_entries-requires-clause-r g c = let d = c.args.self.now in let e = ap length c.as_mut_slice-rows.ensures.value in let n = d.count in let r = c.requires.row in omega arith

pub set_entries-requires-clause-rows : goal.set_entries-requires-clause-rows
unfolding width_of height_of
set_entries-requires-clause-rows g c =
    let d = c.args.self.now in (
      d.height,
      d.width,
      c.requires.inside,
      (let n = d.scratch_count in omega arith),
      subst (λ k. AreRows k d.width c.as_mut_slice-rows.result.now) (sym d.scratch_count) (subst (λ (R : List (Row _ _)). AreRows (d.width + (d.height + 1)) d.width R) (sym c.as_mut_slice-rows.ensures.value) d.rows_are),
    )

pub invariant_of-self : goal.invariant_of-self
invariant_of-self g c =
    let d = c.args.self.now in
    let at' = (goal.at.invariant_of-self g c).After-set_entries in
    record {
      count = ap length (new_rows g at') ∙ c.set_entries.auto.rows ∙ ap length c.as_mut_slice-rows.ensures.value ∙ d.count;
      rows_are = subst (λ (R : List (Row _ _)). AreRows (d.width + (d.height + 1)) d.width R) (sym (new_rows g at'))
          (subst (λ k. AreRows k d.width c.set_entries.new.rows) d.scratch_count
          (c.set_entries.ensures.rows d.width
          (subst (λ k. AreRows k d.width c.as_mut_slice-rows.result.now) (sym d.scratch_count) (subst (λ (R : List (Row _ _)). AreRows (d.width + (d.height + 1)) d.width R) (sym c.as_mut_slice-rows.ensures.value) d.rows_are))));
      own_is = d.own_is;
      own_empty = d.own_empty;
      scratch_count = c.set_entries.ensures.count ∙ d.scratch_count;
      columns_count = d.columns_count;
      places_count = d.places_count;
      basis = d.basis;
      few = d.few;
      goal = d.goal;
      marks_count = d.marks_count;
      marks_are = d.marks_are;
    }

pub returns-clause-size : goal.returns-clause-size
unfolding width_of height_of
returns-clause-size g c = record { width = refl; height = refl }

pub returns-clause-first : goal.returns-clause-first
unfolding width_of height_of IsJustLoaded
returns-clause-first g c A first =
    let d = c.args.self.now in
    let at' = (goal.at.returns-clause-first g c).After-set_entries in
    let es = c.args.entries.now in
    let row = c.args.row in
    let lent : (k j : ℕ) → numbers_in c.as_mut_slice-rows.result.now k j ≡ numbers_in d.rows.items k j = λ k j. ap (λ (R : List (Row _ _)). numbers_in R k j) c.as_mut_slice-rows.ensures.value in
    let back : (k j : ℕ) → numbers_in (with_items d.rows c.set_entries.new.rows).items k j ≡ numbers_in c.set_entries.new.rows k j = λ k j. ap (λ (R : List (Row _ _)). numbers_in R k j) (new_rows g at') in (
      set-number A row es first.0,
      first.1,
      set_told A row es (numbers_in d.rows.items) (numbers_in (with_items d.rows c.set_entries.new.rows).items) (d.height + 1)
          (λ j. back row j ∙ c.set_entries.ensures.own j)
          (λ k j h. back k j ∙ c.set_entries.ensures.others k j h ∙ lent k j) first.2,
      set_past A row d.height d.width es c.requires.inside first.3,
      first.4,
      first.5,
    )
