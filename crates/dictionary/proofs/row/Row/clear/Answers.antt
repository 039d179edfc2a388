use Rattle.std.proofs.Common.{◌≡◌, ◌∙◌, ℕ, ℤ, List, length, pos, arith, refl, ap}
use Rattle.std.specs.Prelude.{slice_index_or}
use Rattle.std.specs.Vec.{with_items}
use Rattle.std.proofs.lemmas.List.{with_items_is}
use Rattle.dictionary.specs.Rows.{IsRow}
use Rattle.dictionary.proofs.RowForms.{cleared, empty_numbers, empty_row}
use Rattle.dictionary.proofs.row.Row.clear.Goals as goal
use Rattle.dictionary.proofs.row.Row.clear.Goals.{After-clear-2}

is_new : (g : _) (c : After-clear-2 g) → (with_items c.args.self.now.numers c.clear_numbers.new.numers).items ≡ c.clear_numbers.new.numers
is_new g c = with_items_is c.args.self.now.numers c.clear_numbers.new.numers (c.clear_numbers.auto.numers ∙ c.as_mut_slice.ensures.len)

zeros : (g : _) (c : After-clear-2 g) (k n : ℕ) → IsRow k n c.args.self.now → (j : ℕ) → slice_index_or (with_items c.args.self.now.numers c.clear_numbers.new.numers).items j (pos 0) ≡ pos 0
zeros g c k n is j =
    let row = c.args.self.now in
    ap (λ (xs : List ℤ). slice_index_or xs j (pos 0)) (is_new g c)
    ∙ cleared row k n is c.clear_numbers.new.numers c.clear_numbers.ensures.zeros (λ i h. c.clear_numbers.ensures.others i h ∙ ap (λ (xs : List ℤ). slice_index_or xs i (pos 0)) c.as_mut_slice.ensures.value) j

pub returns-clause-row : goal.returns-clause-row
returns-clause-row g c k n is =
    let at' = (goal.at.returns-clause-row g c).After-clear-2 in
    let before = is.room in
    let room = c.clear-2.ensures.room in
    empty_row _ refl (zeros g at' k n is) k n (ap length (is_new g at') ∙ c.clear_numbers.auto.numers ∙ ap length c.as_mut_slice.ensures.value ∙ is.count) (c.clear.ensures.size ∙ is.columns) (omega arith) c.clear.ensures.none (omega arith)

pub returns-clause-none : goal.returns-clause-none
returns-clause-none g c = empty_numbers _ refl (zeros g (goal.at.returns-clause-none g c).After-clear-2 c.requires.0 c.requires.1 c.requires.2)

pub returns-clause-cleared : goal.returns-clause-cleared
returns-clause-cleared g c k n is =
    let at' = (goal.at.returns-clause-cleared g c).After-clear-2 in
    let before = is.room in
    let room = c.clear-2.ensures.room in
    record {
      is = empty_row _ refl (zeros g at' k n is) k n (ap length (is_new g at') ∙ c.clear_numbers.auto.numers ∙ ap length c.as_mut_slice.ensures.value ∙ is.count) (c.clear.ensures.size ∙ is.columns) (omega arith) c.clear.ensures.none (omega arith);
      none = empty_numbers _ refl (zeros g at' k n is);
      common = refl;
      empty = c.clear-2.ensures.entries;
    }
