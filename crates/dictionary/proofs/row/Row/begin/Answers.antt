use Rattle.std.proofs.Common.{FitsSigned, w64, rules, refl}
use Rattle.std.proofs.lemmas.Int.{to_z-of_z}
use Rattle.dictionary.proofs.RowForms.{empty_numbers, empty_row}
use Rattle.dictionary.proofs.PutRows.{cleared_unmarked, cleared_zero, fresh_none, fresh_row}
use Rattle.dictionary.proofs.row.Row.begin.Goals as goal

pub returns-in-Some-clause-row : goal.returns-in-Some-clause-row
returns-in-Some-clause-row g c k n h =
    let row = c.args.self.now in
    let r = h.is in
    empty_row _ h.common (cleared_zero row k n h) k n r.count r.columns r.small (cleared_unmarked row k n h) r.room

pub returns-in-Some-clause-none : goal.returns-in-Some-clause-none
returns-in-Some-clause-none g c =
    let row = c.args.self.now in
    let r = c.requires.row in
    empty_numbers _ r.2.common (cleared_zero row r.0 r.1 r.2)

pub returns-in-Some-clause-form : goal.returns-in-Some-clause-form
returns-in-Some-clause-form g c =
    let fits : FitsSigned w64 c.in-Some.denom = search rules in
    rw c.in-Some.is (simp to_z-of_z (c.requires.row.2.common, refl))

pub returns-in-None-clause-row : goal.returns-in-None-clause-row
returns-in-None-clause-row g c k n h =
    let row = c.args.self.now in
    let r = h.is in
    fresh_row _ refl h.empty k n r.count r.columns r.small (cleared_unmarked row k n h) (cleared_zero row k n h) r.room

pub returns-in-None-clause-none : goal.returns-in-None-clause-none
returns-in-None-clause-none g c = fresh_none _ refl c.requires.row.2.empty
