use Rattle.std.proofs.Common.{ℕ, FitsSigned, w64, arith, refl, pos, get_or-set_same, get_or-set_other, ap, ◌∙◌, not, nat_eq, bit_or}
use Rattle.std.proofs.lemmas.Int.{to_z-of_z}
use Rattle.dictionary.specs.Rows.{entries_at}
use Rattle.dictionary.proofs.RowForms.{is_written, written_own, written_other, written_row}
use Rattle.dictionary.proofs.row.Row.write.Goals as goal

pub returns-clause-own : goal.returns-clause-own
returns-clause-own g c =
    let row = c.args.self.now in
    let fits : FitsSigned w64 c.args.number = c.ranges.number in
    let size = simp to_z-of_z at c.unsigned_abs-size.ensures.value in
    let mark = c.put.ensures.own ∙ ap (λ (k : ℕ). not (nat_eq k 0)) size in
    let sized = ap (λ (k : ℕ). bit_or row.size k) size in
    written_own row _ c.args.col c.args.number (is_written row _ c.requires.row.0 c.requires.row.1 c.requires.row.2 c.args.col c.args.number (let l = c.requires.row.3 in omega arith) c.requires.small c.requires.common c.requires.common refl (simp to_z-of_z refl) c.put.ensures.size mark c.put.ensures.others sized (omega arith))

pub returns-clause-others : goal.returns-clause-others
returns-clause-others g c =
    let row = c.args.self.now in
    let fits : FitsSigned w64 c.args.number = c.ranges.number in
    let size = simp to_z-of_z at c.unsigned_abs-size.ensures.value in
    let mark = c.put.ensures.own ∙ ap (λ (k : ℕ). not (nat_eq k 0)) size in
    let sized = ap (λ (k : ℕ). bit_or row.size k) size in
    written_other row _ c.args.col c.args.number (is_written row _ c.requires.row.0 c.requires.row.1 c.requires.row.2 c.args.col c.args.number (let l = c.requires.row.3 in omega arith) c.requires.small c.requires.common c.requires.common refl (simp to_z-of_z refl) c.put.ensures.size mark c.put.ensures.others sized (omega arith))

pub returns-clause-row : goal.returns-clause-row
returns-clause-row g c k n is l =
    let row = c.args.self.now in
    let fits : FitsSigned w64 c.args.number = c.ranges.number in
    let size = simp to_z-of_z at c.unsigned_abs-size.ensures.value in
    let mark = c.put.ensures.own ∙ ap (λ (k : ℕ). not (nat_eq k 0)) size in
    let sized = ap (λ (k : ℕ). bit_or row.size k) size in
    written_row row _ c.args.col c.args.number (is_written row _ k n is c.args.col c.args.number (omega arith) c.requires.small c.requires.common c.requires.common refl (simp to_z-of_z refl) c.put.ensures.size mark c.put.ensures.others sized (omega arith)) k n is l

pub returns-clause-number : goal.returns-clause-number
returns-clause-number g c =
    let row = c.args.self.now in
    let e = c.requires.row.2.count in
    let fits : FitsSigned w64 c.args.number = c.ranges.number in
    simp to_z-of_z (get_or-set_same row.numers.items c.args.col c.args.number (pos 0) (let l = c.requires.row.3 in omega arith))

pub returns-clause-rest : goal.returns-clause-rest
returns-clause-rest g c j d =
    let fits : FitsSigned w64 c.args.number = c.ranges.number in
    simp to_z-of_z (get_or-set_other c.args.self.now.numers.items c.args.col j c.args.number (pos 0) d)

pub returns-clause-marks : goal.returns-clause-marks
unfolding entries_at
returns-clause-marks g c = c.put.ensures.others
