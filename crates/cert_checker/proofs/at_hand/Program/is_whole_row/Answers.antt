use Rattle.std.proofs.Common.{◌≡◌, ◌<◌, ◌↔◌, IsTrue, ℕ, length, arith, ap, sym, ◌∙◌, subst}
use Rattle.rational.specs.Ratio.{Ratio}
use Rattle.fraction.specs.Frac.{ratios}
use Rattle.evidence.specs.Instance as Of
use Rattle.evidence.specs.Cases.{IsWholeRow}
use Rattle.evidence.specs.Point.{value_at}
use Rattle.evidence.proofs.Rows.{entry_filter}
use Rattle.instance.specs.Program.{entries}
use Rattle.instance.proofs.RowSums.{entries_filter}
use Rattle.case_tree.specs.Cuts.{cut}
use Rattle.cert_checker.specs.Programs.{at_hand}
use Rattle.cert_checker.specs.Columns.{with_ends}
use Rattle.cert_checker.proofs.PartedCases.{in_hand}
use Rattle.cert_checker.proofs.WholeRows.{whole_row}
use Rattle.cert_checker.proofs.Coefficients.{of_one_row, within_columns}
use Rattle.cert_checker.proofs.HandRows.{hand_width, hand_inside, hand_old_entry, hand_new_entry}
use Rattle.cert_checker.proofs.at_hand.Program.is_whole_row.Goals as goal

pub are_whole_entries-requires-clause-row : goal.are_whole_entries-requires-clause-row
are_whole_entries-requires-clause-row c = of_one_row c.self.inside.instance.now.entries c.row_entries.result.now c.args.i c.row_entries.ensures.entries

pub are_whole_entries-requires-clause-inside : goal.are_whole_entries-requires-clause-inside
are_whole_entries-requires-clause-inside c =
    let s = c.self.inside in
    let w = hand_width s.instance.now s.added.now s.goal.now in
    let n : length c.args.cuts.now ≡ Of.width (at_hand s.instance.now s.added.now s.goal.now) = subst (λ (I : Of.Instance). length c.args.cuts.now ≡ Of.width I) (sym c.self.view_is) c.requires.count in
    within_columns s.instance.now c.row_entries.ensures.valid c.row_entries.result.now c.args.i (length c.args.cuts.now) c.row_entries.ensures.entries (n ∙ w)

pub added_at-added-requires : goal.added_at-added-requires
added_at-added-requires c =
    let s = c.self.inside in
    hand_inside s.instance.now s.added.now s.goal.now c.args.i (length c.rows-rows.result.now) (in_hand s.cut.now (at_hand s.instance.now s.added.now s.goal.now) c.args.i (subst (λ (I : Of.Instance). c.args.i < Of.height I) (sym c.self.view_is) c.requires.inside)) (ap length c.rows-rows.ensures.value) c.if-i-rows.false

pub returns-then-i-rows : goal.returns-then-i-rows
returns-then-i-rows c =
    let s = c.self.inside in
    let J = at_hand s.instance.now s.added.now s.goal.now in
    let es = s.instance.now.entries in
    let low : c.args.i < length s.instance.now.rows = (let v = ap length c.rows-rows.ensures.value in let t = c.if-i-rows.true in omega arith) in
    let e : (j : ℕ) → j < length c.args.cuts.now → Of.entry_at J.entries c.args.i j ≡ Of.entry_at (entries c.row_entries.result.now) c.args.i j = λ j h.
    hand_old_entry s.instance.now s.added.now s.goal.now c.args.i j low
    ∙ sym (ap (λ l. Of.entry_at (entries l) c.args.i j) c.row_entries.ensures.entries ∙ ap (λ l. Of.entry_at l c.args.i j) (entries_filter es c.args.i) ∙ entry_filter (entries es) c.args.i j) in
    let w = whole_row (with_ends J s.cut.now) c.args.cuts.now c.args.i (Of.entry_at (entries c.row_entries.result.now) c.args.i) e in
    let r = c.are_whole_entries.ensures in
    subst (λ (I : Of.Instance). IsTrue c.are_whole_entries.result ↔ IsWholeRow (cut I c.args.cuts.now) c.args.i) c.self.view_is
    (λ t. w.0 (r.0 t), λ h. r.1 (w.1 h))

pub returns-else-i-rows : goal.returns-else-i-rows
returns-else-i-rows c =
    let s = c.self.inside in
    let J = at_hand s.instance.now s.added.now s.goal.now in
    let w = hand_width s.instance.now s.added.now s.goal.now in
    let n : length c.args.cuts.now ≡ Of.width J = subst (λ (I : Of.Instance). length c.args.cuts.now ≡ Of.width I) (sym c.self.view_is) c.requires.count in
    let inside = hand_inside s.instance.now s.added.now s.goal.now c.args.i (length c.rows-rows.result.now) (in_hand s.cut.now J c.args.i (subst (λ (I : Of.Instance). c.args.i < Of.height I) (sym c.self.view_is) c.requires.inside)) (ap length c.rows-rows.ensures.value) c.if-i-rows.false in
    let a = c.added_at-added.result.now in
    let f : ℕ → Ratio = value_at (ratios c.as_slice.result.now) in
    let e : (j : ℕ) → j < length c.args.cuts.now → Of.entry_at J.entries c.args.i j ≡ f j = λ j h.
    hand_new_entry s.instance.now s.added.now s.goal.now c.args.i (length c.rows-rows.result.now) a (ap length c.rows-rows.ensures.value) c.if-i-rows.false inside c.added_at-added.ensures j (omega arith)
    ∙ sym (ap (λ l. value_at (ratios l) j) c.as_slice.ensures.value) in
    let w' = whole_row (with_ends J s.cut.now) c.args.cuts.now c.args.i f e in
    let r = c.are_whole_numbers.ensures in
    subst (λ (I : Of.Instance). IsTrue c.are_whole_numbers.result ↔ IsWholeRow (cut I c.args.cuts.now) c.args.i) c.self.view_is
    (λ t. w'.0 (r.0 t), λ h. r.1 (w'.1 h))
