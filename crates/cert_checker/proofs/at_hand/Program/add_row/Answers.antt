use Rattle.std.proofs.Common.{◌≡◌, ◌<◌, length, arith, ap, sym, ◌∙◌, subst}
use Rattle.rational.specs.Ratio.{Ratio}
use Rattle.fraction.specs.Frac.{ratio, ratios}
use Rattle.evidence.specs.Instance as Of
use Rattle.evidence.specs.Point.{value_at}
use Rattle.evidence.proofs.Rows.{entry_filter}
use Rattle.instance.specs.Program.{entries}
use Rattle.instance.proofs.RowSums.{entries_filter}
use Rattle.cert_checker.specs.Programs.{at_hand}
use Rattle.cert_checker.specs.Slots.{slot_at, IsStep}
use Rattle.cert_checker.proofs.Coefficients.{of_one_row, within_columns}
use Rattle.cert_checker.proofs.PartedCases.{in_hand}
use Rattle.cert_checker.proofs.HandRows.{hand_width, hand_inside, hand_old_entry, hand_new_entry}
use Rattle.cert_checker.proofs.at_hand.Program.add_row.Goals as goal

pub add_entries-requires-clause-row : goal.add_entries-requires-clause-row
add_entries-requires-clause-row c = of_one_row c.self.inside.instance.now.entries c.row_entries.result.now c.args.i c.row_entries.ensures.entries

pub add_entries-requires-clause-inside : goal.add_entries-requires-clause-inside
add_entries-requires-clause-inside c =
    let s = c.self.inside in
    let w = hand_width s.instance.now s.added.now s.goal.now in
    let n : length c.args.slots.now ≡ Of.width (at_hand s.instance.now s.added.now s.goal.now) = subst (λ (I : Of.Instance). length c.args.slots.now ≡ Of.width I) (sym c.self.view_is) c.requires.room in
    within_columns s.instance.now c.row_entries.ensures.valid c.row_entries.result.now c.args.i (length c.args.slots.now) c.row_entries.ensures.entries (n ∙ w)

pub added_at-added-requires : goal.added_at-added-requires
added_at-added-requires c =
    let s = c.self.inside in
    hand_inside s.instance.now s.added.now s.goal.now c.args.i (length c.rows-rows.result.now) (in_hand s.cut.now (at_hand s.instance.now s.added.now s.goal.now) c.args.i (subst (λ (I : Of.Instance). c.args.i < Of.height I) (sym c.self.view_is) c.requires.inside)) (ap length c.rows-rows.ensures.value) c.if-i-rows.false

pub returns-then-i-rows : goal.returns-then-i-rows
returns-then-i-rows c = λ j h.
    let s = c.self.inside in
    let es = s.instance.now.entries in
    let old = slot_at c.args.slots.now j in
    let new = slot_at c.add_entries.new.slots j in
    let e = ap (λ l. Of.entry_at (entries l) c.args.i j) c.row_entries.ensures.entries ∙ ap (λ l. Of.entry_at l c.args.i j) (entries_filter es c.args.i) ∙ entry_filter (entries es) c.args.i j in
    let low : c.args.i < length s.instance.now.rows = (let v = ap length c.rows-rows.ensures.value in let t = c.if-i-rows.true in omega arith) in
    subst (λ (I : Of.Instance). IsStep old (ratio c.args.by) (Of.entry_at I.entries c.args.i j) new) c.self.view_is
    (subst (λ (w : Ratio). IsStep old (ratio c.args.by) w new) (e ∙ sym (hand_old_entry s.instance.now s.added.now s.goal.now c.args.i j low)) (c.add_entries.ensures j h))

pub returns-else-i-rows : goal.returns-else-i-rows
returns-else-i-rows c = λ j h.
    let s = c.self.inside in
    let old = slot_at c.args.slots.now j in
    let new = slot_at c.add_numbers.new.slots j in
    let w = hand_width s.instance.now s.added.now s.goal.now in
    let n : length c.args.slots.now ≡ Of.width (at_hand s.instance.now s.added.now s.goal.now) = subst (λ (I : Of.Instance). length c.args.slots.now ≡ Of.width I) (sym c.self.view_is) c.requires.room in
    let inside = hand_inside s.instance.now s.added.now s.goal.now c.args.i (length c.rows-rows.result.now) (in_hand s.cut.now (at_hand s.instance.now s.added.now s.goal.now) c.args.i (subst (λ (I : Of.Instance). c.args.i < Of.height I) (sym c.self.view_is) c.requires.inside)) (ap length c.rows-rows.ensures.value) c.if-i-rows.false in
    let a = c.added_at-added.result.now in
    let e = hand_new_entry s.instance.now s.added.now s.goal.now c.args.i (length c.rows-rows.result.now) a (ap length c.rows-rows.ensures.value) c.if-i-rows.false inside c.added_at-added.ensures j (omega arith) in
    subst (λ (I : Of.Instance). IsStep old (ratio c.args.by) (Of.entry_at I.entries c.args.i j) new) c.self.view_is
    (subst (λ (w : Ratio). IsStep old (ratio c.args.by) w new) (ap (λ l. value_at (ratios l) j) c.as_slice.ensures.value ∙ sym e) (c.add_numbers.ensures j h))
