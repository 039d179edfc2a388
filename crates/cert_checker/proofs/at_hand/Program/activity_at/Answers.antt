use Rattle.std.proofs.Common.{◌≡◌, ◌<◌, length, IfOk, OnErr, arith, ap, sym, ◌∙◌, subst}
use Rattle.rational.specs.Ratio.{Ratio, IsSame}
use Rattle.fraction.specs.Frac.{ratio, ratios}
use Rattle.evidence.specs.Instance as Of
use Rattle.evidence.specs.Point.{value_at, activity}
use Rattle.evidence.specs.Width.{RowFits}
use Rattle.instance.specs.Program.{program}
use Rattle.instance.proofs.Terms.{if_ok, on_err}
use Rattle.cert_checker.specs.Programs.{at_hand}
use Rattle.cert_checker.proofs.PartedCases.{in_hand}
use Rattle.cert_checker.proofs.HandRows.{rows_width, hand_width, hand_inside, hand_old_entry, hand_new_number, activity_by, fits_by, by_fits}
use Rattle.cert_checker.proofs.at_hand.Program.activity_at.Goals as goal

pub activity_at-requires : goal.activity_at-requires
activity_at-requires c =
    let s = c.self.inside in
    subst (λ (I : Of.Instance). length c.args.point.now ≡ Of.width I) (sym c.self.view_is) c.requires.count ∙ hand_width s.instance.now s.added.now s.goal.now

pub added_at-added-requires : goal.added_at-added-requires
added_at-added-requires c =
    let s = c.self.inside in
    hand_inside s.instance.now s.added.now s.goal.now c.args.i (length c.rows-rows.result.now) (in_hand s.cut.now (at_hand s.instance.now s.added.now s.goal.now) c.args.i (subst (λ (I : Of.Instance). c.args.i < Of.height I) (sym c.self.view_is) c.requires.inside)) (ap length c.rows-rows.ensures.value) c.if-i-rows.false

pub returns-then-i-rows-clause-ok : goal.returns-then-i-rows-clause-ok
returns-then-i-rows-clause-ok c =
    let s = c.self.inside in
    let p = s.instance.now in
    let i = c.args.i in
    let low : i < length p.rows = (let v = ap length c.rows-rows.ensures.value in let t = c.if-i-rows.true in omega arith) in
    let e = activity_by (at_hand p s.added.now s.goal.now) (ratios c.args.point.now) i (Of.width (program p)) (Of.entry_at (program p).entries i) (rows_width (program p) s.added.now) (λ j h. hand_old_entry p s.added.now s.goal.now i j low) in
    subst (λ (I : Of.Instance). IfOk c.activity_at.result (λ r. IsSame (ratio r) (activity I (ratios c.args.point.now) i))) c.self.view_is
    (subst (λ (t : Ratio). IfOk c.activity_at.result (λ r. IsSame (ratio r) t)) (sym e) c.activity_at.ensures.ok)

pub returns-then-i-rows-clause-fits : goal.returns-then-i-rows-clause-fits
returns-then-i-rows-clause-fits c =
    let s = c.self.inside in
    let p = s.instance.now in
    let i = c.args.i in
    let low : i < length p.rows = (let v = ap length c.rows-rows.ensures.value in let t = c.if-i-rows.true in omega arith) in
    subst (λ (I : Of.Instance). IfOk c.activity_at.result (λ r. RowFits I (ratios c.args.point.now) i)) c.self.view_is
    (if_ok c.activity_at.result (λ r. fits_by (at_hand p s.added.now s.goal.now) (ratios c.args.point.now) i (Of.width (program p)) (Of.entry_at (program p).entries i) (rows_width (program p) s.added.now) (λ j h. hand_old_entry p s.added.now s.goal.now i j low)) c.activity_at.ensures.fits)

pub returns-then-i-rows-clause-wide : goal.returns-then-i-rows-clause-wide
returns-then-i-rows-clause-wide c =
    let s = c.self.inside in
    let p = s.instance.now in
    let i = c.args.i in
    let low : i < length p.rows = (let v = ap length c.rows-rows.ensures.value in let t = c.if-i-rows.true in omega arith) in
    subst (λ (I : Of.Instance). OnErr c.activity_at.result (RowFits I (ratios c.args.point.now) i → ⊥)) c.self.view_is
    (on_err c.activity_at.result (λ f g. f (by_fits (at_hand p s.added.now s.goal.now) (ratios c.args.point.now) i (Of.width (program p)) (Of.entry_at (program p).entries i) (rows_width (program p) s.added.now) (λ j h. hand_old_entry p s.added.now s.goal.now i j low) g)) c.activity_at.ensures.wide)

pub returns-else-i-rows-clause-ok : goal.returns-else-i-rows-clause-ok
returns-else-i-rows-clause-ok c =
    let s = c.self.inside in
    let m : length c.args.point.now ≡ Of.width (at_hand s.instance.now s.added.now s.goal.now) = subst (λ (I : Of.Instance). length c.args.point.now ≡ Of.width I) (sym c.self.view_is) c.requires.count in
    let inside = hand_inside s.instance.now s.added.now s.goal.now c.args.i (length c.rows-rows.result.now) (in_hand s.cut.now (at_hand s.instance.now s.added.now s.goal.now) c.args.i (subst (λ (I : Of.Instance). c.args.i < Of.height I) (sym c.self.view_is) c.requires.inside)) (ap length c.rows-rows.ensures.value) c.if-i-rows.false in
    let new = hand_new_number s.instance.now s.added.now s.goal.now c.args.i (length c.rows-rows.result.now) c.added_at-added.result.now (ap length c.rows-rows.ensures.value) c.if-i-rows.false inside c.added_at-added.ensures c.as_slice.result.now (length c.args.point.now) c.as_slice.ensures.value m in
    let e = activity_by (at_hand s.instance.now s.added.now s.goal.now) (ratios c.args.point.now) c.args.i (length c.args.point.now) (value_at (ratios c.as_slice.result.now)) (sym m) new in
    subst (λ (I : Of.Instance). IfOk c.sum_numbers.result (λ r. IsSame (ratio r) (activity I (ratios c.args.point.now) c.args.i))) c.self.view_is
    (subst (λ (t : Ratio). IfOk c.sum_numbers.result (λ r. IsSame (ratio r) t)) (sym e) c.sum_numbers.ensures.ok)

pub returns-else-i-rows-clause-fits : goal.returns-else-i-rows-clause-fits
returns-else-i-rows-clause-fits c =
    let s = c.self.inside in
    let m : length c.args.point.now ≡ Of.width (at_hand s.instance.now s.added.now s.goal.now) = subst (λ (I : Of.Instance). length c.args.point.now ≡ Of.width I) (sym c.self.view_is) c.requires.count in
    let inside = hand_inside s.instance.now s.added.now s.goal.now c.args.i (length c.rows-rows.result.now) (in_hand s.cut.now (at_hand s.instance.now s.added.now s.goal.now) c.args.i (subst (λ (I : Of.Instance). c.args.i < Of.height I) (sym c.self.view_is) c.requires.inside)) (ap length c.rows-rows.ensures.value) c.if-i-rows.false in
    let new = hand_new_number s.instance.now s.added.now s.goal.now c.args.i (length c.rows-rows.result.now) c.added_at-added.result.now (ap length c.rows-rows.ensures.value) c.if-i-rows.false inside c.added_at-added.ensures c.as_slice.result.now (length c.args.point.now) c.as_slice.ensures.value m in
    subst (λ (I : Of.Instance). IfOk c.sum_numbers.result (λ r. RowFits I (ratios c.args.point.now) c.args.i)) c.self.view_is
    (if_ok c.sum_numbers.result (λ r. fits_by (at_hand s.instance.now s.added.now s.goal.now) (ratios c.args.point.now) c.args.i (length c.args.point.now) (value_at (ratios c.as_slice.result.now)) (sym m) new) c.sum_numbers.ensures.fits)

pub returns-else-i-rows-clause-wide : goal.returns-else-i-rows-clause-wide
returns-else-i-rows-clause-wide c =
    let s = c.self.inside in
    let m : length c.args.point.now ≡ Of.width (at_hand s.instance.now s.added.now s.goal.now) = subst (λ (I : Of.Instance). length c.args.point.now ≡ Of.width I) (sym c.self.view_is) c.requires.count in
    let inside = hand_inside s.instance.now s.added.now s.goal.now c.args.i (length c.rows-rows.result.now) (in_hand s.cut.now (at_hand s.instance.now s.added.now s.goal.now) c.args.i (subst (λ (I : Of.Instance). c.args.i < Of.height I) (sym c.self.view_is) c.requires.inside)) (ap length c.rows-rows.ensures.value) c.if-i-rows.false in
    let new = hand_new_number s.instance.now s.added.now s.goal.now c.args.i (length c.rows-rows.result.now) c.added_at-added.result.now (ap length c.rows-rows.ensures.value) c.if-i-rows.false inside c.added_at-added.ensures c.as_slice.result.now (length c.args.point.now) c.as_slice.ensures.value m in
    subst (λ (I : Of.Instance). OnErr c.sum_numbers.result (RowFits I (ratios c.args.point.now) c.args.i → ⊥)) c.self.view_is
    (on_err c.sum_numbers.result (λ f g. f (by_fits (at_hand s.instance.now s.added.now s.goal.now) (ratios c.args.point.now) c.args.i (length c.args.point.now) (value_at (ratios c.as_slice.result.now)) (sym m) new g)) c.sum_numbers.ensures.wide)
