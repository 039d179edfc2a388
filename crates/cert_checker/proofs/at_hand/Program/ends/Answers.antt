use Rattle.std.proofs.Common.{◌≡◌, ◌<◌, length, get_or, map, arith, ap, sym, ◌∙◌, subst}
use Rattle.std.proofs.lemmas.List.{get_or-map, get_or_default}
use Rattle.evidence.specs.Instance as Of
use Rattle.instance.specs.Program.{row}
use Rattle.case_tree.specs.Cuts.{no_cut}
use Rattle.cert_checker.specs.Columns.{ends}
use Rattle.cert_checker.specs.Programs.{at_hand}
use Rattle.cert_checker.proofs.PartedCases.{in_hand, over_here, over_behind}
use Rattle.cert_checker.proofs.HandRows.{hand_inside, hand_old_ends, hand_new_ends}
use Rattle.cert_checker.proofs.at_hand.Program.ends.Goals as goal

pub returns-then-i-rows : goal.returns-then-i-rows
returns-then-i-rows c =
    let s = c.self.inside in
    let low : c.args.i < length s.instance.now.rows = (let v = ap length c.rows-rows.ensures.value in let t = c.if-i-rows.true in omega arith) in
    subst (λ (I : Of.Instance). row c.index-rows-i.result ≡ Of.row_at I c.args.i) c.self.view_is
    (ap row c.index-rows-i.is ∙ sym (get_or-map row c.rows-rows.result.now c.args.i c.index-rows-i.result Of.free c.if-i-rows.true) ∙ ap (λ l. get_or (map row l) c.args.i Of.free) c.rows-rows.ensures.value
    ∙ sym (over_behind s.cut.now (at_hand s.instance.now s.added.now s.goal.now).rows c.args.i (let t = c.if-i-self.false in omega arith) ∙ hand_old_ends s.instance.now s.added.now s.goal.now c.args.i low))

pub added_at-requires : goal.added_at-requires
added_at-requires c =
    let s = c.self.inside in
    hand_inside s.instance.now s.added.now s.goal.now c.args.i (length c.rows-rows.result.now) (in_hand s.cut.now (at_hand s.instance.now s.added.now s.goal.now) c.args.i (subst (λ (I : Of.Instance). c.args.i < Of.height I) (sym c.self.view_is) c.requires)) (ap length c.rows-rows.ensures.value) c.if-i-rows.false

pub returns-else-i-rows : goal.returns-else-i-rows
returns-else-i-rows c =
    let s = c.self.inside in
    let inside = hand_inside s.instance.now s.added.now s.goal.now c.args.i (length c.rows-rows.result.now) (in_hand s.cut.now (at_hand s.instance.now s.added.now s.goal.now) c.args.i (subst (λ (I : Of.Instance). c.args.i < Of.height I) (sym c.self.view_is) c.requires)) (ap length c.rows-rows.ensures.value) c.if-i-rows.false in
    subst (λ (I : Of.Instance). row c.added_at.result.now.ends ≡ Of.row_at I c.args.i) c.self.view_is
    (sym (over_behind s.cut.now (at_hand s.instance.now s.added.now s.goal.now).rows c.args.i (let t = c.if-i-self.false in omega arith) ∙ hand_new_ends s.instance.now s.added.now s.goal.now c.args.i (length c.rows-rows.result.now) c.added_at.result.now (ap length c.rows-rows.ensures.value) c.if-i-rows.false inside c.added_at.ensures))

pub returns-then-i-self : goal.returns-then-i-self
returns-then-i-self c =
    let s = c.self.inside in
    let J = at_hand s.instance.now s.added.now s.goal.now in
    let low = in_hand s.cut.now J c.args.i (subst (λ (I : Of.Instance). c.args.i < Of.height I) (sym c.self.view_is) c.requires) in
    subst (λ (I : Of.Instance). row c.ends_of.result ≡ Of.row_at I c.args.i) c.self.view_is
    (c.ends_of.ensures ∙ ap ends (sym (get_or_default s.cut.now c.args.i no_cut c.index-self-i.result c.if-i-self.true)) ∙ sym (over_here s.cut.now J.rows c.args.i c.if-i-self.true low))
