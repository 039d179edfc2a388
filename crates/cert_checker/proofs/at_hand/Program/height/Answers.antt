use Rattle.std.proofs.Common.{◌≡◌, ◌+◌, ◌<◌, ◌^◌, length, arith, ap, subst}
use Rattle.evidence.specs.Instance as Of
use Rattle.cert_checker.specs.Programs.{at_hand}
use Rattle.cert_checker.proofs.PartedCases.{over_length}
use Rattle.cert_checker.proofs.HandRows.{hand_height}
use Rattle.cert_checker.proofs.at_hand.Program.height.Goals as goal

pub returns-clause-value : goal.returns-clause-value
returns-clause-value c =
    let s = c.self.inside in
    let v = ap length c.rows.ensures.value in
    let h = hand_height s.instance.now s.added.now s.goal.now in
    subst (λ (I : Of.Instance). length c.rows.result.now + length s.added.now ≡ Of.height I) c.self.view_is (let o = over_length s.cut.now (at_hand s.instance.now s.added.now s.goal.now).rows in omega arith)

pub returns-clause-few : goal.returns-clause-few
returns-clause-few c =
    let s = c.self.inside in
    let h = hand_height s.instance.now s.added.now s.goal.now in
    let few = c.rows.ensures.valid.few_rows in
    let told = c.self.told in
    let o = over_length s.cut.now (at_hand s.instance.now s.added.now s.goal.now).rows in
    subst (λ (I : Of.Instance). Of.height I < 2 ^ 63) c.self.view_is (omega arith)
