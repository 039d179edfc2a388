use Rattle.std.proofs.Common.{◌≡◌, ◌+◌, ◌<◌, ℕ, Some, List, length, take, drop, arith, sym, ap, ◌∙◌, subst}
use Rattle.std.specs.List.{All}
use Rattle.std.proofs.lemmas.Result.{err_from_is_err_and}
use Rattle.fraction.specs.Frac.{ratio, ratios}
use Rattle.evidence.specs.Instance.{minimising, cost_at}
use Rattle.evidence.specs.Width.{ProvesWithin}
use Rattle.instance.specs.Program.{row, program, goals}
use Rattle.certificate.specs.Meanings as Means
use Rattle.certificate.specs.Nodes.{IsInRange}
use Rattle.certificate.specs.declared.nodes.Node.{Node}
use Rattle.certificate.specs.declared.nodes.Cert.{Cert}
use Rattle.cert_checker.specs.Reached.{at_level, TreeIsRefused}
use Rattle.cert_checker.specs.LevelRefusals.{LeadsUp}
use Rattle.cert_checker.proofs.AddedLeads.{wide_with}
use Rattle.cert_checker.proofs.NextLevel.{leads_first, climb_refused, climb_wide, climb_next}
use Rattle.cert_checker.proofs.levels.climb.Goals as goal

pub loop-level-init : goal.loop-level-init
loop-level-init c = record { wide = λ n w. w; leads = leads_first c.args.instance.now c.args.values.now c.args.certs.now c.args.added.now }

pub check_at-requires-clause-room : goal.check_at-requires-clause-room
check_at-requires-clause-room c =
    let h : c.loop-level.level < length c.args.certs.now = (let t = c.loop-level-test.true in omega arith) in
    let q = c.requires.nodes c.loop-level.level c.index-certs-level.result h in
    let e = ap length c.as_slice-nodes.ensures in
    let b = c.loop-level.auto.branches in
    omega arith

pub check_at-requires-clause-range : goal.check_at-requires-clause-range
check_at-requires-clause-range c =
    let h : c.loop-level.level < length c.args.certs.now = (let t = c.loop-level-test.true in omega arith) in
    subst (All IsInRange) (sym c.as_slice-nodes.ensures) (c.requires.range c.loop-level.level c.index-certs-level.result h)

pub returns-in_err-check_at-clause-err : goal.returns-in_err-check_at-clause-err
returns-in_err-check_at-clause-err c = λ end.
    let p = err_from_is_err_and c.from_residual.result c.from_residual.ensures.1 in
    let k = c.loop-level.level in
    let J = at_level c.args.instance.now (take k c.loop-level.added) k in
    let value = c.index-values-level.result in
    let e = c.in_err-check_at.field-0.0 in
    let t = c.loop-level-test.true in
    rw (p.1, p.2)
    (climb_refused c.args.instance.now c.args.values.now c.args.certs.now c.loop-level.added k c.index-certs-level.result value (omega arith) c.index-certs-level.is (omega arith) c.index-values-level.is (omega arith) c.requires.alone end (c.loop-level.invariant.leads end) e
    (subst (λ (ns : List Node). TreeIsRefused J (Means.nodes ns) (Some (minimising J (ratio value))) (k + 1) e) (c.as_slice-nodes.ensures ∙ ap (λ (d : Cert). d.nodes) (sym c.index-certs-level.is)) c.in_err-check_at.ensures.err))

pub returns-in-Err-clause-err : goal.returns-in-Err-clause-err
returns-in-Err-clause-err c = λ end.
    let k = c.loop-level.level in
    let J = at_level c.args.instance.now (take k c.loop-level.added) k in
    let value = c.index-values-level.result in
    let t = c.loop-level-test.true in
    climb_wide c.args.instance.now c.args.values.now c.args.certs.now c.loop-level.added k c.index-certs-level.result value (omega arith) c.index-certs-level.is (omega arith) c.index-values-level.is (omega arith) c.requires.alone end (c.loop-level.invariant.leads end)
    (subst (λ (ns : List Node). ProvesWithin J (Means.nodes ns) (Some (minimising J (ratio value)))) (c.as_slice-nodes.ensures ∙ ap (λ (d : Cert). d.nodes) (sym c.index-certs-level.is)) c.in_ok-check_at.ensures.ok) c.in-Err.ensures.wide

pub put-requires : goal.put-requires
put-requires c =
    let t = c.loop-level-test.true in
    let long = c.loop-level.auto.added in
    let h : c.loop-level.level < length c.loop-level.added = (let r = c.requires.rows in omega arith) in
    let q = c.loop-level.invariant.wide (length c.args.slots.now) c.requires.wide c.loop-level.level c.index-added-level.result h in
    let a = c.reached.auto.slots in
    let b = c.check_at.auto.slots in
    let d = c.loop-level.auto.slots in
    let e = c.requires.slots in
    omega arith

pub loop-level-preserved : goal.loop-level-preserved
loop-level-preserved c =
    let k = c.loop-level.level in
    let J = at_level c.args.instance.now (take k c.loop-level.added) k in
    let value = c.index-values-level.result in
    let t = c.loop-level-test.true in
    let long = c.loop-level.auto.added in
    let h : k < length c.loop-level.added = (let r = c.requires.rows in omega arith) in
    let size = c.put.ensures.size in
    let a = c.reached.auto.slots in
    let b = c.check_at.auto.slots in
    let d = c.loop-level.auto.slots in
    let e = c.requires.slots in
    record {
      wide = λ n w. let q = c.loop-level.invariant.wide n w k c.index-added-level.result h in wide_with c.loop-level.added k c.put.new.row n (omega arith) (c.loop-level.invariant.wide n w);
      leads = λ end.
          climb_next c.args.instance.now c.args.values.now c.args.certs.now c.loop-level.added k c.index-certs-level.result value (omega arith) c.index-certs-level.is (omega arith) c.index-values-level.is (omega arith) c.requires.alone end (c.loop-level.invariant.leads end)
          c.put.new.row (ratio c.in-Ok.end) h
          (subst (λ (ns : List Node). ProvesWithin J (Means.nodes ns) (Some (minimising J (ratio value)))) (c.as_slice-nodes.ensures ∙ ap (λ (d : Cert). d.nodes) (sym c.index-certs-level.is)) c.in_ok-check_at.ensures.ok)
          c.in-Ok.ensures.ok (ap row c.put.ensures.ends)
          (λ j g. c.put.ensures.row (length c.check_at.new.slots) (λ i. minimising J (cost_at J i)) (omega arith) c.in-Ok.ensures.row j (omega arith));
    }

pub returns-clause-ok : goal.returns-clause-ok
returns-clause-ok c = λ end.
    let e : c.loop-level.level ≡ c.args.count = (let a = c.loop-level.auto.level-end in let t = c.loop-level-test.false in omega arith) in
    subst (λ (k : ℕ). LeadsUp end (program c.args.instance.now) (drop 1 (goals c.args.instance.now.goals)) (ratios c.args.values.now) (Means.certificates c.args.certs.now) 1 (at_level c.args.instance.now (take k c.loop-level.added) k) (drop (k + 1) (goals c.args.instance.now.goals)) (drop k (ratios c.args.values.now)) (drop k (Means.certificates c.args.certs.now)) (k + 1)) e (c.loop-level.invariant.leads end)
