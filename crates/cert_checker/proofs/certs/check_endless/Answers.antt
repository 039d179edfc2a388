use Rattle.std.proofs.Common.{◌≡◌, ◌+◌, [], length, take, drop, arith, sym, ap}
use Rattle.std.proofs.lemmas.List.{length-map}
use Rattle.std.proofs.lemmas.Result.{IfErr-weaker}
use Rattle.fraction.specs.Frac.{ratios}
use Rattle.instance.specs.Program.{goals, program, problem}
use Rattle.certificate.specs.Meanings as Means
use Rattle.cert_checker.specs.LevelRefusals.{Endless, EndRefuses, CertificatesRefuse}
use Rattle.cert_checker.specs.Reached.{at_level}
use Rattle.cert_checker.proofs.AddedLeads.{endless_shown, endless_refused}
use Rattle.cert_checker.proofs.Certificates.{both_ok, all_alone, endless_enough, levels_refused}
use Rattle.cert_checker.proofs.Walks.{drop_all}
use Rattle.cert_checker.proofs.certs.check_endless.Goals as goal

pub climb-requires-clause-alone : goal.climb-requires-clause-alone
climb-requires-clause-alone c =
    let v = ap length c.goals.ensures.value in
    let fewer = c.if-last-goals.false in
    all_alone c.args.instance.now c.args.certs.now c.check_claim_rounds.new.added c.in_ok-check_claim_rounds.field-0 (λ h. omega arith) c.in_ok-check_claim_rounds.ensures.ok

pub returns-clause-ok : goal.returns-clause-ok
returns-clause-ok c =
    let p = c.args.instance.now in
    let x = ratios c.args.point.now in
    let d = ratios c.args.ray.now in
    let cs = Means.certificates c.args.certs.now in
    let last = length c.args.certs.now in
    let J = at_level p (take last c.climb.new.added) last in
    let none : drop last cs ≡ [] = drop_all cs last (sym (length-map c.args.certs.now Means.certificate)) in
    both_ok c.check_along.result
    (endless_shown (program p) (drop 1 (goals p.goals)) (ratios c.args.values.now) cs x d J (drop (last + 1) (goals p.goals)) (drop last (ratios c.args.values.now)) (drop last cs) (last + 1) none (c.in_ok-climb.ensures.ok (Endless x d)))
    c.check_along.ensures.ok c.check_along.ensures.fits

pub returns-clause-err : goal.returns-clause-err
returns-clause-err c =
    let p = c.args.instance.now in
    let x = ratios c.args.point.now in
    let d = ratios c.args.ray.now in
    let cs = Means.certificates c.args.certs.now in
    let last = length c.args.certs.now in
    let J = at_level p (take last c.climb.new.added) last in
    let none : drop last cs ≡ [] = drop_all cs last (sym (length-map c.args.certs.now Means.certificate)) in
    let v = ap length c.goals.ensures.value in
    let fewer = c.if-last-goals.false in
    IfErr-weaker c.check_along.result (EndRefuses (Endless x d) J (last + 1))
    (CertificatesRefuse (Endless x d) (problem p) (ratios c.args.values.now) cs)
    (λ r q. levels_refused p (Endless x d) c.args.values.now c.args.certs.now c.check_claim_rounds.new.added c.in_ok-check_claim_rounds.field-0 c.in_ok-check_claim_rounds.ensures.ok (endless_enough p c.goals.ensures.valid c.args.certs.now x d (omega arith)) r
    (endless_refused (program p) (drop 1 (goals p.goals)) (ratios c.args.values.now) cs x d J (drop (last + 1) (goals p.goals)) (drop last (ratios c.args.values.now)) (drop last cs) (last + 1) none (c.in_ok-climb.ensures.ok (Endless x d)) r q))
    c.check_along.ensures.err
