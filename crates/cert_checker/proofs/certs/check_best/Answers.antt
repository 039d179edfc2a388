use Rattle.std.proofs.Common.{◌+◌, ◌-◌, Some, List, length, take, slice_index_or, arith, sym, ap, ◌∙◌, subst}
use Rattle.std.proofs.lemmas.Result.{on_ok_weaker, IfErr-weaker}
use Rattle.fraction.specs.Frac.{ratio, ratios}
use Rattle.evidence.specs.Instance.{minimising}
use Rattle.evidence.specs.Width.{ProvesWithin}
use Rattle.instance.specs.Program.{problem}
use Rattle.certificate.specs.Meanings as Means
use Rattle.certificate.specs.declared.nodes.Node.{Node}
use Rattle.certificate.specs.declared.nodes.Cert.{Cert}
use Rattle.cert_checker.specs.LevelRefusals.{Best, CertificatesRefuse}
use Rattle.cert_checker.specs.Reached.{at_level, TreeIsRefused}
use Rattle.cert_checker.proofs.Certificates.{all_alone, one_shown, one_refused, last_shown, last_refused, best_enough, levels_refused}
use Rattle.cert_checker.proofs.certs.check_best.Goals as goal

pub returns-then-last-eq0-clause-ok : goal.returns-then-last-eq0-clause-ok
returns-then-last-eq0-clause-ok c =
    let p = c.args.instance.now in
    let n = c.in_ok-rounds.rounds in
    let all = c.check_claim_rounds.new.added in
    let J = at_level p (take n all) 0 in
    let cert = c.index-certs-last.result in
    let value = c.index-values-last.result in
    let v = ap length c.goals-goals.ensures.value in
    let some = c.goals-goals.ensures.valid.some_goal in
    let counted = c.if-certs-goals.false in
    let first = c.if-last-eq0.true in
    on_ok_weaker c.check_at.result
    (λ s. one_shown p c.args.values.now c.args.certs.now all n cert value (omega arith) (omega arith)
    (c.index-certs-last.is ∙ ap (λ k. slice_index_or c.args.certs.now k cert) first) (let w = c.requires.values in omega arith)
    (c.index-values-last.is ∙ ap (λ k. slice_index_or c.args.values.now k value) first) c.in_ok-rounds.ensures.ok
    (subst (λ (ns : List Node). ProvesWithin J (Means.nodes ns) (Some (minimising J (ratio value)))) (c.as_slice-nodes.ensures ∙ ap (λ (d : Cert). d.nodes) (sym c.index-certs-last.is)) s))
    c.check_at.ensures.ok

pub returns-then-last-eq0-clause-err : goal.returns-then-last-eq0-clause-err
returns-then-last-eq0-clause-err c =
    let p = c.args.instance.now in
    let n = c.in_ok-rounds.rounds in
    let all = c.check_claim_rounds.new.added in
    let J = at_level p (take n all) 0 in
    let cert = c.index-certs-last.result in
    let value = c.index-values-last.result in
    let v = ap length c.goals-goals.ensures.value in
    let some = c.goals-goals.ensures.valid.some_goal in
    let counted = c.if-certs-goals.false in
    let first = c.if-last-eq0.true in
    IfErr-weaker c.check_at.result (TreeIsRefused J (Means.nodes c.as_slice-nodes.result.now) (Some (minimising J (ratio value))) 1)
    (CertificatesRefuse Best (problem p) (ratios c.args.values.now) (Means.certificates c.args.certs.now))
    (λ r q. levels_refused p Best c.args.values.now c.args.certs.now all n c.in_ok-rounds.ensures.ok (best_enough p c.goals-goals.ensures.valid c.args.certs.now (omega arith)) r
    (one_refused p c.args.values.now c.args.certs.now all n cert value (omega arith) (omega arith)
    (c.index-certs-last.is ∙ ap (λ k. slice_index_or c.args.certs.now k cert) first) (let w = c.requires.values in omega arith)
    (c.index-values-last.is ∙ ap (λ k. slice_index_or c.args.values.now k value) first) c.in_ok-rounds.ensures.ok r
    (subst (λ (ns : List Node). TreeIsRefused J (Means.nodes ns) (Some (minimising J (ratio value))) 1 r) (c.as_slice-nodes.ensures ∙ ap (λ (d : Cert). d.nodes) (sym c.index-certs-last.is)) q)))
    c.check_at.ensures.err

pub climb-requires-clause-alone : goal.climb-requires-clause-alone
climb-requires-clause-alone c =
    let v = ap length c.goals-goals.ensures.value in
    let more = c.if-last-eq0.false in
    all_alone c.args.instance.now c.args.certs.now c.check_claim_rounds.new.added c.in_ok-rounds.rounds (λ h. omega arith) c.in_ok-rounds.ensures.ok

pub returns-clause-ok : goal.returns-clause-ok
returns-clause-ok c =
    let p = c.args.instance.now in
    let last = length c.goals-goals.result.now - 1 in
    let rs = take last c.climb.new.added in
    let J = at_level p rs last in
    let cert = c.index-certs-last.result in
    let value = c.index-values-last.result in
    let v = ap length c.goals-goals.ensures.value in
    let counted = c.if-certs-goals.false in
    let more = c.if-last-eq0.false in
    on_ok_weaker c.check_at-2.result
    (λ s. last_shown p c.args.values.now c.args.certs.now rs last cert value (omega arith) (omega arith) c.index-certs-last.is c.requires.values c.index-values-last.is
    (all_alone p c.args.certs.now c.check_claim_rounds.new.added c.in_ok-rounds.rounds (λ h. omega arith) c.in_ok-rounds.ensures.ok) (c.in_ok-climb.ensures.ok Best)
    (subst (λ (ns : List Node). ProvesWithin J (Means.nodes ns) (Some (minimising J (ratio value)))) (c.as_slice-nodes.ensures ∙ ap (λ (d : Cert). d.nodes) (sym c.index-certs-last.is)) s))
    c.check_at-2.ensures.ok

pub returns-clause-err : goal.returns-clause-err
returns-clause-err c =
    let p = c.args.instance.now in
    let n = c.in_ok-rounds.rounds in
    let last = length c.goals-goals.result.now - 1 in
    let rs = take last c.climb.new.added in
    let J = at_level p rs last in
    let cert = c.index-certs-last.result in
    let value = c.index-values-last.result in
    let v = ap length c.goals-goals.ensures.value in
    let counted = c.if-certs-goals.false in
    let more = c.if-last-eq0.false in
    IfErr-weaker c.check_at-2.result (TreeIsRefused J (Means.nodes c.as_slice-nodes.result.now) (Some (minimising J (ratio value))) (last + 1))
    (CertificatesRefuse Best (problem p) (ratios c.args.values.now) (Means.certificates c.args.certs.now))
    (λ r q. levels_refused p Best c.args.values.now c.args.certs.now c.check_claim_rounds.new.added n c.in_ok-rounds.ensures.ok (best_enough p c.goals-goals.ensures.valid c.args.certs.now (omega arith)) r
    (last_refused p c.args.values.now c.args.certs.now rs last cert value (omega arith) (omega arith) c.index-certs-last.is c.requires.values c.index-values-last.is
    (all_alone p c.args.certs.now c.check_claim_rounds.new.added n (λ h. omega arith) c.in_ok-rounds.ensures.ok) (c.in_ok-climb.ensures.ok Best) r
    (subst (λ (ns : List Node). TreeIsRefused J (Means.nodes ns) (Some (minimising J (ratio value))) (last + 1) r) (c.as_slice-nodes.ensures ∙ ap (λ (d : Cert). d.nodes) (sym c.index-certs-last.is)) q)))
    c.check_at-2.ensures.err
