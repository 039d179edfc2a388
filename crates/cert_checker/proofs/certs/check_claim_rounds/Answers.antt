use Rattle.std.proofs.Common.{◌≡◌, length, map, take, IsTrue, false, refl, sym, ◌∙◌, arith, ap}
use Rattle.std.proofs.lemmas.List.{take-map}
use Rattle.instance.specs.Program.{variable}
use Rattle.case_tree.specs.Cuts.{cut_variable}
use Rattle.cert_checker.proofs.Certificates.{not_none, alone_held, not_alone}
use Rattle.cert_checker.proofs.certs.check_claim_rounds.Goals as goal

pub returns-then-not-are_without_rounds-clause-err : goal.returns-then-not-are_without_rounds-clause-err
returns-then-not-are_without_rounds-clause-err c =
    let v = ap length c.goals.ensures.value in
    let many = c.if-goals-gt1.true in
    not_alone c.args.instance.now c.args.certs.now (not_none (length c.args.certs.now) c.is_empty.result c.is_empty.ensures c.if-is_empty.false) (omega arith)
    (λ f. let t : IsTrue false = c.if-not-are_without_rounds.ensures.1 f in cc)

pub returns-then-goals-gt1-clause-ok : goal.returns-then-goals-gt1-clause-ok
returns-then-goals-gt1-clause-ok c = alone_held c.args.instance.now c.args.certs.now c.args.added.now (c.if-not-are_without_rounds.ensures.0 refl)

pub check_rounds-requires-clause-uncut : goal.check_rounds-requires-clause-uncut
check_rounds-requires-clause-uncut c =
    let p = c.args.instance.now in
    let v = c.vars.ensures.value in
    let n : length c.args.slots.now ≡ length c.vars.result.now = c.requires.slots ∙ sym (ap length v) in
    sym (take-map cut_variable (length c.args.slots.now) c.uncut_all.new.cuts)
    ∙ ap (λ k. take k (map cut_variable c.uncut_all.new.cuts)) n ∙ c.uncut_all.ensures ∙ ap (map variable) v
