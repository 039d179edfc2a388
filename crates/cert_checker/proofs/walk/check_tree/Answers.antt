use Rattle.std.proofs.Common.{◌≡◌, ◌+◌, ◌≤◌, ℕ, Option, Some, IfSome, [], ◌∷◌, length, map, take, drop, arith, sym, ◌∙◌, ap, subst}
use Rattle.std.proofs.lemmas.Result.{err_from_is_err_and}
use Rattle.certificate.specs.Meanings as Means
use Rattle.case_tree.specs.Cuts as Tree
use Rattle.std.proofs.lemmas.List.{length-map, take-map}
use Rattle.evidence.specs.Instance.{Instance, width}
use Rattle.instance.specs.Program.{variable}
use Rattle.case_tree.specs.Cuts.{cut_variable}
use Rattle.cert_checker.specs.Cuts as Of
use Rattle.cert_checker.specs.Columns.{ends, open_cases}
use Rattle.cert_checker.specs.Trees.{LeadsThrough}
use Rattle.cert_checker.proofs.PartedCases.{parted_is}
use Rattle.cert_checker.proofs.Walks.{leads_here, leads_on, leads_first, some_weaker}
use Rattle.cert_checker.proofs.walk.check_tree.Goals as goal

pub returns-in_err-next-in-Some-clause-err : goal.returns-in_err-next-in-Some-clause-err
returns-in_err-next-in-Some-clause-err c =
    let p = err_from_is_err_and c.from_residual.result c.from_residual.ensures.1 in
    let here = leads_here (width c.args.program.now) (c.args.program.now ∷ []) c.args.nodes.now c.args.program.now c.loop-i.cuts c.loop-i.branches c.loop-i.next c.in-Some.depth c.loop-i.i (Of.aim c.args.aim) c.index-nodes-i.result c.in-Some.is c.loop-i-test.true c.index-nodes-i.is c.loop-i.invariant.leads in
    rw (p.1, p.2) (here.refused c.in_err-next-in-Some.field-0.0 (c.in_err-next-in-Some.ensures.err (drop (c.loop-i.i + 1) (Means.nodes c.args.nodes.now))))

pub loop-i-preserved : goal.loop-i-preserved
loop-i-preserved c =
    let here = leads_here (width c.args.program.now) (c.args.program.now ∷ []) c.args.nodes.now c.args.program.now c.loop-i.cuts c.loop-i.branches c.loop-i.next c.in-Some.depth c.loop-i.i (Of.aim c.args.aim) c.index-nodes-i.result c.in-Some.is c.loop-i-test.true c.index-nodes-i.is c.loop-i.invariant.leads in
    let deep : c.in-Some.depth ≤ c.loop-i.i = subst (λ (o : Option ℕ). IfSome o (λ d. d ≤ c.loop-i.i)) c.in-Some.is c.loop-i.invariant.depth in
    record {
      above = subst (λ (n : ℕ). IfSome c.in_ok-next-in-Some.next (Tree.AreBranches n c.step.new.branches)) (sym c.step.auto.cuts) c.in_ok-next-in-Some.ensures.above;
      depth = some_weaker c.in_ok-next-in-Some.next (λ d h. omega arith) c.in_ok-next-in-Some.ensures.depth;
      leads = leads_on (c.args.program.now ∷ []) (open_cases (width c.args.program.now) c.args.program.now c.loop-i.cuts c.loop-i.branches (Some c.in-Some.depth)) (open_cases (width c.args.program.now) c.args.program.now c.step.new.cuts c.step.new.branches c.in_ok-next-in-Some.next)
          (Means.nodes c.args.nodes.now) (Means.node c.index-nodes-i.result ∷ drop (c.loop-i.i + 1) (Means.nodes c.args.nodes.now)) (drop (c.loop-i.i + 1) (Means.nodes c.args.nodes.now)) 1 (c.loop-i.i + 1) (c.loop-i.i + 1 + 1) (Of.aim c.args.aim)
          here (c.in_ok-next-in-Some.ensures.ok (drop (c.loop-i.i + 1) (Means.nodes c.args.nodes.now)));
    }

pub loop-i-init : goal.loop-i-init
loop-i-init c =
    let p = c.args.program.now in
    let m = width p in
    let n = length c.args.slots.now in
    let now = c.uncut_rows.new.cuts in
    let old = c.uncut_all.new.cuts in
    let vs = c.vars.result.now in
    let e : n ≡ m = c.requires.slots in
    let long = length-map vs variable in
    let value : map variable vs ≡ p.variables = c.vars.ensures.value in
    let some : length vs ≡ n = (let a = ap length value in omega arith) in
    let variables : take m (map cut_variable now) ≡ p.variables =
    ap (λ k. take k (map cut_variable now)) (sym e) ∙ take-map cut_variable n now ∙ ap (map cut_variable) c.uncut_rows.ensures.variables ∙ sym (take-map cut_variable n old)
    ∙ ap (λ k. take k (map cut_variable old)) (sym some) ∙ c.uncut_all.ensures ∙ value in
    let rows : map ends (drop m now) ≡ p.rows = ap (λ k. map ends (drop k now)) (sym e) ∙ c.uncut_rows.ensures.rows in
    record {
      above = record { columns = λ i h. absurd (omega arith); next = λ i h. absurd (omega arith) };
      depth = omega arith;
      leads = subst (λ l. LeadsThrough (p ∷ []) (Means.nodes c.args.nodes.now) 1 l (drop 0 (Means.nodes c.args.nodes.now)) (0 + 1) (Of.aim c.args.aim)) (sym (ap (λ (I : Instance). I ∷ []) (parted_is m p now variables rows))) (leads_first (p ∷ []) (Means.nodes c.args.nodes.now) (Of.aim c.args.aim));
    }
