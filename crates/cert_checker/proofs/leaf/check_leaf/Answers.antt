use Rattle.std.proofs.Common.{sym, subst, inl, inr}
use Rattle.std.proofs.lemmas.Result.{MatchResult-weaker, err_from_is_err_and}
use Rattle.certificate.specs.Meanings.{multipliers}
use Rattle.case_tree.specs.Cuts as Tree
use Rattle.cert_checker.specs.Cuts as Of
use Rattle.cert_checker.specs.Leaves.{FormsBelow}
use Rattle.cert_checker.proofs.Widths.{width_is}
use Rattle.cert_checker.proofs.leaf.check_leaf.Goals as goal

pub returns-in_err-check_forms-clause-err : goal.returns-in_err-check_forms-clause-err
returns-in_err-check_forms-clause-err c =
    let p = err_from_is_err_and c.from_residual.result c.from_residual.ensures.1 in
    rw (p.1, p.2) (inr (inl (c.in_default.ensures, c.in_err-check_forms.ensures.err)))

pub returns-clause-err : goal.returns-clause-err
returns-clause-err c =
    let forms = subst (FormsBelow (Tree.cut c.args.program.now c.args.cuts.now) (multipliers c.args.mults.now) (Of.aim c.args.aim)) (sym (width_is c.args.program.now c.args.cuts.now)) c.in_ok-check_forms.ensures.ok in
    MatchResult-weaker c.check_sum.result c.check_sum.ensures.err (λ x p. p) (λ e p. inr (inr (c.in_default.ensures, forms, p)))
