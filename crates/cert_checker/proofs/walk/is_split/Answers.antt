use mir.Val.{SFits, of_z, to_z}
use mir.Syntax.{w128}
use Rattle.std.proofs.Common.{rules, ◌≡◌, ℤ, inl, arith, sym, subst}
use Rattle.std.proofs.Math.Facts.{to_z-of_z}
use Rattle.evidence.specs.Cases.{IsBranch}
use Rattle.evidence.proofs.RowBranches.{variable_split}
use Rattle.case_tree.specs.Cuts as Tree
use Rattle.cert_checker.proofs.Widths.{width_is}
use Rattle.cert_checker.proofs.walk.is_split.Goals as goal

pub returns-then-c-n : goal.returns-then-c-n
returns-then-c-n c =
    let p = c.args.program.now in
    let I = Tree.cut p c.args.cuts.now in
    let f : SFits w128 c.args.k = search rules in
    let same : to_z w128 (of_z w128 c.args.k) ≡ c.args.k = to_z-of_z f in
    let b = c.is_branch.ensures p in
    let w = width_is p c.args.cuts.now in (
      λ t. inl (subst (λ (k : ℤ). IsBranch I c.args.col k) same (b.0 t)),
      λ s. b.1 (subst (λ (k : ℤ). IsBranch I c.args.col k) (sym same) (variable_split I c.args.col c.args.k (let h = c.if-c-n.true in omega arith) s)),
    )
