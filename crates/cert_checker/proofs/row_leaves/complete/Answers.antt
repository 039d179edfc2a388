use Rattle.std.proofs.Common.{IsTrue, false, refl, sym, ap, subst, inl, inr}
use Rattle.std.proofs.lemmas.Result.{err_from_is_err_and}
use Rattle.fraction.specs.Frac.{ratio}
use Rattle.evidence.specs.Cases.{Multiplier, AreOfRows, end_of, left_at, or_none}
use Rattle.certificate.specs.Meanings.{multipliers}
use Rattle.case_tree.specs.Cuts as Tree
use Rattle.cert_checker.specs.Cuts as Of
use Rattle.cert_checker.specs.declared.refused.Unshown.TheVariants.{Sign}
use Rattle.cert_checker.specs.Leaves.{wanted}
use Rattle.cert_checker.specs.RowLeaves.{own, LeftsBelow}
use Rattle.cert_checker.specs.Slots.{HoldsTotal}
use Rattle.cert_checker.proofs.Lists.{mult_is}
use Rattle.cert_checker.proofs.Widths.{width_is, cut-instance}
use Rattle.cert_checker.proofs.RowLeaves.{wanted-number}
use Rattle.cert_checker.proofs.Lefts.{some_mults, numbers_of, joined}
use Rattle.cert_checker.proofs.row_leaves.complete.Goals as goal

pub bounds-mults-0 : goal.bounds-mults-0
bounds-mults-0 c = some_mults (Tree.cut c.args.program.now c.args.cuts.now) c.args.mults.now (λ rows. let t : IsTrue false = c.if-not-are_rows.ensures.1 rows in cc)

pub returns-then-not-are_rows-clause-err : goal.returns-then-not-are_rows-clause-err
returns-then-not-are_rows-clause-err c =
    let J = Tree.cut c.args.program.now c.args.cuts.now in
    let named : AreOfRows J (multipliers c.args.mults.now) → ⊥ = λ rows. let t : IsTrue false = c.if-not-are_rows.ensures.1 rows in cc in
    inr (inl (c.in_default.ensures, named, ap (Sign c.args.node) (sym (ap (λ (m : Multiplier). m.column) (mult_is c.args.mults.now 0 c.index-mults-0.result (some_mults J c.args.mults.now named))))))

pub returns-in_err-low-clause-err : goal.returns-in_err-low-clause-err
returns-in_err-low-clause-err c =
    let p = err_from_is_err_and c.from_residual.result c.from_residual.ensures.1 in
    rw (p.1, p.2) (inr (inr (c.in_default.ensures, c.if-not-are_rows.ensures.0 refl, c.in_err-low.ensures.err)))

pub returns-clause-stand : goal.returns-clause-stand
returns-clause-stand c =
    let w = width_is c.args.program.now c.args.cuts.now in
    record {
      legal = c.in_default.ensures;
      rows = c.if-not-are_rows.ensures.0 refl;
      lefts = subst (LeftsBelow (Tree.cut c.args.program.now c.args.cuts.now) (multipliers c.args.mults.now) (Of.aim c.args.aim)) (sym w) c.in_ok-low.ensures.lefts;
    }

pub returns-clause-low : goal.returns-clause-low
returns-clause-low c =
    let J = Tree.cut c.args.program.now c.args.cuts.now in
    let good = cut-instance c.args.program.now c.requires.numbers c.args.cuts.now in
    let ms = multipliers c.args.mults.now in
    let z = Of.aim c.args.aim in
    let w = width_is c.args.program.now c.args.cuts.now in
    joined J good ms (numbers_of c.args.mults.now) (wanted J z) (wanted-number J good z) (ratio c.args.start) c.args.start.above c.in_ok-low.low c.add_rows.result
    (subst (λ n. HoldsTotal (ratio c.args.start) n (λ j. left_at J (wanted J z) ms j) (λ j. or_none (end_of J (own J ms z j))) c.in_ok-low.low) (sym w) c.in_ok-low.ensures.low)
    c.add_rows.ensures.some c.add_rows.ensures.none
