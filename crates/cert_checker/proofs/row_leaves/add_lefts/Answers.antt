use Rattle.std.proofs.Common.{◌≡◌, ◌∙◌, IsTrue, false, length, arith, refl, ap, subst, inl, inr, below_more}
use Rattle.std.proofs.lemmas.List.{length-map}
use Rattle.fraction.specs.Frac.{ratio}
use Rattle.evidence.specs.Cases.{end_by, end_of, left_at, or_none}
use Rattle.evidence.proofs.Steps.{no_term}
use Rattle.instance.specs.Program.{variable, limit}
use Rattle.certificate.specs.Meanings.{multipliers}
use Rattle.case_tree.specs.Cuts as Tree
use Rattle.cert_checker.specs.Cuts as Of
use Rattle.cert_checker.specs.Leaves.{wanted}
use Rattle.cert_checker.specs.Lefts.{HasLeft}
use Rattle.cert_checker.specs.RowLeaves.{own, LeftsBelow}
use Rattle.cert_checker.specs.Slots.{IsStep, HoldsTotal}
use Rattle.cert_checker.proofs.Widths.{width_is, cut-instance}
use Rattle.cert_checker.proofs.RowLeaves.{wanted-number}
use Rattle.cert_checker.proofs.Lefts.{numbers_of, finite_to, finite_from, added}
use Rattle.cert_checker.proofs.row_leaves.add_lefts.Goals as goal

pub loop-j-init : goal.loop-j-init
loop-j-init c =
    let J = Tree.cut c.args.program.now c.args.cuts.now in
    let good = cut-instance c.args.program.now c.requires.numbers c.args.cuts.now in
    let ms = multipliers c.args.mults.now in
    let z = Of.aim c.args.aim in
    let t = no_term (ratio c.args.start) (λ j. left_at J (wanted J z) ms j) (λ j. or_none (end_of J (own J ms z j))) in
    (λ j h. absurd (omega arith), (t.fits, t.is))

pub returns-in-None-clause-err : goal.returns-in-None-clause-err
returns-in-None-clause-err c =
    let w = width_is c.args.program.now c.args.cuts.now in
    let v = ap length c.vars-count.ensures.value in
    let n = length-map c.vars-count.result.now variable in
    (c.loop-j.j, (omega arith), c.loop-j.invariant.0, inl (c.in-None.ensures, refl))

pub returns-then-not-has_end-clause-err : goal.returns-then-not-has_end-clause-err
returns-then-not-has_end-clause-err c =
    let J = Tree.cut c.args.program.now c.args.cuts.now in
    let good = cut-instance c.args.program.now c.requires.numbers c.args.cuts.now in
    let ms = multipliers c.args.mults.now in
    let z = Of.aim c.args.aim in
    let w = width_is c.args.program.now c.args.cuts.now in
    let v = ap length c.vars-count.ensures.value in
    let n = length-map c.vars-count.result.now variable in
    let e = c.end_by-end.ensures ∙ ap (end_by c.in-Some.left.numer) c.ends_of.ensures in (
      c.loop-j.j,
      (omega arith),
      c.loop-j.invariant.0,
      inr (
        c.in-Some.ensures.0,
        (λ h. let t : IsTrue false = c.if-not-has_end.ensures.1 (finite_from J good ms (numbers_of c.args.mults.now) (wanted J z) (wanted-number J good z) c.loop-j.j c.in-Some.left c.in-Some.ensures.1 (limit c.end_by-end.result) e h) in cc),
        refl,
      ),
    )

pub loop-j-preserved : goal.loop-j-preserved
loop-j-preserved c =
    let J = Tree.cut c.args.program.now c.args.cuts.now in
    let good = cut-instance c.args.program.now c.requires.numbers c.args.cuts.now in
    let ms = multipliers c.args.mults.now in
    let z = Of.aim c.args.aim in
    let e = c.end_by-end.ensures ∙ ap (end_by c.in-Some.left.numer) c.ends_of.ensures in
    let pm = numbers_of c.args.mults.now in (
      below_more (HasLeft J (wanted J z) ms) c.loop-j.j c.loop-j.invariant.0
          (record { fits = c.in-Some.ensures.0; finite = finite_to J good ms pm (wanted J z) (wanted-number J good z) c.loop-j.j c.in-Some.left c.in-Some.ensures.1 (limit c.end_by-end.result) e (c.if-not-has_end.ensures.0 refl) }),
      added J good ms pm (wanted J z) (wanted-number J good z) c.loop-j.j c.in-Some.left c.in-Some.ensures.1 (limit c.end_by-end.result) e (ratio c.args.start) c.args.start.above c.loop-j.low c.plus-low.result c.loop-j.invariant.1
          (subst (λ x. IsStep c.loop-j.low (ratio c.in-Some.left) x c.plus-low.result) c.or_zero.ensures c.plus-low.ensures),
    )

pub returns-clause-lefts : goal.returns-clause-lefts
returns-clause-lefts c =
    let v = ap length c.vars-count.ensures.value in
    let n = length-map c.vars-count.result.now variable in
    let e : c.loop-j.j ≡ length c.args.cuts.now = (let a = c.loop-j.auto.j-end in let b = c.loop-j-test.false in omega arith) in
    subst (LeftsBelow (Tree.cut c.args.program.now c.args.cuts.now) (multipliers c.args.mults.now) (Of.aim c.args.aim)) e c.loop-j.invariant.0

pub returns-clause-low : goal.returns-clause-low
returns-clause-low c =
    let J = Tree.cut c.args.program.now c.args.cuts.now in
    let good = cut-instance c.args.program.now c.requires.numbers c.args.cuts.now in
    let ms = multipliers c.args.mults.now in
    let z = Of.aim c.args.aim in
    let v = ap length c.vars-count.ensures.value in
    let n = length-map c.vars-count.result.now variable in
    let e : c.loop-j.j ≡ length c.args.cuts.now = (let a = c.loop-j.auto.j-end in let b = c.loop-j-test.false in omega arith) in
    subst (λ n. HoldsTotal (ratio c.args.start) n (λ j. left_at J (wanted J z) ms j) (λ j. or_none (end_of J (own J ms z j))) c.loop-j.low) e c.loop-j.invariant.1
