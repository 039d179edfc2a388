use Rattle.std.proofs.Common.{◌≡◌, ◌<◌, None, Some, IsTrue, false, length, arith, refl, ap, ◌∙◌, inl, inr, below_more}
use Rattle.instance.specs.Program.{variable}
use Rattle.certificate.specs.Meanings.{multipliers}
use Rattle.case_tree.specs.Cuts as Tree
use Rattle.cert_checker.specs.Cuts as Of
use Rattle.cert_checker.specs.Leaves.{HasForm}
use Rattle.cert_checker.specs.Slots.{slot_at}
use Rattle.std.proofs.lemmas.List.{get_or_default, length-map}
use Rattle.cert_checker.proofs.Widths.{width_is, cut-instance}
use Rattle.cert_checker.proofs.ColumnSums.{unfit_form, fits_form, has_form, other_form}
use Rattle.cert_checker.proofs.forms.compare.Goals as goal

pub returns-in-None-clause-err : goal.returns-in-None-clause-err
returns-in-None-clause-err c =
    let w = width_is c.args.program.now c.args.cuts.now in
    let v = ap length c.vars-count.ensures.value in
    let n = length-map c.vars-count.result.now variable in
    let h : c.loop-j.j < length c.args.cuts.now = omega arith in
    inr (
      c.loop-j.j,
      record {
        inside = omega arith;
        below = c.loop-j.invariant;
        wide = unfit_form (Tree.cut c.args.program.now c.args.cuts.now) (cut-instance c.args.program.now c.requires.numbers c.args.cuts.now) c.args.mults.now c.loop-j.j (slot_at c.args.slots.now c.loop-j.j) (get_or_default c.args.slots.now c.loop-j.j None _ (omega arith) ∙ c.in-None.is) (c.requires.sums c.loop-j.j h);
      },
      refl,
    )

pub returns-then-not-is_one-clause-err : goal.returns-then-not-is_one-clause-err
returns-then-not-is_one-clause-err c =
    let w = width_is c.args.program.now c.args.cuts.now in
    let v = ap length c.vars-count.ensures.value in
    let n = length-map c.vars-count.result.now variable in
    let h : c.loop-j.j < length c.args.cuts.now = omega arith in
    let e : slot_at c.args.slots.now c.loop-j.j ≡ Some c.in-Some.sum = get_or_default c.args.slots.now c.loop-j.j None _ (omega arith) ∙ c.in-Some.is in
    let s = c.requires.sums c.loop-j.j h in
    inl (
      c.loop-j.j,
      record {
        inside = omega arith;
        below = c.loop-j.invariant;
        fits = fits_form (Tree.cut c.args.program.now c.args.cuts.now) (cut-instance c.args.program.now c.requires.numbers c.args.cuts.now) c.args.mults.now c.loop-j.j (slot_at c.args.slots.now c.loop-j.j) c.in-Some.sum e s;
        other = other_form (Tree.cut c.args.program.now c.args.cuts.now) (cut-instance c.args.program.now c.requires.numbers c.args.cuts.now) c.args.mults.now c.loop-j.j (slot_at c.args.slots.now c.loop-j.j) c.in-Some.sum e s (Of.aim c.args.aim) c.wanted.result (c.wanted.ensures c.args.cuts.now)
            (λ q. let t : IsTrue false = c.if-not-is_one.ensures.1 q in cc);
      },
      refl,
    )

pub loop-j-preserved : goal.loop-j-preserved
loop-j-preserved c =
    let v = ap length c.vars-count.ensures.value in
    let n = length-map c.vars-count.result.now variable in
    let h : c.loop-j.j < length c.args.cuts.now = omega arith in
    let e : slot_at c.args.slots.now c.loop-j.j ≡ Some c.in-Some.sum = get_or_default c.args.slots.now c.loop-j.j None _ (omega arith) ∙ c.in-Some.is in
    let s = c.requires.sums c.loop-j.j h in
    below_more (HasForm (Tree.cut c.args.program.now c.args.cuts.now) (multipliers c.args.mults.now) (Of.aim c.args.aim)) c.loop-j.j c.loop-j.invariant
    (has_form (Tree.cut c.args.program.now c.args.cuts.now) (cut-instance c.args.program.now c.requires.numbers c.args.cuts.now) c.args.mults.now c.loop-j.j (slot_at c.args.slots.now c.loop-j.j) c.in-Some.sum e s (Of.aim c.args.aim) c.wanted.result (c.wanted.ensures c.args.cuts.now) (c.if-not-is_one.ensures.0 refl))
