use Rattle.std.proofs.Common.{◌≡◌, ◌<◌, None, Some, IsTrue, false, length, arith, refl, ap, ◌∙◌, inl, inr, below_more}
use Rattle.std.proofs.lemmas.List.{get_or_default, length-map}
use Rattle.instance.specs.Program.{variable}
use Rattle.certificate.specs.Meanings.{multipliers}
use Rattle.case_tree.specs.Cuts as Tree
use Rattle.cert_checker.specs.Slots.{slot_at}
use Rattle.cert_checker.specs.RoundRefusals.{HasWholeForm}
use Rattle.cert_checker.proofs.Widths.{width_is, cut-instance}
use Rattle.cert_checker.proofs.ColumnSums.{unfit_form, fits_form, is_form}
use Rattle.cert_checker.proofs.RoundRows.{part_to, part_from}
use Rattle.cert_checker.proofs.rounds.check_parts.Goals as goal

pub returns-in-None-clause-err : goal.returns-in-None-clause-err
returns-in-None-clause-err c =
    let w = width_is c.args.program.now c.args.cuts.now in
    let v = ap length c.vars-count.ensures.value in
    let n = length-map c.vars-count.result.now variable in
    let h : c.loop-j.j < length c.args.cuts.now = omega arith in
    inr (
      c.loop-j.j,
      record {
        inside = omega arith;
        below = c.loop-j.invariant;
        wide = unfit_form (Tree.cut c.args.program.now c.args.cuts.now) (cut-instance c.args.program.now c.requires.numbers c.args.cuts.now) c.args.mults.now c.loop-j.j (slot_at c.args.slots.now c.loop-j.j) (get_or_default c.args.slots.now c.loop-j.j None _ (omega arith) ∙ c.in-None.is) (c.requires.sums c.loop-j.j h);
      },
      refl,
    )

pub returns-then-not-may_round-clause-err : goal.returns-then-not-may_round-clause-err
returns-then-not-may_round-clause-err c =
    let I = c.args.program.now in
    let cs = c.args.cuts.now in
    let w = width_is I cs in
    let v = ap length c.vars-count.ensures.value in
    let n = length-map c.vars-count.result.now variable in
    let h : c.loop-j.j < length cs = omega arith in
    let e : slot_at c.args.slots.now c.loop-j.j ≡ Some c.in-Some.sum = get_or_default c.args.slots.now c.loop-j.j None _ (omega arith) ∙ c.in-Some.is in
    let s = c.requires.sums c.loop-j.j h in
    let good = cut-instance I c.requires.numbers cs in
    let same = is_form (Tree.cut I cs) good c.args.mults.now c.loop-j.j (slot_at c.args.slots.now c.loop-j.j) c.in-Some.sum e s in
    inl (
      c.loop-j.j,
      record {
        inside = omega arith;
        below = c.loop-j.invariant;
        fits = fits_form (Tree.cut I cs) good c.args.mults.now c.loop-j.j (slot_at c.args.slots.now c.loop-j.j) c.in-Some.sum e s;
        part = λ q. let t : IsTrue false = c.if-not-may_round.ensures.1 (part_from I c.requires.numbers cs c.args.mults.now c.loop-j.j c.index-cuts-j.result h c.index-cuts-j.is c.in-Some.sum same q) in cc;
      },
      refl,
    )

pub loop-j-preserved : goal.loop-j-preserved
loop-j-preserved c =
    let I = c.args.program.now in
    let cs = c.args.cuts.now in
    let v = ap length c.vars-count.ensures.value in
    let n = length-map c.vars-count.result.now variable in
    let h : c.loop-j.j < length cs = omega arith in
    let e : slot_at c.args.slots.now c.loop-j.j ≡ Some c.in-Some.sum = get_or_default c.args.slots.now c.loop-j.j None _ (omega arith) ∙ c.in-Some.is in
    let s = c.requires.sums c.loop-j.j h in
    let good = cut-instance I c.requires.numbers cs in
    let same = is_form (Tree.cut I cs) good c.args.mults.now c.loop-j.j (slot_at c.args.slots.now c.loop-j.j) c.in-Some.sum e s in
    below_more (HasWholeForm (Tree.cut I cs) (multipliers c.args.mults.now)) c.loop-j.j c.loop-j.invariant
    (record {
      fits = fits_form (Tree.cut I cs) good c.args.mults.now c.loop-j.j (slot_at c.args.slots.now c.loop-j.j) c.in-Some.sum e s;
      is = part_to I c.requires.numbers cs c.args.mults.now c.loop-j.j c.index-cuts-j.result h c.index-cuts-j.is c.in-Some.sum same (c.if-not-may_round.ensures.0 refl);
    })
