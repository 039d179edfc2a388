use Rattle.std.proofs.Common.{◌≡◌, ◌∙◌, ◌<◌, ℕ, Option, None, Some, IsTrue, false, length, arith, refl, sym, ap, subst, inl, inr, below_more}
use Rattle.std.proofs.lemmas.List.{length-map, get_or_default}
use Rattle.rational.specs.Ratio.{Ratio, IsSame}
use Rattle.fraction.specs.Frac.{ratio}
use Rattle.fraction.specs.declared.frac.Frac.{Frac}
use Rattle.evidence.specs.Sums.{none}
use Rattle.evidence.specs.Cases.{end_by, end_of, left_at, or_none}
use Rattle.evidence.proofs.Steps.{no_term}
use Rattle.instance.specs.Program.{variable, limit}
use Rattle.certificate.specs.Meanings.{multipliers}
use Rattle.case_tree.specs.Cuts as Tree
use Rattle.cert_checker.specs.Lefts.{own, HasLeft, LeftsBelow}
use Rattle.cert_checker.specs.Programs.{HoldsRow}
use Rattle.cert_checker.specs.RowRounds.{aimed}
use Rattle.cert_checker.specs.Slots.{slot_at, IsStep, HoldsSum, HoldsTotal}
use Rattle.cert_checker.proofs.Additions.{set_next, set_apart}
use Rattle.cert_checker.proofs.ColumnSums.{unfit_form}
use Rattle.cert_checker.proofs.Widths.{width_is, cut-instance}
use Rattle.cert_checker.proofs.RoundedForms.{number_aimed, unfit_left, endless, has_left, left_added}
use Rattle.cert_checker.proofs.row_rounds.round_forms.Goals as goal

pub loop-j-init : goal.loop-j-init
loop-j-init c =
    let J = Tree.cut c.args.program.now c.args.cuts.now in
    let ms = multipliers c.args.mults.now in
    let s = no_term none (λ j. left_at J (aimed J ms) ms j) (λ j. or_none (end_of J (own J (aimed J ms) ms j))) in
    record {
      lefts = λ j h. absurd (omega arith);
      low = (s.fits, subst (λ (r : Ratio). IsSame r none) (sym c.zero.ensures) refl);
      row = record { number = λ j h. absurd (omega arith) };
      rest = λ i l h. c.requires.sums i h;
    }

pub returns-in-None-clause-err : goal.returns-in-None-clause-err
returns-in-None-clause-err c =
    let I = c.args.program.now in
    let cs = c.args.cuts.now in
    let j = c.loop-j.j in
    let w = width_is I cs in
    let v = ap length c.vars-count.ensures.value in
    let n = length-map c.vars-count.result.now variable in
    let h : j < length cs = omega arith in
    let long = c.loop-j.auto.slots in
    let e : slot_at c.loop-j.slots j ≡ None = get_or_default c.loop-j.slots j None _ (omega arith) ∙ c.in-None.is in
    (j, (omega arith), c.loop-j.invariant.lefts, inl ((λ f. unfit_form (Tree.cut I cs) (cut-instance I c.requires.numbers cs) c.args.mults.now j (slot_at c.loop-j.slots j) e (c.loop-j.invariant.rest j (omega arith) h) f.rows), refl))

pub returns-in-Err-clause-err : goal.returns-in-Err-clause-err
returns-in-Err-clause-err c =
    let I = c.args.program.now in
    let cs = c.args.cuts.now in
    let j = c.loop-j.j in
    let w = width_is I cs in
    let v = ap length c.vars-count.ensures.value in
    let n = length-map c.vars-count.result.now variable in
    let h : j < length cs = omega arith in
    let long = c.loop-j.auto.slots in
    let e : slot_at c.loop-j.slots j ≡ Some c.in-Some.form = get_or_default c.loop-j.slots j None _ (omega arith) ∙ c.in-Some.is in
    let so = c.loop-j.invariant.rest j (omega arith) h in
    (j, (omega arith), c.loop-j.invariant.lefts, inl (unfit_left I c.requires.numbers cs c.args.mults.now j h c.index-cuts-j.result c.index-cuts-j.is (slot_at c.loop-j.slots j) c.in-Some.form c.rounded-number.result e so c.rounded-number.ensures c.in-Err.ensures.wide, refl))

pub returns-then-not-has_end-clause-err : goal.returns-then-not-has_end-clause-err
returns-then-not-has_end-clause-err c =
    let I = c.args.program.now in
    let cs = c.args.cuts.now in
    let j = c.loop-j.j in
    let w = width_is I cs in
    let v = ap length c.vars-count.ensures.value in
    let n = length-map c.vars-count.result.now variable in
    let h : j < length cs = omega arith in
    let long = c.loop-j.auto.slots in
    let e : slot_at c.loop-j.slots j ≡ Some c.in-Some.form = get_or_default c.loop-j.slots j None _ (omega arith) ∙ c.in-Some.is in
    let so = c.loop-j.invariant.rest j (omega arith) h in
    let end = c.end_by-end.ensures ∙ ap (end_by c.in-Ok.left.numer) c.ends_of.ensures in
    let (fits, lacks) =
    endless I c.requires.numbers cs c.args.mults.now j h c.index-cuts-j.result c.index-cuts-j.is (slot_at c.loop-j.slots j) c.in-Some.form c.rounded-number.result e so c.rounded-number.ensures c.in-Ok.ensures.fits c.in-Ok.left c.in-Ok.ensures.ok (limit c.end_by-end.result) end
    (λ some. let t : IsTrue false = c.if-not-has_end.ensures.1 some in cc) in
    (j, (omega arith), c.loop-j.invariant.lefts, inr (fits, lacks, refl))

pub loop-j-preserved : goal.loop-j-preserved
loop-j-preserved c =
    let I = c.args.program.now in
    let cs = c.args.cuts.now in
    let J = Tree.cut I cs in
    let ms = c.args.mults.now in
    let j = c.loop-j.j in
    let w = width_is I cs in
    let v = ap length c.vars-count.ensures.value in
    let n = length-map c.vars-count.result.now variable in
    let h : j < length cs = omega arith in
    let long = c.loop-j.auto.slots in
    let e : slot_at c.loop-j.slots j ≡ Some c.in-Some.form = get_or_default c.loop-j.slots j None _ (omega arith) ∙ c.in-Some.is in
    let so = c.loop-j.invariant.rest j (omega arith) h in
    let end = c.end_by-end.ensures ∙ ap (end_by c.in-Ok.left.numer) c.ends_of.ensures in
    record {
      lefts = below_more (HasLeft J (aimed J (multipliers ms)) (multipliers ms)) j c.loop-j.invariant.lefts
          (has_left I c.requires.numbers cs ms j h c.index-cuts-j.result c.index-cuts-j.is (slot_at c.loop-j.slots j) c.in-Some.form c.rounded-number.result e so c.rounded-number.ensures c.in-Ok.ensures.fits c.in-Ok.left c.in-Ok.ensures.ok (limit c.end_by-end.result) end (c.if-not-has_end.ensures.0 refl));
      low =
          left_added I c.requires.numbers cs ms j h c.index-cuts-j.result c.index-cuts-j.is (slot_at c.loop-j.slots j) c.in-Some.form c.rounded-number.result e so c.rounded-number.ensures c.in-Ok.ensures.fits c.in-Ok.left c.in-Ok.ensures.ok (limit c.end_by-end.result) end c.loop-j.low c.plus-low.result c.loop-j.invariant.low
          (subst (λ x. IsStep c.loop-j.low (ratio c.in-Ok.left) x c.plus-low.result) c.or_zero.ensures c.plus-low.ensures);
      row = record {
        number =
            set_next (λ (i : ℕ) (o : Option Frac). (x : Frac) × (o ≡ Some x) × (ratio x ≡ aimed J (multipliers ms) i)) c.loop-j.slots j (Some c.rounded-number.result) (omega arith) c.loop-j.invariant.row.number
            (c.rounded-number.result, refl, number_aimed I c.requires.numbers cs ms j h c.index-cuts-j.result c.index-cuts-j.is (slot_at c.loop-j.slots j) c.in-Some.form c.rounded-number.result e so c.rounded-number.ensures);
      };
      rest = λ i l k. subst (HoldsSum J (multipliers ms) i (length ms)) (sym (set_apart c.loop-j.slots j i (Some c.rounded-number.result) (λ q. omega arith))) (c.loop-j.invariant.rest i (omega arith) k);
    }

pub returns-clause-low : goal.returns-clause-low
returns-clause-low c =
    let J = Tree.cut c.args.program.now c.args.cuts.now in
    let ms = multipliers c.args.mults.now in
    let v = ap length c.vars-count.ensures.value in
    let n = length-map c.vars-count.result.now variable in
    let e : c.loop-j.j ≡ length c.args.cuts.now = (let a = c.loop-j.auto.j-end in let b = c.loop-j-test.false in omega arith) in
    subst (λ n. HoldsTotal none n (λ j. left_at J (aimed J ms) ms j) (λ j. or_none (end_of J (own J (aimed J ms) ms j))) c.loop-j.low) e c.loop-j.invariant.low

pub returns-clause-row : goal.returns-clause-row
returns-clause-row c =
    let J = Tree.cut c.args.program.now c.args.cuts.now in
    let ms = multipliers c.args.mults.now in
    let v = ap length c.vars-count.ensures.value in
    let n = length-map c.vars-count.result.now variable in
    let e : c.loop-j.j ≡ length c.args.cuts.now = (let a = c.loop-j.auto.j-end in let b = c.loop-j-test.false in omega arith) in
    subst (λ n. HoldsRow n (aimed J ms) c.loop-j.slots) e c.loop-j.invariant.row

pub returns-clause-lefts : goal.returns-clause-lefts
returns-clause-lefts c =
    let J = Tree.cut c.args.program.now c.args.cuts.now in
    let ms = multipliers c.args.mults.now in
    let v = ap length c.vars-count.ensures.value in
    let n = length-map c.vars-count.result.now variable in
    let e : c.loop-j.j ≡ length c.args.cuts.now = (let a = c.loop-j.auto.j-end in let b = c.loop-j-test.false in omega arith) in
    subst (LeftsBelow J (aimed J ms) ms) e c.loop-j.invariant.lefts
