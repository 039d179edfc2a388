use mir.Val.{SFits, of_z, to_z}
use mir.Syntax.{w128}
use Rattle.std.proofs.Math.Facts.{to_z-of_z}
use Rattle.std.proofs.Common.{rules, ◌≡◌, ℤ, IsTrue, false, arith, refl, sym, ap, subst, inl, inr}
use Rattle.std.proofs.lemmas.Result.{err_from_is_err_and}
use Rattle.evidence.specs.Sums.{none}
use Rattle.evidence.specs.Cases.{Multiplier, AreOfRows, end_of, left_at, or_none}
use Rattle.evidence.specs.Rounds.{RoundByRows}
use Rattle.evidence.proofs.Columns.{none-number}
use Rattle.certificate.specs.Meanings.{multipliers}
use Rattle.case_tree.specs.Cuts as Tree
use Rattle.cert_checker.specs.declared.refused.Refused.TheVariants.{Round}
use Rattle.cert_checker.specs.Lefts.{own, LeftsBelow, RowsStand}
use Rattle.cert_checker.specs.Programs.{HoldsRow, GivesRow}
use Rattle.cert_checker.specs.RowRounds.{aimed, all_of}
use Rattle.cert_checker.specs.Slots.{HoldsTotal, HoldsLow}
use Rattle.cert_checker.proofs.Lists.{mult_is}
use Rattle.cert_checker.proofs.Widths.{width_is, cut-instance}
use Rattle.cert_checker.proofs.Lefts.{some_mults, numbers_of, joined}
use Rattle.cert_checker.proofs.Rounding.{aimed-number, row_round_made}
use Rattle.cert_checker.proofs.row_rounds.check_row_round.Goals as goal

pub bounds-mults-0 : goal.bounds-mults-0
bounds-mults-0 c = some_mults (Tree.cut c.args.program.now c.args.cuts.now) c.args.mults.now (λ rows. let t : IsTrue false = c.if-not-are_rows.ensures.1 rows in cc)

pub returns-then-not-are_rows-clause-err : goal.returns-then-not-are_rows-clause-err
returns-then-not-are_rows-clause-err c =
    let J = Tree.cut c.args.program.now c.args.cuts.now in
    let named : AreOfRows J (multipliers c.args.mults.now) → ⊥ = λ rows. let t : IsTrue false = c.if-not-are_rows.ensures.1 rows in cc in
    inr (inl (c.in_default.ensures, named, ap (Round c.args.round) (sym (ap (λ (m : Multiplier). m.column) (mult_is c.args.mults.now 0 c.index-mults-0.result (some_mults J c.args.mults.now named))))))

pub returns-in_err-low-clause-err : goal.returns-in_err-low-clause-err
returns-in_err-low-clause-err c =
    let p = err_from_is_err_and c.from_residual.result c.from_residual.ensures.1 in
    rw (p.1, p.2) (inr (inr (inl (c.in_default.ensures, c.if-not-are_rows.ensures.0 refl, c.in_err-low.ensures.err))))

pub returns-in-None-clause-err : goal.returns-in-None-clause-err
returns-in-None-clause-err c =
    let I = c.args.program.now in
    let cs = c.args.cuts.now in
    let J = Tree.cut I cs in
    let good = cut-instance I c.requires.numbers cs in
    let ms = multipliers c.args.mults.now in
    let w = width_is I cs in
    let all = joined J good ms (numbers_of c.args.mults.now) (aimed J ms) (aimed-number J ms) none none-number c.in_ok-low.low c.add_rows.result
    (subst (λ n. HoldsTotal none n (λ j. left_at J (aimed J ms) ms j) (λ j. or_none (end_of J (own J (aimed J ms) ms j))) c.in_ok-low.low) (sym w) c.in_ok-low.ensures.low)
    c.add_rows.ensures.some c.add_rows.ensures.none in
    inr (inr (inr (
      record { legal = c.in_default.ensures; rows = c.if-not-are_rows.ensures.0 refl; lefts = subst (LeftsBelow J (aimed J ms) ms) (sym w) c.in_ok-low.ensures.lefts },
      subst (HoldsLow J none (all_of J ms)) c.in-None.is all,
      refl,
    )))

pub returns-in-Some-add_rows-clause-ok : goal.returns-in-Some-add_rows-clause-ok
returns-in-Some-add_rows-clause-ok c =
    let I = c.args.program.now in
    let cs = c.args.cuts.now in
    let J = Tree.cut I cs in
    let good = cut-instance I c.requires.numbers cs in
    let ms = multipliers c.args.mults.now in
    let w = width_is I cs in
    let all = joined J good ms (numbers_of c.args.mults.now) (aimed J ms) (aimed-number J ms) none none-number c.in_ok-low.low c.add_rows.result
    (subst (λ n. HoldsTotal none n (λ j. left_at J (aimed J ms) ms j) (λ j. or_none (end_of J (own J (aimed J ms) ms j))) c.in_ok-low.low) (sym w) c.in_ok-low.ensures.low)
    c.add_rows.ensures.some c.add_rows.ensures.none in
    let stand : RowsStand J (aimed J ms) ms = record { legal = c.in_default.ensures; rows = c.if-not-are_rows.ensures.0 refl; lefts = subst (LeftsBelow J (aimed J ms) ms) (sym w) c.in_ok-low.ensures.lefts } in
    let f : SFits w128 c.ceiling.result = search rules in
    let same : to_z w128 (of_z w128 c.ceiling.result) ≡ c.ceiling.result = to_z-of_z f in
    let long = c.round_forms.auto.slots in
    let before = c.add_columns.auto.slots in
    let r = c.requires.room in
    subst (λ (k : ℤ). GivesRow J (RoundByRows ms) c.round_forms.new.slots k) (sym same)
    (row_round_made J good ms c.round_forms.new.slots stand (omega arith) (subst (λ n. HoldsRow n (aimed J ms) c.round_forms.new.slots) (sym w) c.in_ok-low.ensures.row) c.in-Some-add_rows.sum c.ceiling.result
    (subst (HoldsLow J none (all_of J ms)) c.in-Some-add_rows.is all) c.ceiling.ensures.value c.ceiling.ensures.low)
