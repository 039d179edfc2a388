use Rattle.std.proofs.Common.{◌≡◌, ◌<◌, length, List, inl, inr, refl, sym, ◌∙◌, ap, ap₂, subst, arith}
use Rattle.std.specs.Prelude.{slice_set}
use Rattle.evidence.specs.Instance.{Range, Instance, width, column_at}
use Rattle.simplex_rules.specs.declared.columns.Status.{Status}
use Rattle.simplex_rules.specs.Statuses.{basic_in}
use Rattle.simplex_rules.specs.Turns.{flipped, reached_status, pivoted, NoLimit, IsFirstLimit}
use Rattle.simplex_rules.specs.Reports.{movement}
use Rattle.bases.specs.Pivot.{PivotFits}
use Rattle.simplex_rules.specs.Runs.{BeginsTurn}
use Rattle.dictionary.specs.Dict.{entry_of}
use Rattle.simplex.specs.Tables.{values_in}
use Rattle.simplex.specs.Cuts.{AreEndsOf}
use Rattle.simplex.specs.Answers.{listed}
use Rattle.simplex.proofs.ValueLists.{listed_values}
use Rattle.simplex.proofs.ColumnEnds.{read_range}
use Rattle.simplex.proofs.PlainPrograms.{plain, plain_ends, of_none}
use Rattle.simplex.proofs.FirstLimit.{limit_told, limit_basic, limit_nonzero}
use Rattle.simplex.proofs.choosing.enter_column.Goals as goal
use Rattle.simplex.proofs.choosing.enter_column.Goals.{In-Ok-Some}

-- the first limit, of each program of these ends
limit : (g : _) (c : In-Ok-Some g) (I : Instance) → AreEndsOf I c.args.ends.now → IsFirstLimit I c.args.statuses.now (entry_of c.args.dict.now) (values_in c.args.values.now) c.args.moving.col c.args.moving.way c.in-Ok-Some.l.col
limit g c I e = limit_told I c.args.statuses.now (entry_of c.args.dict.now) (values_in c.args.values.now) c.args.moving.col c.args.moving.way c.in-Ok-Some.field-0 c.in-Ok-Some.l c.in-Ok-Some.field-0-is (c.in-Ok-Some.ensures.ok I e)

pub leave-requires-clause-basic_inside : goal.leave-requires-clause-basic_inside
leave-requires-clause-basic_inside g c =
    let d = (goal.at.leave-requires-clause-basic_inside g c).In-Ok-Some in
    let e = plain_ends c.args.ends.now in
    let p = limit g d (plain c.args.ends.now) e in
    let i = p.inside in let n = e.count in let a = c.requires.ends in let g = c.requires.goal in omega arith

pub leave-requires-clause-basic : goal.leave-requires-clause-basic
leave-requires-clause-basic g c =
    let d = (goal.at.leave-requires-clause-basic g c).In-Ok-Some in
    limit_basic (plain c.args.ends.now) c.args.statuses.now (entry_of c.args.dict.now) (values_in c.args.values.now) c.args.moving.col c.args.moving.way c.in-Ok-Some.l.col (limit g d (plain c.args.ends.now) (plain_ends c.args.ends.now)) c.if-l-moving.false

pub returns-in-Ok-None-clause-next : goal.returns-in-Ok-None-clause-next
returns-in-Ok-None-clause-next g c = λ I zeroed t k e size.
    inr (inl (
      listed (width I) (values_in c.args.values.now),
      listed (width I) (movement c.args.statuses.now (entry_of c.args.dict.now) c.args.moving.col c.args.moving.way),
      c.in-Ok-None.ensures.fits I e,
      of_none c.in-Ok-None.field-0 (NoLimit I c.args.statuses.now (entry_of c.args.dict.now) (values_in c.args.values.now) c.args.moving.col c.args.moving.way) _ c.in-Ok-None.field-0-is (c.in-Ok-None.ensures.ok I e),
      listed_values I (values_in c.args.values.now),
      listed_values I (movement c.args.statuses.now (entry_of c.args.dict.now) c.args.moving.col c.args.moving.way),
      refl,
    ))

pub returns-then-l-moving-clause-next : goal.returns-then-l-moving-clause-next
returns-then-l-moving-clause-next g c = λ I zeroed t k e size next q.
    let p = limit g (goal.at.returns-then-l-moving-clause-next g c).In-Ok-Some I e in
    let own : IsFirstLimit I c.args.statuses.now (entry_of c.args.dict.now) (values_in c.args.values.now) c.args.moving.col c.args.moving.way c.args.moving.col =
    subst (λ j. IsFirstLimit I c.args.statuses.now (entry_of c.args.dict.now) (values_in c.args.values.now) c.args.moving.col c.args.moving.way j) c.if-l-moving.true p in
    let h : c.in-Ok-Some.l.col < length c.args.ends.now = let i = p.inside in let n = e.count in omega arith in
    let r = e.is c.in-Ok-Some.l.col ∙ read_range c.args.ends.now c.in-Ok-Some.l.col c.index-ends-l.result c.index-ends-l.is h in
    let s : c.reached-status.result ≡ reached_status c.args.moving.way (column_at I c.args.moving.col) =
    c.reached-status.ensures.is ∙ ap (λ (j : Range). reached_status c.args.moving.way j) (sym r) ∙ ap (λ j. reached_status c.args.moving.way (column_at I j)) c.if-l-moving.true in
    let f : slice_set c.args.statuses.now c.in-Ok-Some.l.col c.reached-status.result ≡ flipped I c.args.statuses.now c.args.moving.col c.args.moving.way = ap₂ (λ j (z : Status). slice_set c.args.statuses.now j z) c.if-l-moving.true s in
    inr (inr (inl (c.in-Ok-Some.ensures.fits I e, own, subst (λ (z : List Status). BeginsTurn t k (Unit {0}) z next) f q)))

pub returns-else-l-moving-clause-allowed : goal.returns-else-l-moving-clause-allowed
returns-else-l-moving-clause-allowed g c =
    let d = (goal.at.returns-else-l-moving-clause-allowed g c).In-Ok-Some in
    let e = plain_ends c.args.ends.now in
    let p = limit g d (plain c.args.ends.now) e in
    let b = limit_basic (plain c.args.ends.now) c.args.statuses.now (entry_of c.args.dict.now) (values_in c.args.values.now) c.args.moving.col c.args.moving.way c.in-Ok-Some.l.col p c.if-l-moving.false in
    let z = limit_nonzero (plain c.args.ends.now) c.args.statuses.now (entry_of c.args.dict.now) (values_in c.args.values.now) c.args.moving.col c.args.moving.way c.in-Ok-Some.l.col p c.if-l-moving.false in
    let x = c.leave.ensures.basic in
    let y = c.leave.ensures.nonbasic in
    record {
      basic_inside = let i = p.inside in let n = e.count in let a = c.requires.ends in omega arith;
      basic = ap (basic_in c.args.statuses.now) x ∙ b;
      nonbasic_inside = let i = c.requires.nonbasic_inside in let g = c.requires.goal in omega arith;
      nonbasic = ap (basic_in c.args.statuses.now) y ∙ c.requires.nonbasic;
      status = c.leave.ensures.free;
      nonzero = λ n. z (ap₂ (λ i j. (entry_of c.args.dict.now i j).num) (sym x) (sym y) ∙ n);
    }

pub returns-else-l-moving-clause-next : goal.returns-else-l-moving-clause-next
returns-else-l-moving-clause-next g c = λ I zeroed t k e size next q.
    let p = limit g (goal.at.returns-else-l-moving-clause-next g c).In-Ok-Some I e in
    inr (inr (inr (
      c.in-Ok-Some.l.col,
      c.in-Ok-Some.ensures.fits I e,
      p,
      c.if-l-moving.false,
      subst (λ (z : Status). BeginsTurn t k (PivotFits (entry_of c.args.dict.now) c.in-Ok-Some.l.col c.args.moving.col) (pivoted c.args.statuses.now c.in-Ok-Some.l.col c.args.moving.col z) next) (c.leave.ensures.status I e)
          (subst (λ j. BeginsTurn t k (PivotFits (entry_of c.args.dict.now) c.in-Ok-Some.l.col j) (pivoted c.args.statuses.now c.in-Ok-Some.l.col j c.leave.result.status) next) c.leave.ensures.nonbasic
          (subst (λ i. BeginsTurn t k (PivotFits (entry_of c.args.dict.now) i c.leave.result.nonbasic) (pivoted c.args.statuses.now i c.leave.result.nonbasic c.leave.result.status) next) c.leave.ensures.basic q)),
    )))
