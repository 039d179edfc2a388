use Rattle.std.proofs.Common.{◌≡◌, ◌<◌, length, inl, inr, refl, sym, ◌∙◌, ap, subst, arith}
use Rattle.evidence.specs.Sums.{none}
use Rattle.evidence.specs.Instance.{column_at}
use Rattle.bases.specs.Pivot.{PivotFits}
use Rattle.simplex_rules.specs.declared.columns.Status.{Status}
use Rattle.simplex_rules.specs.Turns.{pivoted, missed_status}
use Rattle.simplex_rules.specs.Runs.{BeginsTurn}
use Rattle.dictionary.specs.Dict.{entry_of}
use Rattle.simplex.proofs.ColumnEnds.{read_range}
use Rattle.simplex.proofs.PlainPrograms.{plain, plain_ends, moves_nonzero}
use Rattle.simplex.proofs.choosing.repair.Goals as goal

pub returns-in-None-clause-next : goal.returns-in-None-clause-next
returns-in-None-clause-next g c = λ I w zeroed t k e size. inl (c.in-None.ensures I w e, refl)

pub returns-in-Some-clause-allowed : goal.returns-in-Some-clause-allowed
returns-in-Some-clause-allowed g c =
    let e = plain_ends c.args.ends.now in
    let h = c.in-Some.ensures (plain c.args.ends.now) (λ j. none) e in
    record {
      basic_inside = let i = c.requires.inside in let g = c.requires.goal in omega arith;
      basic = c.requires.basic;
      nonbasic_inside = let i = h.inside in let n = e.count in let a = c.requires.ends in omega arith;
      nonbasic = h.helps.nonbasic;
      status = c.missed.ensures.free;
      nonzero = moves_nonzero c.args.out.way c.in-Some.n.way (entry_of c.args.dict.now c.args.out.col c.in-Some.n.col) h.helps.moves;
    }

pub returns-in-Some-clause-next : goal.returns-in-Some-clause-next
returns-in-Some-clause-next g c = λ I w zeroed t k e size next p.
    let h : c.args.out.col < length c.args.ends.now = let a = c.requires.ends in let i = c.requires.inside in let g = c.requires.goal in omega arith in
    let r = e.is c.args.out.col ∙ read_range c.args.ends.now c.args.out.col c.index-ends-out.result c.index-ends-out.is h in
    let s : c.missed.result ≡ missed_status c.args.out.way (column_at I c.args.out.col) = c.missed.ensures.is ∙ ap (missed_status c.args.out.way) (sym r) in
    inr (
      c.in-Some.n.col,
      c.in-Some.n.way,
      c.in-Some.ensures I w e,
      subst (λ (z : Status). BeginsTurn t k (PivotFits (entry_of c.args.dict.now) c.args.out.col c.in-Some.n.col) (pivoted c.args.statuses.now c.args.out.col c.in-Some.n.col z) next) s p,
    )
