use Rattle.std.proofs.Common.{◌≡◌, ◌+◌, ◌<◌, List, length, arith, refl, sym, ◌∙◌, ap, subst}
use Rattle.rational.specs.Ratio.{Ratio, product}
use Rattle.rational.specs.Width.{ReducedFits}
use Rattle.fraction.specs.Frac.{ratio, ratios}
use Rattle.fraction.specs.declared.frac.Frac.{Frac}
use Rattle.evidence.specs.Point.{value_at}
use Rattle.instance.proofs.Terms.{read, at_err}
use Rattle.marks.specs.Marks.{is_marked, size_of}
use Rattle.dictionary.specs.Rows.{numbers_of, entries_at}
use Rattle.dictionary.proofs.RowForms.{marked_has}
use Rattle.dictionary.proofs.FilledColumns.{IsProductAt, filled_none, filled_next, filled_all, product_none, product_told}
use Rattle.dictionary.proofs.solving.multiply_values.Goals as goal
use Rattle.dictionary.proofs.solving.multiply_values.Goals.{In-Some, After-index}

pub loop-c-init : goal.loop-c-init
loop-c-init g c = record {
  kept = c.new-walk.ensures (is_marked c.args.row.now.marks);
  filled = filled_none c.clear.new.self _ _ c.clear.ensures.none c.clear.ensures.found;
  count = c.clear.ensures.count;
  values = λ j l. ap (λ (xs : List Frac). value_at (ratios xs) j) c.clear.ensures.values;
}

pub next_by-requires : goal.next_by-requires
next_by-requires g c = c.loop-c.invariant.kept

inside : (g : _) (c : In-Some g) → c.in-Some.c + 1 < length c.loop-c.scratch.values.items
inside g c = let r = c.requires.row in let l = r.1.inside c.in-Some.c c.in-Some.ensures.first.is in let n = c.loop-c.invariant.count in omega arith

pub index-requires : goal.index-requires
index-requires g c = let l = inside g (goal.at.index-requires g c).In-Some in let s = c.loop-c.scratch in let v = s.values in let e = v.ok.0 in omega arith

pub put-requires : goal.put-requires
put-requires g c = inside g (goal.at.put-requires g c).In-Some

pub overflow_add-from : goal.overflow_add-from
unfolding size_of
overflow_add-from g c =
    let r = c.requires.row in
    let row = c.args.row.now in
    let m = row.marks in
    let few = m.few in
    let columns = r.1.columns in
    let l = r.1.inside c.in-Some.c c.in-Some.ensures.first.is in
    record { fits = omega arith }

-- the value that was read is the row's
value : (g : _) (c : After-index g) → ratio c.index.result.now ≡ numbers_of c.args.row.now c.in-Some.c
unfolding entries_at
value g c =
    let r = c.requires.row in
    let s = c.loop-c.scratch in
    let first = c.in-Some.ensures.first in
    let l = r.1.inside c.in-Some.c first.is in
    let n = c.loop-c.invariant.count in
    sym (read s.values.items c.in-Some.c c.index.result.now (omega arith) c.index.ensures) ∙ c.loop-c.invariant.values c.in-Some.c first.later ∙ c.requires.values c.in-Some.c (marked_has c.args.row.now _ r.0 r.1 c.in-Some.c first.is)

pub loop-c-preserved : goal.loop-c-preserved
loop-c-preserved g c =
    let r = c.requires.row in
    let row = c.args.row.now in
    let f = c.args.factor in
    let i = c.loop-c.invariant in
    let first = c.in-Some.ensures.first in
    let told = product_told (numbers_of row) f c.in_ok-value.value c.index.result.now c.args.skip c.in-Some.c (value g (goal.at.loop-c-preserved g c).After-index) c.in_ok-value.ensures.gone c.in_ok-value.ensures.is in
    record {
      kept = c.in-Some.ensures.kept;
      filled = filled_next c.loop-c.scratch (is_marked row.marks) (IsProductAt (numbers_of row) (ratio f) c.args.skip) c.loop-c.from i.filled (product_none row _ r.0 r.1 (ratio f) f.above c.args.skip) c.put.new.self c.in-Some.c (ratio c.in_ok-value.value) first c.put.ensures.own c.put.ensures.others c.put.ensures.found told;
      count = c.put.ensures.count ∙ i.count;
      values = λ j l. c.put.ensures.values j (λ e. omega arith) ∙ i.values j (let h = first.later in omega arith);
    }

pub returns-in_err-value-clause-count : goal.returns-in_err-value-clause-count
returns-in_err-value-clause-count g c = c.loop-c.invariant.count

pub returns-in_err-value-clause-found : goal.returns-in_err-value-clause-found
returns-in_err-value-clause-found g c = c.loop-c.invariant.filled.found

pub returns-in_err-value-clause-wide : goal.returns-in_err-value-clause-wide
returns-in_err-value-clause-wide g c =
    let w = c.in_err-value.ensures.wide in
    let f = c.args.factor in
    at_err c.from_residual.result (λ all. w.1 (subst (λ (v : Ratio). ReducedFits (product (ratio f) v)) (sym (value g (goal.at.returns-in_err-value-clause-wide g c).After-index)) (all c.in-Some.c w.0)))

pub returns-clause-count : goal.returns-clause-count
returns-clause-count g c = c.loop-c.invariant.count

pub returns-clause-found : goal.returns-clause-found
returns-clause-found g c = c.loop-c.invariant.filled.found

pub returns-clause-gone : goal.returns-clause-gone
returns-clause-gone g c =
    let r = c.requires.row in
    let row = c.args.row.now in
    let f = c.args.factor in
    let all = filled_all c.loop-c.scratch (is_marked row.marks) (IsProductAt (numbers_of row) (ratio f) c.args.skip) c.loop-c.from c.loop-c.invariant.filled (product_none row _ r.0 r.1 (ratio f) f.above c.args.skip) c.in_default.ensures.first c.args.skip in
    all.0 refl

pub returns-clause-is : goal.returns-clause-is
returns-clause-is g c j d =
    let r = c.requires.row in
    let row = c.args.row.now in
    let f = c.args.factor in
    let all = filled_all c.loop-c.scratch (is_marked row.marks) (IsProductAt (numbers_of row) (ratio f) c.args.skip) c.loop-c.from c.loop-c.invariant.filled (product_none row _ r.0 r.1 (ratio f) f.above c.args.skip) c.in_default.ensures.first j in
    (all.1 d).0

pub returns-clause-fits : goal.returns-clause-fits
returns-clause-fits g c j d =
    let r = c.requires.row in
    let row = c.args.row.now in
    let f = c.args.factor in
    let all = filled_all c.loop-c.scratch (is_marked row.marks) (IsProductAt (numbers_of row) (ratio f) c.args.skip) c.loop-c.from c.loop-c.invariant.filled (product_none row _ r.0 r.1 (ratio f) f.above c.args.skip) c.in_default.ensures.first j in
    (all.1 d).1
