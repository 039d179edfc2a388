use Rattle.std.proofs.Common.{◌≡◌, ℤ, ◌+◌, ◌<◌, ◌≤◌, pos, false, List, length, FitsSigned, rules, arith, refl, sym, ◌∙◌, ap, subst}
use mir.Syntax.{w128}
use Rattle.std.specs.Prelude.{unsigned_abs, slice_index_or}
use Rattle.std.proofs.lemmas.Bool.{false≢true}
use Rattle.std.proofs.lemmas.Int.{to_z-of_z}
use Rattle.std.proofs.lemmas.List.{get_or_read}
use Rattle.rational.specs.Width.{most}
use Rattle.fraction.specs.Frac.{ratio}
use Rattle.marks.specs.Marks.{size_of}
use Rattle.dictionary.specs.Lowest.{lowest}
use Rattle.dictionary.specs.Rows.{changes}
use Rattle.dictionary.proofs.FilledColumns.{filled_none, filled_next, filled_all}
use Rattle.dictionary.proofs.changing.reduce_sums.Goals as goal
use Rattle.dictionary.proofs.changing.reduce_sums.Goals.{In-Some, After-index}

pub loop-c-init : goal.loop-c-init
loop-c-init c = record {
  kept = c.new-walk.ensures (changes c.args.marks.now c.args.by.now false);
  filled = filled_none c.clear.new.self _ _ c.clear.ensures.none c.clear.ensures.found;
  count = c.clear.ensures.count;
  sums = c.clear.ensures.sums;
}

pub next_of_either-requires-clause-kept : goal.next_of_either-requires-clause-kept
next_of_either-requires-clause-kept c = c.loop-c.invariant.kept

inside : (c : In-Some) → c.in-Some.c + 1 < length c.loop-c.scratch.values.items
inside c = let l = c.requires.inside c.in-Some.c c.in-Some.ensures.first.is in let n = c.loop-c.invariant.count in omega arith

pub index-requires : goal.index-requires
index-requires c =
    let l = inside (goal.at.index-requires c).In-Some in
    let s = c.loop-c.scratch in
    let v = s.sums in
    let e = v.ok.0 in
    let many = s.as_many in
    omega arith

-- the sum that was read
sum : (c : After-index) → c.index.result.now ≡ slice_index_or c.args.scratch.now.sums.items c.in-Some.c (pos 0)
sum c =
    let s = c.loop-c.scratch in
    let l = c.requires.inside c.in-Some.c c.in-Some.ensures.first.is in
    let n = c.loop-c.invariant.count in
    let many = s.as_many in
    get_or_read s.sums.items c.in-Some.c c.index.result.now (omega arith) c.index.ensures (pos 0) ∙ ap (λ (xs : List ℤ). slice_index_or xs c.in-Some.c (pos 0)) c.loop-c.invariant.sums

pub reduced-value-requires-clause-above : goal.reduced-value-requires-clause-above
reduced-value-requires-clause-above c =
    let d : FitsSigned w128 c.args.denom = c.ranges.denom in
    simp to_z-of_z c.requires.above

pub reduced-value-requires-clause-fits : goal.reduced-value-requires-clause-fits
reduced-value-requires-clause-fits c =
    let x : FitsSigned w128 c.index.result.now = search rules in
    simp to_z-of_z (subst (λ (z : ℤ). unsigned_abs z ≤ most) (sym (sum (goal.at.reduced-value-requires-clause-fits c).After-index)) (c.requires.fit c.in-Some.c c.in-Some.ensures.first.is))

pub put-requires : goal.put-requires
put-requires c = inside (goal.at.put-requires c).In-Some

pub overflow_add-from : goal.overflow_add-from
unfolding size_of
overflow_add-from c =
    let l = inside (goal.at.overflow_add-from c).In-Some in
    let s = c.loop-c.scratch in
    let m = s.marks in
    let f = s.found.few in
    record { fits = omega arith }

pub loop-c-preserved : goal.loop-c-preserved
loop-c-preserved c =
    let i = c.loop-c.invariant in
    let first = c.in-Some.ensures.first in
    let x : FitsSigned w128 c.index.result.now = search rules in
    let d : FitsSigned w128 c.args.denom = c.ranges.denom in
    let told = simp to_z-of_z at c.reduced-value.ensures in
    let is = told ∙ ap (λ (z : ℤ). lowest z (unsigned_abs c.args.denom)) (sum (goal.at.loop-c-preserved c).After-index) in
    record {
      kept = c.in-Some.ensures.kept;
      filled = filled_next c.loop-c.scratch (changes c.args.marks.now c.args.by.now false) _ c.loop-c.from i.filled (λ j e. (λ h. absurd (false≢true (sym e ∙ h)), λ h. refl)) c.put.new.self c.in-Some.c (ratio c.reduced-value.result) first c.put.ensures.own c.put.ensures.others c.put.ensures.found (λ h. simp to_z-of_z is, λ h. absurd (false≢true (sym h ∙ first.is)));
      count = c.put.ensures.count ∙ i.count;
      sums = c.put.ensures.sums ∙ i.sums;
    }

pub returns-clause-found : goal.returns-clause-found
returns-clause-found c = c.loop-c.invariant.filled.found

pub returns-clause-count : goal.returns-clause-count
returns-clause-count c = c.loop-c.invariant.count

pub returns-clause-is : goal.returns-clause-is
returns-clause-is c j h =
    let d : FitsSigned w128 c.args.denom = c.ranges.denom in
    let all = filled_all c.loop-c.scratch (changes c.args.marks.now c.args.by.now false) _ c.loop-c.from c.loop-c.invariant.filled (λ j e. (λ h. absurd (false≢true (sym e ∙ h)), λ h. refl)) c.in_default.ensures.first j in
    simp to_z-of_z at (all.0 h)

pub returns-clause-none : goal.returns-clause-none
returns-clause-none c j h =
    let all = filled_all c.loop-c.scratch (changes c.args.marks.now c.args.by.now false) _ c.loop-c.from c.loop-c.invariant.filled (λ j e. (λ h. absurd (false≢true (sym e ∙ h)), λ h. refl)) c.in_default.ensures.first j in
    all.1 h
