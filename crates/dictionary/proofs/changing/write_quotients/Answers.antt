use Rattle.std.proofs.Common.{ℕ, ℤ, ◌+◌, ◌<◌, pos, length, FitsSigned, w64, rules, arith, sym, ◌∙◌, ap, Bool, ◌||◌}
use mir.Syntax.{w128}
use Rattle.std.specs.Prelude.{slice_index_or}
use Rattle.std.proofs.lemmas.Int.{to_z-of_z}
use Rattle.marks.specs.Marks.{size_of, is_marked}
use Rattle.marks.proofs.Walks.{kept_by}
use Rattle.dictionary.specs.Rows.{numbers_of, entries_at, IsRow, either_at}
use Rattle.dictionary.proofs.Changes.{counted_mark, counted_to, both_to, counted_same, kept_numbers}
use Rattle.dictionary.proofs.ChangedSums.{either_below, either_one}
use Rattle.dictionary.proofs.Quotients.{dividing_none, dividing_next, dividing_all, sums_left}
use Rattle.dictionary.proofs.changing.write_quotients.Goals as goal
use Rattle.dictionary.proofs.changing.write_quotients.Goals.{In-Some}

pub loop-c-init : goal.loop-c-init
loop-c-init g c = record {
  kept = c.new-walk.ensures (either_at c.args.row.now c.args.by.now);
  dividing = dividing_none c.args.row.now c.args.by.now c.args.parts.scale c.args.parts.factor c.args.divisor.size c.requires.common;
  cost = λ k n a b. omega arith;
  counted = omega arith;
}

pub next_of_either-requires-clause-kept : goal.next_of_either-requires-clause-kept
next_of_either-requires-clause-kept g c = c.loop-c.invariant.kept

pub next_of_either-requires-clause-size : goal.next_of_either-requires-clause-size
next_of_either-requires-clause-size g c =
    let r = c.requires.rows in
    let now = c.loop-c.invariant.dividing.rows _ r.0 r.1 in
    r.2.columns ∙ sym now.columns

inside : (g : _) (c : In-Some g) (m n : ℕ) → IsRow m n c.args.row.now → IsRow m n c.args.by.now → c.in-Some.c + 1 < m
inside g c m n a b = either_below c.loop-c.row c.args.by.now m n (c.loop-c.invariant.dividing.rows m n a) b c.in-Some.c c.in-Some.ensures.first.is

pub bounds-sums-c : goal.bounds-sums-c
bounds-sums-c g c = let r = c.requires.rows in let l = inside g (goal.at.bounds-sums-c g c).In-Some _ r.0 r.1 r.2 in omega arith

pub write-requires-clause-row : goal.write-requires-clause-row
write-requires-clause-row g c =
    let r = c.requires.rows in
    (_, r.0, c.loop-c.invariant.dividing.rows _ r.0 r.1, inside g (goal.at.write-requires-clause-row g c).In-Some _ r.0 r.1 r.2)

pub write-requires-clause-common : goal.write-requires-clause-common
write-requires-clause-common g c = c.loop-c.invariant.dividing.form

pub write-requires-clause-small : goal.write-requires-clause-small
write-requires-clause-small g c =
    let z : FitsSigned w64 c.in-Some-narrow_quotient.z = search rules in
    simp to_z-of_z c.in-Some-narrow_quotient.ensures.small

pub overflow_add-from : goal.overflow_add-from
unfolding size_of
overflow_add-from g c =
    let r = c.requires.rows in
    let by = c.args.by.now in
    let m = by.marks in
    let few = m.few in
    let columns = r.2.columns in
    let l = inside g (goal.at.overflow_add-from g c).In-Some _ r.0 r.1 r.2 in
    record { fits = omega arith }

pub loop-c-preserved : goal.loop-c-preserved
unfolding entries_at
loop-c-preserved g c =
    let r = c.requires.rows in
    let old = c.args.row.now in
    let by = c.args.by.now in
    let s : ℤ = c.args.parts.scale in
    let k : ℤ = c.args.parts.factor in
    let i = c.loop-c.invariant in
    let first = c.in-Some.ensures.first in
    let z : FitsSigned w64 c.in-Some-narrow_quotient.z = search rules in
    let x : FitsSigned w128 (slice_index_or c.args.sums.now c.in-Some.c (pos 0)) = search rules in
    let told = simp to_z-of_z at c.in-Some-narrow_quotient.ensures.divided in
    let is = told ∙ c.requires.sums c.in-Some.c (i.dividing.within c.in-Some.c first.is) in
    let own = simp to_z-of_z at c.write.ensures.number in
    record {
      kept = kept_by _ _ _ _ _ (λ j a. ap (λ (b : Bool). b || is_marked by.marks j) (sym (c.write.ensures.marks j (λ e. omega arith)))) c.in-Some.ensures.kept;
      dividing = dividing_next old by c.loop-c.row c.write.new.self s k c.in-Some-narrow_quotient.z c.args.divisor.size c.loop-c.from c.in-Some.c _ r.0 r.1 r.2 i.dividing first is c.write.ensures.common c.write.ensures.denom c.write.ensures.row own c.write.ensures.rest c.write.ensures.marks;
      cost = λ m n a b.
          let later = first.later in
          let same = kept_numbers old c.loop-c.row c.requires.common i.dividing.form i.dividing.denom c.in-Some.c (i.dividing.rest c.in-Some.c later) in
          let mine = counted_same c.loop-c.row m n c.in-Some.c (numbers_of old) (i.dividing.rows m n a) same in
          let its = counted_mark by m n c.in-Some.c b in
          let some = either_one c.loop-c.row by m n (i.dividing.rows m n a) b c.in-Some.c first.is in
          let u = counted_to c.loop-c.from c.in-Some.c (numbers_of old) later in
          let v = counted_to c.loop-c.from c.in-Some.c (numbers_of by) later in
          let before = i.cost m n a b in
          let w = c.write.ensures.cost in
          omega arith;
      counted = let o = i.counted in let w = c.write.ensures.cost in omega arith;
    }

pub returns-in-None-clause-row : goal.returns-in-None-clause-row
returns-in-None-clause-row g c = c.loop-c.invariant.dividing.rows

pub returns-in-None-clause-common : goal.returns-in-None-clause-common
returns-in-None-clause-common g c = c.loop-c.invariant.dividing.form

pub returns-in-None-clause-left : goal.returns-in-None-clause-left
returns-in-None-clause-left g c = let r = c.requires.rows in sums_left c.args.row.now c.args.by.now c.loop-c.row c.args.parts.scale c.args.parts.factor c.args.divisor.size c.loop-c.from _ r.0 r.1 r.2 c.loop-c.invariant.dividing

pub returns-in-None-clause-within : goal.returns-in-None-clause-within
returns-in-None-clause-within g c = c.loop-c.invariant.dividing.within

pub returns-in-None-clause-cost : goal.returns-in-None-clause-cost
returns-in-None-clause-cost g c =
    let r = c.requires.rows in
    both_to c.loop-c.from (length c.args.sums.now) (numbers_of c.args.row.now) (numbers_of c.args.by.now) c.loop-c.steps c.args.steps.now (c.loop-c.invariant.dividing.inside _ r.0 r.1 r.2) (c.loop-c.invariant.cost _ r.0 r.1 r.2)

pub returns-clause-row : goal.returns-clause-row
returns-clause-row g c = c.loop-c.invariant.dividing.rows

pub returns-clause-common : goal.returns-clause-common
returns-clause-common g c = c.loop-c.invariant.dividing.form

pub returns-clause-divided : goal.returns-clause-divided
returns-clause-divided g c _ =
    let r = c.requires.rows in
    dividing_all c.args.row.now c.args.by.now c.loop-c.row c.args.parts.scale c.args.parts.factor c.args.divisor.size c.loop-c.from _ r.0 r.1 r.2 c.loop-c.invariant.dividing c.in_default.ensures.first

pub returns-clause-left : goal.returns-clause-left
returns-clause-left g c = let r = c.requires.rows in sums_left c.args.row.now c.args.by.now c.loop-c.row c.args.parts.scale c.args.parts.factor c.args.divisor.size c.loop-c.from _ r.0 r.1 r.2 c.loop-c.invariant.dividing

pub returns-clause-within : goal.returns-clause-within
returns-clause-within g c = c.loop-c.invariant.dividing.within

pub returns-clause-cost : goal.returns-clause-cost
returns-clause-cost g c =
    let r = c.requires.rows in
    both_to c.loop-c.from (length c.args.sums.now) (numbers_of c.args.row.now) (numbers_of c.args.by.now) c.loop-c.steps c.args.steps.now (c.loop-c.invariant.dividing.inside _ r.0 r.1 r.2) (c.loop-c.invariant.cost _ r.0 r.1 r.2)
