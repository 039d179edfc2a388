use Rattle.std.proofs.Common.{◌≡◌, ℤ, length, arith, refl, sym, ◌∙◌, ap, subst}
use Rattle.std.specs.Prelude.{unsigned_abs}
use Rattle.rational.specs.Ratio.{Ratio}
use Rattle.fraction.specs.Frac.{ratio, ratios}
use Rattle.evidence.specs.Point.{value_at}
use Rattle.evidence.proofs.Columns.{by_lt}
use Rattle.instance.proofs.Terms.{read}
use Rattle.marks.specs.Marks.{size_of, is_marked}
use Rattle.dictionary.specs.Numbers.{IsOver}
use Rattle.dictionary.specs.Scratch.{found_at}
use Rattle.dictionary.proofs.FoundValues.{found_unmarked, begun_over, entry_inside, counted_found, counted_before, room_left, after_others, done_next, rest_next}
use Rattle.dictionary.proofs.Changes.{counted_to}
use Rattle.dictionary.proofs.settling.settle.Goals as goal
use Rattle.dictionary.proofs.settling.settle.Goals.{After-index}

pub clear-requires : goal.clear-requires
clear-requires g c = let r = c.requires.row in (_, r.0, r.1)

pub begin-requires-clause-row : goal.begin-requires-clause-row
begin-requires-clause-row g c = let r = c.requires.row in (_, r.0, c.clear.ensures.cleared _ r.0 r.1)

pub loop-c-init : goal.loop-c-init
loop-c-init g c =
    let s = c.args.scratch.now in
    record {
      kept = c.new-walk.ensures (is_marked c.args.scratch.now.found);
      row = λ k n is. c.begin.ensures.row k n (c.clear.ensures.cleared k n is);
      over = λ common j h. begun_over c.common_denom.result c.begin.new.self (λ d. IsOver (unsigned_abs d) (value_at (ratios s.values.items) j)) c.begin.ensures.form common (c.common_denom.ensures.over j h);
      done = λ j l. absurd (omega arith);
      rest = λ j l. c.begin.ensures.none j;
      within = omega arith;
      cost = omega arith;
      counted = omega arith;
    }

pub next_by-requires : goal.next_by-requires
next_by-requires g c = c.loop-c.invariant.kept

-- the value that is put
value : (g : _) (c : After-index g) → value_at (ratios c.args.scratch.now.values.items) c.in-Some.c ≡ ratio c.index.result.now
value g c = read c.args.scratch.now.values.items c.in-Some.c c.index.result.now (let i = c.requires.found.inside c.in-Some.c c.in-Some.ensures.first.is in omega arith) c.index.ensures

pub index-requires : goal.index-requires
index-requires g c = let i = c.requires.found.inside c.in-Some.c c.in-Some.ensures.first.is in let v = c.args.scratch.now.values in let e = v.ok.0 in omega arith

pub put-requires-clause-row : goal.put-requires-clause-row
put-requires-clause-row g c =
    let s = c.args.scratch.now in
    let r = c.requires.row in
    let i = c.loop-c.invariant in
    (length s.values.items, r.0, i.row _ r.0 r.1, c.requires.found.inside c.in-Some.c c.in-Some.ensures.first.is, room_left c.loop-c.row s c.loop-c.from c.in-Some.c i.done i.rest c.requires.found c.in-Some.ensures.first (length s.values.items) r.0 refl r.2)

pub put-requires-clause-after : goal.put-requires-clause-after
put-requires-clause-after g c = let i = c.loop-c.invariant in after_others c.loop-c.row c.args.scratch.now c.loop-c.from c.in-Some.c i.done i.rest c.requires.found c.in-Some.ensures.first

pub put-requires-clause-nonzero : goal.put-requires-clause-nonzero
put-requires-clause-nonzero g c z = c.requires.found.nonzero c.in-Some.c c.in-Some.ensures.first.is (ap (λ (v : Ratio). v.num) (value g (goal.at.put-requires-clause-nonzero g c).After-index) ∙ z)

pub put-requires-clause-over : goal.put-requires-clause-over
put-requires-clause-over g c common = subst (λ (v : Ratio). IsOver (unsigned_abs c.loop-c.row.denom) v) (value g (goal.at.put-requires-clause-over g c).After-index) (c.loop-c.invariant.over common c.in-Some.c c.in-Some.ensures.first.is)

pub overflow_add-from : goal.overflow_add-from
unfolding size_of
overflow_add-from g c =
    let s = c.args.scratch.now in
    let i = c.requires.found.inside c.in-Some.c c.in-Some.ensures.first.is in
    let m = s.marks in
    let f = s.found.few in
    record { fits = omega arith }

pub loop-c-preserved : goal.loop-c-preserved
loop-c-preserved g c =
    let s = c.args.scratch.now in
    let i = c.loop-c.invariant in
    let r = c.requires.row in
    let own = c.put.ensures.own ∙ sym (value g (goal.at.loop-c-preserved g c).After-index) in
    let l = entry_inside c.loop-c.row s c.loop-c.from c.in-Some.c i.done i.rest c.requires.found c.in-Some.ensures.first in
    record {
      kept = c.in-Some.ensures.kept;
      row = λ k n is. c.put.ensures.row k n (i.row k n is) (let a = is.count in let b = r.1.count in omega arith);
      over = λ common j h. subst (λ (d : ℤ). IsOver (unsigned_abs d) (value_at (ratios s.values.items) j)) (sym c.put.ensures.denom) (i.over (sym c.put.ensures.form ∙ common) j h);
      done = done_next c.loop-c.row s c.loop-c.from c.in-Some.c i.done i.rest c.requires.found c.in-Some.ensures.first c.put.new.self own c.put.ensures.others;
      rest = rest_next c.loop-c.row s c.loop-c.from c.in-Some.c i.done i.rest c.requires.found c.in-Some.ensures.first c.put.new.self own c.put.ensures.others;
      within = omega arith;
      cost = let a = counted_before c.loop-c.row s c.loop-c.from c.in-Some.c i.done i.rest c.requires.found c.in-Some.ensures.first in let b = counted_found c.loop-c.row s c.loop-c.from c.in-Some.c i.done i.rest c.requires.found c.in-Some.ensures.first in let k = i.cost in let p = c.put.ensures.cost in omega arith;
      counted = let k = i.counted in let p = c.put.ensures.cost in omega arith;
    }

pub returns-clause-row : goal.returns-clause-row
returns-clause-row g c n is = c.loop-c.invariant.row _ n is

pub returns-clause-is : goal.returns-clause-is
returns-clause-is g c j =
    let i = c.loop-c.invariant in
    by_lt j c.loop-c.from (λ l. i.done j l) (λ l. i.rest j l ∙ sym (found_unmarked c.args.scratch.now j (c.in_default.ensures.first j l)))

pub returns-clause-cost : goal.returns-clause-cost
returns-clause-cost g c =
    let s = c.args.scratch.now in
    let i = c.loop-c.invariant in
    let cost = i.cost in
    let more = counted_to c.loop-c.from (length s.values.items) (found_at s) i.within in
    omega arith
