use Rattle.std.proofs.Common.{◌≡◌, ℕ, ◌+◌, ◌<◌, ◌≤◌, ◌^◌, cond, neg_ℤ, FitsSigned, w64, rules, arith, refl, sym, ◌∙◌, ap, subst}
use Rattle.std.specs.Prelude.{unsigned_abs}
use Rattle.std.proofs.lemmas.Int.{to_z-of_z}
use Rattle.evidence.proofs.Columns.{by_eq, by_lt}
use Rattle.marks.specs.Marks.{size_of, is_marked}
use Rattle.marks.proofs.Walks.{kept_by}
use Rattle.dictionary.specs.Rows.{numbers_of, numer_at, entries_at, IsRow}
use Rattle.dictionary.proofs.SolvedNumbers.{abs_neg, neg_word}
use Rattle.dictionary.proofs.Changes.{counted_same, counted_to, kept_numbers}
use Rattle.dictionary.proofs.solving.negate.Goals as goal
use Rattle.dictionary.proofs.solving.negate.Goals.{In-Some, After-read-x}

pub loop-c-init : goal.loop-c-init
loop-c-init g c = record {
  kept = c.new-walk.ensures (is_marked c.args.row.now.marks);
  form = c.requires.common;
  denom = refl;
  rows = λ k n is. is;
  done = λ j l. absurd (omega arith);
  rest = λ j l. refl;
  inside = λ k n is. omega arith;
  cost = λ k n is. omega arith;
  counted = omega arith;
}

pub next_by-requires : goal.next_by-requires
next_by-requires g c = c.loop-c.invariant.kept

now : (g : _) (c : In-Some g) (k n : ℕ) → IsRow k n c.args.row.now → c.in-Some.c + 1 < k
now g c k n is = let r = c.loop-c.invariant.rows k n is in r.inside c.in-Some.c c.in-Some.ensures.first.is

-- an entry stands there: its reading is a step
entry_one : (g : _) (c : In-Some g) → ◌≡◌ {A = ℕ} (cond (entries_at c.loop-c.row c.in-Some.c) 1 0) 1
unfolding entries_at
entry_one g c = rw c.in-Some.ensures.first.is

pub read-x-requires : goal.read-x-requires
read-x-requires g c = let r = c.requires.row in let l = now g (goal.at.read-x-requires g c).In-Some r.0 r.1 r.2 in (r.0, r.1, c.loop-c.invariant.rows r.0 r.1 r.2, omega arith)

pub write-requires-clause-row : goal.write-requires-clause-row
write-requires-clause-row g c = let r = c.requires.row in (r.0, r.1, c.loop-c.invariant.rows r.0 r.1 r.2, now g (goal.at.write-requires-clause-row g c).In-Some r.0 r.1 r.2)

pub write-requires-clause-common : goal.write-requires-clause-common
write-requires-clause-common g c = c.loop-c.invariant.form

-- a number of a row isn't the least of 64 bits
small : (g : _) (c : After-read-x g) → unsigned_abs c.read-x.result < 2 ^ 63
small g c =
    let r = c.requires.row in
    let is = c.loop-c.invariant.rows r.0 r.1 r.2 in
    let within = subst (λ z. unsigned_abs z ≤ c.loop-c.row.size) (sym c.read-x.ensures.number) (is.within c.in-Some.c) in
    let low = is.small in
    omega arith

pub write-requires-clause-small : goal.write-requires-clause-small
write-requires-clause-small g c =
    let x : FitsSigned w64 c.read-x.result = search rules in
    let low = small g (goal.at.write-requires-clause-small g c).After-read-x in
    simp to_z-of_z (subst (λ z. unsigned_abs z < 2 ^ 63) (sym (neg_word c.read-x.result low)) (let e = abs_neg c.read-x.result in omega arith))

pub overflow_add-from : goal.overflow_add-from
unfolding size_of
overflow_add-from g c =
    let r = c.requires.row in
    let is = c.loop-c.invariant.rows r.0 r.1 r.2 in
    let row = c.loop-c.row in
    let m = row.marks in
    let few = m.few in
    let columns = is.columns in
    let l = now g (goal.at.overflow_add-from g c).In-Some r.0 r.1 r.2 in
    record { fits = omega arith }

pub loop-c-preserved : goal.loop-c-preserved
unfolding entries_at
loop-c-preserved g c =
    let r = c.requires.row in
    let i = c.loop-c.invariant in
    let first = c.in-Some.ensures.first in
    let old = c.args.row.now in
    let row = c.loop-c.row in
    let x : FitsSigned w64 c.read-x.result = search rules in
    let l = now g (goal.at.loop-c-preserved g c).In-Some r.0 r.1 r.2 in
    let is = i.rows r.0 r.1 r.2 in
    let told = simp to_z-of_z at c.write.ensures.number in
    let own = told ∙ neg_word c.read-x.result (small g (goal.at.loop-c-preserved g c).After-read-x) in
    record {
      kept = kept_by _ _ _ _ _ (λ j a. sym (c.write.ensures.marks j (λ e. omega arith))) c.in-Some.ensures.kept;
      form = c.write.ensures.common;
      denom = c.write.ensures.denom ∙ i.denom;
      rows = λ k n h. c.write.ensures.row k n (i.rows k n h) (let a = h.count in let b = r.2.count in omega arith);
      done = λ j b. by_eq j c.in-Some.c
          (λ e. ap (numer_at c.write.new.self) e ∙ own ∙ ap neg_ℤ (c.read-x.ensures.number ∙ i.rest c.in-Some.c first.later) ∙ sym (ap (λ q. neg_ℤ (numer_at old q)) e))
          (λ d. c.write.ensures.rest j d ∙ by_lt j c.loop-c.from (λ h. i.done j h)
          (λ h. let zero = is.empty j (first.first j h (omega arith)) in zero ∙ ap neg_ℤ (sym zero ∙ i.rest j h)));
      rest = λ j b. c.write.ensures.rest j (λ e. omega arith) ∙ i.rest j (let h = first.later in omega arith);
      inside = λ k n h. let a = h.count in let b = r.2.count in omega arith;
      cost = λ k n h.
          let later = first.later in
          let same = kept_numbers old row c.requires.common i.form i.denom c.in-Some.c (i.rest c.in-Some.c later) in
          let mine = counted_same row k n c.in-Some.c (numbers_of old) (i.rows k n h) same in
          let u = counted_to c.loop-c.from c.in-Some.c (numbers_of old) later in
          let before = i.cost k n h in
          let p = c.read-x.ensures.cost in
          let q = c.write.ensures.cost in
          let one = entry_one g (goal.at.loop-c-preserved g c).In-Some in
          omega arith;
      counted = let o = i.counted in let p = c.read-x.ensures.cost in let q = c.write.ensures.cost in omega arith;
    }

pub returns-clause-row : goal.returns-clause-row
returns-clause-row g c = c.loop-c.invariant.rows

pub returns-clause-negated : goal.returns-clause-negated
returns-clause-negated g c j =
    let r = c.requires.row in
    let i = c.loop-c.invariant in
    let is = i.rows r.0 r.1 r.2 in
    by_lt j c.loop-c.from (λ h. i.done j h) (λ h. let zero = is.empty j (c.in_default.ensures.first j h) in zero ∙ ap neg_ℤ (sym zero ∙ i.rest j h))

pub returns-clause-cost : goal.returns-clause-cost
returns-clause-cost g c k n is =
    let i = c.loop-c.invariant in
    let u = counted_to c.loop-c.from k (numbers_of c.args.row.now) (i.inside k n is) in
    let a = i.cost k n is in
    omega arith
