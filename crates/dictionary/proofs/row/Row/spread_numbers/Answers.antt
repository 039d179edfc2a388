use Rattle.std.proofs.Common.{◌≡◌, ℕ, ◌<◌, ◌≤◌, set, FitsSigned, w64, rules, arith, sym, ◌∙◌, ap}
use Rattle.std.specs.Prelude.{unsigned_abs}
use Rattle.std.proofs.lemmas.Bool.{false≢true}
use Rattle.std.proofs.lemmas.Int.{to_z-of_z}
use Rattle.fraction.specs.Frac.{ratio, ratios}
use Rattle.evidence.specs.Point.{value_at}
use Rattle.evidence.proofs.Columns.{by_eq, by_lt}
use Rattle.marks.specs.Marks.{size_of, is_marked}
use Rattle.dictionary.specs.Lowest.{lowest}
use Rattle.dictionary.specs.Numbers.{HasNumber}
use Rattle.dictionary.specs.Rows.{numbers_of, entries_at}
use Rattle.dictionary.proofs.RowForms.{common_number, has_marked}
use Rattle.dictionary.proofs.Changes.{counted_mark, counted_to}
use Rattle.dictionary.proofs.SpreadRows.{set_own, set_other}
use Rattle.dictionary.proofs.row.Row.spread_numbers.Goals as goal
use Rattle.dictionary.proofs.row.Row.spread_numbers.Goals.{After-quotient}

pub loop-c-init : goal.loop-c-init
loop-c-init g c = record { kept = c.new-walk.ensures (is_marked c.args.self.now.marks); done = λ j l h. absurd (omega arith); within = omega arith; cost = omega arith; counted = omega arith }

pub next_by-requires : goal.next_by-requires
next_by-requires g c = c.loop-c.invariant.kept

pub read-requires : goal.read-requires
read-requires g c = let r = c.requires.row in (_, r.0, r.1, let l = r.1.inside c.in-Some.c c.in-Some.ensures.first.is in omega arith)

pub bounds-values-c : goal.bounds-values-c
bounds-values-c g c = let r = c.requires.row in let l = r.1.inside c.in-Some.c c.in-Some.ensures.first.is in let s = c.loop-c.auto.values in omega arith

pub overflow_add-from : goal.overflow_add-from
unfolding size_of
overflow_add-from g c =
    let r = c.requires.row in
    let m = c.args.self.now.marks in
    let few = m.few in
    let columns = r.1.columns in
    let l = r.1.inside c.in-Some.c c.in-Some.ensures.first.is in
    record { fits = omega arith }

value : (g : _) (c : After-quotient g) → ratio c.quotient.result ≡ numbers_of c.args.self.now c.in-Some.c
value g c =
    let row = c.args.self.now in
    let fits : FitsSigned w64 c.read.result = search rules in
    let above : FitsSigned w64 row.denom = search rules in
    let told = simp to_z-of_z at c.quotient.ensures in
    told ∙ ap (λ n. lowest n (unsigned_abs row.denom)) c.read.ensures.number ∙ sym (common_number row c.requires.common c.in-Some.c)

-- no entry stands between two marks
skipped : (g : _) (c : After-quotient g) (j : ℕ) → c.loop-c.from ≤ j → j < c.in-Some.c → HasNumber (numbers_of c.args.self.now) j → ⊥
unfolding entries_at
skipped g c j a l h =
    let r = c.requires.row in
    let first = c.in-Some.ensures.first in
    false≢true (sym (first.first j a l) ∙ has_marked c.args.self.now _ r.0 r.1 j h)

pub loop-c-preserved : goal.loop-c-preserved
loop-c-preserved g c =
    let row = c.args.self.now in
    let r = c.requires.row in
    let i = c.loop-c.invariant in
    let at' = (goal.at.loop-c-preserved g c).After-quotient in
    let first = c.in-Some.ensures.first in
    let l = r.1.inside c.in-Some.c first.is in
    let s = c.loop-c.auto.values in
    record {
      kept = c.in-Some.ensures.kept;
      done = λ j b h. by_eq j c.in-Some.c
          (λ e. ap (λ k. value_at (ratios (set c.loop-c.values c.in-Some.c c.quotient.result)) k) e ∙ set_own c.loop-c.values c.in-Some.c c.quotient.result (omega arith) ∙ value g at' ∙ sym (ap (numbers_of row) e))
          (λ d. set_other c.loop-c.values c.in-Some.c j c.quotient.result d ∙ by_lt j c.loop-c.from (λ k. i.done j k h) (λ k. absurd (skipped g at' j k (omega arith) h)));
      within = omega arith;
      cost =
          let a = counted_mark row _ r.0 c.in-Some.c r.1 in
          let b = counted_to c.loop-c.from c.in-Some.c (numbers_of row) first.later in
          let k = i.cost in
          let t = c.read.ensures.cost in
          omega arith;
      counted = let k = i.counted in let t = c.read.ensures.cost in omega arith;
    }

pub returns-clause-spread : goal.returns-clause-spread
unfolding entries_at
returns-clause-spread g c j h =
    let r = c.requires.row in
    by_lt j c.loop-c.from (λ l. c.loop-c.invariant.done j l h) (λ l. absurd (false≢true (sym (c.in_default.ensures.first j l) ∙ has_marked c.args.self.now _ r.0 r.1 j h)))

pub returns-clause-cost : goal.returns-clause-cost
returns-clause-cost g c =
    let i = c.loop-c.invariant in
    let more = counted_to c.loop-c.from _ (numbers_of c.args.self.now) i.within in
    let cost = i.cost in
    omega arith
