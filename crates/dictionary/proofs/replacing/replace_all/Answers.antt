use Rattle.std.proofs.Common.{◌≡◌, ℕ, ◌+◌, ◌<◌, ◌≤◌, suc, length, get_or, set, arith, refl, sym, ◌∙◌, subst}
use Rattle.rational.specs.Ratio.{Ratio}
use Rattle.instance.proofs.Terms.{at_err}
use Rattle.evidence.proofs.Columns.{by_eq}
use Rattle.dictionary.specs.Rows.{numbers_of, numbers_in, IsRow, AreRows, IsReplacedBy, ReplacementFits, HasRoomFor, replacement_cost, replacements_cost}
use Rattle.dictionary.proofs.PivotRows.{numbers_there, row_there, rows_set, set_numbers, other_numbers, count_to}
use Rattle.dictionary.proofs.replacing.replace_all.Goals as goal
use Rattle.dictionary.proofs.replacing.replace_all.Goals.{After-replace}

pub loop-r-init : goal.loop-r-init
loop-r-init g c = record {
  rows = λ n a. a;
  count = refl;
  done = λ r l. absurd (omega arith);
  fits = λ r l. absurd (omega arith);
  rest = λ r l. refl;
  cost = omega arith;
  counted = omega arith;
}

pub replace-requires-clause-rows : goal.replace-requires-clause-rows
replace-requires-clause-rows g c =
    let q = c.requires.rows in
    let i = c.loop-r.invariant in
    let n = sym i.count in
    let l : c.loop-r.r < length c.loop-r.rows = let t = c.loop-r-test.true in let a = c.loop-r.auto.rows in omega arith in
    let row = get_or c.loop-r.rows c.loop-r.r c.index-rows-r.result in
    let was = row_there _ q.0 c.loop-r.rows (i.rows q.0 q.1) c.loop-r.r c.index-rows-r.result l in
    let told = numbers_there c.loop-r.rows c.loop-r.r c.index-rows-r.result l ∙ i.rest c.loop-r.r (omega arith) in (
      q.0,
      subst (λ k. IsRow k q.0 row) n was,
      subst (λ k. IsRow k q.0 c.args.by.now) n q.2,
      subst (λ k. HasRoomFor k (numbers_of row) (numbers_of c.args.by.now) c.args.skip q.0) n
          (subst (λ (f : ℕ → Ratio). HasRoomFor (length c.args.scratch.now.values.items) f (numbers_of c.args.by.now) c.args.skip q.0) (sym told) (q.3 c.loop-r.r (let e = c.loop-r.auto.rows in omega arith))),
    )

pub replace-requires-clause-inside : goal.replace-requires-clause-inside
replace-requires-clause-inside g c = let l = c.requires.inside in let n = c.loop-r.invariant.count in omega arith

-- the rows with the one at hand replaced
rows_next : (g : _) (c : After-replace g) (n : ℕ) → AreRows (length c.args.scratch.now.values.items) n c.args.rows.now → AreRows (length c.args.scratch.now.values.items) n (set c.loop-r.rows c.loop-r.r c.replace.new.row)
rows_next g c n are =
    let i = c.loop-r.invariant in
    let l : c.loop-r.r < length c.loop-r.rows = let t = c.loop-r-test.true in let a = c.loop-r.auto.rows in omega arith in
    let before = i.rows n are in
    let row = get_or c.loop-r.rows c.loop-r.r c.index-rows-r.result in
    let was = row_there _ n c.loop-r.rows before c.loop-r.r c.index-rows-r.result l in
    rows_set _ n c.loop-r.rows before c.loop-r.r c.replace.new.row (subst (λ k. IsRow k n c.replace.new.row) i.count (c.replace.ensures.row n (subst (λ k. IsRow k n row) (sym i.count) was)))

-- the row at hand was as it was at first
told : (g : _) (c : After-replace g) → numbers_of (get_or c.loop-r.rows c.loop-r.r c.index-rows-r.result) ≡ numbers_in c.args.rows.now c.loop-r.r
told g c =
    let i = c.loop-r.invariant in
    let l : c.loop-r.r < length c.loop-r.rows = let t = c.loop-r-test.true in let a = c.loop-r.auto.rows in omega arith in
    numbers_there c.loop-r.rows c.loop-r.r c.index-rows-r.result l ∙ i.rest c.loop-r.r (omega arith)

cost_next : (g : _) (c : After-replace g) → c.replace.new.steps ≤ c.args.steps.now + replacements_cost (length c.args.scratch.now.values.items) (numbers_in c.args.rows.now) (numbers_of c.args.by.now) c.args.skip (c.loop-r.r + 1)
cost_next g c =
    let i = c.loop-r.invariant in
    let k : ℕ = length c.args.scratch.now.values.items in
    let own = subst (λ m. c.replace.new.steps ≤ c.loop-r.steps + replacement_cost m (numbers_of (get_or c.loop-r.rows c.loop-r.r c.index-rows-r.result)) (numbers_of c.args.by.now) c.args.skip) i.count c.replace.ensures.cost in
    let mine = subst (λ (f : ℕ → Ratio). c.replace.new.steps ≤ c.loop-r.steps + replacement_cost k f (numbers_of c.args.by.now) c.args.skip) (told g c) own in
    let before = i.cost in
    subst (λ m. c.replace.new.steps ≤ c.args.steps.now + replacements_cost k (numbers_in c.args.rows.now) (numbers_of c.args.by.now) c.args.skip m) (let e : suc c.loop-r.r ≡ c.loop-r.r + 1 = omega arith in e) (omega (arith, mine, before))

pub returns-in_err-replace-clause-rows : goal.returns-in_err-replace-clause-rows
returns-in_err-replace-clause-rows g c = rows_next g (goal.at.returns-in_err-replace-clause-rows g c).After-replace

pub returns-in_err-replace-clause-count : goal.returns-in_err-replace-clause-count
returns-in_err-replace-clause-count g c = c.replace.ensures.count ∙ c.loop-r.invariant.count

pub returns-in_err-replace-clause-wide : goal.returns-in_err-replace-clause-wide
returns-in_err-replace-clause-wide g c =
    at_err c.from_residual.result (λ fits. c.in_err-replace.ensures.wide (subst (λ (f : ℕ → Ratio). ReplacementFits f (numbers_of c.args.by.now) c.args.skip) (sym (told g (goal.at.returns-in_err-replace-clause-wide g c).After-replace)) (fits c.loop-r.r (let e = c.loop-r.auto.rows in omega arith))))

pub returns-in_err-replace-clause-cost : goal.returns-in_err-replace-clause-cost
returns-in_err-replace-clause-cost g c =
    let a = cost_next g (goal.at.returns-in_err-replace-clause-cost g c).After-replace in
    let e = c.loop-r.auto.rows in
    let b = count_to (c.loop-r.r + 1) (length c.args.rows.now) (λ r. replacement_cost (length c.args.scratch.now.values.items) (numbers_in c.args.rows.now r) (numbers_of c.args.by.now) c.args.skip) (omega arith) in
    omega arith

pub loop-r-preserved : goal.loop-r-preserved
loop-r-preserved g c =
    let i = c.loop-r.invariant in
    let at' = (goal.at.loop-r-preserved g c).After-replace in
    let l : c.loop-r.r < length c.loop-r.rows = let t = c.loop-r-test.true in let a = c.loop-r.auto.rows in omega arith in
    let one = told g at' in
    record {
      rows = rows_next g at';
      count = c.replace.ensures.count ∙ i.count;
      done = λ r h. by_eq r c.loop-r.r
          (λ e. subst (λ j. IsReplacedBy (numbers_in c.args.rows.now j) (numbers_of c.args.by.now) c.args.skip (numbers_in (set c.loop-r.rows c.loop-r.r c.replace.new.row) j)) (sym e)
          (subst (λ (f : ℕ → Ratio). IsReplacedBy (numbers_in c.args.rows.now c.loop-r.r) (numbers_of c.args.by.now) c.args.skip f) (sym (set_numbers c.loop-r.rows c.loop-r.r c.replace.new.row l))
          (subst (λ (f : ℕ → Ratio). IsReplacedBy f (numbers_of c.args.by.now) c.args.skip (numbers_of c.replace.new.row)) one c.in_ok-replace.ensures.is)))
          (λ d. subst (λ (f : ℕ → Ratio). IsReplacedBy (numbers_in c.args.rows.now r) (numbers_of c.args.by.now) c.args.skip f) (sym (other_numbers c.loop-r.rows c.loop-r.r r c.replace.new.row d)) (i.done r (omega arith)));
      fits = λ r h. by_eq r c.loop-r.r
          (λ e. subst (λ j. ReplacementFits (numbers_in c.args.rows.now j) (numbers_of c.args.by.now) c.args.skip) (sym e) (subst (λ (f : ℕ → Ratio). ReplacementFits f (numbers_of c.args.by.now) c.args.skip) one c.in_ok-replace.ensures.fits))
          (λ d. i.fits r (omega arith));
      rest = λ r h. other_numbers c.loop-r.rows c.loop-r.r r c.replace.new.row (λ e. omega arith) ∙ i.rest r (omega arith);
      cost = cost_next g at';
      counted = let a = i.counted in let k = c.replace.ensures.counted in omega arith;
    }

pub returns-clause-rows : goal.returns-clause-rows
returns-clause-rows g c = c.loop-r.invariant.rows

pub returns-clause-count : goal.returns-clause-count
returns-clause-count g c = c.loop-r.invariant.count

pub returns-clause-is : goal.returns-clause-is
returns-clause-is g c r l = c.loop-r.invariant.done r (let t = c.loop-r-test.false in let e = c.loop-r.auto.rows in omega arith)

pub returns-clause-fits : goal.returns-clause-fits
returns-clause-fits g c r l = c.loop-r.invariant.fits r (let t = c.loop-r-test.false in let e = c.loop-r.auto.rows in omega arith)

pub returns-clause-cost : goal.returns-clause-cost
returns-clause-cost g c =
    let t = c.loop-r-test.false in
    let e = c.loop-r.auto in
    let k = c.loop-r.invariant.cost in
    let b = count_to c.loop-r.r (length c.args.rows.now) (λ r. replacement_cost (length c.args.scratch.now.values.items) (numbers_in c.args.rows.now r) (numbers_of c.args.by.now) c.args.skip) (omega arith) in
    omega arith
