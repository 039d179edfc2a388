use Rattle.std.proofs.Common.{◌≡◌, ℕ, ◌+◌, ◌-◌, ◌<◌, ◌≤◌, pos, Bool, cond, length, get_or, set, w8, arith, refl, sym, ◌∙◌, ap, subst}
use Rattle.std.proofs.lemmas.Bool.{lt-ltb, le-ltb}
use Rattle.std.proofs.lemmas.Int.{to_z-of_z}
use Rattle.rational.specs.Ratio.{Ratio}
use Rattle.fraction.specs.Frac.{ratios}
use Rattle.evidence.specs.Instance.{entry_at}
use Rattle.evidence.specs.Point.{value_at}
use Rattle.evidence.proofs.Columns.{by_eq}
use Rattle.instance.specs.Program.{entries}
use Rattle.marks.specs.Marks.{size_of}
use Rattle.dictionary.specs.ProgramRows.{times_sign}
use Rattle.dictionary.specs.Rows.{numbers_in, IsRow}
use Rattle.dictionary.specs.Scratch.{found_at}
use Rattle.dictionary.specs.Steps.{nonzeros}
use Rattle.dictionary.proofs.Nonzeros.{nonzeros_most}
use Rattle.dictionary.proofs.FoundValues.{past_none}
use Rattle.dictionary.proofs.PivotRows.{row_there, rows_set, set_numbers, other_numbers}
use Rattle.dictionary.proofs.ProgramRows.{entries_past, times_past}
use Rattle.dictionary.proofs.loading.load_rows.Goals as goal
use Rattle.dictionary.proofs.loading.load_rows.Goals.{After-gather-start, After-gather_costs}

-- numbers of the variables' columns alone are at most as many
few : (n m : ℕ) (f : ℕ → Ratio) → ((c : ℕ) → n ≤ c → (f c).num ≡ pos 0) → nonzeros (n + m) f ≤ n
few n m f z = let e = past_none n m f z in let l = nonzeros_most n f in omega arith

pub loop-r-init : goal.loop-r-init
loop-r-init g c = record {
  begun = record { within = omega arith; before = λ k d l. absurd (omega arith); after = λ k d l h. omega arith };
  count = refl;
  rows = c.requires.rows;
  done = λ r j l. absurd (omega arith);
  cost = omega arith;
  counted = omega arith;
}

pub overflow_cast-r : goal.overflow_cast-r
unfolding size_of
overflow_cast-r g c =
    let s = c.loop-r.scratch in
    let m = s.found in
    let few = m.few in
    let columns = s.marks in
    let n = c.loop-r.invariant.count in
    let k = c.requires.columns in
    let t = c.loop-r-test.true in
    omega arith

pub gather-start-requires-clause-columns : goal.gather-start-requires-clause-columns
gather-start-requires-clause-columns g c = (_, _, c.requires.inside, let n = c.loop-r.invariant.count in let k = c.requires.columns in let l = c.requires.goal in omega arith)

pub gather-start-requires-clause-begun : goal.gather-start-requires-clause-begun
gather-start-requires-clause-begun g c = c.loop-r.invariant.begun

-- as many columns as costs and rows
all_columns : (g : _) (c : After-gather-start g) → length c.gather-start.new.scratch.values.items ≡ length c.args.costs.now + length c.args.rows.now
all_columns g c = c.gather-start.ensures.count ∙ c.loop-r.invariant.count ∙ c.requires.columns

few_found : (g : _) (c : After-gather-start g) → nonzeros (length c.args.costs.now + length c.args.rows.now) (found_at c.gather-start.new.scratch) ≤ length c.args.costs.now
few_found g c = few (length c.args.costs.now) (length c.args.rows.now) (found_at c.gather-start.new.scratch) (λ j l. ap (λ (v : Ratio). v.num) (c.gather-start.ensures.is j ∙ entries_past c.args.matrix.now _ (length c.args.costs.now) c.requires.inside c.loop-r.r j l))

pub settle-requires-clause-row : goal.settle-requires-clause-row
settle-requires-clause-row g c =
    let at' = (goal.at.settle-requires-clause-row g c).After-gather-start in
    let n : ℕ = length c.args.costs.now in
    let k = all_columns g at' in
    let l : c.loop-r.r < length c.loop-r.rows = let t = c.loop-r-test.true in let a = c.loop-r.auto.rows in omega arith in (
      n,
      subst (λ m. IsRow m n (get_or c.loop-r.rows c.loop-r.r c.index-rows-r.result)) (sym k) (row_there _ n c.loop-r.rows c.loop-r.invariant.rows c.loop-r.r c.index-rows-r.result l),
      subst (λ m. nonzeros m (found_at c.gather-start.new.scratch) ≤ n) (sym k) (few_found g at'),
    )

pub loop-r-preserved : goal.loop-r-preserved
loop-r-preserved g c =
    let at' = (goal.at.loop-r-preserved g c).After-gather-start in
    let i = c.loop-r.invariant in
    let n : ℕ = length c.args.costs.now in
    let k = all_columns g at' in
    let l : c.loop-r.r < length c.loop-r.rows = let t = c.loop-r-test.true in let a = c.loop-r.auto.rows in omega arith in
    let was = row_there _ n c.loop-r.rows i.rows c.loop-r.r c.index-rows-r.result l in
    record {
      begun = c.gather-start.ensures.ended;
      count = c.gather-start.ensures.count ∙ i.count;
      rows = rows_set _ n c.loop-r.rows i.rows c.loop-r.r c.settle.new.row (subst (λ m. IsRow m n c.settle.new.row) k (c.settle.ensures.row n (subst (λ m. IsRow m n (get_or c.loop-r.rows c.loop-r.r c.index-rows-r.result)) (sym k) was)));
      done = λ r j h. by_eq r c.loop-r.r
          (λ e. ap (λ q. numbers_in (set c.loop-r.rows c.loop-r.r c.settle.new.row) q j) e ∙ ap (λ (f : ℕ → Ratio). f j) (set_numbers c.loop-r.rows c.loop-r.r c.settle.new.row l) ∙ c.settle.ensures.is j ∙ c.gather-start.ensures.is j ∙ ap (λ q. entry_at (entries c.args.matrix.now) q j) (sym e))
          (λ d. ap (λ (f : ℕ → Ratio). f j) (other_numbers c.loop-r.rows c.loop-r.r r c.settle.new.row d) ∙ i.done r j (omega arith));
      cost = let a = i.cost in let b = c.settle.ensures.cost in let d = subst (λ m. c.loop-r.start + nonzeros m (found_at c.gather-start.new.scratch) ≤ c.gather-start.result) (sym c.gather-start.ensures.count) c.gather-start.ensures.few in omega arith;
      counted = let a = i.counted in let b = c.settle.ensures.counted in omega arith;
    }

pub gather_costs-requires : goal.gather_costs-requires
gather_costs-requires g c = let n = c.loop-r.invariant.count in let k = c.requires.columns in let l = c.requires.goal in omega arith

-- the costs have no number past the variables
cost_columns : (g : _) (c : After-gather_costs g) → length c.gather_costs.new.scratch.values.items ≡ length c.args.costs.now + length c.args.rows.now
cost_columns g c = c.gather_costs.ensures.count ∙ c.loop-r.invariant.count ∙ c.requires.columns

few_costs : (g : _) (c : After-gather_costs g) → nonzeros (length c.args.costs.now + length c.args.rows.now) (found_at c.gather_costs.new.scratch) ≤ length c.args.costs.now
few_costs g c = few (length c.args.costs.now) (length c.args.rows.now) (found_at c.gather_costs.new.scratch) (λ j l. ap (λ (v : Ratio). v.num) (c.gather_costs.ensures.is j ∙ times_past c.args.costs.now _ j l))

pub settle-requires-2-clause-row : goal.settle-requires-2-clause-row
settle-requires-2-clause-row g c =
    let at' = (goal.at.settle-requires-2-clause-row g c).After-gather_costs in
    let n : ℕ = length c.args.costs.now in
    let k = cost_columns g at' in
    let l : length c.args.rows.now - 1 < length c.loop-r.rows = let e = c.loop-r.auto.rows in let h = c.requires.goal in omega arith in (
      n,
      subst (λ m. IsRow m n (get_or c.loop-r.rows (length c.args.rows.now - 1) c.index-rows-last.result)) (sym k) (row_there _ n c.loop-r.rows c.loop-r.invariant.rows (length c.args.rows.now - 1) c.index-rows-last.result l),
      subst (λ m. nonzeros m (found_at c.gather_costs.new.scratch) ≤ n) (sym k) (few_costs g at'),
    )

pub returns-clause-rows : goal.returns-clause-rows
returns-clause-rows g c =
    let at' = (goal.at.returns-clause-rows g c).After-gather_costs in
    let n : ℕ = length c.args.costs.now in
    let last : ℕ = length c.args.rows.now - 1 in
    let k = cost_columns g at' in
    let l : last < length c.loop-r.rows = let e = c.loop-r.auto.rows in let h = c.requires.goal in omega arith in
    let was = row_there _ n c.loop-r.rows c.loop-r.invariant.rows last c.index-rows-last.result l in
    rows_set _ n c.loop-r.rows c.loop-r.invariant.rows last c.settle-2.new.row (subst (λ m. IsRow m n c.settle-2.new.row) k (c.settle-2.ensures.row n (subst (λ m. IsRow m n (get_or c.loop-r.rows last c.index-rows-last.result)) (sym k) was)))

pub returns-clause-numbers : goal.returns-clause-numbers
returns-clause-numbers g c r j h =
    let last : ℕ = length c.args.rows.now - 1 in
    let es = entries c.args.matrix.now in
    let costs = value_at (ratios c.args.costs.now) j in
    let inside : last < length c.loop-r.rows = let e = c.loop-r.auto.rows in let g' = c.requires.goal in omega arith in
    by_eq r last
    (λ e. ap (λ q. numbers_in (set c.loop-r.rows last c.settle-2.new.row) q j) e ∙ ap (λ (f : ℕ → Ratio). f j) (set_numbers c.loop-r.rows last c.settle-2.new.row inside) ∙ c.settle-2.ensures.is j ∙ c.gather_costs.ensures.is j ∙ ap (λ z. times_sign z costs) (to_z-of_z w8 c.args.factor c.ranges.factor)
    ∙ sym (ap (λ (b : Bool). cond b (entry_at es r j) (times_sign c.args.factor costs)) (le-ltb r last (omega arith))))
    (λ d. ap (λ (f : ℕ → Ratio). f j) (other_numbers c.loop-r.rows last r c.settle-2.new.row d) ∙ c.loop-r.invariant.done r j (let t = c.loop-r-test.false in let a = c.loop-r.auto in omega arith)
    ∙ sym (ap (λ (b : Bool). cond b (entry_at es r j) (times_sign c.args.factor costs)) (lt-ltb r last (omega arith))))

pub returns-clause-count : goal.returns-clause-count
returns-clause-count g c = c.gather_costs.ensures.count ∙ c.loop-r.invariant.count

pub returns-clause-cost : goal.returns-clause-cost
returns-clause-cost g c =
    let at' = (goal.at.returns-clause-cost g c).After-gather_costs in
    let a = c.loop-r.invariant.cost in
    let s = c.loop-r.invariant.begun.within in
    let b = subst (λ m. c.settle-2.new.steps ≤ c.loop-r.steps + nonzeros m (found_at c.gather_costs.new.scratch)) (cost_columns g at') c.settle-2.ensures.cost in
    let f = few_costs g at' in
    omega arith
