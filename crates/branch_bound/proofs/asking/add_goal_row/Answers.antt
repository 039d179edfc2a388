use Rattle.std.proofs.Common.{◌≡◌, ℕ, ◌+◌, ◌<◌, List, length, sym, ◌∙◌, ap, ap₂, subst, arith}
use Rattle.std.specs.List.{All}
use Rattle.fraction.specs.Frac.{ratios}
use Rattle.fraction.specs.declared.frac.Frac.{Frac}
use Rattle.fraction.specs.declared.ends.Entry.{Entry}
use Rattle.fraction.specs.declared.ends.End.TheVariants.{At}
use Rattle.rational.specs.Ratio.{Ratio}
use Rattle.evidence.specs.Instance.{minimising, cost_at, entry_at}
use Rattle.evidence.specs.AddedRows.{with_row}
use Rattle.evidence.specs.Point.{value_at}
use Rattle.instance.specs.declared.parts.Row.{Row}
use Rattle.instance.specs.Program.{entries}
use Rattle.instance.proofs.Terms.{if_ok}
use Rattle.simplex.specs.declared.cuts.Added.{Added}
use Rattle.simplex.specs.Cuts.{Cutting, range_of, IsAdded}
use Rattle.branch_bound.specs.Levels.{IsGiven}
use Rattle.branch_bound.proofs.NextGoal.{count_turned, listed_at}
use Rattle.branch_bound.proofs.GivenRows.{given_row}
use Rattle.branch_bound.proofs.asking.add_goal_row.Goals as goal
use Rattle.branch_bound.proofs.asking.add_goal_row.Goals.{After-as_slice}

-- as many numbers as variables
long : (g : _) (c : After-as_slice g) → length c.as_slice.result.now ≡ length c.args.instance.now.vars
long g c = ap (λ (xs : List Frac). length xs) c.as_slice.ensures.value ∙ count_turned c.args.goal.now.sense c.in_ok-numbers.numbers.items c.args.goal.now.costs c.in_ok-numbers.ensures ∙ c.requires.costs

-- the row comes past those that there are
place : (g : _) (c : After-as_slice g) → length c.rows.result.now + length c.rows-2.result.now ≡ length c.args.instance.now.rows + length c.args.relaxation.now.ends.rows
place g c = ap₂ (λ (a b : ℕ). a + b) (ap (λ (rs : List Row). length rs) c.rows.ensures.value) (ap (λ (rs : List Added). length rs) c.rows-2.ensures)

pub entries_of-requires : goal.entries_of-requires
entries_of-requires g c = let n = long g (goal.at.entries_of-requires g c).After-as_slice in let s = c.requires.size.few in omega arith

-- the row itself
abbrev row_of : Frac → List Entry → Added
row_of end es = record { ends = record { lb = At end; ub = At end }; entries = es }

pub add_row-requires-clause-row : goal.add_row-requires-clause-row
add_row-requires-clause-row g c =
    let at' = (goal.at.add_row-requires-clause-row g c).After-as_slice in
    let i : ℕ = length c.rows.result.now + length c.rows-2.result.now in
    let e = c.in_ok-entries in
    subst (λ k. IsAdded (length c.args.instance.now.vars) k (row_of c.args.end e.entries)) (place g at')
    (record {
      rows = e.ensures.own;
      ascending = e.ensures.ascending;
      inside = subst (λ n. All (λ (x : Entry). x.col < n) e.entries) (long g at') e.ensures.inside;
      nonzero = e.ensures.nonzero;
      low = λ q. cc;
      high = λ q. cc;
    })

pub returns-clause-given : goal.returns-clause-given
returns-clause-given g c =
    let at' = (goal.at.returns-clause-given g c).After-as_slice in
    let p = c.args.instance.now in
    let k = c.args.relaxation.now.ends in
    let e = c.in_ok-entries in
    let n = c.in_ok-numbers in
    if_ok c.add_row.result
    (λ x is D given asked.
    let f : ℕ → Ratio = λ j. minimising D (cost_at D j) in
    subst (λ (h : Cutting). IsGiven p h (with_row D (range_of (record { lb = At c.args.end; ub = At c.args.end })) f)) (sym is)
    (given_row p k D given (row_of c.args.end e.entries) f
    (λ j h.
    let w = long g at' in
    let l = c.requires.costs in
    subst (λ i. entry_at (entries e.entries) i j ≡ f j) (place g at')
    (e.ensures.values j (omega arith) ∙ ap (λ (xs : List Frac). value_at (ratios xs) j) c.as_slice.ensures.value ∙ listed_at c.args.goal.now D n.numbers.items n.ensures asked j (omega arith)))))
    c.add_row.ensures.given
