-- A search has an outcome: each moment has a next one or is the last, each case takes one of the nodes that the limit leaves, and each level asks one goal.
use Rattle.std.proofs.Common.{◌≡◌, ◌⊎◌, inl, inr, ℕ, zero, suc, ◌+◌, ◌<◌, ◌≤◌, ℤ, pos, negsuc, neg_ℤ, ◌+ℤ◌, ◌≤ℤ◌, Bool, true, false, Option, None, Some, IfSome, IsSome, List, [], ◌∷◌, ◌++◌, length, get_or, refl, sym, ◌∙◌, ap, subst, arith, length-append}
use Rattle.std.specs.Prelude.{IsTrue, unsigned_abs}
use Rattle.std.specs.List.{All}
use Rattle.std.specs.Option.{is_some}
use Rattle.std.proofs.lemmas.Bool.{lt-ltb}
use Rattle.std.proofs.lemmas.Int.{ints}
use Rattle.std.proofs.lemmas.List.Elements.{All-head, All-tail, All-cons, All-nil}
use Rattle.rational.specs.Ratio.{Ratio, whole, sum, product, negative, IsNumber, IsSame, IsBelow}
use Rattle.rational.specs.Width.{most, IsReduced, IsWithin, SumFits}
use Rattle.rational.proofs.ReducedForms.{reduce}
use Rattle.evidence.specs.Sums.{none, is_below, IsWhole}
use Rattle.evidence.specs.Instance.{Range, Variable, Goal, Instance, Problem, goals, asking, IsInstance, IsGoalOfNumbers, IsProblem, HasNumbers, no_goal, no_variable, width, variable_at, column_at, cost_at, minimising}
use Rattle.evidence.specs.Point.{value_at, objective, IsZeroOr}
use Rattle.evidence.specs.Cases.{Multiplier, Node, ClashAt, FarkasBy, BoundBy, SplitAt, ZeroAt, at_most, at_least, at_zero, lesser_end, greater_end, either_low, either_high, both, or_free, or_none, with_range, unless_zero}
use Rattle.evidence.specs.OneDenominator.{number_at}
use Rattle.evidence.specs.Rounds.{Certificate, derive}
use Rattle.evidence.specs.Levels.{IsReachedEnd, next_level}
use Rattle.evidence.specs.AddedRows.{with_row}
use Rattle.evidence.specs.Width.{PointFits}
use Rattle.evidence.proofs.AddedRows.{instance_added, instance_asking}
use Rattle.evidence.proofs.Branches.{lesser-number, greater-number, both-numbers, or_free-numbers, instance_with, width_with, at_each}
use Rattle.evidence.proofs.Duality.{minimising-number}
use Rattle.evidence.proofs.Totals.{total-number}
use Rattle.evidence.proofs.WholeSums.{whole-number}
use Rattle.evidence.proofs.Numbers.{sum-number, product-number}
use Rattle.evidence.proofs.Columns.{by_lt, by_bool, none-number, pick, value-number, All-anywhere, column-numbers, further-numbers}
use Rattle.certificate.specs.declared.causes.Step.TheVariants as At
use Rattle.certificate.specs.declared.causes.Cause.TheVariants.{Killed, NodeLimit, TurnLimit, Wide}
use Rattle.bases.specs.Program.{goal_column, columns}
use Rattle.bases.proofs.Lists.{value_by-number}
use Rattle.simplex_rules.specs.declared.columns.Status.{Status}
use Rattle.simplex_rules.specs.declared.columns.Status.TheVariants.{Basic, Lower, Upper, Zero}
use Rattle.simplex_rules.specs.Statuses.{status_at, basic_in, rest_at, resting, basic_value}
use Rattle.simplex_rules.specs.Ends.{Terms, Clock, End, Clash, Empty, Best, Endless, TurnsOut, TooWide, Stopped, Shown}
use Rattle.simplex_rules.specs.Runs.{Run, looked_once}
use Rattle.simplex_rules.proofs.FastRules.{by_order}
use Rattle.simplex_rules.proofs.Facts.{rest-number}
use Rattle.simplex_rules.proofs.Moments.{run_true}
use Rattle.search_rules.specs.Branching.{Case, IsEither, IsMet, AreMetBelow, IsSplit, IsDividedAt, IsMoving, NoneMoves}
use Rattle.search_rules.specs.Cuts.{Trial, NoCut, WideCut, Cut, TriesBasis}
use Rattle.search_rules.specs.Rays.{IsScaled}
use Rattle.search_rules.specs.Search.{Found, Level, SearchMoment, Outcome, Optimal, Infeasible, Unbounded, NextOfSearch, To, Out, first, undivided, shown_at, nodes_with, nodes_so_far, reached, early, too_wide, closed_by_leaf, branch, divide, with_cut, next_level_at, IsPassed, IsHopeful, AreValuesAt, IsStop, Branches, MayCut, TakesFound, TakesPoint, MeetsPoint, GoesFromTrial, ImprovesBest, GoesFromBest, GoesAlong, GoesFrom, AsksNext, ClosesLevel, IsNextInSearch, ComesInSearch, begins, goes_on, Search}
use Rattle.no_cycles.specs.Ends.{IsRangeWithin, IsVariableWithin, HasEndsWithin}
use Rattle.no_cycles.proofs.Doubts.{Surely, sure, so, either, FirstOrNone, first_or_none, AllOrFirst, all_or_first, table}
use Rattle.no_cycles.proofs.CutTrials.{tried}
use Rattle.no_cycles.proofs.RunEnds.{IsReadOff, ReadsBasis, runs_end}
use Rattle.no_cycles.proofs.Sizes.{IsSized, sized_within, sized_none, sized_alike, sized_value, floor_of, sized_floor}

-- ---- ends

lesser_within : (o : Option Ratio) (k : Ratio) → IfSome o IsWithin → IsWithin k → IfSome (lesser_end o k) IsWithin
lesser_within None k h p = p
lesser_within (Some u) k h p = pick (λ (o : Option Ratio). IfSome o IsWithin) (is_below k u) (Some k) (Some u) p h

greater_within : (o : Option Ratio) (k : Ratio) → IfSome o IsWithin → IsWithin k → IfSome (greater_end o k) IsWithin
greater_within None k h p = p
greater_within (Some l) k h p = pick (λ (o : Option Ratio). IfSome o IsWithin) (is_below l k) (Some k) (Some l) p h

low_within : (o s : Option Ratio) → IfSome o IsWithin → IfSome s IsWithin → IfSome (either_low o s) IsWithin
low_within o None h p = h
low_within o (Some l) h p = greater_within o l h p

high_within : (o s : Option Ratio) → IfSome o IsWithin → IfSome s IsWithin → IfSome (either_high o s) IsWithin
high_within o None h p = h
high_within o (Some u) h p = lesser_within o u h p

both_within : (r s : Range) → IsRangeWithin r → IsRangeWithin s → IsRangeWithin (both r s)
both_within r s h p = (low_within r.lb s.lb h.0 p.0, high_within r.ub s.ub h.1 p.1)

or_free_within : (o : Option Range) → IfSome o IsRangeWithin → IsRangeWithin (or_free o)
or_free_within None h = (tt, tt)
or_free_within (Some r) h = h

ends_with : (I : Instance) (j : ℕ) (r : Range) → j < width I → HasEndsWithin I → IsRangeWithin r → HasEndsWithin (with_range I j r)
ends_with I j r low ends within i h =
    let own = ends j low in
    let count = width_with I j r in
    at_each I j r low (λ i v. IsVariableWithin v) (within, own.1) ends i (omega arith)

abs_small : (k : ℤ) (n : ℕ) → neg_ℤ (pos n) ≤ℤ k → k ≤ℤ pos n → unsigned_abs k ≤ n
abs_small (pos m) n low high = omega (arith, ints)
abs_small (negsuc m) n low high = omega (arith, ints)

whole_within : (k : ℤ) → neg_ℤ (pos most) ≤ℤ k → k ≤ℤ pos most → IsWithin (whole k)
whole_within k low high = (abs_small k most low high, omega arith)

-- ---- the values of a point

end_sized : (o : Option Ratio) → IfSome o IsNumber → IfSome o IsWithin → IsSized (or_none o)
end_sized None p h = sized_none
end_sized (Some e) p h = sized_within e p h

rest_sized : (r : Range) (s : Status) → HasNumbers r → IsRangeWithin r → IsSized (rest_at r s)
rest_sized r Basic p h = sized_none
rest_sized r Lower p h = end_sized r.lb p.0 h.0
rest_sized r Upper p h = end_sized r.ub p.1 h.1
rest_sized r Zero p h = sized_none

module _ (I : Instance) (good : IsInstance I) (ends : HasEndsWithin I) (zeroed : Bool) (ss : List Status) (x : List Ratio) (off : IsReadOff I zeroed ss x) where
  entries-number : (b c : ℕ) → IsNumber (off.entries b c)
  entries-number b c = let r = off.dictionary.entries.reduced b c in r.0

  resting-number : (c : ℕ) → IsNumber (resting I ss c)
  resting-number c = rest-number (column_at I c) (status_at ss c) (column-numbers I good c)

  point_sized : (j : ℕ) → j < width I → IsSized (value_at x j)
  point_sized j h = subst IsSized (sym (off.point.values j h)) (by_bool (basic_in ss j) on other)
    where
      inside : j < goal_column I
      inside = omega arith

      on : basic_in ss j ≡ true → IsSized (off.values j)
      on b =
          sized_alike (basic_value I ss off.entries j) (off.values j) (value_by-number (columns I) (off.entries j) (resting I ss) (entries-number j) resting-number) (sym (off.have.basic j inside b))
          (sized_value (columns I) (off.entries j) (resting I ss) (entries-number j) resting-number (off.fit j inside b))

      other : basic_in ss j ≡ false → IsSized (off.values j)
      other b =
          let range : column_at I j ≡ (variable_at I j).range = rw (lt-ltb j (width I) h) refl in
          let own = ends j h in
          let numbers : HasNumbers (variable_at I j).range = subst HasNumbers range (column-numbers I good j) in
          let rest : IsSized (resting I ss j) = subst (λ r. IsSized (rest_at r (status_at ss j))) (sym range) (rest_sized (variable_at I j).range (status_at ss j) numbers own.0) in
          sized_alike (resting I ss j) (off.values j) (resting-number j) (sym (off.have.nonbasic j inside b)) rest

-- ---- from a case on

abbrev Fits : Case → Type 0
Fits C = IsInstance C.program × HasEndsWithin C.program

-- with another range of one variable
fits_with : (C : Case) (j : ℕ) (r : Range) → Fits C → j < width C.program → HasNumbers r → IsRangeWithin r → IsInstance (with_range C.program j r) × HasEndsWithin (with_range C.program j r)
fits_with C j r fits low numbers within = (instance_with C.program j r numbers fits.0, ends_with C.program j r low fits.1 within)

own_numbers : (C : Case) (j : ℕ) → Fits C → HasNumbers (variable_at C.program j).range
own_numbers C j fits = let good = fits.0 in All-anywhere (λ v. HasNumbers v.range) C.program.variables no_variable (tt, tt) good.variables j

-- 0 alone
abbrev zero_range : Range
zero_range = record { lb = Some none; ub = Some none }

-- the next moment is of the same level, and has a node or a cut more
record IsCloser (t : Terms) (m n : SearchMoment) : Type 0 where
  pub level : n.level ≡ m.level
  pub cases : All Fits n.waiting
  pub more : length n.nodes + length n.rounds ≡ length m.nodes + length m.rounds + 1
  pub rounds : length m.rounds ≤ t.rounds → length n.rounds ≤ t.rounds

closer : (t : Terms) (m n : SearchMoment) (node : Node) → n.level ≡ m.level → n.nodes ≡ m.nodes ++ node ∷ [] → n.rounds ≡ m.rounds → All Fits n.waiting → IsCloser t m n
closer t m n node level nodes rounds cases =
    let k = ap length nodes ∙ length-append m.nodes (node ∷ []) in
    let r = ap length rounds in
    record { level = level; cases = cases; more = omega arith; rounds = λ h. omega arith }

abbrev Steps : Terms → SearchMoment → (NextOfSearch → Type 0) → Type 0
Steps t m N = ((o : Outcome) × (c : Clock) × N (Out o c)) ⊎ ((n : SearchMoment) × N (To n) × IsCloser t m n)

steps_on : (t : Terms) (m : SearchMoment) (N M : NextOfSearch → Type 0) → ((x : NextOfSearch) → N x → M x) → Steps t m N → Steps t m M
steps_on t m N M on (inl (o, c, p)) = inl (o, c, on (Out o c) p)
steps_on t m N M on (inr (n, p, q)) = inr (n, on (To n) p, q)

further_is : (v : Variable) (x : Ratio) → (IsEither v x → ⊥) → IsSome v.unless_zero
further_is v x not = by v.unless_zero not
  where
    by : (o : Option Range) → (IfSome o (λ r. IsZeroOr r x) → ⊥) → IsSome o
    by None never = absurd (never tt)
    by (Some r) never = refl

module _ (P : Problem) (t : Terms) (good : IsProblem P) where
  module _ (C : Case) (rest : List Case) (m : SearchMoment) (mine : Fits C) (others : All Fits rest) where
    two : (A B : Case) → Fits A → Fits B → All Fits (A ∷ B ∷ rest)
    two A B a b = All-cons Fits A (B ∷ rest) a (All-cons Fits B rest b others)

    -- variable j is 0, or within its further ends
    divided : (j : ℕ) → j < width C.program → IsCloser t m (divide m C rest j)
    divided j low =
        let u : Variable = variable_at C.program j in
        let ends = mine.1 j low in
        let zero = whole_within (pos 0) (omega (arith, ints)) (omega (arith, ints)) in
        let own = own_numbers C j mine in
        closer t m (divide m C rest j) (ZeroAt j) refl refl refl
        (two (record C { program = at_zero C.program j; divided = j ∷ C.divided }) (record C { program = unless_zero C.program j; divided = j ∷ C.divided })
        (fits_with C j (both u.range zero_range) mine low (both-numbers u.range zero_range own (none-number, none-number)) (both_within u.range zero_range ends.0 (zero, zero)))
        (fits_with C j (both u.range (or_free u.unless_zero)) mine low (both-numbers u.range (or_free u.unless_zero) own (or_free-numbers u.unless_zero (further-numbers C.program mine.0 j))) (both_within u.range (or_free u.unless_zero) ends.0 (or_free_within u.unless_zero ends.1))))

    -- where a value isn't as it must be, the case is branched
    module _ (x : List Ratio) (numbers : All IsNumber x) (sized : (j : ℕ) → j < width C.program → IsSized (value_at x j)) where
      abbrev v : ℕ → Variable
      v j = variable_at C.program j

      divides : (j : ℕ) → j < width C.program → (IsEither (v j) (value_at x j) → ⊥) → AreMetBelow C.program x j → Steps t m (Branches C rest m x)
      divides j low not below =
          let at : IsDividedAt C.program x j = record { branch = record { variable = low; further = further_is (v j) (value_at x j) not }; below = below; other = not } in
          inr (divide m C rest j, inr (j, at, refl), divided j low)

      splits : (j : ℕ) → j < width C.program → IsEither (v j) (value_at x j) → IsTrue (v j).whole → (IsWhole (value_at x j) → ⊥) → AreMetBelow C.program x j → Steps t m (Branches C rest m x)
      splits j low e w part below =
          let n : IsNumber (value_at x j) = value-number x numbers j in
          let (k, floor) = floor_of (value_at x j) n in
          let (least, high) = sized_floor (value_at x j) k n (sized j low) part floor in
          let ends = mine.1 j low in
          let within = ends.0 in
          let own = own_numbers C j mine in
          let r : Range = (v j).range in
          let here : IsWithin (whole k) = whole_within k least (omega (arith, ints)) in
          let above : IsWithin (whole (k +ℤ pos 1)) = whole_within (k +ℤ pos 1) (omega (arith, ints)) (omega (arith, ints)) in
          let at : IsSplit C.program x j k = record { branch = record { variable = low; whole = w; low = least; high = high }; below = below; either = e; other = part; floor = floor } in
          inr (
            branch m C rest j k,
            inl (j, k, at, refl),
            closer t m (branch m C rest j k) (SplitAt j k) refl refl refl
                (two (record C { program = at_most C.program j k }) (record C { program = at_least C.program j (k +ℤ pos 1) })
                (fits_with C j (record r { ub = lesser_end r.ub (whole k) }) mine low (own.0, lesser-number r.ub (whole k) (whole-number k) own.1) (within.0, lesser_within r.ub (whole k) within.1 here))
                (fits_with C j (record r { lb = greater_end r.lb (whole (k +ℤ pos 1)) }) mine low (greater-number r.lb (whole (k +ℤ pos 1)) (whole-number (k +ℤ pos 1)) own.0, own.1) (greater_within r.lb (whole (k +ℤ pos 1)) within.0 above, within.1))),
          )

      branches : (AreMetBelow C.program x (width C.program) → ⊥) → Surely (Steps t m (Branches C rest m x))
      branches unmet = so (all_or_first (λ j. IsMet (v j) (value_at x j)) (width C.program)) by
        where
          wholes : (j : ℕ) → j < width C.program → (IsMet (v j) (value_at x j) → ⊥) → AreMetBelow C.program x j → IsEither (v j) (value_at x j) → IsTrue (v j).whole ⊎ (IsTrue (v j).whole → ⊥) → Surely (Steps t m (Branches C rest m x))
          wholes j low not below e (inr other) = absurd (not (record { whole = λ w. absurd (other w); either = e }))
          wholes j low not below e (inl w) = sure (splits j low e w (λ p. not (record { whole = λ z. p; either = e })) below)

          eithers : (j : ℕ) → j < width C.program → (IsMet (v j) (value_at x j) → ⊥) → AreMetBelow C.program x j → IsEither (v j) (value_at x j) ⊎ (IsEither (v j) (value_at x j) → ⊥) → Surely (Steps t m (Branches C rest m x))
          eithers j low not below (inr other) = sure (divides j low other below)
          eithers j low not below (inl e) = so (either (IsTrue (v j).whole)) (wholes j low not below e)

          by : AllOrFirst (λ j. IsMet (v j) (value_at x j)) (width C.program) → Surely (Steps t m (Branches C rest m x))
          by (inl all) = absurd (unmet all)
          by (inr (j, low, not, below)) = so (either (IsEither (v j) (value_at x j))) (eithers j low not below)

      -- where all are, the point is found
      goals_are : (k : ℕ) → IsInstance (asking P k)
      goals_are k = instance_asking P.program (get_or (goals P) k no_goal) good.program (All-anywhere IsGoalOfNumbers (goals P) no_goal (record { constant = none-number; costs = All-nil IsNumber }) (All-cons IsGoalOfNumbers P.program.goal P.later (record { constant = good.program.constant; costs = good.program.costs }) good.later) k)

      objective-number : (k : ℕ) → IsNumber (objective (asking P k) x)
      objective-number k =
          let g = goals_are k in
          total-number (asking P k).goal.constant (width P.program) (λ j. product (cost_at (asking P k) j) (value_at x j)) g.constant
          (λ j. product-number (cost_at (asking P k) j) (value_at x j) (value-number (asking P k).goal.costs g.costs j) (value-number x numbers j))

      values : (vs : List Ratio) × AreValuesAt P x vs
      values =
          let of : ℕ → Ratio = λ k. (reduce (objective (asking P k) x) (objective-number k)).form in
          let (vs, is) = table none of (length (goals P)) in (
            vs,
            record {
              count = is.count;
              values = λ k h.
                  let f = reduce (objective (asking P k) x) (objective-number k) in
                  let e : value_at vs k ≡ f.form = is.items k h in
                  record { numbers = numbers; reduced = subst IsReduced (sym e) f.reduced; same = subst (λ z. IsSame z (objective (asking P k) x)) (sym e) f.same };
            },
          )

      found : (ray : Option (List Ratio)) (f : Found) (ms : List Multiplier) → Steps t m (TakesFound P t ray rest m f ms)
      found None f ms = inr (closed_by_leaf (record m { best = Some f }) rest (BoundBy ms), refl, closer t m (closed_by_leaf (record m { best = Some f }) rest (BoundBy ms)) (BoundBy ms) refl refl refl others)
      found (Some r) f ms = inl (Unbounded f.point f.values m.level.shown r, m.clock, refl)

      takes : (ms : List Multiplier) → AreMetBelow C.program x (width C.program) → Surely (Steps t m (TakesPoint P t C rest m x ms))
      takes ms met = so (either (PointFits P x)) by
        where
          by : PointFits P x ⊎ (PointFits P x → ⊥) → Surely (Steps t m (TakesPoint P t C rest m x ms))
          by (inr not) = sure (inl (too_wide m At.Point, m.clock, (met, inl (not, refl))))
          by (inl fits) =
              let (vs, are) = values in
              let f : Found = record { point = x; values = vs } in
              sure (steps_on t m (TakesFound P t C.ray rest m f ms) (TakesPoint P t C rest m x ms) (λ y p. (met, inr (vs, fits, are, p))) (found C.ray f ms))

      meets : (ms : List Multiplier) → Surely (Steps t m (MeetsPoint P t C rest m x ms))
      meets ms = so (either (AreMetBelow C.program x (width C.program))) by
        where
          by : AreMetBelow C.program x (width C.program) ⊎ (AreMetBelow C.program x (width C.program) → ⊥) → Surely (Steps t m (MeetsPoint P t C rest m x ms))
          by (inl met) = so (takes ms met) (λ y. sure (steps_on t m (TakesPoint P t C rest m x ms) (MeetsPoint P t C rest m x ms) (λ z p. inr p) y))
          by (inr not) = so (branches not) (λ y. sure (steps_on t m (Branches C rest m x) (MeetsPoint P t C rest m x ms) (λ z p. inl p) y))

      -- by one more cut, or without
      module _ (before : Clock) (b : Ratio) (ms : List Multiplier) (based : ReadsBasis C.program false t before (Best b x ms) m.clock) where
        abbrev Improves : NextOfSearch → Type 0
        Improves next = ImprovesBest P t C rest m before b x ms next

        branches_on : (AreMetBelow C.program x (width C.program) → ⊥) → ((y : NextOfSearch) → Branches C rest m x y → Improves y) → Surely (Steps t m Improves)
        branches_on not on = so (branches not) (λ y. sure (steps_on t m (Branches C rest m x) Improves on y))

        cuts : MayCut P t m → (AreMetBelow C.program x (width C.program) → ⊥) → (trial : Trial) → TriesBasis C.program x based.0 trial → Surely (Steps t m Improves)
        cuts may not trial tries = by trial tries
          where
            on : (trial : Trial) → TriesBasis C.program x based.0 trial → (y : NextOfSearch) → GoesFromTrial P t C rest m x trial y → Improves y
            on trial tries y p = inr (inr (based.0, trial, may, not, based.1, tries, p))

            by : (trial : Trial) → TriesBasis C.program x based.0 trial → Surely (Steps t m Improves)
            by NoCut tries = branches_on not (λ y p. on NoCut tries y p)
            by WideCut tries = sure (inl (too_wide m At.Round, m.clock, on WideCut tries (Out (too_wide m At.Round) m.clock) refl))
            by (Cut ns cs k) tries =
                let n : SearchMoment = with_cut m C rest ns cs k in
                let good_cut : IsInstance (derive C.program cs k) = instance_added C.program (record { lb = Some (whole k); ub = None }) (λ j. whole (number_at cs j)) mine.0 (whole-number k, tt) (λ j. whole-number (number_at cs j)) in
                let count : length n.rounds ≡ length m.rounds + 1 = rw length-append refl in
                let few = may.fewer in
                sure (inr (
                  n,
                  on (Cut ns cs k) tries (To n) refl,
                  record { level = refl; cases = All-cons Fits (record C { program = derive C.program cs k }) rest (good_cut, mine.1) others; more = omega arith; rounds = λ h. omega arith },
                ))

        improves : Surely (Steps t m Improves)
        improves = so (either (AreMetBelow C.program x (width C.program))) by
          where
            may_cut : (AreMetBelow C.program x (width C.program) → ⊥) → MayCut P t m ⊎ (MayCut P t m → ⊥) → Surely (Steps t m Improves)
            may_cut not (inr never) = branches_on not (λ y p. inr (inl (never, p)))
            may_cut not (inl may) =
                let (ss, at, placed, off) = based in
                so (tried C.program mine.0 ss placed off.entries off.dictionary x) (λ trial. cuts may not trial.0 trial.1)

            by : AreMetBelow C.program x (width C.program) ⊎ (AreMetBelow C.program x (width C.program) → ⊥) → Surely (Steps t m Improves)
            by (inl met) = so (takes ms met) (λ y. sure (steps_on t m (TakesPoint P t C rest m x ms) Improves (λ z p. inl p) y))
            by (inr not) = so (either (MayCut P t m)) (may_cut not)

      passed : (b : Ratio) (best : Option Found) → m.best ≡ best → IsPassed m.level m.best b ⊎ IsHopeful m.level m.best b
      passed b None e = inr (λ f i. absurd (cc))
      passed b (Some f) e =
          by_order (minimising m.level.program (reached m.level f)) b
          (λ h. inl (record { found = f; is = e; passed = omega (arith, ints) }))
          (λ h. inl (record { found = f; is = e; passed = omega (arith, ints) }))
          (λ h. inr (λ g i. let same : f ≡ g = cc in subst (λ k. IsBelow b (minimising m.level.program (reached m.level k))) same h))

      from_best : (ray : Option (List Ratio)) (before : Clock) (b : Ratio) (ms : List Multiplier) → ReadsBasis C.program (is_some ray) t before (Best b x ms) m.clock → Surely (Steps t m (GoesFromBest P t ray C rest m before b x ms))
      from_best None before b ms based = by (passed b m.best refl)
        where
          by : IsPassed m.level m.best b ⊎ IsHopeful m.level m.best b → Surely (Steps t m (GoesFromBest P t None C rest m before b x ms))
          by (inl over) = sure (inr (closed_by_leaf m rest (BoundBy ms), inl (over, refl), closer t m (closed_by_leaf m rest (BoundBy ms)) (BoundBy ms) refl refl refl others))
          by (inr hopeful) = so (improves before b ms based) (λ y. sure (steps_on t m (ImprovesBest P t C rest m before b x ms) (GoesFromBest P t None C rest m before b x ms) (λ z p. inr (hopeful, p)) y))
      from_best (Some r) before b ms based = meets ms

  module _ (C : Case) (rest : List Case) (m : SearchMoment) (mine : Fits C) (others : All Fits rest) where
    along : (x d : List Ratio) → All IsNumber x → ((j : ℕ) → j < width C.program → IsSized (value_at x j)) → Surely (Steps t m (GoesAlong P t C rest m x d))
    along x d numbers sized = so (first_or_none (IsMoving C d) (width C.program)) by
      where
        scaled : NoneMoves C d → ((r : List Ratio) × IsScaled P.program d r) ⊎ (((r : List Ratio) × IsScaled P.program d r) → ⊥) → Surely (Steps t m (GoesAlong P t C rest m x d))
        scaled still (inr not) = sure (inl (too_wide m At.Ray, m.clock, inr (inl (still, (λ r s. not (r, s)), refl))))
        scaled still (inl (r, s)) =
            so (meets (record C { ray = Some r }) rest m mine others x numbers sized [])
            (λ y. sure (steps_on t m (MeetsPoint P t (record C { ray = Some r }) rest m x []) (GoesAlong P t C rest m x d) (λ z p. inr (inr (r, still, s, p))) y))

        by : FirstOrNone (IsMoving C d) (width C.program) → Surely (Steps t m (GoesAlong P t C rest m x d))
        by (inl (j, f)) =
            sure (inr (divide m C rest j, inl (j, record { moving = f.is; before = f.before }, refl), divided C rest m mine others j f.inside))
        by (inr never) =
            let still : NoneMoves C d = λ j h. never j h.branch.variable h in
            so (either ((r : List Ratio) × IsScaled P.program d r)) (scaled still)

    from_end : (before : Clock) (e : End) (c : Clock) → m.clock ≡ c → Shown (is_some C.ray) C.program e → ReadsBasis C.program (is_some C.ray) t before e c → Surely (Steps t m (GoesFrom P t C rest m before e))
    from_end before (Clash k) c is true_of off = sure (inr (closed_by_leaf m rest (ClashAt k), refl, closer t m (closed_by_leaf m rest (ClashAt k)) (ClashAt k) refl refl refl others))
    from_end before (Empty ms) c is true_of off = sure (inr (closed_by_leaf m rest (FarkasBy ms), refl, closer t m (closed_by_leaf m rest (FarkasBy ms)) (FarkasBy ms) refl refl refl others))
    from_end before (Best b x ms) c is true_of (ss, at, placed, off) =
        let relaxed = true_of.0 in
        let based : ReadsBasis C.program (is_some C.ray) t before (Best b x ms) m.clock = subst (λ d. ReadsBasis C.program (is_some C.ray) t before (Best b x ms) d) (sym is) (ss, at, placed, off) in
        from_best C rest m mine others x relaxed.numbers (point_sized C.program mine.0 mine.1 (is_some C.ray) ss x off) C.ray before b ms based
    from_end before (Endless x d) c is true_of (ss, at, placed, off) =
        let relaxed = true_of.1 in
        along x d relaxed.numbers (point_sized C.program mine.0 mine.1 (is_some C.ray) ss x off)
    from_end before TurnsOut c is true_of off = sure (inl (early m.best (TurnLimit t.turns), m.clock, refl))
    from_end before (TooWide s) c is true_of off = sure (inl (too_wide m s, m.clock, refl))
    from_end before Stopped c is true_of off = sure (inl (early m.best Killed, m.clock, refl))

  -- ---- a moment

  -- all its programs are of numbers that fit
  record Stands (m : SearchMoment) : Type 0 where
    pub instance_is : IsInstance m.level.program
    pub ends : HasEndsWithin m.level.program
    pub later : All IsGoalOfNumbers m.level.later
    pub cases : All Fits m.waiting
    pub rounds : length m.rounds ≤ t.rounds

  -- an end; a moment of the same level, by one of the nodes that are left; or one of the next level
  abbrev Leads : SearchMoment → Type 0
  Leads m =
      ((o : Outcome) × (c : Clock) × IsNextInSearch P t m (Out o c))
      ⊎ ((n : SearchMoment) × IsNextInSearch P t m (To n) × IsCloser t m n × (nodes_so_far m < t.nodes))
      ⊎ ((n : SearchMoment) × IsNextInSearch P t m (To n) × Stands n × (suc (length n.level.later) ≡ length m.level.later))

  module _ (m : SearchMoment) (h : Stands m) where
    visits : (C : Case) (rest : List Case) → m.waiting ≡ C ∷ rest → Surely (Leads m)
    visits C rest is = by_lt (nodes_so_far m) t.nodes (λ l. so (either (IsStop t m)) (looked l)) (λ l. sure (inl (early m.best (NodeLimit t.nodes), m.clock, inr (inl (some, inl (l, refl))))))
      where
        some : m.waiting ≡ [] → ⊥
        some e = cc

        both_fit : All Fits (C ∷ rest)
        both_fit = subst (All Fits) is h.cases

        mine : Fits C
        mine = All-head Fits C rest both_fit

        done : nodes_so_far m < t.nodes → (IsStop t m → ⊥) → (e : End) (c : Clock) → Run C.program (is_some C.ray) t (looked_once m.clock) e c → Steps t (record m { clock = c }) (GoesFrom P t C rest (record m { clock = c }) (looked_once m.clock) e) → Leads m
        done l on e c run (inl (o, d, p)) = inl (o, d, inr (inr (record { end = e; clock = c; visit = record { case = C; rest = rest; is = is; begins = record { within = l; goes_on = on }; run = run }; goes = p })))
        done l on e c run (inr (n, p, near)) =
            inr (inl (n, inr (inr (record { end = e; clock = c; visit = record { case = C; rest = rest; is = is; begins = record { within = l; goes_on = on }; run = run }; goes = p })), record { level = near.level; cases = near.cases; more = near.more; rounds = near.rounds }, l))

        looked : nodes_so_far m < t.nodes → IsStop t m ⊎ (IsStop t m → ⊥) → Surely (Leads m)
        looked l (inl stop) = sure (inl (early m.best Killed, looked_once m.clock, inr (inl (some, inr (l, stop, refl)))))
        looked l (inr on) =
            so (runs_end C.program (is_some C.ray) t (looked_once m.clock) mine.0)
            (λ x. let (e, c, run, off) = x in
            so (from_end C rest (record m { clock = c }) mine (All-tail Fits C rest both_fit) (looked_once m.clock) e c refl (run_true C.program (is_some C.ray) t (looked_once m.clock) e c mine.0 run) off)
            (λ y. sure (done l on e c run y)))

    asks : m.waiting ≡ [] → (f : Found) (g : Goal) (gs : List Goal) → m.best ≡ Some f → m.level.later ≡ g ∷ gs → Surely (Leads m)
    asks closed f g gs best later = so (either (SumFits (minimising m.level.program (reached m.level f)) (negative (minimising m.level.program m.level.program.goal.constant)))) by
      where
        -- the next level's program has a row more
        stands : (e : Ratio) → IsNumber e → Stands (next_level_at m f e g gs)
        stands e p =
            let L = m.level.program in
            let gs_are : All IsGoalOfNumbers (g ∷ gs) = subst (All IsGoalOfNumbers) later h.later in
            let costs : ℕ → Ratio = λ j. minimising L (cost_at L j) in
            let range : Range = record { lb = Some e; ub = Some e } in
            let added : IsInstance (with_row L range costs) = instance_added L range costs h.instance_is (p, p) (λ j. minimising-number L (cost_at L j) (let i = h.instance_is in value-number L.goal.costs i.costs j)) in
            let good_next : IsInstance (next_level L e g) = instance_asking (with_row L range costs) g added (All-head IsGoalOfNumbers g gs gs_are) in
            record { instance_is = good_next; ends = h.ends; later = All-tail IsGoalOfNumbers g gs gs_are; cases = All-cons Fits (undivided (next_level L e g)) [] (good_next, h.ends) (All-nil Fits); rounds = omega arith }

        on : (next : NextOfSearch) → AsksNext P t m f g gs next → IsNextInSearch P t m next
        on next p = inl (closed, subst (λ o. ClosesLevel P t m o m.level.later next) (sym best) (subst (λ l. ClosesLevel P t m (Some f) l next) (sym later) p))

        wide : (SumFits (minimising m.level.program (reached m.level f)) (negative (minimising m.level.program m.level.program.goal.constant)) → ⊥) → IsStop t m ⊎ (IsStop t m → ⊥) → nodes_so_far m < t.nodes → Leads m
        wide not (inl stop) l = inl (early m.best Killed, looked_once m.clock, on (Out (early m.best Killed) (looked_once m.clock)) (inr (not, inl (inr (l, stop, refl)))))
        wide not (inr begins_on) l =
            let o : Outcome = early m.best (Wide (record { node = 1; turn = m.clock.turns; step = At.Values })) in
            inl (o, looked_once m.clock, on (Out o (looked_once m.clock)) (inr (not, inr (record { within = l; goes_on = begins_on }, refl))))

        by : SumFits (minimising m.level.program (reached m.level f)) (negative (minimising m.level.program m.level.program.goal.constant)) ⊎ (SumFits (minimising m.level.program (reached m.level f)) (negative (minimising m.level.program m.level.program.goal.constant)) → ⊥) → Surely (Leads m)
        by (inl fits) =
            let r = reduce (sum (minimising m.level.program (reached m.level f)) (negative (minimising m.level.program m.level.program.goal.constant))) (sum-number (minimising m.level.program (reached m.level f)) (negative (minimising m.level.program m.level.program.goal.constant)) fits.left fits.right) in
            let at : IsReachedEnd m.level.program (reached m.level f) r.form = record { fits = fits; reduced = r.reduced; same = r.same } in
            let n : SearchMoment = next_level_at m f r.form g gs in
            sure (inr (inr (n, on (To n) (inl (r.form, at, refl)), stands r.form r.reduced.0, ap length (sym later))))
        by (inr not) =
            by_lt (nodes_so_far m) t.nodes
            (λ l. so (either (IsStop t m)) (λ s. sure (wide not s l)))
            (λ l. sure (inl (early m.best (NodeLimit t.nodes), m.clock, on (Out (early m.best (NodeLimit t.nodes)) m.clock) (inr (not, inl (inl (l, refl)))))))

    closes : m.waiting ≡ [] → (best : Option Found) → m.best ≡ best → (gs : List Goal) → m.level.later ≡ gs → Surely (Leads m)
    closes closed None b gs l = sure (inl (Infeasible (shown_at m), m.clock, inl (closed, subst (λ o. ClosesLevel P t m o m.level.later (Out (Infeasible (shown_at m)) m.clock)) (sym b) refl)))
    closes closed (Some f) b [] l =
        let o : Outcome = Optimal f.point f.values (m.level.shown ++ shown_at m ∷ []) in
        sure (inl (o, m.clock, inl (closed, subst (λ k. ClosesLevel P t m k m.level.later (Out o m.clock)) (sym b) (subst (λ k. ClosesLevel P t m (Some f) k (Out o m.clock)) (sym l) refl))))
    closes closed (Some f) b (g ∷ gs) l = asks closed f g gs b l

    leads : (cs : List Case) → m.waiting ≡ cs → Surely (Leads m)
    leads [] is = closes is m.best refl m.level.later refl
    leads (C ∷ rest) is = visits C rest is

  -- ---- the search

  abbrev Ended : Type 0
  Ended = (o : Outcome) × (c : Clock) × Search P t o c

  all_nodes : (cs : List Certificate) (k : ℕ) → nodes_with cs k ≡ nodes_with cs 0 + k
  all_nodes [] k = omega arith
  all_nodes (c ∷ cs) k = let e = all_nodes cs k in omega arith

  -- nodes and cuts together are one more
  one_more : (m n : SearchMoment) → IsCloser t m n → nodes_so_far n + length n.rounds ≡ nodes_so_far m + length m.rounds + 1
  one_more m n near =
      let a : nodes_so_far n ≡ nodes_with m.level.shown (length n.nodes) = ap (λ (l : Level). nodes_with l.shown (length n.nodes)) near.level in
      let b = all_nodes m.level.shown (length n.nodes) in
      let c = all_nodes m.level.shown (length m.nodes) in
      let d = near.more in
      omega arith

  led : (m : SearchMoment) → ComesInSearch P t m
      → ((n : SearchMoment) → ComesInSearch P t n → IsCloser t m n → nodes_so_far m < t.nodes → Surely Ended)
      → ((n : SearchMoment) → ComesInSearch P t n → Stands n → suc (length n.level.later) ≡ length m.level.later → Surely Ended)
      → Leads m → Surely Ended
  led m comes near below (inl (o, c, p)) = sure (o, c, record { last = m; comes = comes; ends = p })
  led m comes near below (inr (inl (n, p, is, l))) = near n (goes_on comes p) is l
  led m comes near below (inr (inr (n, p, stands, e))) = below n (goes_on comes p) stands e

  near_stands : (m n : SearchMoment) → Stands m → IsCloser t m n → Stands n
  near_stands m n h near =
      let P : Level → Type 0 = λ l. IsInstance l.program × HasEndsWithin l.program × All IsGoalOfNumbers l.later in
      let (a, b, c) = subst P (sym near.level) (h.instance_is, h.ends, h.later) in
      record { instance_is = a; ends = b; later = c; cases = near.cases; rounds = near.rounds h.rounds }

  of_level : (fuel g : ℕ) (m : SearchMoment) → ComesInSearch P t m → Stands m → length m.level.later ≡ g → t.nodes + t.rounds ≤ fuel + (nodes_so_far m + length m.rounds)
      → ((n : SearchMoment) → ComesInSearch P t n → Stands n → suc (length n.level.later) ≡ g → Surely Ended) → Surely Ended
  of_level zero g m comes h later room below = so (leads m h m.waiting refl) (led m comes (λ n c near l. let few = h.rounds in absurd (omega arith)) (λ n c s e. below n c s (e ∙ later)))
  of_level (suc fuel) g m comes h later room below =
      so (leads m h m.waiting refl)
      (led m comes
      (λ n c near l. let more = one_more m n near in of_level fuel g n c (near_stands m n h near) (ap (λ (k : Level). length k.later) near.level ∙ later) (omega arith) below)
      (λ n c s e. below n c s (e ∙ later)))

  of_levels : (g : ℕ) (m : SearchMoment) → ComesInSearch P t m → Stands m → length m.level.later ≡ g → Surely Ended
  of_levels zero m comes h later = of_level (t.nodes + t.rounds) 0 m comes h later (omega arith) (λ n c s e. absurd (omega arith))
  of_levels (suc g) m comes h later = of_level (t.nodes + t.rounds) (suc g) m comes h later (omega arith) (λ n c s e. of_levels g n c s (omega arith))

-- a search has an outcome, where the ends of its variables are within the greatest size
pub searches_end : (P : Problem) (t : Terms) → IsProblem P → HasEndsWithin P.program → Surely ((o : Outcome) × (c : Clock) × Search P t o c)
searches_end P t good within =
    of_levels P t good (length P.later) (first P) begins
    (record { instance_is = good.program; ends = within; later = good.later; cases = All-cons Fits (undivided P.program) [] (good.program, within) (All-nil Fits); rounds = omega arith }) refl
