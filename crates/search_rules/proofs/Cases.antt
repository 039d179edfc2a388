-- A case of a search is the program of its level with narrower ranges and more rows.
use Rattle.std.proofs.Common.{◌≡◌, ℕ, ◌<◌, ◌⊎◌, inl, inr, ℤ, Option, None, Some, IfSome, IsTrue, List, ◌∷◌, get_or, arith, refl, sym, ◌∙◌, ap, subst}
use Rattle.std.specs.List.{All}
use Rattle.std.proofs.lemmas.List.{length-set, get_or-set_same, get_or-set_other}
use Rattle.std.proofs.lemmas.List.Elements.{All-cons, All-weaker}
use Rattle.rational.specs.Ratio.{Ratio, whole, product, IsBelow}
use Rattle.evidence.specs.Sums.{none, total}
use Rattle.evidence.specs.OneDenominator.{number_at}
use Rattle.evidence.specs.Instance.{Range, Variable, Goal, Instance, IsInstance, HasNumbers, no_variable, width, height, variable_at, row_at, cost_at, entry_at, minimising, minimising_by}
use Rattle.evidence.specs.Point.{value_at, activity, objective, IsBetween, IsZeroOr, IsFeasible, NeverLeaves, IsRay}
use Rattle.evidence.specs.Cases.{Multiplier, lesser_end, greater_end, both, or_free, with_range, at_most, at_least, at_zero, unless_zero}
use Rattle.evidence.specs.Rounds.{IsRoundingCut, derive}
use Rattle.evidence.specs.AddedRows.{with_row}
use Rattle.evidence.proofs.Totals.{total_below}
use Rattle.evidence.proofs.Columns.{by_lt, further-numbers, All-anywhere}
use Rattle.evidence.proofs.Branches.{instance_with, both-numbers, or_free-numbers}
use Rattle.evidence.proofs.AddedRows.{other_entry, height_added, row_other}
use Rattle.evidence.proofs.RoundingCuts.{instance_derived}
use Rattle.simplex_rules.specs.Ends.{IsRelaxed, IsDirection}
use Rattle.search_rules.specs.Branching.{Case, IsMet, AreMetBelow}
use Rattle.search_rules.specs.Search.{undivided}
use Rattle.search_rules.proofs.Ranges.{IsInside, inside-trans, inside_moves, most-numbers, least-numbers, most_inside, least_inside, inside_first, inside_second, only_none, only_none-numbers}

-- J is I with narrower ranges and more rows
pub record IsCase (I J : Instance) : Type 0 where
  pub numbers : IsInstance J
  pub goal : J.goal ≡ I.goal
  pub count : width J ≡ width I
  pub whole : (j : ℕ) → (variable_at J j).whole ≡ (variable_at I j).whole
  pub further : (j : ℕ) → (variable_at J j).unless_zero ≡ (variable_at I j).unless_zero
  pub relaxed : (x : List Ratio) → IsRelaxed J x → IsRelaxed I x
  pub directions : (d : List Ratio) → IsDirection J d → IsDirection I d

pub itself : (I : Instance) → IsInstance I → IsCase I I
itself I n = record { numbers = n; goal = refl; count = refl; whole = λ j. refl; further = λ j. refl; relaxed = λ x h. h; directions = λ d h. h }

-- a variable is held at 0, or within its further ends, as far as movements and values can tell
abbrev pub IsSettled : Variable → Type 0
IsSettled v = IsInside v.range only_none ⊎ IsInside v.range (or_free v.unless_zero)

settled_in : (v : Variable) (r : Range) → IsInside r v.range → IsSettled v → IsSettled (record v { range = r })
settled_in v r i (inl h) = inl (inside-trans i h)
settled_in v r i (inr h) = inr (inside-trans i h)

numbers_at : (J : Instance) → IsInstance J → (j : ℕ) → HasNumbers (variable_at J j).range
numbers_at J n j = All-anywhere (λ v. HasNumbers v.range) J.variables no_variable (tt, tt) n.variables j

-- variable j of J is held within a narrower range
module _ (J : Instance) (j : ℕ) (r : Range) (low : j < width J) (inside : IsInside r (variable_at J j).range) where
  abbrev K : Instance
  K = with_range J j r

  width_with : width K ≡ width J
  width_with = length-set J.variables j (record (variable_at J j) { range = r })

  -- what the changed variable passes on, and the others have
  each_from : (P : Variable → Variable → Type 0) → P (record (variable_at J j) { range = r }) (variable_at J j) → ((v : Variable) → P v v) → (i : ℕ) → P (variable_at K i) (variable_at J i)
  each_from P p q i =
      let v : Variable = record (variable_at J j) { range = r } in
      let other : (i ≡ j → ⊥) → P (variable_at K i) (variable_at J i) = λ ne. rw (get_or-set_other J.variables j i v no_variable ne) (q (variable_at J i)) in
      by_lt i j
      (λ below. other (λ e. omega arith))
      (λ up. by_lt j i (λ above. other (λ e. omega arith))
      (λ down. let e : j ≡ i = omega arith in
      subst (λ k. P (variable_at K k) (variable_at J k)) e (rw (get_or-set_same J.variables j v no_variable low) p)))

  -- of its column and of each row
  columns_from : (Q : Range → Ratio → Type 0) → ((x : Ratio) → Q r x → Q (variable_at J j).range x) → (y : List Ratio) → ((i : ℕ) → i < width K → Q (variable_at K i).range (value_at y i)) → (i : ℕ) → i < width J → Q (variable_at J i).range (value_at y i)
  columns_from Q back y h i below =
      each_from (λ v w. Q v.range (value_at y i) → Q w.range (value_at y i)) (back (value_at y i)) (λ v q. q) i (h i (subst (λ n. i < n) (sym width_with) below))

  rows_from : (Q : Range → Ratio → Type 0) (y : List Ratio) → ((i : ℕ) → i < height K → Q (row_at K i) (activity K y i)) → (i : ℕ) → i < height J → Q (row_at J i) (activity J y i)
  rows_from Q y h i below = subst (λ n. Q (row_at J i) (total none n (λ k. product (entry_at J.entries i k) (value_at y k)))) width_with (h i below)

  pub narrower : (x : List Ratio) → IsRelaxed K x → IsRelaxed J x
  narrower x h = record { count = h.count ∙ width_with; numbers = h.numbers; variables = columns_from IsBetween inside.values x h.variables; rows = rows_from IsBetween x h.rows }

  along : (d : List Ratio) → IsDirection K d → IsDirection J d
  along d h = record {
    count = h.count ∙ width_with;
    numbers = h.numbers;
    variables = columns_from NeverLeaves (λ m n. inside_moves m inside n) d h.variables;
    rows = rows_from NeverLeaves d h.rows;
    better = subst (λ n. IsBelow (minimising J (total none n (λ i. product (cost_at J i) (value_at d i)))) none) width_with h.better;
  }

  pub narrowed : (I : Instance) → HasNumbers r → IsCase I J → IsCase I K
  narrowed I n c = record {
    numbers = instance_with J j r n c.numbers;
    goal = c.goal;
    count = width_with ∙ c.count;
    whole = λ i. each_from (λ v w. v.whole ≡ w.whole) refl (λ v. refl) i ∙ c.whole i;
    further = λ i. each_from (λ v w. v.unless_zero ≡ w.unless_zero) refl (λ v. refl) i ∙ c.further i;
    relaxed = λ x h. c.relaxed x (narrower x h);
    directions = λ d h. c.directions d (along d h);
  }

  pub met_before : (x : List Ratio) → AreMetBelow K x (width K) → AreMetBelow J x (width J)
  met_before x h i below =
      each_from (λ v w. IsMet v (value_at x i) → IsMet w (value_at x i)) (λ m. record { whole = m.whole; either = m.either }) (λ v m. m) i (h i (subst (λ n. i < n) (sym width_with) below))

  pub settled_on : (js : List ℕ) → All (λ i. IsSettled (variable_at J i)) js → All (λ i. IsSettled (variable_at K i)) js
  settled_on js h =
      All-weaker (λ i. IsSettled (variable_at J i)) (λ i. IsSettled (variable_at K i))
      (λ i. each_from (λ v w. IsSettled w → IsSettled v) (settled_in (variable_at J j) r inside) (λ v s. s) i) js h

  pub settled_more : (js : List ℕ) → IsSettled (record (variable_at J j) { range = r }) → All (λ i. IsSettled (variable_at J i)) js → All (λ i. IsSettled (variable_at K i)) (j ∷ js)
  settled_more js s h =
      All-cons (λ i. IsSettled (variable_at K i)) j js
      (subst IsSettled (sym (get_or-set_same J.variables j (record (variable_at J j) { range = r }) no_variable low)) s) (settled_on js h)

-- a row more
module _ (I : Instance) (r : Range) (f : ℕ → Ratio) where
  abbrev W : Instance
  W = with_row I r f

  rows_before : (Q : Range → Ratio → Type 0) (y : List Ratio) → ((i : ℕ) → i < height W → Q (row_at W i) (activity W y i)) → (i : ℕ) → i < height I → Q (row_at I i) (activity I y i)
  rows_before Q y h i below =
      let same : activity W y i ≡ activity I y i = total_below none (width I) (λ j. product (entry_at W.entries i j) (value_at y j)) (λ j. product (entry_at I.entries i j) (value_at y j))
      (λ j low. ap (λ c. product c (value_at y j)) (other_entry (height I) (width I) f I.entries i j (λ e. omega arith))) in
      subst (λ s. Q s (activity I y i)) (row_other I r f i below) (subst (λ v. Q (row_at W i) v) same (h i (let g = height_added I r f in omega arith)))

  relaxed_before : (x : List Ratio) → IsRelaxed W x → IsRelaxed I x
  relaxed_before x h = record { count = h.count; numbers = h.numbers; variables = h.variables; rows = rows_before IsBetween x h.rows }

  direction_before : (d : List Ratio) → IsDirection W d → IsDirection I d
  direction_before d h = record { count = h.count; numbers = h.numbers; variables = h.variables; rows = rows_before NeverLeaves d h.rows; better = h.better }

pub case_cut : (I J : Instance) (ms : List Multiplier) (cs : List ℤ) (k : ℤ) → IsRoundingCut J ms cs k → IsCase I J → IsCase I (derive J cs k)
case_cut I J ms cs k cut c = record {
  numbers = instance_derived J c.numbers ms cs k cut;
  goal = c.goal;
  count = c.count;
  whole = c.whole;
  further = c.further;
  relaxed = λ x h. c.relaxed x (relaxed_before J (record { lb = Some (whole k); ub = None }) (λ j. whole (number_at cs j)) x h);
  directions = λ d h. c.directions d (direction_before J (record { lb = Some (whole k); ub = None }) (λ j. whole (number_at cs j)) d h);
}

-- along r, each point of J whose values are as they must be becomes better without end
abbrev pub IsEndless : (I J : Instance) → List Ratio → Type 0
IsEndless I J r = (x : List Ratio) → IsRelaxed J x → AreMetBelow J x (width J) → IsRay I x r

-- an open case of the level of program I
pub record IsOpen (I : Instance) (C : Case) : Type 0 where
  pub case : IsCase I C.program
  pub divided : All (λ i. IsSettled (variable_at C.program i)) C.divided
  pub ray : (r : List Ratio) → C.ray ≡ Some r → IsEndless I C.program r

module _ (I : Instance) (C : Case) (this : IsOpen I C) (j : ℕ) (low : j < width C.program) where
  abbrev v : Variable
  v = variable_at C.program j

  own-numbers : HasNumbers v.range
  own-numbers = numbers_at C.program this.case.numbers j

  further_numbers : HasNumbers (or_free v.unless_zero)
  further_numbers = or_free-numbers v.unless_zero (further-numbers C.program this.case.numbers j)

  -- with a narrower range of variable j
  module _ (r : Range) (inside : IsInside r v.range) (n : HasNumbers r) where
    open_with : (js : List ℕ) → All (λ i. IsSettled (variable_at (with_range C.program j r) i)) js → IsOpen I (record C { program = with_range C.program j r; divided = js })
    open_with js settled = record {
      case = narrowed C.program j r low inside I n this.case;
      divided = settled;
      ray = λ s e x h met. this.ray s e x (narrower C.program j r low inside x h) (met_before C.program j r low inside x met);
    }

    open_narrowed : IsOpen I (record C { program = with_range C.program j r })
    open_narrowed = open_with C.divided (settled_on C.program j r low inside C.divided this.divided)

    open_settled : IsSettled (record v { range = r }) → IsOpen I (record C { program = with_range C.program j r; divided = j ∷ C.divided })
    open_settled s = open_with (j ∷ C.divided) (settled_more C.program j r low inside C.divided s this.divided)

  pub open_most : (k : ℤ) → IsOpen I (record C { program = at_most C.program j k })
  open_most k = let r = v.range in open_narrowed (record r { ub = lesser_end r.ub (whole k) }) (most_inside r k own-numbers) (most-numbers r k own-numbers)

  pub open_least : (k : ℤ) → IsOpen I (record C { program = at_least C.program j k })
  open_least k = let r = v.range in open_narrowed (record r { lb = greater_end r.lb (whole k) }) (least_inside r k own-numbers) (least-numbers r k own-numbers)

  pub open_zero : IsOpen I (record C { program = at_zero C.program j; divided = j ∷ C.divided })
  open_zero =
      open_settled (both v.range only_none) (inside_first v.range only_none own-numbers only_none-numbers) (both-numbers v.range only_none own-numbers only_none-numbers)
      (inl (inside_second v.range only_none own-numbers only_none-numbers))

  pub open_own : IsOpen I (record C { program = unless_zero C.program j; divided = j ∷ C.divided })
  open_own =
      let s = or_free v.unless_zero in
      open_settled (both v.range s) (inside_first v.range s own-numbers further_numbers) (both-numbers v.range s own-numbers further_numbers)
      (inr (inside_second v.range s own-numbers further_numbers))

pub open_undivided : (I D : Instance) → IsCase I D → IsOpen I (undivided D)
open_undivided I D c = record { case = c; divided = λ i d low. absurd (omega arith); ray = λ r e. absurd (cc) }

-- a relaxed point of a case whose values are as they must be is feasible
pub feasible : (I J : Instance) (x : List Ratio) → IsCase I J → IsRelaxed J x → AreMetBelow J x (width J) → IsFeasible I x
feasible I J x c r met =
    let h = c.relaxed x r in
    let at : (j : ℕ) → j < width I → IsMet (variable_at J j) (value_at x j) = λ j low. met j (subst (λ n. j < n) (sym c.count) low) in
    record {
      count = h.count;
      numbers = h.numbers;
      variables = h.variables;
      rows = h.rows;
      whole = λ j low t. let m = at j low in m.whole (subst IsTrue (sym (c.whole j)) t);
      further = λ j low. let m = at j low in subst (λ (o : Option Range). IfSome o (λ e. IsZeroOr e (value_at x j))) (c.further j) m.either;
    }

-- a case has its level's goal
pub objective_of : (I J : Instance) (x : List Ratio) → IsCase I J → minimising J (objective J x) ≡ minimising I (objective I x)
objective_of I J x c =
    let f : Goal → ℕ → Ratio = λ g n. minimising_by g.sense (total g.constant n (λ j. product (get_or g.costs j none) (value_at x j))) in
    ap (λ g. f g (width J)) c.goal ∙ ap (f I.goal) c.count
