-- The root that an instance is written as is read as the instance, mark by mark.
use Rattle.osil_grammar.proofs.Words.{◌≡◌, ℕ, ◌+◌, ◌≤◌, inr, true, List, [], ◌∷◌, ◌++◌, length, replicate, refl, ap, sym, subst, arith, append-nil, append_assoc, length-append, Option, Some, codes, All, All-head, All-tail, Attribute, Event, Open, Close, Nodes, nodes_events, Element, local_nodes, local_element, with_attribute, Mark, Start, Finish, spread, Frac, Var, Row, Goal, Sense, AreEnds, IsVar, Parts, IsValid, TakesMark, nought, IsDeclared, State, start, goals_said, osil, StandsFor, GoalHasDecimals, HasDecimals, EndHasText, WriteVars, WriteRows, WriteGoals, WritesGoal, WriteLists, WritesInstance, sense_text}
use Rattle.std.specs.Fmt.{decimal as digits}
use Rattle.osil_grammar.specs.declared.elements.Place.TheVariants as places
use Rattle.osil_grammar.specs.declared.elements.Part.TheVariants as parts
use Rattle.osil_grammar.proofs.Documents.{counts_few}
use Rattle.osil_grammar.proofs.RoundTrips.{plain_decimal, count_read}
use Rattle.osil_grammar.proofs.TagNumbers as numbers
use Rattle.osil_grammar.proofs.WrittenItems.{Reads, read_one, in_vars, read_vars, in_rows, read_rows, in_obj, zeros, read_costs, sense_said}
use Rattle.osil_grammar.proofs.StartTagTests.{sense_among}
use Rattle.osil_grammar.proofs.WrittenLists.{AreFine, at_matrix, behind_matrix, read_matrix}

-- a count that is declared
declared : (n : ℕ) → n ≤ 100000 → IsDeclared (digits n) (Some n)
declared n small = (count_read n small, refl)

-- `variables`
abbrev before_vars : State → ℕ → State
before_vars s n = record s { place = places.Data; count = n; part = 0; vars = [] }

abbrev behind_vars : State → (n at : ℕ) → List Var → State
behind_vars s n at vs = record s { place = places.Data; count = n; part_at = at; part = 1; has_variables = true; declared = Some (length vs); vars = vs }

pub variables_read : (s : State) (k : List Event) (p : Parts) (vs : List Var) (nodes : Nodes) → All (λ v. EndHasText v.lb × EndHasText v.ub) vs → All IsVar vs → WriteVars vs nodes → length vs ≤ 1000 → (n : ℕ) → ((m at : ℕ) → Reads (behind_vars s m at vs) (spread k) p) → Reads (before_vars s n) (Start (codes "variables") (with_attribute (codes "numberOfVariables") (digits (length vs)) []) ∷ spread (nodes_events (local_nodes nodes) (Close (codes "variables") ∷ k))) p
variables_read s k p vs nodes has ends is few n behind =
    let base : State = record s { part_at = n + 1; part = 1; has_variables = true; declared = Some (length vs) } in
    let says = declared (length vs) (omega (arith, few)) in
    let fine = numbers.count_read (digits (length vs)) (Some (length vs)) says in
    read_one (before_vars s n) (in_vars base (n + 1) []) (Start (codes "variables") (with_attribute (codes "numberOfVariables") (digits (length vs)) [])) (spread (nodes_events (local_nodes nodes) (Close (codes "variables") ∷ k))) p
    ((λ late. absurd (omega (arith, late)), (λ b. b fine.0, (λ w. fine.1 w, tt))), (Some (length vs), says, refl))
    (read_vars base (Close (codes "variables") ∷ k) p vs nodes has ends is (n + 1) [] (omega (arith, few)) (λ m.
    read_one (in_vars base m vs) (behind_vars s m (n + 1) vs) (Finish (codes "variables")) (spread k) p ((λ other. other refl, tt), refl) (behind m (n + 1))))

-- `constraints`
abbrev before_rows : State → ℕ → State
before_rows s n = record s { place = places.Data; count = n; part = 2; rows = [] }

abbrev behind_rows : State → (n at : ℕ) → List Row → State
behind_rows s n at rs = record s { place = places.Data; count = n; part_at = at; part = 3; declared = Some (length rs); rows = rs }

pub constraints_read : (s : State) (k : List Event) (p : Parts) (rs : List Row) (nodes : Nodes) → All (λ r. EndHasText r.lb × EndHasText r.ub) rs → All (λ r. AreEnds r.lb r.ub) rs → WriteRows rs nodes → length rs ≤ 1000 → (n : ℕ) → ((m at : ℕ) → Reads (behind_rows s m at rs) (spread k) p) → Reads (before_rows s n) (Start (codes "constraints") (with_attribute (codes "numberOfConstraints") (digits (length rs)) []) ∷ spread (nodes_events (local_nodes nodes) (Close (codes "constraints") ∷ k))) p
constraints_read s k p rs nodes has ends is few n behind =
    let base : State = record s { part_at = n + 1; part = 3; declared = Some (length rs) } in
    let says = declared (length rs) (omega (arith, few)) in
    let fine = numbers.count_read (digits (length rs)) (Some (length rs)) says in
    read_one (before_rows s n) (in_rows base (n + 1) []) (Start (codes "constraints") (with_attribute (codes "numberOfConstraints") (digits (length rs)) [])) (spread (nodes_events (local_nodes nodes) (Close (codes "constraints") ∷ k))) p
    ((λ late. absurd (omega (arith, late)), (λ b. b fine.0, (λ w. fine.1 w, tt))), (Some (length rs), says, refl))
    (read_rows base (Close (codes "constraints") ∷ k) p rs nodes has ends is (n + 1) [] (omega (arith, few)) (λ m.
    read_one (in_rows base m rs) (behind_rows s m (n + 1) rs) (Finish (codes "constraints")) (spread k) p ((λ other. other refl, tt), refl) (behind m (n + 1))))

-- `objectives`: one `obj` for each goal
some_zeros : (cs : List Frac) (n : ℕ) → length cs ≡ n → replicate n nought ≡ zeros cs
some_zeros cs n is = subst (λ (m : ℕ). replicate m nought ≡ zeros cs) is (each cs)
  where
    each : (cs : List Frac) → replicate (length cs) nought ≡ zeros cs
    each [] = refl
    each (c ∷ cs) = ap (λ (l : List Frac). nought ∷ l) (each cs)

-- what the latest `obj` leaves besides its goal
record Left : Type 0 where
  obj_at : ℕ
  times : ℕ
  coefs : ℕ
  declared : Option ℕ
  sense : Sense
  constant : Frac
  variable : ℕ
  text : List ℕ

abbrev left : State → Left → State
left s l = record s { obj_at = l.obj_at; times = l.times; coefs = l.coefs; declared_coefs = l.declared; sense = l.sense; constant = l.constant; variable = l.variable; text = l.text }

abbrev in_goals : State → ℕ → Left → List Goal → State
in_goals s n l gs = record (left s l) { place = places.Part parts.Objectives; count = n; goals = gs; costs = [] }

abbrev obj_attributes : Goal → List ℕ → ℕ → List Attribute
obj_attributes g constant m = with_attribute (codes "maxOrMin") (sense_text g.sense) (with_attribute (codes "constant") constant (with_attribute (codes "numberOfObjCoef") (digits m) []))

module _ (s : State) (k : List Event) (p : Parts) (g : Goal) (more nodes : Nodes) (is : WritesGoal g more nodes) (has : GoalHasDecimals g) (each : length g.costs ≡ length s.vars) (few : length s.vars ≤ 1000) (n : ℕ) (l : Left) (before : List Goal) (room : length before + 1 ≤ 8) (behind : (n : ℕ) (l : Left) → Reads (in_goals s n l (before ++ g ∷ [])) (spread k) p) where
  few_costs : is.count ≤ 100000
  few_costs = let below = counts_few g.costs is.count is.counts in omega (arith, below, each, few)

  abbrev opened : State
  opened = record (left s l) { goals = before; obj_at = n + 1; times = 1; declared_coefs = Some is.count; sense = g.sense; constant = g.constant }

  abbrev begun : List Frac → State
  begun costs = in_obj opened (n + 1) 0 l.variable l.text costs

  goal_taken : TakesMark osil (in_goals s n l before) (Start (codes "obj") (obj_attributes g is.constant is.count)) (begun (replicate (length s.vars) nought))
  goal_taken =
      let reads = plain_decimal g.constant is.constant is.is_constant has.0 in
      let fine = numbers.decimal_read is.constant g.constant reads in
      let says = declared is.count few_costs in
      let count = numbers.count_read (digits is.count) (Some is.count) says in (
        (
          λ o. sense_among (Some (sense_text g.sense)) g.sense (sense_said g.sense) o,
          (λ b. b fine.0, (λ b. b count.0, (λ b. b, (λ w. fine.1 w, (λ w. count.1 w, (λ w. w, (λ m. let one = m.1 in let many = m.2 in omega (arith, one, many, room), tt))))))),
        ),
        (g.sense, g.constant, Some is.count, 1, sense_said g.sense, reads, says, refl, refl),
      )

  abbrev obj_marks : List Mark
  obj_marks = spread (nodes_events (local_nodes is.costs) (Close (codes "obj") ∷ k))

  read_goal : Reads (in_goals s n l before) (Start (codes "obj") (obj_attributes g is.constant is.count) ∷ obj_marks) p
  read_goal =
      read_one (in_goals s n l before) (begun (replicate (length s.vars) nought)) (Start (codes "obj") (obj_attributes g is.constant is.count)) obj_marks p goal_taken
      (subst (λ (cs : List Frac). Reads (begun cs) obj_marks p) (sym (some_zeros g.costs (length s.vars) each))
      (read_costs opened (Close (codes "obj") ∷ k) p g.costs is.costs is.count 0 has.1 is.are_costs is.counts (omega (arith, each)) few (n + 1) 0 l.variable l.text [] refl (λ n i text.
      let done : Left = record { obj_at = opened.obj_at; times = 1; coefs = 0 + is.count; declared = Some is.count; sense = g.sense; constant = g.constant; variable = i; text = text } in
      let same : 0 + is.count ≡ is.count = omega arith in
      read_one (in_obj opened n (0 + is.count) i text g.costs) (in_goals s n done (before ++ g ∷ [])) (Finish (codes "obj")) (spread k) p ((λ other. other (sym same), tt), refl) (behind n done))))

read_goals : (s : State) (k : List Event) (p : Parts) (gs : List Goal) (nodes : Nodes) → All GoalHasDecimals gs → All (λ g. length g.costs ≡ length s.vars) gs → WriteGoals gs nodes → length s.vars ≤ 1000 → (n : ℕ) (l : Left) (before : List Goal) → length before + length gs ≤ 8 → ((n : ℕ) (l : Left) → Reads (in_goals s n l (before ++ gs)) (spread k) p) → Reads (in_goals s n l before) (spread (nodes_events (local_nodes nodes) k)) p
read_goals s k p [] nodes has each is few n l before room behind =
    subst (λ (x : Nodes). Reads (in_goals s n l before) (spread (nodes_events (local_nodes x) k)) p) (sym is) (subst (λ (gs : List Goal). Reads (in_goals s n l gs) (spread k) p) (append-nil before) (behind n l))
read_goals s k p (g ∷ gs) nodes has each (more, rest, is) few n l before room behind =
    let longer = length-append before (g ∷ []) in
    subst (λ (x : Nodes). Reads (in_goals s n l before) (spread (nodes_events (local_nodes x) k)) p) (sym is.says)
    (read_goal s (nodes_events (local_nodes more) k) p g more nodes is (All-head GoalHasDecimals g gs has) (All-head (λ (x : Goal). length x.costs ≡ length s.vars) g gs each) few n l before (omega (arith, room))
    (λ n l. read_goals s k p gs more (All-tail GoalHasDecimals g gs has) (All-tail (λ (x : Goal). length x.costs ≡ length s.vars) g gs each) rest few n l (before ++ g ∷ []) (omega (arith, room, longer))
    (λ n l. subst (λ (xs : List Goal). Reads (in_goals s n l xs) (spread k) p) (sym (append_assoc before (g ∷ []) gs)) (behind n l))))

abbrev before_goals : State → ℕ → State
before_goals s n = record s { place = places.Data; count = n; part = 1; goals = []; costs = [] }

abbrev behind_goals : State → (n at : ℕ) → Left → List Goal → State
behind_goals s n at l gs = record (left s l) { place = places.Data; count = n; part_at = at; part = 2; declared = Some (length gs); goals = gs; costs = [] }

objectives_read : (s : State) (k : List Event) (p : Parts) (gs : List Goal) (nodes : Nodes) → All GoalHasDecimals gs → All (λ g. length g.costs ≡ length s.vars) gs → WriteGoals gs nodes → length s.vars ≤ 1000 → length gs ≤ 8 → (n : ℕ) → ((m at : ℕ) (l : Left) → Reads (behind_goals s m at l gs) (spread k) p) → Reads (before_goals s n) (Start (codes "objectives") (with_attribute (codes "numberOfObjectives") (digits (length gs)) []) ∷ spread (nodes_events (local_nodes nodes) (Close (codes "objectives") ∷ k))) p
objectives_read s k p gs nodes has each is few room n behind =
    let base : State = record s { part_at = n + 1; part = 2; declared = Some (length gs) } in
    let first : Left = record { obj_at = s.obj_at; times = s.times; coefs = s.coefs; declared = s.declared_coefs; sense = s.sense; constant = s.constant; variable = s.variable; text = s.text } in
    let says = declared (length gs) (omega (arith, room)) in
    let fine = numbers.count_read (digits (length gs)) (Some (length gs)) says in
    read_one (before_goals s n) (in_goals base (n + 1) first []) (Start (codes "objectives") (with_attribute (codes "numberOfObjectives") (digits (length gs)) [])) (spread (nodes_events (local_nodes nodes) (Close (codes "objectives") ∷ k))) p
    ((λ late. absurd (omega (arith, late)), (λ b. b fine.0, (λ w. fine.1 w, tt))), (Some (length gs), says, refl))
    (read_goals base (Close (codes "objectives") ∷ k) p gs nodes has each is few (n + 1) first [] (omega (arith, room)) (λ m l.
    read_one (in_goals base m l gs) (behind_goals s m (n + 1) l gs) (Finish (codes "objectives")) (spread k) p ((λ other. other refl, tt), refl) (behind m (n + 1) l)))

-- goals that are some are what is said
some_said : (gs : List Goal) (n : ℕ) → 1 ≤ length gs → goals_said gs n ≡ gs
some_said [] n some = absurd (omega (arith, some))
some_said (g ∷ gs) n some = refl

-- the matrix, and the end
abbrev last_events : List Event
last_events = Close (codes "instanceData") ∷ Close (codes "osil") ∷ []

module _ (p : Parts) (valid : IsValid p) (has : HasDecimals p) (lists : Nodes) (are_lists : WriteLists (length p.rows) p.entries lists) where
  abbrev matrix_events : List Event
  matrix_events = Open (codes "linearConstraintCoefficients") (with_attribute (codes "numberOfValues") (digits (length p.entries)) []) ∷ nodes_events (local_nodes lists) (Close (codes "linearConstraintCoefficients") ∷ last_events)

  -- of a state that has said all but the entries
  abbrev said_all : State → State
  said_all s = record s { place = places.Data; part = 3; list = 0; lists = 0; has_variables = true; data_at = 3; vars = p.vars; rows = p.rows; goals = p.goals; values = [] }

  entries_fine : AreFine (length p.vars) (length p.rows) p.entries
  entries_fine = record { few = valid.few_entries; narrow = valid.few_vars; low = valid.few_rows; ascending = valid.ascending; inside = valid.inside; decimals = has.entries }

  matrix_read : (s : State) → Reads (said_all s) (spread matrix_events) p
  matrix_read s =
      let base : State = record (said_all s) { part_at = s.count + 1; part = 4 } in
      let says = declared (length p.entries) valid.few_entries in
      let fine = numbers.count_read (digits (length p.entries)) (Some (length p.entries)) says in
      read_one (said_all s) (at_matrix base (s.count + 1) (length p.entries)) (Start (codes "linearConstraintCoefficients") (with_attribute (codes "numberOfValues") (digits (length p.entries)) [])) (spread (nodes_events (local_nodes lists) (Close (codes "linearConstraintCoefficients") ∷ last_events))) p
      ((λ late. absurd (omega (arith, late)), (λ b. b fine.0, (λ w. fine.1 w, tt))), (Some (length p.entries), says, refl))
      (read_matrix base p.entries lists last_events p entries_fine are_lists (λ n l t b w d text.
      let done : State = behind_matrix base n l t b w d text p.entries in
      let out : State = record done { place = places.Osil } in
      let last : State = record out { place = places.Outside } in
      read_one done out (Finish (codes "instanceData")) (Finish (codes "osil") ∷ []) p ((λ h. absurd (cc), tt), refl)
      (read_one out last (Finish (codes "osil")) [] p ((λ h. absurd (omega (arith, h)), tt), refl)
      (last, refl {a = last}, ap (λ (gs : List Goal). let q : Parts = record p { goals = gs } in q) (sym (some_said p.goals (length p.vars) valid.some_goal))))) (s.count + 1))

module _ (p : Parts) (root : Element) (valid : IsValid p) (has : HasDecimals p) (is : WritesInstance p root) where
  abbrev rows_events : List Event
  rows_events = Open (codes "constraints") (with_attribute (codes "numberOfConstraints") (digits (length p.rows)) []) ∷ nodes_events (local_nodes is.rows) (Close (codes "constraints") ∷ matrix_events p valid has is.lists is.are_lists)

  abbrev goals_events : List Event
  goals_events = Open (codes "objectives") (with_attribute (codes "numberOfObjectives") (digits (length p.goals)) []) ∷ nodes_events (local_nodes is.goals) (Close (codes "objectives") ∷ rows_events)

  -- of one that has said the variables and the goals
  abbrev said_goals : State → ℕ → State
  said_goals s n = record s { place = places.Data; count = n; part = 2; list = 0; lists = 0; has_variables = true; data_at = 3; vars = p.vars; rows = []; goals = p.goals; values = [] }

  rows_read : (s : State) (n : ℕ) → Reads (said_goals s n) (spread rows_events) p
  rows_read s n = constraints_read (said_goals s n) (matrix_events p valid has is.lists is.are_lists) p p.rows is.rows has.rows valid.row_ends is.are_rows valid.few_rows n (λ m at. matrix_read p valid has is.lists is.are_lists (behind_rows (said_goals s n) m at p.rows))

  -- of one that has said the variables
  abbrev said_vars : State → ℕ → State
  said_vars s n = record s { place = places.Data; count = n; part = 1; list = 0; lists = 0; has_variables = true; data_at = 3; vars = p.vars; rows = []; goals = []; costs = []; values = [] }

  goals_read : (s : State) (n : ℕ) → Reads (said_vars s n) (spread goals_events) p
  goals_read s n = objectives_read (said_vars s n) rows_events p p.goals is.goals has.goals valid.costs is.are_goals valid.few_vars valid.few_goals n (λ m at l. rows_read (behind_goals (said_vars s n) m at l p.goals) m)

  abbrev vars_events : List Event
  vars_events = Open (codes "variables") (with_attribute (codes "numberOfVariables") (digits (length p.vars)) []) ∷ nodes_events (local_nodes is.vars) (Close (codes "variables") ∷ goals_events)

  -- behind the start tag of `instanceData`
  abbrev in_data : State
  in_data = record start { place = places.Data; count = 3; data_at = 3 }

  vars_read : Reads in_data (spread vars_events) p
  vars_read = variables_read in_data goals_events p p.vars is.vars has.vars valid.var_ends is.are_vars valid.few_vars 3 (λ m at. goals_read (behind_vars in_data m at p.vars) m)

  whole_read : Reads start (Start (codes "osil") [] ∷ Start (codes "instanceHeader") [] ∷ Finish (codes "instanceHeader") ∷ Start (codes "instanceData") [] ∷ spread vars_events) p
  whole_read =
      let behind : List Mark = spread vars_events in
      let in_osil : State = record start { place = places.Osil; count = 1 } in
      let in_header : State = record start { place = places.Passed; count = 2; depth = 1 } in
      let back : State = record start { place = places.Osil; count = 2 } in
      read_one start in_osil (Start (codes "osil") []) (Start (codes "instanceHeader") [] ∷ Finish (codes "instanceHeader") ∷ Start (codes "instanceData") [] ∷ behind) p (tt, refl)
      (read_one in_osil in_header (Start (codes "instanceHeader") []) (Finish (codes "instanceHeader") ∷ Start (codes "instanceData") [] ∷ behind) p (tt, refl)
      (read_one in_header back (Finish (codes "instanceHeader")) (Start (codes "instanceData") [] ∷ behind) p (tt, inr (omega arith, refl))
      (read_one back in_data (Start (codes "instanceData") []) behind p ((λ again. absurd (omega (arith, again)), tt), refl) vars_read)))

pub root_means : (p : Parts) (root : Element) → IsValid p → HasDecimals p → WritesInstance p root → StandsFor (local_element root) p
root_means p root valid has is = subst (λ (e : Element). StandsFor (local_element e) p) (sym is.says) (whole_read p root valid has is)
