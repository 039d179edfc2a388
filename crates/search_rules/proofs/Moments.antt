-- What holds at each moment of a search stays so.
use Rattle.std.proofs.Common.{◌≡◌, ℕ, ◌⊎◌, inl, inr, ℤ, pos, ◌+ℤ◌, false, Option, None, Some, List, [], ◌∷◌, ◌++◌, get_or, refl, sym, ◌∙◌, ap, subst}
use Rattle.std.specs.List.{All}
use Rattle.std.specs.Option.{is_some}
use Rattle.std.proofs.lemmas.List.Elements.{All-head, All-tail, All-cons, All-nil, All-push}
use Rattle.rational.specs.Ratio.{Ratio, product, IsSame, IsNumber, IsAtMost}
use Rattle.rational.proofs.Scaling.{IsSame-trans}
use Rattle.evidence.specs.Instance.{Variable, Goal, Instance, Problem, IsInstance, IsProblem, no_variable, width, cost_at, variable_at, minimising}
use Rattle.evidence.specs.Point.{value_at, objective, IsFeasible}
use Rattle.evidence.specs.Cases.{Multiplier, Node, ClashAt, FarkasBy, BoundBy, GridBy, SplitAt, ZeroAt, IsBound, IsGrid, IsZeroBranch}
use Rattle.evidence.specs.Rounds as With
use Rattle.evidence.specs.Rounds.{Certificate, RoundBy, derive}
use Rattle.evidence.specs.Levels.{IsReachedEnd}
use Rattle.evidence.specs.Width.{PointFits}
use Rattle.evidence.proofs.Totals.{total-number}
use Rattle.evidence.proofs.Numbers.{product-number}
use Rattle.evidence.proofs.Columns.{value-number}
use Rattle.evidence.proofs.Duality.{minimising-number}
use Rattle.simplex_rules.specs.declared.columns.Status.{Status}
use Rattle.simplex_rules.specs.Ends.{Terms, Clock, End, Clash, Empty, Best, Endless, TurnsOut, TooWide, Stopped, Shown, IsDirection, IsBest}
use Rattle.simplex_rules.specs.Runs.{looked_once}
use Rattle.simplex_rules.proofs.Moments.{run_true}
use Rattle.search_rules.specs.Branching.{Case, AreMetBelow, NoneMoves, split_cases, divided_cases}
use Rattle.search_rules.specs.Cuts.{MakesCut, Trial, NoCut, WideCut, Cut, TriesMultipliers, TriesEquation, TriesBasis}
use Rattle.search_rules.specs.Rays.{IsScaled}
use Rattle.search_rules.specs.Search.{Found, Level, SearchMoment, To, first, undivided, shown_at, reached, closed_by_leaf, branch, divide, with_cut, next_level_at, IsPassed, IsHopeful, IsValue, AreValuesAt, Branches, MayCut, TakesFound, TakesPoint, MeetsPoint, GoesFromTrial, ImprovesBest, GoesFromBest, GoesFrom, ClosesLevel, IsNextInSearch, ComesInSearch, begins, goes_on}
use Rattle.search_rules.specs.Outcomes.{IsPoint, Proves, CertificateProves}
use Rattle.search_rules.proofs.Nodes.{ProvesAll, no_nodes, Within, Leads, leads_first, leads_on, leads_out, IsLeaf, clash_leaf, farkas_leaf, bound_leaf, grid_leaf, leaf_first, split_first, zero_first, at_most-trans, at_most-below, at_most-same, minimising_by-same}
use Rattle.search_rules.proofs.Cases.{IsCase, itself, case_cut, IsEndless, IsOpen, open_most, open_least, open_zero, open_own, open_undivided, feasible, objective_of}
use Rattle.search_rules.proofs.Endless.{endless_case}
use Rattle.search_rules.proofs.Rays.{scaled_as}
use Rattle.search_rules.proofs.Levels.{IsAfter, after_on, proves_after, IsLevel, level_first, level_on, feasible_on, value_of, width_is}

-- a point that was found is one of its level
pub record IsFound (P : Problem) (l : Level) (f : Found) : Type 0 where
  pub feasible : IsFeasible l.program f.point
  pub values : AreValuesAt P f.point f.values
  pub fits : PointFits P f.point

pub found_point : (P : Problem) (l : Level) (f : Found) → IsLevel P l → IsFound P l f → IsPoint P f.point f.values
found_point P l f is h = record { feasible = is.feasible f.point h.feasible; values = h.values; fits = h.fits }

abbrev pub HasNoRounds : Certificate → Type 0
HasNoRounds c = c.rounds ≡ []

-- A says what the nodes so far lead to
pub record HoldsWith (P : Problem) (m : SearchMoment) (A : Instance → Type 0) : Type 0 where
  pub level : IsLevel P m.level
  pub cut : Instance
  pub after : IsAfter m.level.program m.rounds cut
  pub within : IsCase m.level.program cut
  pub cases : All (IsOpen m.level.program) m.waiting
  pub best : (f : Found) → m.best ≡ Some f → IsFound P m.level f
  pub first : m.best ≡ None → m.level.shown ≡ []
  pub leads : A cut
  pub root : m.nodes ≡ [] → m.waiting ≡ undivided cut ∷ []
  pub rounds : (P.later ≡ []) ⊎ (All HasNoRounds m.level.shown × (m.rounds ≡ []))

abbrev pub Holds : Problem → SearchMoment → Type 0
Holds P m = HoldsWith P m (λ D. Leads m.level D m.waiting m.nodes m.best)

none_derived : (P : Problem) (l : Level) (derived : List With.Round) → derived ≡ [] → (P.later ≡ []) ⊎ All HasNoRounds l.shown → (P.later ≡ []) ⊎ (All HasNoRounds l.shown × (derived ≡ []))
none_derived P l derived none (inl e) = inl e
none_derived P l derived none (inr a) = inr (a, none)

-- a level's first moment
pub begun_holds : (P : Problem) (l : Level) (c : Clock) (best : Option Found) → IsLevel P l → ((f : Found) → best ≡ Some f → IsFound P l f) → (best ≡ None → l.shown ≡ []) → (P.later ≡ []) ⊎ All HasNoRounds l.shown
    → Holds P (record { level = l; rounds = []; waiting = undivided l.program ∷ []; nodes = []; clock = c; best = best })
begun_holds P l c best is found first rounds = record {
  level = is;
  cut = l.program;
  after = refl;
  within = itself l.program is.good;
  cases = All-cons (IsOpen l.program) (undivided l.program) [] (open_undivided l.program l.program (itself l.program is.good)) (All-nil (IsOpen l.program));
  best = found;
  first = first;
  leads = leads_first l l.program best;
  root = λ e. refl;
  rounds = none_derived P l [] refl rounds;
}

pub holds_first : (P : Problem) → IsProblem P → Holds P (first P)
holds_first P n = begun_holds P (record { program = P.program; later = P.later; shown = [] }) (record { turns = 0; looks = 0 }) None (level_first P n) (λ f e. absurd (cc)) (λ e. refl) (inr (All-nil HasNoRounds))

-- only the clock is another
pub clocked : (P : Problem) (m : SearchMoment) (c : Clock) {A : Instance → Type 0} → HoldsWith P m A → HoldsWith P (record m { clock = c }) A
clocked P m c h = record { level = h.level; cut = h.cut; after = h.after; within = h.within; cases = h.cases; best = h.best; first = h.first; leads = h.leads; root = h.root; rounds = h.rounds }

-- a better best point asks less of the value that is shown
weaker : (l : Level) (best : Option Found) (f : Found) → ((g : Found) → best ≡ Some g → IsAtMost (minimising l.program (reached l f)) (minimising l.program (reached l g))) → IsNumber (minimising l.program (reached l f)) → (z : Option Ratio) → Within l z (Some f) → Within l z best
weaker l None f h n z w = tt
weaker l (Some g) f h n None w = w
weaker l (Some g) f h n (Some a) w = at_most-trans a (minimising l.program (reached l f)) (minimising l.program (reached l g)) n w (h g refl)

pub objective-number : (I : Instance) (x : List Ratio) → IsInstance I → All IsNumber x → IsNumber (objective I x)
objective-number I x n p =
    total-number I.goal.constant (width I) (λ j. product (cost_at I j) (value_at x j)) n.constant
    (λ j. product-number (cost_at I j) (value_at x j) (value-number I.goal.costs n.costs j) (value-number x p j))

-- the number of the best value
pub best_number : (P : Problem) (l : Level) (f : Found) → IsLevel P l → IsFound P l f → IsNumber (reached l f)
best_number P l f is h = let v = value_of P l is f.point f.values h.values in let r = v.reduced in r.0

-- a point that is taken: one of its level, better than the best so far, with a leaf that asks no more of the value that is shown
pub record IsTaken (P : Problem) (C : Case) (m : SearchMoment) (ms : List Multiplier) (f : Found) : Type 0 where
  pub found : IsFound P m.level f
  pub weaker : (z : Option Ratio) → Within m.level z (Some f) → Within m.level z m.best
  pub leaf : (z : Option Ratio) → Within m.level z (Some f) → IsLeaf C.program (BoundBy ms) z

-- case C is open before the rest
module _ (P : Problem) (C : Case) (rest : List Case) (m : SearchMoment) {A : Instance → Type 0} (h : HoldsWith P m A) (this : IsOpen m.level.program C) (others : All (IsOpen m.level.program) rest) where
  abbrev l : Level
  l = m.level

  abbrev L : Instance
  L = m.level.program

  -- one node more
  pub node_with : (after : List Case) (node : Node) (better : Option Found) (B : Instance → Type 0) → All (IsOpen L) after → ((f : Found) → better ≡ Some f → IsFound P l f) → (better ≡ None → m.best ≡ None) → B h.cut
      → HoldsWith P (record m { waiting = after; nodes = m.nodes ++ node ∷ []; best = better }) B
  node_with after node better B cases found none leads = record {
    level = h.level;
    cut = h.cut;
    after = h.after;
    within = h.within;
    cases = cases;
    best = found;
    first = λ e. h.first (none e);
    leads = leads;
    root = λ e. absurd (no_nodes m.nodes node e);
    rounds = h.rounds;
  }

  -- a leaf by a bound that isn't better than the best value
  pub passed_leaf : (b : Ratio) (ms : List Multiplier) → IsNumber b → IsBound C.program ms b → IsPassed l m.best b → (z : Option Ratio) → Within l z m.best → IsLeaf C.program (BoundBy ms) z
  passed_leaf b ms n bound p z w = closes z (subst (Within l z) p.is w)
    where
      number : IsNumber (minimising L (reached l p.found))
      number = minimising-number L (reached l p.found) (best_number P l p.found h.level (h.best p.found p.is))

      closes : (z : Option Ratio) → Within l z (Some p.found) → IsLeaf C.program (BoundBy ms) z
      closes None w = absurd w
      closes (Some a) w = bound_leaf C.program ms b a n bound (at_most-trans a (minimising L (reached l p.found)) b number w p.passed)

  -- or by one that isn't once it is rounded
  pub rounded_leaf : (found : Found) (g : Ratio) (ms : List Multiplier) → m.best ≡ Some found → IsGrid C.program g ms (minimising L (reached l found)) → (z : Option Ratio) → Within l z m.best → IsLeaf C.program (GridBy g ms) z
  rounded_leaf found g ms is grid z w = closes z (subst (Within l z) is w)
    where
      number : IsNumber (minimising L (reached l found))
      number = minimising-number L (reached l found) (best_number P l found h.level (h.best found is))

      closes : (z : Option Ratio) → Within l z (Some found) → IsLeaf C.program (GridBy g ms) z
      closes None w = absurd w
      closes (Some a) w = grid_leaf C.program g ms (minimising L (reached l found)) a number grid w

  -- a leaf at a point that becomes the best
  taken_so : (b : Ratio) (x : List Ratio) (ms : List Multiplier) (vs : List Ratio) → IsBest C.program b x ms → IsHopeful l m.best b → AreMetBelow C.program x (width C.program) → PointFits P x → AreValuesAt P x vs → IsTaken P C m ms (record { point = x; values = vs })
  taken_so b x ms vs is_best hopeful met fits values = record { found = found; weaker = weaker l m.best f better number; leaf = closes }
    where
      f : Found
      f = record { point = x; values = vs }

      found : IsFound P l f
      found = record { feasible = feasible L C.program x this.case is_best.relaxed met; values = values; fits = fits }

      v : Ratio
      v = reached l f

      value : IsValue L x v
      value = value_of P l h.level x vs values

      number : IsNumber (minimising L v)
      number = minimising-number L v (best_number P l f h.level found)

      same : IsSame (minimising L v) b
      same =
          let aim : IsNumber (minimising L (objective L x)) = minimising-number L (objective L x) (objective-number L x h.level.good is_best.relaxed.numbers) in
          let back : IsSame (minimising L (objective L x)) b = sym (subst (IsSame b) (objective_of L C.program x this.case) is_best.reached) in
          IsSame-trans (minimising L v) (minimising L (objective L x)) b aim (minimising_by-same L.goal.sense v (objective L x) value.same) back

      better : (g : Found) → m.best ≡ Some g → IsAtMost (minimising L v) (minimising L (reached l g))
      better g e = at_most-trans (minimising L v) b (minimising L (reached l g)) is_best.number (at_most-same (minimising L v) b same) (at_most-below b (minimising L (reached l g)) (hopeful g e))

      closes : (z : Option Ratio) → Within l z (Some f) → IsLeaf C.program (BoundBy ms) z
      closes None w = absurd w
      closes (Some a) w = bound_leaf C.program ms b a is_best.number is_best.bound (at_most-trans a (minimising L v) b number w (at_most-same (minimising L v) b same))

  -- a point is taken where there is no ray
  no_ray : (t : Terms) (ray : Option (List Ratio)) (f : Found) (ms : List Multiplier) (n : SearchMoment) → TakesFound P t ray rest m f ms (To n) → (ray ≡ None) × (closed_by_leaf (record m { best = Some f }) rest (BoundBy ms) ≡ n)
  no_ray t None f ms n e = (refl, cc)
  no_ray t (Some r) f ms n e = absurd (cc)

  pub taken : (t : Terms) (x : List Ratio) (ms : List Multiplier) (n : SearchMoment) → (C.ray ≡ None → (b : Ratio) × IsBest C.program b x ms × IsHopeful l m.best b) → TakesPoint P t C rest m x ms (To n) → (f : Found) × (closed_by_leaf (record m { best = Some f }) rest (BoundBy ms) ≡ n) × IsTaken P C m ms f
  taken t x ms n is_best (met, inl (f, e)) = absurd (cc)
  taken t x ms n is_best (met, inr (vs, fits, values, e)) =
      let (none, q) = no_ray t C.ray (record { point = x; values = vs }) ms n e in
      let (b, best, hope) = is_best none in
      (record { point = x; values = vs }, q, taken_so b x ms vs best hope met fits values)

  -- two cases in place of one
  pub both_open : (A B : Case) → IsOpen L A → IsOpen L B → All (IsOpen L) (A ∷ B ∷ rest)
  both_open A B a b = All-cons (IsOpen L) A (B ∷ rest) a (All-cons (IsOpen L) B rest b others)

  pub divided_open : (j : ℕ) → IsZeroBranch C.program j → All (IsOpen L) (divided_cases C j rest)
  divided_open j zero = both_open _ _ (open_zero L C this j zero.variable) (open_own L C this j zero.variable)

-- and the nodes are told as they are met
module _ (P : Problem) (C : Case) (rest : List Case) (m : SearchMoment) (h : Holds P m) (this : IsOpen m.level.program C) (others : All (IsOpen m.level.program) rest) (so_far : Leads m.level h.cut (C ∷ rest) m.nodes m.best) where
  node_holds : (after : List Case) (node : Node) (better : Option Found) → All (IsOpen m.level.program) after → ((f : Found) → better ≡ Some f → IsFound P m.level f) → (better ≡ None → m.best ≡ None) → ((z : Option Ratio) → Within m.level z better → Within m.level z m.best)
      → ((z : Option Ratio) → Within m.level z better → (more : List Node) → ProvesAll after more z → ProvesAll (C ∷ rest) (node ∷ more) z) → Holds P (record m { waiting = after; nodes = m.nodes ++ node ∷ []; best = better })
  node_holds after node better cases found none back step =
      node_with P C rest m h this others after node better (λ D. Leads m.level D after (m.nodes ++ node ∷ []) better) cases found none
      (leads_on m.level h.cut (C ∷ rest) after m.nodes node m.best better back step so_far)

  -- the best point stays
  same_best : (after : List Case) (node : Node) → All (IsOpen m.level.program) after → ((z : Option Ratio) → Within m.level z m.best → (more : List Node) → ProvesAll after more z → ProvesAll (C ∷ rest) (node ∷ more) z) → Holds P (record m { waiting = after; nodes = m.nodes ++ node ∷ [] })
  same_best after node cases step = node_holds after node m.best cases h.best (λ e. e) (λ z w. w) step

  -- a leaf
  leaf_holds : (node : Node) → ((z : Option Ratio) → Within m.level z m.best → IsLeaf C.program node z) → Holds P (closed_by_leaf m rest node)
  leaf_holds node leaf = same_best rest node others (λ z w more o. leaf_first C rest node more z (leaf z w) o)

  divide_holds : (j : ℕ) → IsZeroBranch C.program j → Holds P (divide m C rest j)
  divide_holds j zero = same_best (divided_cases C j rest) (ZeroAt j) (divided_open P C rest m h this others j zero) (λ z w more o. zero_first C rest j more z zero o)

  branches_hold : (x : List Ratio) (n : SearchMoment) → Branches C rest m x (To n) → Holds P n
  branches_hold x n (inl (j, k, s, e)) =
      let q : branch m C rest j k ≡ n = cc in
      let L = m.level.program in
      subst (Holds P) q
      (same_best (split_cases C j k rest) (SplitAt j k) (both_open P C rest m h this others _ _ (open_most L C this j s.branch.variable k) (open_least L C this j s.branch.variable (k +ℤ pos 1)))
      (λ z w more o. split_first C rest j k more z s.branch o))
  branches_hold x n (inr (j, s, e)) = let q : divide m C rest j ≡ n = cc in subst (Holds P) q (divide_holds j s.branch)

  takes_hold : (t : Terms) (x : List Ratio) (ms : List Multiplier) (n : SearchMoment) → (C.ray ≡ None → (b : Ratio) × IsBest C.program b x ms × IsHopeful m.level m.best b) → TakesPoint P t C rest m x ms (To n) → Holds P n
  takes_hold t x ms n is_best p =
      let (f, q, a) = taken P C rest m h this others t x ms n is_best p in
      subst (Holds P) q
      (node_holds rest (BoundBy ms) (Some f) others (λ g e. let i : f ≡ g = cc in subst (IsFound P m.level) i a.found) (λ e. absurd (cc)) a.weaker (λ z w more o. leaf_first C rest (BoundBy ms) more z (a.leaf z w) o))

  meets_hold : (t : Terms) (x : List Ratio) (ms : List Multiplier) (n : SearchMoment) → (C.ray ≡ None → ⊥) → MeetsPoint P t C rest m x ms (To n) → Holds P n
  meets_hold t x ms n some (inl b) = branches_hold x n b
  meets_hold t x ms n some (inr p) = takes_hold t x ms n (λ e. absurd (some e)) p

-- a cut that was tried is one of the program
pub cut_of : (I : Instance) (x : List Ratio) (ss : List Status) (ms : List Multiplier) (cs : List ℤ) (k : ℤ) → TriesBasis I x ss (Cut ms cs k) → MakesCut I ms cs k
cut_of I x ss ms cs k (inl (w, e)) = absurd (cc)
cut_of I x ss ms cs k (inr (inl (j, p, n, e))) = absurd (cc)
cut_of I x ss ms cs k (inr (inr (j, u, p, n, d, t))) = of_equation t
  where
    of_multipliers : (ns : List Multiplier) → TriesMultipliers I ns (Cut ms cs k) → MakesCut I ms cs k
    of_multipliers ns (inl (n, e)) = absurd (cc)
    of_multipliers ns (inr (inl (n, e))) = absurd (cc)
    of_multipliers ns (inr (inr (ds, l, c, e))) =
        let a : ns ≡ ms = cc in
        let b : ds ≡ cs = cc in
        let d : l ≡ k = cc in
        subst (λ l. MakesCut I ms cs l) d (subst (λ ds. MakesCut I ms ds l) b (subst (λ ns. MakesCut I ns ds l) a c))

    of_equation : TriesEquation I ss u j (Cut ms cs k) → MakesCut I ms cs k
    of_equation (inl (w, e)) = absurd (cc)
    of_equation (inr (inl (f, z, e))) = absurd (cc)
    of_equation (inr (inr (ns, f, z, are, m))) = of_multipliers ns m

-- the first open case, and the others
module _ (P : Problem) (C : Case) (rest : List Case) (m : SearchMoment) (is : m.waiting ≡ C ∷ rest) {A : Instance → Type 0} (h : HoldsWith P m A) where
  both : All (IsOpen m.level.program) (C ∷ rest)
  both = subst (All (IsOpen m.level.program)) is h.cases

  pub this : IsOpen m.level.program C
  this = All-head (IsOpen m.level.program) C rest both

  pub others : All (IsOpen m.level.program) rest
  others = All-tail (IsOpen m.level.program) C rest both

  -- the case with the ray of its direction
  pub open_along : (d r : List Ratio) → IsDirection C.program d → NoneMoves C d → IsScaled P.program d r → IsOpen m.level.program (record C { ray = Some r })
  open_along d r along none scaled =
      let good = h.level.good in
      let same : (j : ℕ) → (variable_at P.program j).whole ≡ (variable_at m.level.program j).whole = λ j. let v = h.level.variables in ap (λ (vs : List Variable). (get_or vs j no_variable).whole) (sym v) in
      let of_level : IsScaled m.level.program d r = scaled_as P.program m.level.program d same r (sym (width_is P m.level h.level)) scaled in
      record {
        case = this.case;
        divided = this.divided;
        ray = λ s e. let q : r ≡ s = cc in subst (IsEndless m.level.program C.program) q (endless_case m.level.program C good this d along none r of_level);
      }

  -- a cut is a row more of the one case
  pub cut_next : (cs : List ℤ) (k : ℤ) → m.nodes ≡ [] → record C { program = derive C.program cs k } ∷ rest ≡ undivided (derive h.cut cs k) ∷ []
  cut_next cs k none =
      let all : C ∷ rest ≡ undivided h.cut ∷ [] = sym is ∙ h.root none in
      let p : C ≡ undivided h.cut = cc in
      let q : rest ≡ [] = cc in
      ap (λ (K : Case). record K { program = derive K.program cs k } ∷ rest) p ∙ ap (λ (r : List Case). undivided (derive h.cut cs k) ∷ r) q

  pub cut_with : (ms : List Multiplier) (cs : List ℤ) (k : ℤ) (B : Instance → Type 0) → P.later ≡ [] → m.nodes ≡ [] → MakesCut C.program ms cs k → B (derive h.cut cs k) → HoldsWith P (with_cut m C rest ms cs k) B
  cut_with ms cs k B one none c leads =
      let all : C ∷ rest ≡ undivided h.cut ∷ [] = sym is ∙ h.root none in
      let p : C ≡ undivided h.cut = cc in
      let D : Instance = derive h.cut cs k in
      let is_cut : MakesCut h.cut ms cs k = subst (λ K. MakesCut K.program ms cs k) p c in
      let narrow : IsCase m.level.program D = case_cut m.level.program h.cut ms cs k is_cut.cut h.within in
      let next = cut_next cs k none in
      record {
        level = h.level;
        cut = D;
        after = after_on m.rounds m.level.program h.cut (RoundBy ms) cs k h.after is_cut.cut is_cut.fits;
        within = narrow;
        cases = subst (All (IsOpen m.level.program)) (sym next) (All-cons (IsOpen m.level.program) (undivided D) [] (open_undivided m.level.program D narrow) (All-nil (IsOpen m.level.program)));
        best = h.best;
        first = h.first;
        leads = leads;
        root = λ e. next;
        rounds = inl one;
      }

-- where the nodes are told as they are met
module _ (P : Problem) (C : Case) (rest : List Case) (m : SearchMoment) (is : m.waiting ≡ C ∷ rest) (h : Holds P m) where
  abbrev opened : IsOpen m.level.program C
  opened = this P C rest m is h

  abbrev unopened : All (IsOpen m.level.program) rest
  unopened = others P C rest m is h

  so_far : Leads m.level h.cut (C ∷ rest) m.nodes m.best
  so_far = subst (λ cs. Leads m.level h.cut cs m.nodes m.best) is h.leads

  leaf_so_far : (node : Node) → ((z : Option Ratio) → Within m.level z m.best → IsLeaf C.program node z) → Holds P (closed_by_leaf m rest node)
  leaf_so_far node leaf = leaf_holds P C rest m h opened unopened so_far node leaf

  cut_holds : (ms : List Multiplier) (cs : List ℤ) (k : ℤ) → P.later ≡ [] → m.nodes ≡ [] → MakesCut C.program ms cs k → Holds P (with_cut m C rest ms cs k)
  cut_holds ms cs k one none c =
      let D : Instance = derive h.cut cs k in
      cut_with P C rest m is h ms cs k (λ E. Leads m.level E (record C { program = derive C.program cs k } ∷ rest) m.nodes m.best) one none c
      (subst (λ cs. Leads m.level D cs m.nodes m.best) (sym (cut_next P C rest m is h cs k none)) (subst (λ ns. Leads m.level D (undivided D ∷ []) ns m.best) (sym none) (leads_first m.level D m.best)))

  module _ (t : Terms) where
    here_hold : (x : List Ratio) (n : SearchMoment) → Branches C rest m x (To n) → Holds P n
    here_hold x n b = branches_hold P C rest m h opened unopened so_far x n b

    trial_holds : (x : List Ratio) (ss : List Status) (trial : Trial) (n : SearchMoment) → MayCut P t m → TriesBasis C.program x ss trial → GoesFromTrial P t C rest m x trial (To n) → Holds P n
    trial_holds x ss NoCut n may tries g = here_hold x n g
    trial_holds x ss WideCut n may tries g = absurd (cc)
    trial_holds x ss (Cut ms cs k) n may tries g =
        let q : with_cut m C rest ms cs k ≡ n = cc in
        subst (Holds P) q (cut_holds ms cs k may.one_goal may.first_case (cut_of C.program x ss ms cs k tries))

    improves_hold : (before : Clock) (b : Ratio) (x : List Ratio) (ms : List Multiplier) (n : SearchMoment) → IsBest C.program b x ms → IsHopeful m.level m.best b → ImprovesBest P t C rest m before b x ms (To n) → Holds P n
    improves_hold before b x ms n best hope (inl p) = takes_hold P C rest m h opened unopened so_far t x ms n (λ e. (b, best, hope)) p
    improves_hold before b x ms n best hope (inr (inl (never, p))) = here_hold x n p
    improves_hold before b x ms n best hope (inr (inr (ss, trial, may, other, ends, tries, g))) = trial_holds x ss trial n may tries g

    best_holds : (before : Clock) (b : Ratio) (x : List Ratio) (ms : List Multiplier) (n : SearchMoment) → (is_some C.ray ≡ false → IsBest C.program b x ms) → (ray : Option (List Ratio)) → C.ray ≡ ray → GoesFromBest P t ray C rest m before b x ms (To n) → Holds P n
    best_holds before b x ms n is_best None e (inl (p, f)) =
        let best : IsBest C.program b x ms = is_best (ap is_some e) in
        let q : closed_by_leaf m rest (BoundBy ms) ≡ n = cc in
        subst (Holds P) q (leaf_so_far (BoundBy ms) (passed_leaf P C rest m h opened unopened b ms best.number best.bound p))
    best_holds before b x ms n is_best None e (inr (hope, g)) = improves_hold before b x ms n (is_best (ap is_some e)) hope g
    best_holds before b x ms n is_best (Some r) e g = meets_hold P C rest m h opened unopened so_far t x ms n (λ none. let no : Some r ≡ None = sym e ∙ none in absurd (cc)) g

    -- what the end of the case's run makes of it
    goes_hold : (before : Clock) (e : End) (n : SearchMoment) → Shown (is_some C.ray) C.program e → GoesFrom P t C rest m before e (To n) → Holds P n
    goes_hold before (Clash c) n s g =
        let q : closed_by_leaf m rest (ClashAt c) ≡ n = cc in
        subst (Holds P) q (leaf_so_far (ClashAt c) (λ z w. clash_leaf C.program c z s))
    goes_hold before (Empty ms) n s g =
        let q : closed_by_leaf m rest (FarkasBy ms) ≡ n = cc in
        subst (Holds P) q (leaf_so_far (FarkasBy ms) (λ z w. farkas_leaf C.program ms z s))
    goes_hold before (Best b x ms) n s g = best_holds before b x ms n s.1 C.ray refl g
    goes_hold before (Endless x d) n s (inl (j, f, e)) =
        let q : divide m C rest j ≡ n = cc in
        subst (Holds P) q (divide_holds P C rest m h opened unopened so_far j (let i = f.moving in i.branch))
    goes_hold before (Endless x d) n s (inr (inl (none, f, e))) = absurd (cc)
    goes_hold before (Endless x d) n s (inr (inr (r, none, scaled, g))) =
        meets_hold P (record C { ray = Some r }) rest m h (open_along P C rest m is h d r s.2 none scaled) unopened so_far t x [] n (λ e. absurd (cc)) g
    goes_hold before TurnsOut n s g = absurd (cc)
    goes_hold before (TooWide w) n s g = absurd (cc)
    goes_hold before Stopped n s g = absurd (cc)

-- a level without open cases
module _ (P : Problem) (m : SearchMoment) (h : Holds P m) (none : m.waiting ≡ []) where
  closed_leads : (z : Option Ratio) → Within m.level z m.best → Proves h.cut m.nodes z
  closed_leads z w = leads_out m.level h.cut m.nodes m.best (subst (λ cs. Leads m.level h.cut cs m.nodes m.best) none h.leads) z w

  -- what its certificate proves
  pub closed_proves : (z : Option Ratio) → Within m.level z m.best → CertificateProves m.level.program (shown_at m) z
  closed_proves z w = proves_after m.rounds m.level.program h.cut m.nodes z h.after (closed_leads z w)

  pub best_proves : (f : Found) → m.best ≡ Some f → CertificateProves m.level.program (shown_at m) (Some (minimising m.level.program (reached m.level f)))
  best_proves f e =
      let v = minimising m.level.program (reached m.level f) in
      closed_proves (Some v) (subst (Within m.level (Some v)) (sym e) (at_most-same v v refl))

  rounds_on : (g : Goal) (gs : List Goal) → m.level.later ≡ g ∷ gs → (P.later ≡ []) ⊎ All HasNoRounds (m.level.shown ++ shown_at m ∷ [])
  rounds_on g gs later = by h.rounds
    where
      by : (P.later ≡ []) ⊎ (All HasNoRounds m.level.shown × (m.rounds ≡ [])) → (P.later ≡ []) ⊎ All HasNoRounds (m.level.shown ++ shown_at m ∷ [])
      by (inl e) = inl e
      by (inr (a, e)) = inr (All-push HasNoRounds m.level.shown (shown_at m) a e)

  next_level_holds : (f : Found) (e : Ratio) (g : Goal) (gs : List Goal) → m.best ≡ Some f → m.level.later ≡ g ∷ gs → IsReachedEnd m.level.program (reached m.level f) e → Holds P (next_level_at m f e g gs)
  next_level_holds f e g gs some later end =
      let found = h.best f some in
      let proves = best_proves f some in
      let level = level_on P m.level h.level (shown_at m) f found.values e end g gs later proves in
      let there = feasible_on P m.level h.level (shown_at m) f found.values e end g gs later proves found.feasible in
      begun_holds P (next_level_at m f e g gs).level m.clock (Some f) level
      (λ k q. let same : f ≡ k = cc in subst (IsFound P (next_level_at m f e g gs).level) same (record { feasible = there; values = found.values; fits = found.fits }))
      (λ q. absurd (cc)) (rounds_on g gs later)

  pub closes_hold : (t : Terms) (n : SearchMoment) (best : Option Found) (gs : List Goal) → m.best ≡ best → m.level.later ≡ gs → ClosesLevel P t m best gs (To n) → Holds P n
  closes_hold t n None gs some later e = absurd (cc)
  closes_hold t n (Some f) [] some later e = absurd (cc)
  closes_hold t n (Some f) (g ∷ gs) some later (inl (e, end, q)) = let same : next_level_at m f e g gs ≡ n = cc in subst (Holds P) same (next_level_holds f e g gs some later end)
  closes_hold t n (Some f) (g ∷ gs) some later (inr (wide, inl (inl (limit, q)))) = absurd (cc)
  closes_hold t n (Some f) (g ∷ gs) some later (inr (wide, inl (inr (within, stop, q)))) = absurd (cc)
  closes_hold t n (Some f) (g ∷ gs) some later (inr (wide, inr (goes, q))) = absurd (cc)

module _ (P : Problem) (t : Terms) where
  pub next_holds : (m n : SearchMoment) → Holds P m → IsNextInSearch P t m (To n) → Holds P n
  next_holds m n h (inl (none, c)) = closes_hold P m h none t n m.best m.level.later refl refl c
  next_holds m n h (inr (inl (some, inl (limit, e)))) = absurd (cc)
  next_holds m n h (inr (inl (some, inr (within, stop, e)))) = absurd (cc)
  next_holds m n h (inr (inr v)) =
      let C = v.visit.case in
      let opened = this P C v.visit.rest m v.visit.is h in
      goes_hold P C v.visit.rest (record m { clock = v.clock }) v.visit.is (clocked P m v.clock h) t (looked_once m.clock) v.end n
      (run_true C.program (is_some C.ray) t (looked_once m.clock) v.end v.clock opened.case.numbers v.visit.run) v.goes

  pub comes_hold : IsProblem P → (m : SearchMoment) → ComesInSearch P t m → Holds P m
  comes_hold n m begins = holds_first P n
  comes_hold n m (goes_on {m = before} c next) = next_holds before m (comes_hold n before c) next
