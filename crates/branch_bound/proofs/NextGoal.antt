-- From a level whose cases are closed to the next goal.
use Rattle.std.proofs.Common.{◌≡◌, inl, inr, ℕ, zero, suc, ◌+◌, ◌<◌, ◌≤◌, true, false, Option, Some, None, Result, Ok, Err, IfOk, IfSome, OnErr, List, [], ◌∷◌, ◌++◌, length, map, get_or, drop, arith, refl, sym, ◌∙◌, ap, ap₂, subst}
use Rattle.std.proofs.lemmas.List.{length-map, at_drop_more}
use Rattle.std.proofs.lemmas.List.Elements.{All-nil}
use Rattle.rational.specs.Ratio.{Ratio, sum, negative, IsNumber, IsSame}
use Rattle.rational.specs.Width.{SumFits}
use Rattle.fraction.specs.Frac.{ratio, ratios}
use Rattle.fraction.specs.declared.frac.Frac.{Frac}
use Rattle.fraction.specs.declared.frac.Wide.{Wide as Missed}
use Rattle.fraction.proofs.Forms.{reduced}
use Rattle.evidence.specs.Sums.{none}
use Rattle.evidence.specs.Instance.{Goal, Instance, Problem, IsInstance, IsGoalOfNumbers, no_goal, minimising, minimising_by, cost_at}
use Rattle.evidence.specs.AddedRows.{with_row}
use Rattle.evidence.proofs.AddedRows.{instance_added, instance_asking}
use Rattle.evidence.proofs.Columns.{All-anywhere, none-number, value-number}
use Rattle.evidence.proofs.Duality.{minimising-number}
use Rattle.instance.proofs.Numbers.{problem-numbers}
use Rattle.evidence.specs.Cases.{Node}
use Rattle.evidence.specs.Point.{value_at}
use Rattle.evidence.specs.Levels.{IsReachedEnd, next_level}
use Rattle.evidence.specs.Rounds.{Certificate}
use Rattle.certificate.specs.Meanings as Means
use Rattle.certificate.specs.declared.causes.Cause.TheVariants.{Killed, NodeLimit, Memory}
use Rattle.instance.specs.Parts.{Parts}
use Rattle.instance.specs.Program.{goal, goals, sense, variable, program, problem}
use Rattle.case_tree.specs.Cuts.{cut_variable, AreBranches}
use Rattle.instance.specs.declared.parts.Goal.{Goal as Own}
use Rattle.instance.specs.declared.parts.Sense.{Sense}
use Rattle.search_rules.specs.Branching.{Case}
use Rattle.search_rules.specs.Search.{Found, SearchMoment, Outcome, NextOfSearch, Out, undivided, begun_at, shown_at, reached, nodes_with, nodes_so_far, early, IsStop, StopsBefore, ClosesLevel, AsksNext, IsNextInSearch}
use Rattle.search_rules.specs.Bounds.{Carried}
use Rattle.search_rules.specs.Asked.{Asked, ComesAsked, IsAskedAnswer, gave_up}
use Rattle.branch_bound.specs.declared.carried.Carried as own
use Rattle.branch_bound.specs.Bounds as Kept
use Rattle.branch_bound.specs.Bounds.{CarriesNone, kept_next, multipliers_of, number_of}
use Rattle.simplex_rules.specs.Ends.{Terms, Clock}
use Rattle.simplex_rules.specs.Looks.{AgreesWith}
use Rattle.simplex_rules.specs.Runs.{looked_once}
use Rattle.branch_bound.specs.declared.level.Level.{Level}
use Rattle.branch_bound.specs.declared.walk.Walk.{Walk}
use Rattle.branch_bound.specs.declared.walk.RayAt.{RayAt}
use Rattle.branch_bound.specs.declared.relaxation.Relaxation.{Relaxation}
use Rattle.branch_bound.specs.declared.found.Found as Best
use Rattle.branch_bound.specs.Walks.{case, ray, found, best, waiting, IsWalk}
use Rattle.branch_bound.specs.Levels.{level, moment, IsAtLevel}
use Rattle.branch_bound.specs.Asking.{turned_by}
use Rattle.branch_bound.specs.Trials.{IsFreshWalk}

-- the best value of a level's goal without the goal's constant, each turned
module _ (g : Own) (v a b : Frac) (left : ratio a ≡ minimising_by (sense g.sense) (ratio v)) (right : ratio b ≡ minimising_by (sense g.sense) (ratio g.constant)) (L : Instance) (is : L.goal ≡ goal g) where
  left_is : ratio a ≡ minimising L (ratio v)
  left_is = left ∙ ap (λ (o : Goal). minimising_by o.sense (ratio v)) (sym is)

  right_is : ratio b ≡ minimising L L.goal.constant
  right_is = right ∙ ap (λ (o : Goal). minimising_by o.sense o.constant) (sym is)

  ended : (e : Frac) → IsSame (ratio e) (sum (ratio a) (negative (ratio b))) → SumFits (ratio a) (negative (ratio b)) → IsReachedEnd L (ratio v) (ratio e)
  ended e same fits = record {
    fits = subst (λ x. SumFits x (negative (minimising L L.goal.constant))) left_is (subst (λ y. SumFits (ratio a) (negative y)) right_is fits);
    reduced = reduced e;
    same = subst (λ x. IsSame (ratio e) (sum x (negative (minimising L L.goal.constant)))) left_is (subst (λ y. IsSame (ratio e) (sum (ratio a) (negative y))) right_is same);
  }

  fits_back : SumFits (minimising L (ratio v)) (negative (minimising L L.goal.constant)) → SumFits (ratio a) (negative (ratio b))
  fits_back fits = subst (λ x. SumFits x (negative (ratio b))) (sym left_is) (subst (λ y. SumFits (minimising L (ratio v)) (negative y)) (sym right_is) fits)

module _ (g : Own) (v a b : Frac) (left : ratio a ≡ minimising_by (sense g.sense) (ratio v)) (right : ratio b ≡ minimising_by (sense g.sense) (ratio g.constant)) where
  pub reached_ok : (r : Result Frac Missed) → IfOk r (λ e. IsSame (ratio e) (sum (ratio a) (negative (ratio b)))) → IfOk r (λ _. SumFits (ratio a) (negative (ratio b))) → IfOk r (λ e. (L : Instance) → L.goal ≡ goal g → IsReachedEnd L (ratio v) (ratio e))
  reached_ok (Ok e) same fits = λ L is. ended g v a b left right L is e same fits
  reached_ok (Err w) same fits = tt

  pub reached_wide : (r : Result Frac Missed) → OnErr r (SumFits (ratio a) (negative (ratio b)) → ⊥) → OnErr r ((L : Instance) → L.goal ≡ goal g → SumFits (minimising L (ratio v)) (negative (minimising L L.goal.constant)) → ⊥)
  reached_wide (Ok e) wide = tt
  reached_wide (Err w) wide = λ L is fits. wide (fits_back g v a b left right L is fits)

-- the costs of a level's goal, turned so that less is better
turned_nth : (s : Sense) (xs : List Frac) (j : ℕ) → j < length xs → get_or (map (turned_by s) xs) j none ≡ minimising_by (sense s) (get_or (ratios xs) j none)
turned_nth s [] j h = absurd (omega arith)
turned_nth s (x ∷ xs) zero h = refl
turned_nth s (x ∷ xs) (suc j) h = turned_nth s xs j (omega arith)

turned_at : (g : Own) (L : Instance) → L.goal ≡ goal g → (j : ℕ) → j < length g.costs → get_or (map (turned_by g.sense) g.costs) j none ≡ minimising L (cost_at L j)
turned_at g L is j h = turned_nth g.sense g.costs j h ∙ ap (λ (o : Goal). minimising_by o.sense (get_or o.costs j none)) (sym is)

-- a list of those costs
pub count_turned : (s : Sense) (xs costs : List Frac) → ratios xs ≡ map (turned_by s) costs → length xs ≡ length costs
count_turned s xs costs are = sym (length-map xs ratio) ∙ ap length are ∙ length-map costs (turned_by s)

pub listed_at : (g : Own) (L : Instance) (xs : List Frac) → ratios xs ≡ map (turned_by g.sense) g.costs → L.goal ≡ goal g → (j : ℕ) → j < length g.costs → value_at (ratios xs) j ≡ minimising L (cost_at L j)
listed_at g L xs are is j h = ap (λ (l : List Ratio). value_at l j) are ∙ turned_at g L is j h

-- one more certificate has its nodes
pub nodes_more : (cs : List Certificate) (c : Certificate) (n : ℕ) → nodes_with (cs ++ c ∷ []) n ≡ nodes_with cs (length c.nodes + n)
nodes_more [] c n = refl
nodes_more (d ∷ cs) c n = ap (λ k. length d.nodes + k) (nodes_more cs c n)

-- before its first case the walk is at the level's program itself
module _ (p : Parts) (K : Instance) (v : Level) (w : Walk) (c : Clock) (fresh : IsFreshWalk p w) (no_ray : w.ray ≡ None) (vars : K.variables ≡ (program p).variables) where
  case_is : case K w 0 ≡ undivided K
  case_is = ap₂ (λ vs (r : Option (List Ratio)). record { program = record K { variables = vs }; divided = []; ray = r }) (fresh.uncut ∙ sym vars) (ap ray no_ray)

  pub fresh_moment : v.rounds ≡ [] → moment p K K v w c ≡ begun_at (level p K v) c (best w.best)
  fresh_moment none_derived =
      ap₂ (λ (ns : List Node) (ws : List Case). record { level = level p K v; rounds = Means.rounds v.rounds; waiting = ws; nodes = ns; clock = c; best = best w.best })
      (ap Means.nodes fresh.nodes) (ap (waiting K w) fresh.next ∙ ap (λ (C : Case). C ∷ []) case_is)
      ∙ ap (λ rs. record { level = level p K v; rounds = rs; waiting = undivided K ∷ []; nodes = []; clock = c; best = best w.best }) (ap Means.rounds none_derived)

-- and it is a walk
pub fresh_walk : (p : Parts) (w : Walk) → IsFreshWalk p w → w.ray ≡ None → IsWalk (length p.vars) w
fresh_walk p w fresh no_ray = record {
  width = sym (length-map w.cuts.items cut_variable) ∙ ap length fresh.uncut ∙ length-map p.vars variable;
  room = subst (λ o. IfSome o (λ d. d ≤ length w.branches.items)) (sym fresh.next) (omega arith);
  above = subst (λ o. IfSome o (λ d. AreBranches (length p.vars) w.branches.items d)) (sym fresh.next) (record { columns = λ e h. absurd (omega arith); next = λ e h. absurd (omega arith) });
  ray = subst (λ o. IfSome o (λ d. IfSome w.ray (λ r. r.depth ≤ d))) (sym fresh.next) (subst (λ (o : Option RayAt). IfSome o (λ r. r.depth ≤ 0)) (sym no_ray) tt);
}

-- a level without a case left, with a best point, asks the goal after its own
module _ {M : _} {G : _} (p : Parts) (r : Relaxation M G) (v : Level) (w : Walk) (L D : Instance) (at' : IsAtLevel p r v L D) (width : length w.cuts.items ≡ length p.vars) where
  pub goal_is : L.goal ≡ get_or (goals p.goals) v.goal no_goal
  goal_is = let is = at'.given.cut w.cuts.items width in at'.level_goal ∙ is.goal ∙ ap (λ n. get_or (goals p.goals) n no_goal) at'.goal

  pub reached_is : (f : Best.Found) → reached (level p L v) (found f) ≡ value_at (ratios f.values) v.goal
  reached_is f = ap (value_at (ratios f.values)) (length-map v.certs Means.certificate ∙ at'.shown)

  pub count_is : (c : Clock) → nodes_so_far (moment p L D v w c) ≡ v.before + length w.nodes
  count_is c = at'.counted (length (Means.nodes w.nodes)) ∙ ap (λ n. v.before + n) (length-map w.nodes Means.node)

module _ (p : Parts) (v : Level) (w : Walk) (L D : Instance) (c : Clock) (t : Terms) (f : Best.Found) (closed : w.next ≡ None) (is_best : w.best ≡ Some f) (u : ℕ) (next_one : u ≡ v.goal + 1) (inside : u < length p.goals) where
  abbrev pub here : SearchMoment
  here = moment p L D v w c

  abbrev pub asked : Goal
  asked = get_or (goals p.goals) u no_goal

  abbrev pub after : List Goal
  after = drop (u + 1) (goals p.goals)

  pub asks : (next : NextOfSearch) → AsksNext (problem p) t here (found f) asked after next → IsNextInSearch (problem p) t here next
  asks next a =
      let later : drop (v.goal + 1) (goals p.goals) ≡ asked ∷ after = ap (λ n. drop n (goals p.goals)) (sym next_one) ∙ at_drop_more (λ l. l) (goals p.goals) u no_goal (let n = length-map p.goals goal in omega arith) in
      inl (
        ap (waiting D w) closed,
        subst (λ (l : List Goal). ClosesLevel (problem p) t here here.best l next) (sym later) (subst (λ (b : Option Found). ClosesLevel (problem p) t here b (asked ∷ after) next) (sym (ap best is_best)) a),
      )

-- the level that begins then is the one that is asked for
pub begun_is : (p : Parts) (K L D : Instance) (v u : Level) (w x : Walk) (c d : Clock) (f : Found) → moment p K K u x d ≡ begun_at (level p K u) d (best w.best) → Means.certificates u.certs ≡ Means.certificates v.certs ++ shown_at (moment p L D v w c) ∷ [] → d ≡ c → best w.best ≡ Some f
    → moment p K K u x d ≡ begun_at (record { program = K; later = drop (u.goal + 1) (goals p.goals); shown = Means.certificates v.certs ++ shown_at (moment p L D v w c) ∷ [] }) c (Some f)
begun_is p K L D v u w x c d f begins shown clock is_best =
    begins ∙ ap (λ (cs : List Certificate). begun_at (record { program = K; later = drop (u.goal + 1) (goals p.goals); shown = cs }) d (best w.best)) shown
    ∙ ap₂ (λ (k : Clock) (b : Option Found). begun_at (record { program = K; later = drop (u.goal + 1) (goals p.goals); shown = Means.certificates v.certs ++ shown_at (moment p L D v w c) ∷ [] }) k b) clock is_best

-- no node is begun at this clock
module _ (P : Problem) (t : Terms) (m : SearchMoment) (c : Clock) (o : Outcome) where
  pub limit_ends : m.clock ≡ c → t.nodes ≤ nodes_so_far m → o ≡ early m.best (NodeLimit t.nodes) → StopsBefore P t m (Out o c)
  limit_ends at low is = inl (low, ap₂ Out is (sym at))

  pub look_ends : looked_once m.clock ≡ c → nodes_so_far m < t.nodes → IsStop t m → o ≡ early m.best Killed → StopsBefore P t m (Out o c)
  look_ends at low stop is = inr (low, stop, ap₂ Out is (sym at))

-- a look that went on isn't the one that stops
pub not_stopped : (stop : Option ℕ) (looks : ℕ) → AgreesWith stop looks 1 false → stop ≡ Some (looks + 1) → ⊥
not_stopped None looks h e = cc
not_stopped (Some k) looks h e = let i : k ≡ looks + 1 = cc in let l : looks + 1 < k = h in absurd (omega arith)

-- the next level's program has numbers
later_at : (gs : List Goal) (n : ℕ) → get_or gs (n + 1) no_goal ≡ get_or (drop 1 gs) n no_goal
later_at [] n = refl
later_at (g ∷ gs) n = let e : n + 1 ≡ suc n = omega arith in ap (λ k. get_or (g ∷ gs) k no_goal) e

pub goal-numbers : (p : Parts) (n : ℕ) → IsGoalOfNumbers (get_or (goals p.goals) (n + 1) no_goal)
goal-numbers p n =
    let q = problem-numbers p in
    subst IsGoalOfNumbers (sym (later_at (goals p.goals) n))
    (All-anywhere IsGoalOfNumbers (drop 1 (goals p.goals)) no_goal (record { constant = none-number; costs = All-nil IsNumber }) q.later n)

pub next-instance : (L : Instance) (e : Frac) (g : Goal) → IsInstance L → IsGoalOfNumbers g → IsInstance (next_level L (ratio e) g)
next-instance L e g good q =
    instance_asking (with_row L (record { lb = Some (ratio e); ub = Some (ratio e) }) (λ j. minimising L (cost_at L j))) g
    (instance_added L (record { lb = Some (ratio e); ub = Some (ratio e) }) (λ j. minimising L (cost_at L j)) good (e.above, e.above) (λ j. minimising-number L (cost_at L j) (value-number L.goal.costs good.costs j))) q

-- where there is no memory, the search is given up at its moment
pub gives_up : (P : Problem) (t : Terms) (a : Asked) (start : Option Found) (m : SearchMoment) (ks : List Carried) (xs : List (Option Ratio)) (o : Outcome) (c : Clock) → ComesAsked P t a start m ks xs → o ≡ early m.best Memory → c ≡ m.clock → IsAskedAnswer P t a start o None c
gives_up P t a start m ks xs o c comes is at = subst (λ (k : Clock). IsAskedAnswer P t a start o None k) (sym at) (subst (λ (q : Outcome). IsAskedAnswer P t a start q None m.clock) (sym is) (gave_up comes))

-- before its first case a level's walk keeps nothing
pub kept_fresh : (p : Parts) (w : Walk) → IsFreshWalk p w → CarriesNone w → w.keeps ≡ true → (None ∷ [] ≡ Kept.carried w) × (None ∷ [] ≡ Kept.numbers w)
kept_fresh p w fresh none keeps =
    let h = none keeps in (
      sym (ap (λ o. map multipliers_of (kept_next w.carried.items w.branches.items o)) fresh.next ∙ ap (λ (k : Option own.Carried). multipliers_of k ∷ []) h.1),
      sym (ap (λ o. map number_of (kept_next w.carried.items w.branches.items o)) fresh.next ∙ ap (λ (k : Option own.Carried). number_of k ∷ []) h.1),
    )
