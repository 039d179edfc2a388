-- What one case makes of a search whose moments have come to it.
use Rattle.std.proofs.Common.{◌≡◌, ◌||◌, inl, inr, ℕ, suc, ◌+◌, ◌<◌, ◌≤◌, Bool, true, false, Option, None, Some, Result, Err, IfOk, IfErr, List, [], ◌∷◌, ◌++◌, map, arith, refl, sym, ◌∙◌, ap, ap₂, subst, length}
use Rattle.std.specs.Option.{is_some}
use Rattle.rational.specs.Ratio.{Ratio}
use Rattle.fraction.specs.Frac.{ratios}
use Rattle.evidence.specs.Instance.{Instance, Problem}
use Rattle.evidence.specs.Rounds.{Certificate}
use Rattle.certificate.specs.declared.causes.Cause.{Cause}
use Rattle.certificate.specs.declared.causes.Cause.TheVariants.{Killed, NodeLimit, Gap, Memory}
use Rattle.certificate.specs.declared.nodes.Cert.{Cert}
use Rattle.certificate.specs.Meanings as Means
use Rattle.instance.specs.Parts.{Parts}
use Rattle.instance.specs.Program.{problem}
use Rattle.instance.proofs.Numbers.{problem-numbers}
use Rattle.case_tree.specs.Cuts.{cut, pending_places}
use Rattle.simplex_rules.specs.Ends.{Terms, Clock, End, Clash, Empty, Best, Endless, TurnsOut, TooWide, Stopped}
use Rattle.simplex_rules.specs.Runs.{Run, EndsAtBasis}
use Rattle.simplex_rules.specs.Statuses.{HasDictionary}
use Rattle.simplex_rules.specs.Looks.{AgreesWith, looks_after}
use Rattle.simplex.specs.declared.answer.LpEnd.{LpEnd}
use Rattle.simplex.specs.declared.answer.LpEnd.TheVariants as Has
use Rattle.simplex.specs.declared.answer.Turns.{Turns}
use Rattle.simplex.specs.declared.ends.Ends.{Ends}
use Rattle.simplex.specs.Answers.{was_best}
use Rattle.simplex.specs.Cuts.{Cutting}
use Rattle.simplex.specs.Memory.{ended_with, statuses_in, entries_in, IsAtBasis}
use Rattle.search_rules.specs.Branching.{Case}
use Rattle.search_rules.specs.Search as Rules
use Rattle.search_rules.specs.Search.{SearchMoment, To, Out, Found, Outcome, early, nodes_so_far}
use Rattle.search_rules.specs.Bounds.{Carried, carried_after}
use Rattle.search_rules.specs.Gaps.{number_after, IsNearEnough}
use Rattle.search_rules.specs.Asked.{Asked, StopsNear, EndsAsked, ComesAsked, IsAskedAnswer}
use Rattle.search_rules.proofs.AskedCases.{none_along, none_below_ray}
use Rattle.search_rules.proofs.AskedCounts.{as_many}
use Rattle.branch_bound.specs.declared.carried.Carried as kept
use Rattle.branch_bound.specs.declared.ended.Ended.{Ended}
use Rattle.branch_bound.specs.declared.ended.Ended.TheVariants.{Unbounded, Early}
use Rattle.branch_bound.specs.declared.found.Found as Points
use Rattle.branch_bound.specs.declared.gap.Gap as gaps
use Rattle.branch_bound.specs.declared.level.Level.{Level}
use Rattle.branch_bound.specs.declared.limits.Limits.{Limits}
use Rattle.branch_bound.specs.declared.relaxation.Relaxation.{Relaxation}
use Rattle.branch_bound.specs.declared.walk.RayAt.{RayAt}
use Rattle.branch_bound.specs.declared.walk.Walk.{Walk}
use Rattle.branch_bound.specs.Bounds as Kept
use Rattle.branch_bound.specs.Bounds.{carried_at, multipliers_of, number_of, kept_after, kept_next, gap_or_none, keeps_carried, LeavesBy, CarriesNoneAlong}
use Rattle.branch_bound.specs.Walks.{best, case, ray, rest, waiting, IsAt}
use Rattle.branch_bound.specs.Levels.{moment, IsGiven, IsAtLevel}
use Rattle.branch_bound.specs.Cases.{terms, outcome_of, OrMemory, StaysAt, StandsIn, MayClose, EndsIn, AnswersSo, CarriesOn, GoesAt, clock_at}
use Rattle.branch_bound.specs.Trials.{RanTo}
use Rattle.branch_bound.specs.States.{IsUnderWay}
use Rattle.branch_bound.specs.declared.state.SearchState.{SearchState}
use Rattle.branch_bound.proofs.LeftCases.{kept_before, carried_after_it, numbers_after_it}
use Rattle.branch_bound.proofs.Ready.{at_as, given_as, if_ok₂}
use Rattle.branch_bound.proofs.PointSteps.{if_err₂, or_memory, ray_is_some, none_ray}
use Rattle.branch_bound.proofs.CaseSteps.{answered, at_limit, at_near, at_look, stopped_run, lacks_memory, run_ends, new, new_is, comes_on, after_one, never_endless, comes_through}
use Rattle.branch_bound.proofs.NextGoal.{count_is}

-- a search that ends early has one cause, and no ray
early_cause : (b c : Option Found) (k j : Cause) → early b k ≡ early c j → k ≡ j
early_cause None None k j e = cc
early_cause None (Some g) k j e = absurd (cc)
early_cause (Some f) None k j e = absurd (cc)
early_cause (Some f) (Some g) k j e = cc

never_early : (b : Option Found) (c : Cause) (x vs : List Ratio) (cs : List Certificate) (z : List Ratio) → Rules.Unbounded x vs cs z ≡ early b c → ⊥
never_early None c x vs cs z e = cc
never_early (Some f) c x vs cs z e = cc

-- what is carried and numbered of a case that waits
first_of : {X : Type 0} (xs : List X) (n : ℕ) → length xs ≡ suc n → (x : X) × (ys : List X) × (xs ≡ x ∷ ys)
first_of [] n e = absurd (omega arith)
first_of (x ∷ xs) n e = (x, xs, refl)

no_multipliers : (k : Option kept.Carried) → multipliers_of k ≡ None → k ≡ None
no_multipliers None e = refl
no_multipliers (Some k) e = absurd (cc)

-- with a gap what is carried is kept
has_gap : (P : Problem) (g : Option gaps.Gap) (m : SearchMoment) (xs : List (Option Ratio)) → IsNearEnough P (gap_or_none g) m xs → is_some g ≡ true
has_gap P None m xs h = absurd h
has_gap P (Some g) m xs h = refl

or_true : (b c : Bool) → c ≡ true → (b || c) ≡ true
or_true true c e = refl
or_true false c e = e

true_or : (b c : Bool) → b ≡ true → (b || c) ≡ true
true_or true c e = refl
true_or false c e = absurd (cc)

-- what a search under way has at hand may be closed
pub may_close : {L : _} {G : _} (p : Parts) (l : Limits) (s : SearchState L G) → IsUnderWay p l s → MayClose p (Kept.asked l) s.walk
may_close p l s u = record { walk = u.walk; keeps = λ b. u.keeps ∙ true_or l.bound (is_some l.gap) b; carried = u.carried; values = u.values }

module _ {L : _} {G : _} (p : Parts) (l : Limits) (r : Relaxation L G) (v : Level) (w : Walk) where
  -- at this moment
  module _ (start : Option Found) (looks : ℕ) (stop : Option ℕ) (s : StandsIn p (terms l stop) (Kept.asked l) start r v w (clock_at r looks)) where
    abbrev here : SearchMoment
    here = moment p s.stands.program s.stands.cut v w (clock_at r looks)

    pub come : ComesAsked (problem p) (terms l stop) (Kept.asked l) start (moment p s.stands.program s.stands.cut v w (clock_at r looks)) s.carried s.numbers
    come = subst (λ (m : SearchMoment). ComesAsked (problem p) (terms l stop) (Kept.asked l) start m s.carried s.numbers) s.stands.is s.comes

    -- the search ends here so, and the walk is given up as it was
    module _ (ready : MayClose p (Kept.asked l) w) where
      ends_in : (q : Relaxation L G) (u : Level) (x : Walk) (b : Option Points.Found) (k : Cause) (c : Clock) → ((K D : Instance) → IsAtLevel p r v K D → IsAtLevel p q v K D) → b ≡ w.best → record x { best = w.best; ray = w.ray } ≡ w → u ≡ v
          → EndsAsked (problem p) (terms l stop) (Kept.asked l) here s.numbers (early (best b) k) c → EndsIn p (terms l stop) (Kept.asked l) start q u x (early (best b) k) b c
      ends_in q u x b k c level point walk same e =
          let own : record x { best = b; ray = w.ray } ≡ w = subst (λ (y : Option Points.Found). let z : Walk = record x { best = y; ray = w.ray } in z ≡ w) (sym point) walk in
          record {
            before = clock_at r looks;
            old_ray = w.ray;
            last = record {
              first = s.first;
              at = s.at;
              carried = s.carried;
              numbers = s.numbers;
              comes = s.comes;
              stands = record {
                program = s.stands.program;
                cut = s.stands.cut;
                at = subst (λ (y : Level). IsAtLevel p q y s.stands.program s.stands.cut) (sym same) (level s.stands.program s.stands.cut s.stands.at);
                is = s.stands.is ∙ ap₂ (λ (y : Level) (z : Walk). moment p s.stands.program s.stands.cut y z (clock_at r looks)) (sym same) (sym own);
              };
              kept = subst (λ (z : Walk). z.keeps ≡ true → (s.carried ≡ Kept.carried z) × (s.numbers ≡ Kept.numbers z)) (sym own) s.kept;
            };
            ready = subst (λ (z : Walk). MayClose p (Kept.asked l) z) (sym own) ready;
            ends = subst (λ (m : SearchMoment). EndsAsked (problem p) (terms l stop) (Kept.asked l) m s.numbers (early (best b) k) c) (sym s.stands.is) e;
          }

      -- it is given up here with this cause
      pub gives_up_at : (q : Relaxation L G) (x : Walk) (ended : Ended) (k : Cause) (c : Clock) → ((K D : Instance) → IsAtLevel p r v K D → IsAtLevel p q v K D) → ended ≡ Early w.best k → x ≡ record w { best = None }
          → EndsAsked (problem p) (terms l stop) (Kept.asked l) (moment p s.stands.program s.stands.cut v w (clock_at r looks)) s.numbers (early (best w.best) k) c → AnswersSo p (terms l stop) (Kept.asked l) start q v x ended c
      gives_up_at q x ended k c level is left e =
          subst (λ (y : Ended). AnswersSo p (terms l stop) (Kept.asked l) start q v x y c) (sym is)
          (inr (ends_in q v x w.best k c level refl (ap (λ (y : Walk). let z : Walk = record y { best = w.best; ray = w.ray } in z) left) refl e))

  module _ (d : ℕ) (at : IsAt (length p.vars) w d) (ready : MayClose p (Kept.asked l) w) where
    module _ (start : Option Found) (looks : ℕ) (stop : Option ℕ) (s : StandsIn p (terms l stop) (Kept.asked l) start r v w (clock_at r looks)) where
      waits : waiting s.stands.cut w w.next ≡ case s.stands.cut w d ∷ rest s.stands.cut w d
      waits = ap (waiting s.stands.cut w) at.next

      counts : nodes_so_far (moment p s.stands.program s.stands.cut v w (clock_at r looks)) ≡ v.before + length w.nodes
      counts = count_is p r v w s.stands.program s.stands.cut s.stands.at at.width (clock_at r looks)

      module _ (keeps : w.keeps ≡ keeps_carried l) where
        kept_near : (xs : List (Option Ratio)) → IsNearEnough (problem p) (gap_or_none l.gap) (here start looks stop s) xs → s.numbers ≡ Kept.numbers w
        kept_near xs near = let k = s.kept (keeps ∙ or_true l.bound (is_some l.gap) (has_gap (problem p) l.gap (here start looks stop s) xs near)) in k.1

        is_far : (IsNearEnough (problem p) (gap_or_none l.gap) (here start looks stop s) (Kept.numbers w) → ⊥) → StopsNear (problem p) (terms l stop) (Kept.asked l) (here start looks stop s) s.numbers → ⊥
        is_far never n = never (subst (λ (xs : List (Option Ratio)). IsNearEnough (problem p) (gap_or_none l.gap) (here start looks stop s) xs) (kept_near s.numbers n.near) n.near)

      -- nothing is carried along a direction
      module _ (k : Carried) (ks : List Carried) (xs : List (Option Ratio)) (comes : ComesAsked (problem p) (terms l stop) (Kept.asked l) start (here start looks stop s) (k ∷ ks) xs) (own : k ≡ multipliers_of (carried_at w.carried.items d)) where
        carries_none : (before c : Clock) (q : Option (List Ratio)) (e : End) → ray w.ray ≡ q → Run (case s.stands.cut w d).program (is_some (ray w.ray)) (terms l stop) before e c → CarriesNoneAlong w d q e
        carries_none before c (Some z) e is run = no_multipliers (carried_at w.carried.items d) (sym own ∙ none_below_ray (problem p) (terms l stop) (Kept.asked l) (problem-numbers p) s.first.0 start s.first.1 (here start looks stop s) k ks xs (case s.stands.cut w d) (rest s.stands.cut w d) z comes waits is)
        carries_none before c None (Endless y z) is run = no_multipliers (carried_at w.carried.items d) (sym own ∙ none_along (problem p) (terms l stop) (Kept.asked l) (problem-numbers p) s.first.0 start s.first.1 (here start looks stop s) k ks xs (case s.stands.cut w d) (rest s.stands.cut w d) before c y z comes waits run)
        carries_none before c None (Clash j) is run = tt
        carries_none before c None (Empty ms) is run = tt
        carries_none before c None (Best b x ms) is run = tt
        carries_none before c None TurnsOut is run = tt
        carries_none before c None (TooWide h) is run = tt
        carries_none before c None Stopped is run = tt

    module _ (x : Walk) (ended : Ended) where
      -- as many nodes stand as the limit
      pub limit_carries : ended ≡ Early w.best (NodeLimit l.nodes) → x ≡ record w { best = None } → l.nodes ≤ v.before + length w.nodes → CarriesOn p l r v w r v x 0 false (Err ended)
      limit_carries is left low = λ start looks stop s tells.
          let n = counts start looks stop s in
          gives_up_at start looks stop s ready r x ended (NodeLimit l.nodes) (clock_at r (looks + 0)) (λ K D h. h) is left
          (at_limit (problem p) (terms l stop) (Kept.asked l) start (here start looks stop s) s.carried s.numbers (come start looks stop s) (case s.stands.cut w d) (rest s.stands.cut w d) (waits start looks stop s) (early (best w.best) (NodeLimit l.nodes)) (omega arith) refl)

      module _ (keeps : w.keeps ≡ keeps_carried l) (within : v.before + length w.nodes < l.nodes) where
        -- the best point is near enough
        pub near_carries : ended ≡ Early w.best Gap → x ≡ record w { best = None } → ((K D : Instance) (c : Clock) → length v.certs ≡ v.goal → IsNearEnough (problem p) (gap_or_none l.gap) (moment p K D v w c) (Kept.numbers w)) → CarriesOn p l r v w r v x 0 false (Err ended)
        near_carries is left near = λ start looks stop s tells.
            let n = counts start looks stop s in
            let low : nodes_so_far (here start looks stop s) < l.nodes = omega arith in
            let close = near s.stands.program s.stands.cut (clock_at r looks) s.stands.at.shown in
            gives_up_at start looks stop s ready r x ended Gap (clock_at r (looks + 0)) (λ K D h. h) is left
            (at_near (problem p) (terms l stop) (Kept.asked l) start (here start looks stop s) s.carried s.numbers (come start looks stop s) (case s.stands.cut w d) (rest s.stands.cut w d) (waits start looks stop s) (early (best w.best) Gap)
            (record { within = low; near = subst (λ (xs : List (Option Ratio)). IsNearEnough (problem p) (gap_or_none l.gap) (here start looks stop s) xs) (sym (kept_near start looks stop s keeps (Kept.numbers w) close)) close }) refl)

        module _ (never : (K D : Instance) (c : Clock) → length v.certs ≡ v.goal → IsNearEnough (problem p) (gap_or_none l.gap) (moment p K D v w c) (Kept.numbers w) → ⊥) (is : ended ≡ Early w.best Killed) (left : x ≡ record w { best = None }) where
          -- a look stopped the search before the run
          pub look_carries : CarriesOn p l r v w r v x 0 true (Err ended)
          look_carries = λ start looks stop s tells.
              let n = counts start looks stop s in
              gives_up_at start looks stop s ready r x ended Killed (clock_at r (looks + 0 + 1)) (λ K D h. h) is left
              (at_look (problem p) (terms l stop) (Kept.asked l) start (here start looks stop s) s.carried s.numbers (come start looks stop s) (case s.stands.cut w d) (rest s.stands.cut w d) (waits start looks stop s) (omega arith)
              (is_far start looks stop s keeps (never s.stands.program s.stands.cut (clock_at r looks) s.stands.at.shown)) (early (best w.best) Killed) tells refl)

          -- or in it
          pub stop_carries : (q : Relaxation L G) (es : List Ends) → q.ends ≡ record r.ends { ends = es } → q.rows.items ≡ r.rows.items → (zeroed : Bool) (k : ℕ) → is_some w.ray ≡ zeroed → l.turns ≡ r.turns.most
              → ((D : Instance) (t : Terms) (looks : ℕ) → IsGiven p r.ends D → t.turns ≡ r.turns.most → AgreesWith t.stop looks k true → Run (cut D w.cuts.items) zeroed t (clock_at r looks) Stopped (clock_at q (looks_after looks k true))) → CarriesOn p l r v w q v x (suc k) true (Err ended)
          stop_carries q es ends rows zeroed k z most run = λ start looks stop s tells.
              let n = counts start looks stop s in
              let then : stop ≡ Some (looks + 1 + k + 1) = tells ∙ ap Some (omega arith) in
              gives_up_at start looks stop s ready q x ended Killed (clock_at q (looks + suc k + 1)) (at_as p r q es ends rows v) is left
              (stopped_run (problem p) (terms l stop) (Kept.asked l) start (here start looks stop s) s.carried s.numbers (come start looks stop s) (case s.stands.cut w d) (rest s.stands.cut w d) (waits start looks stop s) (omega arith)
              (is_far start looks stop s keeps (never s.stands.program s.stands.cut (clock_at r looks) s.stands.at.shown)) zeroed (ray_is_some w.ray ∙ z) q.turns.done k (early (best w.best) Killed) tells
              (run s.stands.cut (terms l stop) (looks + 1) s.stands.at.given most then) refl)

    -- the run ended so, and the code went on from there
    module _ (q : Relaxation L G) (es : List Ends) (ends : q.ends ≡ record r.ends { ends = es }) (rows : q.rows.items ≡ r.rows.items) (within : v.before + length w.nodes < l.nodes) (zeroed : Bool) (z : is_some w.ray ≡ zeroed) (most : l.turns ≡ r.turns.most) (k : ℕ) (e : LpEnd)
        (run : (D : Instance) (t : Terms) (looks : ℕ) → IsGiven p r.ends D → t.turns ≡ r.turns.most → AgreesWith t.stop looks k false → Run (cut D w.cuts.items) zeroed t (clock_at r looks) (ended_with e q.work) (clock_at q (looks_after looks k false)) × (was_best e ≡ true → EndsAtBasis (cut D w.cuts.items) zeroed t (clock_at r looks) (ended_with e q.work) (clock_at q (looks_after looks k false)) (statuses_in q.work))) where
      -- whatever the looks said
      pub ran_to : (was_best e ≡ true → IsAtBasis q.work × ((D : Instance) → IsGiven p r.ends D → HasDictionary (cut D w.cuts.items) zeroed (statuses_in q.work) (entries_in q.work))) → was_best e ≡ true → w.ray ≡ None → (D : Instance) → IsGiven p q.ends D → RanTo (cut D w.cuts.items) (ended_with e q.work) q.work
      ran_to basis best gone D given =
          let own : IsGiven p r.ends D = given_as p (record r.ends { ends = es }) D r.ends.ends (subst (λ (h : Cutting). IsGiven p h D) ends given) in
          let none : zeroed ≡ false = sym z ∙ ap (λ (o : Option RayAt). is_some o) gone in
          let ran = run D (record { nodes = 0; turns = l.turns; rounds = 0; stop = None }) 0 own most tt in
          let held = basis best in
          record {
            terms = record { nodes = 0; turns = l.turns; rounds = 0; stop = None };
            before = clock_at r 0;
            after = clock_at q (looks_after 0 k false);
            ended = subst (λ (b : Bool). EndsAtBasis (cut D w.cuts.items) b (record { nodes = 0; turns = l.turns; rounds = 0; stop = None }) (clock_at r 0) (ended_with e q.work) (clock_at q (looks_after 0 k false)) (statuses_in q.work)) none (ran.1 best);
            dictionary = subst (λ (b : Bool). HasDictionary (cut D w.cuts.items) b (statuses_in q.work) (entries_in q.work)) none (held.1 D own);
          }

      module _ (keeps : w.keeps ≡ keeps_carried l) (never : (K D : Instance) (c : Clock) → length v.certs ≡ v.goal → IsNearEnough (problem p) (gap_or_none l.gap) (moment p K D v w c) (Kept.numbers w) → ⊥)
          (s : Relaxation L G) (u : Level) (x : Walk) (turns : s.turns ≡ q.turns) (certs : u.certs ≡ v.certs) (result : Result (Unit {0}) Ended)
          (leaves : IfOk result (λ _. LeavesBy w x d (ray w.ray) (ended_with e q.work))) (stays : IfErr result (StaysAt q v w s u x))
          (ok : IfOk result (λ _. (M D : Instance) (t : Terms) (before c : Clock) → IsAtLevel p q v M D → t.rounds ≡ l.rounds → (was_best e ≡ true → w.ray ≡ None → EndsAtBasis (cut D w.cuts.items) false t before (ended_with e q.work) c (statuses_in q.work)) → (e ≡ Has.Endless → w.ray ≡ None) → (E : Instance) × IsAtLevel p s u M E × GoesAt p M D v w d t before c (ended_with e q.work) (To (moment p M E u x c))))
          (err : IfErr result (λ ended. OrMemory w ended ((M D : Instance) (t : Terms) (before : Clock) (looks : ℕ) → let c = clock_at q looks in IsAtLevel p q v M D → t.rounds ≡ l.rounds → t.turns ≡ l.turns → (was_best e ≡ true → w.ray ≡ None → EndsAtBasis (cut D w.cuts.items) false t before (ended_with e q.work) c (statuses_in q.work)) → (e ≡ Has.Endless → w.ray ≡ None) → GoesAt p M D v w d t before c (ended_with e q.work) (Out (outcome_of (Means.certificates v.certs) ended) c)))) where
        -- at the moment that the code went on from
        module _ (start : Option Found) (looks : ℕ) (stop : Option ℕ) (at' : StandsIn p (terms l stop) (Kept.asked l) start r v w (clock_at r looks)) (tells : AgreesWith stop looks (suc k) false) where
          abbrev t : Terms
          t = terms l stop

          abbrev P : Problem
          P = problem p

          abbrev a : Asked
          a = Kept.asked l

          abbrev M : Instance
          M = at'.stands.program

          abbrev D : Instance
          D = at'.stands.cut

          abbrev m : SearchMoment
          m = moment p M D v w (clock_at r looks)

          abbrev C : Case
          C = case D w d

          abbrev Cs : List Case
          Cs = rest D w d

          abbrev before : Clock
          before = clock_at r (looks + 1)

          abbrev after : Clock
          after = clock_at q (looks + suc k)

          low : nodes_so_far m < l.nodes
          low = let n = counts start looks stop at' in omega arith

          far : StopsNear P t a m at'.numbers → ⊥
          far = is_far start looks stop at' keeps (never M D (clock_at r looks) at'.stands.at.shown)

          ran : Run (cut D w.cuts.items) zeroed t before (ended_with e q.work) (clock_at q (looks + 1 + k)) × (was_best e ≡ true → EndsAtBasis (cut D w.cuts.items) zeroed t before (ended_with e q.work) (clock_at q (looks + 1 + k)) (statuses_in q.work))
          ran = run D t (looks + 1) at'.stands.at.given most (after_one looks k stop tells)

          later : looks + 1 + k ≡ looks + suc k
          later = omega arith

          basis : was_best e ≡ true → w.ray ≡ None → EndsAtBasis (cut D w.cuts.items) false t before (ended_with e q.work) after (statuses_in q.work)
          basis b gone =
              subst (λ (i : ℕ). EndsAtBasis (cut D w.cuts.items) false t before (ended_with e q.work) (clock_at q i) (statuses_in q.work)) later
              (subst (λ (b : Bool). EndsAtBasis (cut D w.cuts.items) b t before (ended_with e q.work) (clock_at q (looks + 1 + k)) (statuses_in q.work)) (sym z ∙ ap (λ (o : Option RayAt). is_some o) gone) (ran.1 b))

          direction : e ≡ Has.Endless → w.ray ≡ None
          direction is =
              none_ray w.ray (z ∙ never_endless D w.cuts.items zeroed t before (clock_at q (looks + 1 + k)) _ _ at'.stands.at.good (subst (λ (f : LpEnd). Run (cut D w.cuts.items) zeroed t before (ended_with f q.work) (clock_at q (looks + 1 + k))) is ran.0))

          level : IsAtLevel p q v M D
          level = at_as p r q es ends rows v M D at'.stands.at

          -- the search has come to the next moment
          module _ (E : Instance) (stands : IsAtLevel p s u M E) (left : LeavesBy w x d (ray w.ray) (ended_with e q.work)) (goes : GoesAt p M D v w d t before after (ended_with e q.work) (To (moment p M E u x after))) where
            abbrev n : SearchMoment
            n = moment p M E u x after

            abbrev news : List Case
            news = new P t a start m at'.carried at'.numbers (come start looks stop at') C Cs (waits start looks stop at') low far zeroed (ray_is_some w.ray ∙ z) q.turns.done k (ended_with e q.work) tells ran.0 n goes

            goes_to : StandsIn p t a start s u x after
            goes_to =
                let both = as_many P t a start m at'.carried at'.numbers (come start looks stop at') in
                let first = ap (λ (l : List Case). length l) (waits start looks stop at') in
                let (k1, ks, carried_is) = first_of at'.carried (length Cs) (both.0 ∙ first) in
                let (x1, xs, numbers_are) = first_of at'.numbers (length Cs) (both.1 ∙ first) in
                record {
                  first = at'.first;
                  at = n;
                  carried = map (λ (F : Case). carried_after C.ray (ended_with e q.work) k1) news ++ ks;
                  numbers = map (λ (F : Case). number_after C.ray (ended_with e q.work) x1) news ++ xs;
                  comes = comes_on P t a start m at'.carried at'.numbers (come start looks stop at') C Cs (waits start looks stop at') low far zeroed (ray_is_some w.ray ∙ z) q.turns.done k (ended_with e q.work) tells ran.0 n goes k1 ks x1 xs carried_is numbers_are;
                  stands = record { program = M; cut = E; at = stands; is = refl };
                  kept = λ keeping.
                      let was = kept_before w x d (ray w.ray) (ended_with e q.work) at.next left keeping in
                      let held = at'.kept was in
                      let all_carried : k1 ∷ ks ≡ multipliers_of (carried_at w.carried.items d) ∷ map multipliers_of (kept_after w.carried.items (pending_places w.branches.items d)) = sym carried_is ∙ held.0 ∙ ap (λ o. map multipliers_of (kept_next w.carried.items w.branches.items o)) at.next in
                      let all_numbers : x1 ∷ xs ≡ number_of (carried_at w.carried.items d) ∷ map number_of (kept_after w.carried.items (pending_places w.branches.items d)) = sym numbers_are ∙ held.1 ∙ ap (λ o. map number_of (kept_next w.carried.items w.branches.items o)) at.next in
                      let k_is : k1 ≡ multipliers_of (carried_at w.carried.items d) = cc in
                      let ks_are : ks ≡ map multipliers_of (kept_after w.carried.items (pending_places w.branches.items d)) = cc in
                      let x_is : x1 ≡ number_of (carried_at w.carried.items d) = cc in
                      let xs_are : xs ≡ map number_of (kept_after w.carried.items (pending_places w.branches.items d)) = cc in
                      let here_comes = subst (λ (l : List Carried). ComesAsked P t a start m l at'.numbers) carried_is (come start looks stop at') in
                      let none = carries_none start looks stop at' k1 ks at'.numbers here_comes k_is before (clock_at q (looks + 1 + k)) (ray w.ray) (ended_with e q.work) refl (subst (λ (b : Bool). Run (cut D w.cuts.items) b t before (ended_with e q.work) (clock_at q (looks + 1 + k))) (sym (ray_is_some w.ray ∙ z)) ran.0) in
                      let is = new_is P t a start m at'.carried at'.numbers (come start looks stop at') C Cs (waits start looks stop at') low far zeroed (ray_is_some w.ray ∙ z) q.turns.done k (ended_with e q.work) tells ran.0 n goes in (
                        carried_after_it w x d (ray w.ray) (ended_with e q.work) at.next left E D news is was none k1 ks k_is ks_are,
                        numbers_after_it w x d (ray w.ray) (ended_with e q.work) at.next left E D news is was none x1 xs x_is xs_are,
                      );
                }

          -- or it may be answered so
          ends_with : (o : Outcome) → GoesAt p M D v w d t before after (ended_with e q.work) (Out o after) → EndsAsked P t a m at'.numbers o after
          ends_with o goes = run_ends P t a start m at'.carried at'.numbers (come start looks stop at') C Cs (waits start looks stop at') low far zeroed (ray_is_some w.ray ∙ z) q.turns.done k (ended_with e q.work) tells ran.0 o goes

          wants_memory : (b : Option Points.Found) → b ≡ w.best → IsAskedAnswer P t a start (early (best b) Memory) None after
          wants_memory b point =
              subst (λ (y : Option Points.Found). IsAskedAnswer P t a start (early (best y) Memory) None after) (sym point)
              (lacks_memory P t a start m at'.carried at'.numbers (come start looks stop at') C Cs (waits start looks stop at') low far zeroed (ray_is_some w.ray ∙ z) q.turns.done k (ended_with e q.work) tells ran.0)

          ends_so : (ended : Ended) → StaysAt q v w s u x ended → OrMemory w ended (GoesAt p M D v w d t before after (ended_with e q.work) (Out (outcome_of (Means.certificates v.certs) ended) after)) → AnswersSo p t a start s u x ended after
          ends_so (Unbounded f y) stay (inl lacks) = absurd (never_early (best w.best) Memory (ratios f.point) (ratios f.values) [] (ratios y) (lacks []))
          ends_so (Unbounded f y) stay (inr goes) =
              subst (λ (cs : List Cert). IsAskedAnswer P t a start (outcome_of (Means.certificates cs) (Unbounded f y)) None after) (sym certs)
              (answered P t a start m at'.carried at'.numbers (come start looks stop at') (outcome_of (Means.certificates v.certs) (Unbounded f y)) after refl (ends_with (outcome_of (Means.certificates v.certs) (Unbounded f y)) goes))
          ends_so (Early b c) (point, inl memory) goes = inl (memory, wants_memory b point)
          ends_so (Early b c) (point, inr stay) (inl lacks) = inl (early_cause (best b) (best w.best) c Memory (lacks []), wants_memory b point)
          ends_so (Early b c) (point, inr (walk, same, ends', rows')) (inr goes) =
              inr (ends_in start looks stop at' ready s u x b c after (λ K F h. at_as p q s q.ends.ends ends' rows' v K F (at_as p r q es ends rows v K F h)) point walk same (ends_with (early (best b) c) goes))

        pub visit_carries : CarriesOn p l r v w s u x (suc k) false result
        visit_carries = λ start looks stop at' tells.
            let same : q.turns.done ≡ s.turns.done = ap (λ (y : Turns). y.done) (sym turns) in
            comes_through p l (terms l stop) (Kept.asked l) start s u x (clock_at s (looks + suc k)) result
            (if_ok₂ result
            (λ y goes left.
            let g = goes at'.stands.program at'.stands.cut (terms l stop) (clock_at r (looks + 1)) (clock_at q (looks + suc k)) (level start looks stop at' tells) refl (basis start looks stop at' tells) (direction start looks stop at' tells) in
            subst (λ (i : ℕ). StandsIn p (terms l stop) (Kept.asked l) start s u x (record { turns = i; looks = looks + suc k })) same (goes_to start looks stop at' tells g.0 g.1 left g.2))
            ok leaves)
            (if_err₂ result
            (λ ended goes stay.
            subst (λ (i : ℕ). AnswersSo p (terms l stop) (Kept.asked l) start s u x ended (record { turns = i; looks = looks + suc k })) same
            (ends_so start looks stop at' tells ended stay
            (or_memory w ended (λ f. f at'.stands.program at'.stands.cut (terms l stop) (clock_at r (looks + 1)) (looks + suc k) (level start looks stop at' tells) refl refl (basis start looks stop at' tells) (direction start looks stop at' tells)) goes)))
            err stays)
