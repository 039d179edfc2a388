-- One case of a search is its next step.
use Rattle.std.proofs.Common.{◌≡◌, ℕ, suc, ◌+◌, ◌<◌, ◌≤◌, inl, inr, Bool, true, false, Option, None, Some, Result, Ok, Err, IfOk, IfErr, List, [], ◌∷◌, ◌++◌, map, length, arith, refl, sym, ◌∙◌, ap, subst}
use Rattle.std.specs.Option.{is_some}
use Rattle.rational.specs.Ratio.{Ratio}
use Rattle.evidence.specs.Instance.{Instance, IsInstance, Problem}
use Rattle.certificate.specs.declared.causes.Cause.TheVariants.{Killed, NodeLimit, Gap, Memory}
use Rattle.instance.specs.Parts.{Parts}
use Rattle.simplex_rules.specs.Ends.{Terms, Clock, End, Endless, Stopped}
use Rattle.simplex_rules.specs.Runs.{Run, looked_once}
use Rattle.simplex_rules.specs.Looks.{IsAfter}
use Rattle.simplex_rules.proofs.Moments.{run_true}
use Rattle.simplex.specs.declared.answer.LpEnd.{LpEnd}
use Rattle.simplex.specs.declared.answer.LpEnd.TheVariants as Has
use Rattle.simplex.specs.declared.work.Work.{Work}
use Rattle.simplex.specs.Answers.{was_stopped}
use Rattle.simplex.specs.Memory.{ended_with}
use Rattle.simplex.proofs.Looks.{after_less, tells_less, after_more}
use Rattle.case_tree.specs.declared.cuts.Cut.{Cut}
use Rattle.case_tree.specs.Cuts.{cut}
use Rattle.cert_checker.proofs.Widths.{cut-instance}
use Rattle.search_rules.specs.Branching.{Case}
use Rattle.search_rules.specs.Search.{SearchMoment, Outcome, To, Out, NextOfSearch, GoesFrom, IsCaseRun, IsVisit, IsNextInSearch, Found, early, nodes_so_far}
use Rattle.search_rules.specs.Bounds.{Carried, carried_after}
use Rattle.search_rules.specs.Gaps as gaps
use Rattle.search_rules.specs.Gaps.{number_after, IsNearEnough}
use Rattle.search_rules.specs.Asked.{Asked, FindsAsked, StopsNear, EndsAsked, near, ends, ComesAsked, asked_on, asked_level, IsAskedAnswer, asked, gave_up_after}
use Rattle.search_rules.proofs.OpenBounds.{goes_part}
use Rattle.search_rules.proofs.AskedCounts.{as_many}
use Rattle.branch_bound.specs.declared.ended.Ended.{Ended}
use Rattle.branch_bound.specs.declared.level.Level.{Level}
use Rattle.branch_bound.specs.declared.limits.Limits.{Limits}
use Rattle.branch_bound.specs.declared.relaxation.Relaxation.{Relaxation}
use Rattle.branch_bound.specs.declared.walk.Walk.{Walk}
use Rattle.branch_bound.specs.Bounds as Kept
use Rattle.branch_bound.specs.Cases.{terms, was_killed, is_killed_by, StandsIn, AnswersSo, ComesThrough, CarriesOn, clock_at}
use Rattle.branch_bound.proofs.OpenBounds.{empty_list}

not_now : (looks k : ℕ) (stop : Option ℕ) → IsAfter (looks + suc k) stop → stop ≡ Some (looks + 1) → ⊥
not_now looks k None a e = cc
not_now looks k (Some q) a e = let p : q ≡ looks + 1 = cc in omega arith

not_yet : (looks k : ℕ) (stop : Option ℕ) → stop ≡ Some (looks + suc k + 1) → stop ≡ Some (looks + 1) → ⊥
not_yet looks k stop a e = let p : looks + suc k + 1 ≡ looks + 1 = some_is (sym a ∙ e) in omega arith
  where
    some_is : {x y : ℕ} → Some x ≡ Some y → x ≡ y
    some_is e = cc

pub after_one : (looks k : ℕ) (stop : Option ℕ) → IsAfter (looks + suc k) stop → IsAfter (looks + 1 + k) stop
after_one looks k None a = tt
after_one looks k (Some q) a = omega arith

abbrev pub clock_of : ℕ → ℕ → Clock
clock_of turns looks = record { turns = turns; looks = looks }

-- a search has come to a moment, where this is carried and numbered
module _ (P : Problem) (t : Terms) (a : Asked) (start : Option Found) (m : SearchMoment) (ls : List Carried) (ys : List (Option Ratio)) (comes : ComesAsked P t a start m ls ys) where
  -- what ends there is an answer, where no bound is found
  pub answered : (o : Outcome) (c : Clock) → FindsAsked P true m ls o None → EndsAsked P t a m ys o c → IsAskedAnswer P t a start o None c
  answered o c none e = asked (record { last = m; carried = ls; numbers = ys; comes = comes; ends = e; has = by a.bound })
    where
      by : (b : Bool) → FindsAsked P b m ls o None
      by true = none
      by false = refl

  -- where no case waits nothing is near
  module _ (none : m.waiting ≡ []) where
    nothing_numbered : ys ≡ []
    nothing_numbered = let n = as_many P t a start m ls ys comes in empty_list ys (n.1 ∙ ap (λ (Cs : List Case). length Cs) none)

    pub never_near : StopsNear P t a m ys → ⊥
    never_near s = by a.gap (subst (λ (l : List (Option Ratio)). IsNearEnough P a.gap m l) nothing_numbered s.near)
      where
        by : (g : Option gaps.Gap) → IsNearEnough P g m [] → ⊥
        by None h = h
        by (Some g) h = h.some refl

    pub level_ends : (o : Outcome) (c : Clock) → IsNextInSearch P t m (Out o c) → EndsAsked P t a m ys o c
    level_ends o c next = ends never_near next

    pub level_on : (n : SearchMoment) → IsNextInSearch P t m (To n) → ComesAsked P t a start n (None ∷ []) (None ∷ [])
    level_on n next =
        let both = as_many P t a start m ls ys comes in
        let nothing = empty_list ls (both.0 ∙ ap (λ (Cs : List Case). length Cs) none) in
        asked_level (subst (λ (l : List Carried). ComesAsked P t a start m l []) nothing (subst (λ (l : List (Option Ratio)). ComesAsked P t a start m ls l) nothing_numbered comes)) none next

-- at which a case waits
module _ (P : Problem) (t : Terms) (a : Asked) (start : Option Found) (m : SearchMoment) (ls : List Carried) (ys : List (Option Ratio)) (comes : ComesAsked P t a start m ls ys) (C : Case) (rest : List Case) (is : m.waiting ≡ C ∷ rest) where
  open_case : m.waiting ≡ [] → ⊥
  open_case e = let q : C ∷ rest ≡ [] = sym is ∙ e in cc

  pub at_limit : (o : Outcome) → t.nodes ≤ nodes_so_far m → o ≡ early m.best (NodeLimit t.nodes) → EndsAsked P t a m ys o (clock_of m.clock.turns (m.clock.looks + 0))
  at_limit o h e =
      let l : m.clock.looks + 0 ≡ m.clock.looks = omega arith in
      ends (λ s. let w = s.within in omega arith) (inr (inl (open_case, inl (h, ap (λ n. Out o (clock_of m.clock.turns n)) l ∙ ap (λ (o : Outcome). Out o m.clock) e))))

  pub at_near : (o : Outcome) → StopsNear P t a m ys → o ≡ early m.best Gap → EndsAsked P t a m ys o (clock_of m.clock.turns (m.clock.looks + 0))
  at_near o s e =
      let l : m.clock.looks ≡ m.clock.looks + 0 = omega arith in
      subst (λ (n : ℕ). EndsAsked P t a m ys o (clock_of m.clock.turns n)) l (subst (λ (q : Outcome). EndsAsked P t a m ys q m.clock) (sym e) (near s))

  module _ (within : nodes_so_far m < t.nodes) (far : StopsNear P t a m ys → ⊥) where
    pub at_look : (o : Outcome) → t.stop ≡ Some (m.clock.looks + 0 + 1) → o ≡ early m.best Killed → EndsAsked P t a m ys o (clock_of m.clock.turns (m.clock.looks + 0 + 1))
    at_look o s e =
        let l : m.clock.looks + 0 + 1 ≡ m.clock.looks + 1 = omega arith in
        ends far (inr (inl (open_case, inr (within, s ∙ ap Some l, ap (λ n. Out o (clock_of m.clock.turns n)) l ∙ ap (λ (o : Outcome). Out o (looked_once m.clock)) e))))

    -- its run, whose first look is that before it, among k more
    module _ (zeroed : Bool) (z : is_some C.ray ≡ zeroed) (turns k : ℕ) where
      case_run : (e : End) (n : ℕ) → (t.stop ≡ Some (m.clock.looks + 1) → ⊥) → (l : ℕ) → l ≡ n → Run C.program zeroed t (looked_once m.clock) e (clock_of turns l) → IsCaseRun P t m e (clock_of turns n)
      case_run e n goes l same run = record {
        case = C;
        rest = rest;
        is = is;
        begins = record { within = within; goes_on = goes };
        run = subst (λ (i : ℕ). Run C.program (is_some C.ray) t (looked_once m.clock) e (clock_of turns i)) same
            (subst (λ (b : Bool). Run C.program b t (looked_once m.clock) e (clock_of turns l)) (sym z) run);
      }

      pub stopped_run : (o : Outcome) → t.stop ≡ Some (m.clock.looks + suc k + 1) → Run C.program zeroed t (looked_once m.clock) Stopped (clock_of turns (m.clock.looks + 1 + k + 1)) → o ≡ early m.best Killed → EndsAsked P t a m ys o (clock_of turns (m.clock.looks + suc k + 1))
      stopped_run o stop run told =
          ends far (inr (inr (record {
            end = Stopped;
            clock = clock_of turns (m.clock.looks + suc k + 1);
            visit = case_run Stopped (m.clock.looks + suc k + 1) (not_yet m.clock.looks k t.stop stop) (m.clock.looks + 1 + k + 1) (omega arith) run;
            goes = ap (λ (o : Outcome). Out o (clock_of turns (m.clock.looks + suc k + 1))) told;
          })))

      -- which didn't stop
      module _ (e : End) (after : IsAfter (m.clock.looks + suc k) t.stop) (run : Run C.program zeroed t (looked_once m.clock) e (clock_of turns (m.clock.looks + 1 + k))) where
        abbrev clock : Clock
        clock = clock_of turns (m.clock.looks + suc k)

        visited : IsCaseRun P t m e (clock_of turns (m.clock.looks + suc k))
        visited = case_run e (m.clock.looks + suc k) (not_now m.clock.looks k t.stop after) (m.clock.looks + 1 + k) (omega arith) run

        visit_on : (next : NextOfSearch) → GoesFrom P t C rest (record m { clock = clock }) (looked_once m.clock) e next → IsVisit P t m next
        unfolding visited case_run
        visit_on next goes = record { end = e; clock = clock; visit = visited; goes = goes }

        pub lacks_memory : IsAskedAnswer P t a start (early m.best Memory) None clock
        lacks_memory = gave_up_after comes visited

        pub run_ends : (o : Outcome) → GoesFrom P t C rest (record m { clock = clock }) (looked_once m.clock) e (Out o clock) → EndsAsked P t a m ys o clock
        run_ends o goes = ends far (inr (inr (visit_on (Out o clock) goes)))

        -- the cases that come in its place carry what the run leaves
        module _ (n : SearchMoment) (goes : GoesFrom P t C rest (record m { clock = clock }) (looked_once m.clock) e (To n)) where
          abbrev pub new : List Case
          new = (goes_part P t C rest (record m { clock = clock }) (looked_once m.clock) e n goes).new

          pub new_is : n.waiting ≡ new ++ rest
          new_is = (goes_part P t C rest (record m { clock = clock }) (looked_once m.clock) e n goes).is

          pub comes_on : (k : Carried) (ks : List Carried) (x : Option Ratio) (xs : List (Option Ratio)) → ls ≡ k ∷ ks → ys ≡ x ∷ xs → ComesAsked P t a start n (map (λ (D : Case). carried_after C.ray e k) new ++ ks) (map (λ (D : Case). number_after C.ray e x) new ++ xs)
          unfolding visit_on visited case_run
          comes_on k ks x xs carried_is numbers_are =
              asked_on
              (subst (λ (l : List Carried). ComesAsked P t a start m l (x ∷ xs)) carried_is (subst (λ (l : List (Option Ratio)). ComesAsked P t a start m ls l) numbers_are comes))
              (λ s. far (record { within = s.within; near = subst (λ (l : List (Option Ratio)). IsNearEnough P a.gap m l) (sym numbers_are) s.near }))
              (visit_on (To n) goes) new new_is

pub stopped_is : {L : _} {G : _} (e : LpEnd) (w : Work L G) → was_stopped e ≡ true → ended_with e w ≡ Stopped
stopped_is (Has.Best b) w h = absurd (cc)
stopped_is (Has.Clash c) w h = absurd (cc)
stopped_is Has.Empty w h = absurd (cc)
stopped_is Has.Endless w h = absurd (cc)
stopped_is Has.TurnLimit w h = absurd (cc)
stopped_is (Has.Wide s) w h = absurd (cc)
stopped_is Has.Stopped w h = refl

pub not_killed : (r : Result (Unit {0}) Ended) → IfErr r (λ ended. was_killed ended ≡ false) → is_killed_by r ≡ false
not_killed (Ok x) h = refl
not_killed (Err ended) h = h

-- a run with the goal zero finds no direction
pub never_endless : (D : Instance) (cs : List Cut) (zeroed : Bool) (t : Terms) (c d : Clock) (x r : List Ratio) → IsInstance D → Run (cut D cs) zeroed t c (Endless x r) d → zeroed ≡ false
never_endless D cs zeroed t c d x r good run = let s = run_true (cut D cs) zeroed t c (Endless x r) d (cut-instance D good cs) run in s.0

-- the code goes on from each moment at which it stands
module _ {L : _} {G : _} (p : Parts) (l : Limits) where
  -- what comes of the end of a case's run
  pub comes_through : (t : Terms) (a : Asked) (start : Option Found) (s : Relaxation L G) (u : Level) (x : Walk) (c : Clock) (result : Result (Unit {0}) Ended) → IfOk result (λ _. StandsIn p t a start s u x c) → IfErr result (λ ended. AnswersSo p t a start s u x ended c) → ComesThrough p t a start s u x c result
  comes_through t a start s u x c (Ok y) f h = f
  comes_through t a start s u x c (Err ended) f h = h

  -- and goes on from there
  pub carried : (r : Relaxation L G) (v : Level) (w : Walk) (q : Relaxation L G) (y : Level) (z : Walk) (s : Relaxation L G) (u : Level) (x : Walk) (n k : ℕ) (b : Bool) (a : Unit {0}) (result : Result (Unit {0}) Ended) → CarriesOn p l r v w q y z n false (Ok a) → CarriesOn p l q y z s u x k b result → CarriesOn p l r v w s u x (n + k) b result
  carried r v w q y z s u x n k b a result first second = λ start looks stop at tells.
      subst (λ (i : ℕ). ComesThrough p (terms l stop) (Kept.asked l) start s u x (clock_at s i) result) (after_more looks n k b)
      (second start (looks + n) stop (first start looks stop at (after_less looks n k b stop tells)) (tells_less looks n k b stop tells))

  -- or stays where it was
  pub carried_none : (r : Relaxation L G) (v : Level) (w : Walk) (a : Unit {0}) → CarriesOn p l r v w r v w 0 false (Ok a)
  carried_none r v w a = λ start looks stop at tells. subst (λ (i : ℕ). StandsIn p (terms l stop) (Kept.asked l) start r v w (clock_at r i)) (omega arith) at
