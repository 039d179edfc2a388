-- What is claimed of a search that is given up: its bound, where one is asked for.
use Rattle.std.proofs.Common.{◌≡◌, ◌⊎◌, inl, inr, ℕ, Bool, true, false, not, ◌&&◌, Option, None, Some, IfSome, List, [], ◌∷◌, ◌<◌, get_or, length, arith, refl, sym, ◌∙◌, ap, subst}
use Rattle.std.proofs.lemmas.Bool.{false≢true}
use Rattle.fraction.specs.Frac.{ratio, ratios}
use Rattle.fraction.specs.declared.frac.Frac.{Frac}
use Rattle.evidence.specs.Instance.{Instance, Problem}
use Rattle.evidence.specs.Point.{value_at}
use Rattle.evidence.specs.Rounds.{Certificate}
use Rattle.evidence.specs.ProvedBounds as Says
use Rattle.evidence.proofs.Columns.{by_eq}
use Rattle.instance.specs.Parts.{Parts}
use Rattle.instance.specs.Program.{program, problem}
use Rattle.instance.proofs.Numbers.{problem-numbers}
use Rattle.certificate.specs.Meanings as Means
use Rattle.certificate.specs.declared.causes.Cause.{Cause}
use Rattle.certificate.specs.declared.causes.Cause.TheVariants.{Killed, NodeLimit, TurnLimit, Gap, TimeLimit, Wide, Length, Memory}
use Rattle.certificate.specs.declared.claims.ProvedBound.{ProvedBound}
use Rattle.certificate.specs.declared.nodes.Cert.{Cert}
use Rattle.cert_checker.specs.Programs.{with_rows}
use Rattle.cert_checker.proofs.HandRows.{rows_goal}
use Rattle.simplex_rules.specs.Ends.{Terms, Clock}
use Rattle.search_rules.specs.Branching.{Case}
use Rattle.search_rules.specs.Search.{Found, SearchMoment, Outcome, early}
use Rattle.search_rules.specs.Bounds as Rules
use Rattle.search_rules.specs.Asked.{Asked, FindsBound, FindsAsked, IsAskedAnswer, asked, gave_up_closing}
use Rattle.search_rules.proofs.OpenBounds.{AllCarry}
use Rattle.search_rules.proofs.AskedCases.{carry}
use Rattle.no_cycles.proofs.OneCaseSearches.{early_is}
use Rattle.branch_bound.specs.declared.found.Found as Best
use Rattle.branch_bound.specs.declared.ended.Ended.{Ended}
use Rattle.branch_bound.specs.declared.ended.Ended.TheVariants.{Early}
use Rattle.branch_bound.specs.declared.level.Level.{Level}
use Rattle.branch_bound.specs.declared.relaxation.Relaxation.{Relaxation}
use Rattle.branch_bound.specs.declared.walk.Walk.{Walk}
use Rattle.branch_bound.specs.Claims.{TellsStop, cause_of, is_kill, is_want}
use Rattle.branch_bound.specs.Walks.{found, best, waiting, IsWalk}
use Rattle.branch_bound.specs.Levels.{moment}
use Rattle.branch_bound.specs.Bounds.{AllBound, HasCarried, FindsBoundAt, ReachesBound, carried}
use Rattle.branch_bound.specs.Cases.{HaveValues, EndsIn, AnswersSo}
use Rattle.branch_bound.proofs.AnyRay.{alike_bound, waiting_alike, finds_alike}

-- memory was wanting, or not
pub want_is : (k : Cause) → is_want k ≡ true → k ≡ Memory
want_is Killed e = absurd (false≢true e)
want_is (NodeLimit n) e = absurd (false≢true e)
want_is (TurnLimit n) e = absurd (false≢true e)
want_is Gap e = absurd (false≢true e)
want_is (TimeLimit x) e = absurd (false≢true e)
want_is (Wide p) e = absurd (false≢true e)
want_is Length e = absurd (false≢true e)
want_is Memory e = refl

pub other_cause : (k : Cause) → is_want k ≡ false → k ≡ Memory → ⊥
other_cause k e is = false≢true (sym e ∙ ap is_want is)

-- a bound is told, or not
pub is_told : (asks : Bool) (k : Cause) → asks && not (is_want k) ≡ true → (asks ≡ true) × (k ≡ Memory → ⊥)
is_told asks k e = by asks (is_want k) refl refl e
  where
    by : (a w : Bool) → asks ≡ a → is_want k ≡ w → a && not w ≡ true → (asks ≡ true) × (k ≡ Memory → ⊥)
    by true true p q e = absurd (false≢true e)
    by true false p q e = (p, other_cause k q)
    by false w p q e = absurd (false≢true e)

pub not_told : (asks : Bool) (k : Cause) → asks && not (is_want k) ≡ false → (asks ≡ false) ⊎ (k ≡ Memory)
not_told asks k e = by asks (is_want k) refl refl e
  where
    by : (a w : Bool) → asks ≡ a → is_want k ≡ w → a && not w ≡ false → (asks ≡ false) ⊎ (k ≡ Memory)
    by true true p q e = inr (want_is k q)
    by true false p q e = absurd (false≢true (sym e))
    by false w p q e = inl p

-- a cause that is told is the search's own
pub told_stop : (asks : Bool) (b : Option Found) (k : Cause) → TellsStop asks (is_kill k) (early b k)
told_stop asks b k = inl (sym (early_is is_kill b k))

-- or want of memory, where a bound is asked for
cause_early : (b : Option Found) (k : Cause) → cause_of (early b k) ≡ Some k
cause_early None k = refl
cause_early (Some f) k = refl

pub told_want : (b : Option Found) (killed : Bool) → TellsStop true killed (early b Memory)
told_want b true = inr (refl, refl, cause_early b Memory)
told_want b false = inl (sym (early_is is_kill b Memory))

-- the multipliers of cases that they bound may be theirs
bound_all : (Cs : List Case) (ks : List Rules.Carried) → AllCarry Cs ks → AllBound Cs ks
bound_all [] [] a = tt
bound_all [] (k ∷ ks) a = absurd a
bound_all (C ∷ Cs) [] a = absurd a
bound_all (C ∷ Cs) (None ∷ ks) a = (tt, bound_all Cs ks a.1)
bound_all (C ∷ Cs) (Some ms ∷ ks) a = let here = a.0 in (here.legal, bound_all Cs ks a.1)

no_ray : (o : Option ℕ) → IfSome o (λ d. Unit {0})
no_ray None = tt
no_ray (Some d) = tt

-- of an outcome that is given up the bound is found
finds_early : (P : Problem) (m : SearchMoment) (ks : List Rules.Carried) (f : Option Found) (k : Cause) (b : Option Says.ProvedBound) → FindsBound P m ks b → FindsAsked P true m ks (early f k) b
finds_early P m ks None k b h = h
finds_early P m ks (Some f) k b h = h

some_shown : (cs : List Cert) (n : ℕ) → length cs ≡ n → (n ≡ 0 → ⊥) → Means.certificates cs ≡ [] → ⊥
some_shown [] n is some e = some (sym is)
some_shown (c ∷ cs) n is some e = absurd (cc)

first_shown : (cs : List Cert) (x : Cert) → (cs ≡ [] → ⊥) → x ≡ get_or cs 0 x → (others : List Certificate) × (Means.certificates cs ≡ Means.certificate x ∷ others)
first_shown [] x some is = absurd (some refl)
first_shown (c ∷ cs) x some is = (Means.certificates cs, ap (λ (y : Cert). Means.certificate y ∷ Means.certificates cs) (sym is))

first_value : (vs : List Frac) (x : Frac) → 0 < length vs → x ≡ get_or vs 0 x → ratio x ≡ value_at (ratios vs) 0
first_value [] x some is = absurd (omega arith)
first_value (v ∷ vs) x some is = ap ratio is

module _ {L : _} {G : _} (p : Parts) (t : Terms) (a : Asked) (start : Option Found) (r : Relaxation L G) (v : Level) (w : Walk) (o : Outcome) (b : Option Best.Found) (c : Clock) (e : EndsIn p t a start r v w o b c) where
  abbrev P : Problem
  P = problem p

  abbrev I : Instance
  I = with_rows (program p) r.rows.items

  abbrev m : SearchMoment
  m = e.last.at

  abbrev D : Instance
  D = e.last.stands.cut

  abbrev old : Walk
  old = record w { best = b; ray = e.old_ray }

  abbrev closing : Walk
  closing = record w { ray = None }

  best_is : m.best ≡ best b
  best_is = ap (λ (n : SearchMoment). n.best) e.last.stands.is

  pub closing_walk : IsWalk (length p.vars) closing
  closing_walk = let h = e.ready.walk in record { width = h.width; room = h.room; above = h.above; ray = no_ray w.next }

  pub closing_carried : HasCarried closing
  closing_carried = e.ready.carried

  pub closing_values : HaveValues p b
  closing_values = e.ready.values

  pub closing_shown : length v.certs ≡ v.goal
  closing_shown = e.last.stands.at.shown

  -- for want of memory
  pub want_answer : a.bound ≡ true → IsAskedAnswer P t a start (early (best b) Memory) None c
  want_answer asks = subst (λ (f : Option Found). IsAskedAnswer P t a start (early f Memory) None c) best_is (gave_up_closing asks e.last.comes e.ends)

  -- where no bound is asked for
  pub plain_answer : a.bound ≡ false → IsAskedAnswer P t a start o None c
  plain_answer unasked = asked (record { last = m; carried = e.last.carried; numbers = e.last.numbers; comes = e.last.comes; ends = e.ends; has = subst (λ (asks : Bool). FindsAsked P asks m e.last.carried o None) (sym unasked) refl })

  module _ (asks : a.bound ≡ true) where
    pub closing_keeps : closing.keeps ≡ true
    closing_keeps = e.ready.keeps asks

    carried_is : e.last.carried ≡ carried closing
    carried_is = let k = e.last.kept closing_keeps in k.0

    -- at the first goal, the open cases
    module _ (zero : v.goal ≡ 0) where
      program_is : D ≡ I
      program_is = e.last.stands.at.first zero

      pub closing_bounds : AllBound (waiting I closing closing.next) (carried closing)
      closing_bounds =
          let all = bound_all m.waiting e.last.carried (carry P t a (problem-numbers p) e.last.first.0 start e.last.first.1 m e.last.carried e.last.numbers e.last.comes) in
          let there : AllBound (waiting D old old.next) e.last.carried = subst (λ (n : SearchMoment). AllBound n.waiting e.last.carried) e.last.stands.is all in
          let here : AllBound (waiting I old old.next) e.last.carried = subst (λ (J : Instance). AllBound (waiting J old old.next) e.last.carried) program_is there in
          subst (λ (ks : List Rules.Carried). AllBound (waiting I closing closing.next) ks) carried_is (alike_bound (waiting I old old.next) (waiting I closing closing.next) e.last.carried (waiting_alike I w.cuts.items w.branches.items e.old_ray None w.next) here)

      finds_first : (d : Option ProvedBound) → FindsBoundAt p v closing r.rows.items b d → FindsBound P m e.last.carried (Means.bound d)
      finds_first d f =
          let K = e.last.stands.program in
          let asks_goal : K.goal ≡ (program p).goal = e.last.stands.at.level_goal ∙ ap (λ (J : Instance). J.goal) program_is ∙ rows_goal (program p) r.rows.items in
          let there = f K e.before zero asks_goal in
          let own : FindsBound P (moment p K I v old e.before) (carried closing) (Means.bound d) =
          finds_alike P (moment p K I v (record closing { best = b }) e.before) (waiting I old old.next) (waiting_alike I w.cuts.items w.branches.items None e.old_ray w.next) (waiting_alike I w.cuts.items w.branches.items e.old_ray None w.next) (carried closing) (Means.bound d) there in
          let here : FindsBound P (moment p K D v old e.before) (carried closing) (Means.bound d) = subst (λ (J : Instance). FindsBound P (moment p K J v old e.before) (carried closing) (Means.bound d)) (sym program_is) own in
          subst (λ (n : SearchMoment). FindsBound P n e.last.carried (Means.bound d)) (sym e.last.stands.is) (subst (λ (ks : List Rules.Carried). FindsBound P (moment p K D v old e.before) ks (Means.bound d)) (sym carried_is) here)

  -- on a later level, the value that the first one reached
  module _ (later : v.goal ≡ 0 → ⊥) where
    never_first : m.level.shown ≡ [] → ⊥
    never_first is = some_shown v.certs v.goal closing_shown later (sym (ap (λ (n : SearchMoment). n.level.shown) e.last.stands.is) ∙ is)

    none_there : (x : Says.ProvedBound) → b ≡ None → Rules.IsBoundOf P m e.last.carried x → ⊥
    none_there x is (inl q) = never_first q.first_level
    none_there x is (inr q) = let l : Some q.found ≡ None = sym q.best ∙ best_is ∙ ap best is in absurd (cc)

    finds_later : 0 < length p.goals → (d : Option ProvedBound) → ReachesBound v b d → FindsBound P m e.last.carried (Means.bound d)
    finds_later some d h = by b d refl h
      where
        by : (f : Option Best.Found) (d : Option ProvedBound) → b ≡ f → ReachesBound v f d → FindsBound P m e.last.carried (Means.bound d)
        by None None is h = λ x found_so fit. none_there x is found_so
        by None (Some d) is h = absurd (cc)
        by (Some f) None is h = absurd h
        by (Some f) (Some d) is h =
            let first = first_shown v.certs d.cert (λ none. never_first (ap (λ (n : SearchMoment). n.level.shown) e.last.stands.is ∙ ap Means.certificates none)) h.1 in
            let long = closing_values f is in (
              inr (record {
                found = found f;
                best = best_is ∙ ap best is;
                others = first.0;
                shown = ap (λ (n : SearchMoment). n.level.shown) e.last.stands.is ∙ first.1;
                value = first_value f.values d.number (omega arith) h.0;
              }),
              λ mss g first. absurd (never_first first),
            )

-- how a search that ended so is answered, for this cause
module _ {L : _} {G : _} (p : Parts) (a : Asked) (r : Relaxation L G) (v : Level) (w : Walk) (b : Option Best.Found) (k : Cause) where
  abbrev Q : Problem
  Q = problem p

  pub without_bound : (a.bound ≡ false) ⊎ (k ≡ Memory) → (t : Terms) (start : Option Found) (c : Clock) → AnswersSo p t a start r v w (Early b k) c → IsAskedAnswer Q t a start (early (best b) k) None c
  without_bound why t start c (inl (is, answer)) = subst (λ (k : Cause). IsAskedAnswer Q t a start (early (best b) k) None c) (sym is) answer
  without_bound (inl unasked) t start c (inr e) = plain_answer p t a start r v w (early (best b) k) b c e unasked
  without_bound (inr is) t start c (inr e) = by a.bound refl
    where
      by : (asks : Bool) → a.bound ≡ asks → IsAskedAnswer Q t a start (early (best b) k) None c
      by true asks = subst (λ (k : Cause). IsAskedAnswer Q t a start (early (best b) k) None c) (sym is) (want_answer p t a start r v w (early (best b) k) b c e asks)
      by false unasked = plain_answer p t a start r v w (early (best b) k) b c e unasked

  -- there is such an end
  pub an_end : (ended : Ended) → ended ≡ Early b k → (k ≡ Memory → ⊥) → (t : Terms) × (start : Option Found) × (c : Clock) × AnswersSo p t a start r v w ended c → (t : Terms) × (start : Option Found) × (c : Clock) × EndsIn p t a start r v w (early (best b) k) b c
  an_end ended is other (t, start, c, answer) = (t, start, c, by (subst (λ (e : Ended). AnswersSo p t a start r v w e c) is answer))
    where
      by : AnswersSo p t a start r v w (Early b k) c → EndsIn p t a start r v w (early (best b) k) b c
      by (inl (is, answer)) = absurd (other is)
      by (inr e) = e

  module _ (asks : a.bound ≡ true) where
    pub wanting : (t : Terms) (start : Option Found) (c : Clock) → AnswersSo p t a start r v w (Early b k) c → IsAskedAnswer Q t a start (early (best b) Memory) None c
    wanting t start c (inl (is, answer)) = answer
    wanting t start c (inr e) = want_answer p t a start r v w (early (best b) k) b c e asks

    pub with_bound : (k ≡ Memory → ⊥) → 0 < length p.goals → (d : Option ProvedBound) → (v.goal ≡ 0 → FindsBoundAt p v (record w { ray = None }) r.rows.items b d) → ((v.goal ≡ 0 → ⊥) → ReachesBound v b d)
        → (t : Terms) (start : Option Found) (c : Clock) → AnswersSo p t a start r v w (Early b k) c → IsAskedAnswer Q t a start (early (best b) k) (Means.bound d) c
    with_bound other some d first later t start c (inl (is, answer)) = absurd (other is)
    with_bound other some d first later t start c (inr e) =
        asked (record {
          last = e.last.at;
          carried = e.last.carried;
          numbers = e.last.numbers;
          comes = e.last.comes;
          ends = e.ends;
          has = subst (λ (asks : Bool). FindsAsked Q asks e.last.at e.last.carried (early (best b) k) (Means.bound d)) (sym asks) (finds_early Q e.last.at e.last.carried (best b) k (Means.bound d) found_so);
        })
      where
        found_so : FindsBound Q e.last.at e.last.carried (Means.bound d)
        found_so =
            by_eq v.goal 0
            (λ zero. finds_first p t a start r v w (early (best b) k) b c e asks zero d (first zero))
            (λ past. finds_later p t a start r v w (early (best b) k) b c e past some d (later past))
