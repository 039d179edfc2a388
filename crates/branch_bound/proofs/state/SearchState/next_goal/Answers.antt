use Rattle.std.proofs.Common.{◌≡◌, inl, inr, ℕ, ◌+◌, ◌<◌, false, Option, None, List, [], ◌∷◌, length, get_or, refl, sym, ◌∙◌, ap, ap₂, subst, arith}
use Rattle.std.proofs.lemmas.List.{get_or-map}
use Rattle.rational.specs.Ratio.{Ratio, negative}
use Rattle.rational.specs.Width.{SumFits}
use Rattle.fraction.specs.Frac.{ratio}
use Rattle.evidence.specs.Instance.{no_goal, minimising}
use Rattle.evidence.specs.Levels.{IsReachedEnd, next_level}
use Rattle.instance.specs.Program.{goal as goal_of, goals, problem}
use Rattle.instance.specs.declared.parts.Goal.{Goal as Own}
use Rattle.certificate.specs.Meanings as Means
use Rattle.certificate.specs.declared.causes.Cause.TheVariants.{Memory}
use Rattle.search_rules.specs.Search.{SearchMoment, To, Out, reached, early, IsNextInSearch}
use Rattle.simplex_rules.specs.Ends.{Clock}
use Rattle.simplex.specs.declared.answer.Turns.{Turns}
use Rattle.simplex_rules.specs.Looks.{looks_after}
use Rattle.branch_bound.specs.declared.found.Found as Best
use Rattle.branch_bound.specs.declared.ended.Ended.{Ended}
use Rattle.branch_bound.specs.Bounds as Kept
use Rattle.branch_bound.specs.Walks.{best, found, waiting}
use Rattle.branch_bound.specs.Levels.{level, moment}
use Rattle.branch_bound.specs.Cases.{terms, clock_at, outcome_of, AnswersSo}
use Rattle.branch_bound.proofs.NextGoal.{goal_is, reached_is, count_is, asks, begun_is, gives_up, kept_fresh}
use Rattle.branch_bound.proofs.CaseSteps.{level_on, level_ends}
use Rattle.branch_bound.proofs.CaseMoments.{come, may_close, gives_up_at}
use Rattle.branch_bound.proofs.state.SearchState.next_goal.Goals as goal
use Rattle.branch_bound.proofs.state.SearchState.next_goal.Goals.{After-index-goals-k}

-- the goal of the level
read_goal : (g : _) (c : After-index-goals-k g) → c.index-goals-k.result ≡ get_or c.args.instance.now.goals c.args.self.now.level.goal c.index-goals-k.result
read_goal g c = c.index-goals-k.is ∙ ap (λ (l : List Own). get_or l c.args.self.now.level.goal c.index-goals-k.result) c.goals-goals.ensures.value

asks_own : (g : _) (c : After-index-goals-k g) → goal_of c.index-goals-k.result ≡ get_or (goals c.args.instance.now.goals) c.args.self.now.level.goal no_goal
asks_own g c =
    let p = c.args.instance.now in
    let k = c.args.self.now.level.goal in
    let l = c.requires.later in
    ap goal_of (read_goal g c) ∙ sym (get_or-map goal_of p.goals k c.index-goals-k.result no_goal (omega arith))

pub ask_next-requires-clause-goal : goal.ask_next-requires-clause-goal
ask_next-requires-clause-goal g c = asks_own g (goal.at.ask_next-requires-clause-goal g c).After-index-goals-k

pub ask_next-requires-clause-costs : goal.ask_next-requires-clause-costs
ask_next-requires-clause-costs g c =
    let p = c.args.instance.now in
    let l = c.requires.later in
    let h : c.args.self.now.level.goal < length p.goals = omega arith in
    let valid = c.goals-goals.ensures.valid in
    ap (λ (o : Own). length o.costs) (read_goal g (goal.at.ask_next-requires-clause-costs g c).After-index-goals-k) ∙ valid.costs c.args.self.now.level.goal c.index-goals-k.result h

-- the level that was asked for begins
pub returns-in-Ok-ask_next-clause-moments : goal.returns-in-Ok-ask_next-clause-moments
returns-in-Ok-ask_next-clause-moments g c = record {
  looks = 0;
  killed = false;
  is = refl;
  came = g.met.W.Watch.stays c.args.watch.now;
  carries = λ start looks stop stands tells.
      let p = c.args.instance.now in
      let r = c.args.self.now.relaxation in
      let v = c.args.self.now.level in
      let w = c.args.self.now.walk in
      let s = c.ask_next.new.relaxation in
      let u = c.ask_next.new.level in
      let x = c.ask_next.new.walk in
      let t = terms c.args.limits stop in
      let here = (goal.at.returns-in-Ok-ask_next-clause-moments g c).After-index-goals-k in
      let (f, is_best, worth) = c.requires.value in
      let L = stands.stands.program in
      let D = stands.stands.cut in
      let at' = stands.stands.at in
      let more = c.requires.later in
      let e = c.in-Ok-ask_next.ensures in
      let K = next_level L (ratio c.in-Ok.end) (get_or (goals p.goals) u.goal no_goal) in
      let own = goal_is p r v w L D at' c.requires.state.walk.width ∙ sym (asks_own g here) in
      let begun = e.begun L D at' in
      let c0 : Clock = clock_at r looks in
      let c1 : Clock = clock_at s (looks + 0) in
      let clock : c1 ≡ c0 = ap₂ (λ (n k : ℕ). record { turns = n; looks = k }) (ap (λ (k : Turns). k.done) e.turns) (omega arith) in
      let end : IsReachedEnd L (reached (level p L v) (found f)) (ratio c.in-Ok.end) = subst (λ (y : Ratio). IsReachedEnd L y (ratio c.in-Ok.end)) (sym (reached_is p r v w L D at' c.requires.state.walk.width f ∙ worth)) (c.in-Ok.ensures.ok L own) in
      let n = moment p K K u x c1 in
      let step = asks p v w L D c0 t f c.requires.closed is_best u.goal e.goal (omega arith) (To n) (inl (ratio c.in-Ok.end, end, ap To (begun_is p K L D v u w x c0 c1 (found f) (begun.begins c1) begun.shown clock (ap best is_best)))) in
      record {
        first = stands.first;
        at = n;
        carried = None ∷ [];
        numbers = None ∷ [];
        comes = level_on (problem p) t (Kept.asked c.args.limits) start (moment p L D v w c0) stands.carried stands.numbers (come p c.args.limits r v w start looks stop stands) (ap (waiting D w) c.requires.closed) n step;
        stands = record { program = K; cut = K; at = begun.at; is = refl };
        kept = kept_fresh p x e.fresh e.carried;
      };
}

-- there is no memory for it
pub returns-in-Err-ask_next-clause-moments : goal.returns-in-Err-ask_next-clause-moments
returns-in-Err-ask_next-clause-moments g c = record {
  looks = 0;
  killed = false;
  is = c.give_up.ensures.killed;
  came = g.met.W.Watch.stays c.args.watch.now;
  carries = λ start looks stop stands tells.
      let p = c.args.instance.now in
      let r = c.args.self.now.relaxation in
      let s = c.ask_next.new.relaxation in
      let u = c.ask_next.new.level in
      let x = c.ask_next.new.walk in
      let t = terms c.args.limits stop in
      let a = Kept.asked c.args.limits in
      let e = c.ask_next.ensures in
      let clock : clock_at s (looks + 0) ≡ clock_at r looks = ap₂ (λ (n k : ℕ). record { turns = n; looks = k }) (ap (λ (k : Turns). k.done) e.turns) (omega arith) in
      subst (λ (y : Ended). AnswersSo p t a start s u c.give_up.new.walk y (clock_at s (looks + 0))) (sym c.give_up.ensures.is)
      (inl (
        refl,
        gives_up (problem p) t a start stands.at stands.carried stands.numbers (early (best x.best) Memory) (clock_at s (looks + 0)) stands.comes
            (ap (λ (b : Option Best.Found). early (best b) Memory) e.best ∙ sym (ap (λ (m : SearchMoment). early m.best Memory) stands.stands.is))
            (clock ∙ sym (ap (λ (m : SearchMoment). m.clock) stands.stands.is)),
      ));
}

-- the end of its row doesn't fit
pub returns-in-Err-clause-moments : goal.returns-in-Err-clause-moments
returns-in-Err-clause-moments g c =
    let q = c.end_is_wide.ensures.next in
    record {
      looks = q.0;
      killed = q.1;
      is = q.2;
      came = q.3;
      carries = λ start looks stop stands tells.
          let p = c.args.instance.now in
          let r = c.args.self.now.relaxation in
          let v = c.args.self.now.level in
          let w = c.args.self.now.walk in
          let t = terms c.args.limits stop in
          let (f, is_best, worth) = c.requires.value in
          let L = stands.stands.program in
          let D = stands.stands.cut in
          let at' = stands.stands.at in
          let c0 : Clock = clock_at r looks in
          let own = goal_is p r v w L D at' c.requires.state.walk.width ∙ sym (asks_own g (goal.at.returns-in-Err-clause-moments g c).After-index-goals-k) in
          let same = reached_is p r v w L D at' c.requires.state.walk.width f ∙ worth in
          let over = c.end_is_wide.ensures.is in
          let after = clock_at r (looks_after looks q.0 q.1) in
          let out = Out (outcome_of (Means.certificates v.certs) c.end_is_wide.result) after in
          let step = asks p v w L D c0 t f c.requires.closed is_best (v.goal + 1) refl c.requires.later out (inr (
            λ fits. c.in-Err.ensures.wide L own (subst (λ (y : Ratio). SumFits (minimising L y) (negative (minimising L L.goal.constant))) same fits),
            q.4 (problem p) (moment p L D v w c0) looks stop (Means.certificates v.certs) refl refl (count_is p r v w L D at' c.requires.state.walk.width c0) tells,
          )) in
          let next = subst (λ (y : Ended). IsNextInSearch (problem p) t (moment p L D v w c0) (Out (outcome_of (Means.certificates v.certs) y) after)) over.1 step in
          gives_up_at p c.args.limits r v w start looks stop stands (may_close p c.args.limits c.args.self.now c.requires.state) r c.end_is_wide.new.walk c.end_is_wide.result over.0 after (λ J F h. h) over.1 c.end_is_wide.ensures.rest
          (level_ends (problem p) t (Kept.asked c.args.limits) start (moment p L D v w c0) stands.carried stands.numbers (come p c.args.limits r v w start looks stop stands) (ap (waiting D w) c.requires.closed) (early (best w.best) over.0) after next);
    }
