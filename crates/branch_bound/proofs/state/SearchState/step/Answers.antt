use Rattle.std.proofs.Common.{rules, ◌≡◌, suc, ◌+◌, ◌<◌, ◌≤◌, true, false, [], ◌∷◌, ◌++◌, length, sym, ◌∙◌, ap, subst}
use Rattle.std.proofs.lemmas.Bool.{false≢true}
use Rattle.simplex.specs.Answers.{was_stopped}
use Rattle.simplex.specs.Memory.{ended_with}
use Rattle.simplex.specs.declared.answer.Turns.{Turns}
use Rattle.simplex_rules.specs.Ends as Ended
use Rattle.simplex_rules.specs.Looks.{went_on}
use Rattle.branch_bound.proofs.Ready.{walk_at, if_ok₃, further_within}
use Rattle.branch_bound.proofs.CaseSteps.{stopped_is, not_killed}
use Rattle.branch_bound.proofs.CaseMoments.{may_close, limit_carries, near_carries, look_carries, stop_carries, ran_to, visit_carries}
use Rattle.branch_bound.proofs.state.SearchState.step.Goals as goal

pub returns-then-self-len-clause-moments : goal.returns-then-self-len-clause-moments
returns-then-self-len-clause-moments g c =
    let a = c.args in
    let s = a.self.now in
    let at = walk_at (length a.instance.now.vars) a.depth s.walk c.requires.state.walk c.requires.at in
    let low : a.limits.nodes ≤ s.level.before + length s.walk.nodes = search rules in
    record {
      looks = 0;
      killed = false;
      is = c.give_up.ensures.killed;
      came = g.met.W.Watch.stays a.watch.now;
      carries = limit_carries a.instance.now a.limits s.relaxation s.level s.walk a.depth at (may_close a.instance.now a.limits s c.requires.state) c.give_up.new.walk c.give_up.result c.give_up.ensures.is c.give_up.ensures.rest low;
    }

pub returns-then-is_near-clause-moments : goal.returns-then-is_near-clause-moments
returns-then-is_near-clause-moments g c =
    let a = c.args in
    let s = a.self.now in
    let at = walk_at (length a.instance.now.vars) a.depth s.walk c.requires.state.walk c.requires.at in
    let low : s.level.before + length s.walk.nodes < a.limits.nodes = search rules in
    record {
      looks = 0;
      killed = false;
      is = c.give_up-then-is_near.ensures.killed;
      came = g.met.W.Watch.stays a.watch.now;
      carries = near_carries a.instance.now a.limits s.relaxation s.level s.walk a.depth at (may_close a.instance.now a.limits s c.requires.state) c.give_up-then-is_near.new.walk c.give_up-then-is_near.result c.requires.state.keeps low c.give_up-then-is_near.ensures.is c.give_up-then-is_near.ensures.rest
          (λ K D k shown. let h = c.is_near.ensures K D k shown in h.0 c.if-is_near.true);
    }

pub returns-then-look-clause-moments : goal.returns-then-look-clause-moments
returns-then-look-clause-moments g c =
    let a = c.args in
    let s = a.self.now in
    let at = walk_at (length a.instance.now.vars) a.depth s.walk c.requires.state.walk c.requires.at in
    let low : s.level.before + length s.walk.nodes < a.limits.nodes = search rules in
    record {
      looks = 0;
      killed = true;
      is = c.give_up-then-look.ensures.killed;
      came = subst (λ b. g.W.Watch.came a.watch.now c.look.new.watch (b ∷ [])) c.if-look.true c.look.ensures.came;
      carries = look_carries a.instance.now a.limits s.relaxation s.level s.walk a.depth at (may_close a.instance.now a.limits s c.requires.state) c.give_up-then-look.new.walk c.give_up-then-look.result c.requires.state.keeps low
          (λ K D k shown near. let h = c.is_near.ensures K D k shown in false≢true (sym c.if-is_near.false ∙ h.1 near)) c.give_up-then-look.ensures.is c.give_up-then-look.ensures.rest;
    }

pub returns-then-is_stop-clause-moments : goal.returns-then-is_stop-clause-moments
returns-then-is_stop-clause-moments g c =
    let a = c.args in
    let s = a.self.now in
    let at = walk_at (length a.instance.now.vars) a.depth s.walk c.requires.state.walk c.requires.at in
    let r = c.run_case-end.new.relaxation in
    let low : s.level.before + length s.walk.nodes < a.limits.nodes = search rules in
    let first = subst (λ b. g.W.Watch.came a.watch.now c.look.new.watch (b ∷ [])) c.if-look.false c.look.ensures.came in
    let on : was_stopped c.run_case-end.result ≡ true = sym c.is_stop.ensures ∙ c.if-is_stop.true in
    let is : ended_with c.run_case-end.result r.work ≡ Ended.Stopped = stopped_is c.run_case-end.result r.work on in
    let (k, came, run) = rw (on, is, c.as_slice.ensures.value) at c.run_case-end.ensures.run in
    record {
      looks = suc k;
      killed = true;
      is = c.give_up-then-is_stop.ensures.killed;
      came = g.met.W.Watch.joined a.watch.now c.look.new.watch c.run_case-end.new.watch (false ∷ []) (went_on k ++ true ∷ []) first came;
      carries = stop_carries a.instance.now a.limits s.relaxation s.level s.walk a.depth at (may_close a.instance.now a.limits s c.requires.state) c.give_up-then-is_stop.new.walk c.give_up-then-is_stop.result c.requires.state.keeps low
          (λ K D k shown near. let h = c.is_near.ensures K D k shown in false≢true (sym c.if-is_near.false ∙ h.1 near)) c.give_up-then-is_stop.ensures.is c.give_up-then-is_stop.ensures.rest
          r _ c.run_case-end.ensures.given c.run_case-end.ensures.rows c.is_some-zero_goal.result k (sym c.is_some-zero_goal.ensures) (sym c.requires.state.most)
          (λ D t looks given most tells. (run D t looks given most tells).0);
    }

pub visit-requires-clause-ran : goal.visit-requires-clause-ran
visit-requires-clause-ran g c =
    let a = c.args in
    let s = a.self.now in
    let at = walk_at (length a.instance.now.vars) a.depth s.walk c.requires.state.walk c.requires.at in
    let low : s.level.before + length s.walk.nodes < a.limits.nodes = search rules in
    let off : was_stopped c.run_case-end.result ≡ false = sym c.is_stop.ensures ∙ c.if-is_stop.false in
    let (k, came, run) = rw (off, c.as_slice.ensures.value) at c.run_case-end.ensures.run in
    ran_to a.instance.now a.limits s.relaxation s.level s.walk a.depth at (may_close a.instance.now a.limits s c.requires.state) c.run_case-end.new.relaxation _ c.run_case-end.ensures.given c.run_case-end.ensures.rows low c.is_some-zero_goal.result (sym c.is_some-zero_goal.ensures) (sym c.requires.state.most) k c.run_case-end.result run
    (rw c.as_slice.ensures.value at c.run_case-end.ensures.basis)

pub returns-clause-moments : goal.returns-clause-moments
returns-clause-moments g c =
    let a = c.args in
    let s = a.self.now in
    let at = walk_at (length a.instance.now.vars) a.depth s.walk c.requires.state.walk c.requires.at in
    let r = c.run_case-end.new.relaxation in
    let low : s.level.before + length s.walk.nodes < a.limits.nodes = search rules in
    let first = subst (λ b. g.W.Watch.came a.watch.now c.look.new.watch (b ∷ [])) c.if-look.false c.look.ensures.came in
    let off : was_stopped c.run_case-end.result ≡ false = sym c.is_stop.ensures ∙ c.if-is_stop.false in
    let (k, came, run) = rw (off, c.as_slice.ensures.value) at c.run_case-end.ensures.run in
    record {
      looks = suc k;
      killed = false;
      is = not_killed c.visit.result c.visit.ensures.went_on;
      came = g.met.W.Watch.joined a.watch.now c.look.new.watch c.run_case-end.new.watch (false ∷ []) (went_on k) first came;
      carries = visit_carries a.instance.now a.limits s.relaxation s.level s.walk a.depth at (may_close a.instance.now a.limits s c.requires.state) r _ c.run_case-end.ensures.given c.run_case-end.ensures.rows low c.is_some-zero_goal.result (sym c.is_some-zero_goal.ensures) (sym c.requires.state.most) k c.run_case-end.result run
          c.requires.state.keeps (λ K D k shown near. let h = c.is_near.ensures K D k shown in false≢true (sym c.if-is_near.false ∙ h.1 near))
          c.visit.new.relaxation c.visit.new.level c.visit.new.walk c.visit.ensures.turns c.visit.ensures.certs c.visit.result c.visit.ensures.leaves c.visit.ensures.stays c.visit.ensures.ok c.visit.ensures.err;
    }

pub returns-clause-state : goal.returns-clause-state
returns-clause-state g c =
    let a = c.args in
    let s = a.self.now in
    let before = c.requires.state in
    if_ok₃ c.visit.result
    (λ x on carried left.
    let l = left.2 in
    record {
      suits = on.suits;
      most = ap (λ (t : Turns). t.most) c.visit.ensures.turns ∙ c.run_case-end.ensures.most ∙ before.most;
      walk = on.walk;
      fresh = on.fresh;
      within = further_within a.limits s.level c.visit.new.level s.walk c.visit.new.walk on.further;
      values = on.values;
      keeps = l.0 ∙ before.keeps;
      carried = carried;
    })
    c.visit.ensures.on c.visit.ensures.carried c.visit.ensures.leaves
