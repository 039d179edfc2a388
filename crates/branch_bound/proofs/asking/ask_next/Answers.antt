use Rattle.std.proofs.Common.{◌≡◌, ◌+◌, ◌<◌, Option, None, List, [], ◌∷◌, ◌++◌, length, get_or, refl, sym, ◌∙◌, ap, ap₂, subst, arith}
use Rattle.std.proofs.lemmas.List.{length-map, length_push, map-append}
use Rattle.fraction.specs.Frac.{ratio}
use Rattle.evidence.specs.Instance.{IsInstance, no_goal}
use Rattle.evidence.specs.Levels.{next_level}
use Rattle.instance.specs.Program.{goals}
use Rattle.certificate.specs.Meanings as Means
use Rattle.certificate.specs.declared.nodes.Node.{Node}
use Rattle.certificate.specs.declared.nodes.Cert.{Cert}
use Rattle.certificate.specs.declared.nodes.Round.{Round}
use Rattle.search_rules.specs.Search.{nodes_with, begun_at}
use Rattle.simplex.specs.Cuts.{Cutting, Suits}
use Rattle.branch_bound.specs.declared.carried.Carried.{Carried}
use Rattle.branch_bound.specs.Bounds.{HoldsAt}
use Rattle.branch_bound.specs.declared.level.Level.{Level}
use Rattle.branch_bound.specs.Walks.{best}
use Rattle.branch_bound.specs.Levels.{level, IsGiven}
use Rattle.branch_bound.specs.Trials.{IsFreshWalk}
use Rattle.branch_bound.specs.Cases.{HasSize}
use Rattle.branch_bound.proofs.NextGoal.{goal_is, fresh_walk, fresh_moment, next-instance, goal-numbers, nodes_more}
use Rattle.branch_bound.proofs.GivenRows.{given_goal}
use Rattle.branch_bound.proofs.asking.ask_next.Goals as goal
use Rattle.branch_bound.proofs.asking.ask_next.Goals.{After-begin_again}

-- the level begins afresh
fresh : (g : _) (c : After-begin_again g) → IsFreshWalk c.args.instance.now c.begin_again.new.walk
fresh g c = record { nodes = c.begin_again.ensures.nodes ∙ c.replace-nodes.ensures.after ∙ c.new.ensures; uncut = c.begin_again.ensures.uncut; next = c.begin_again.ensures.next }

size : (g : _) (c : After-begin_again g) → HasSize c.args.instance.now (record c.add_goal_row.new.relaxation { ends = c.ask.new.self })
size g c =
    let s = c.in_ok-add_goal_row.ensures.size in
    let p = c.args.instance.now in
    let rows : length c.add_goal_row.new.relaxation.ends.rows ≡ length c.ask.new.self.rows = ap (λ (k : Cutting). length k.rows) (sym c.ask.ensures) in
    record {
      width = s.width;
      height = s.height ∙ ap (λ n. length p.rows + n) rows;
      few = let f = s.few in omega arith;
      suits = subst (Suits p) (sym c.ask.ensures) (record { ends = s.suits.ends; rows = s.suits.rows; goal = c.requires.later });
      slots = s.slots;
    }

-- what was shown, and the level's own
shown : (g : _) (c : After-begin_again g) → Means.certificates c.push.new.self ≡ Means.certificates c.args.level.now.certs ++ record { rounds = Means.rounds c.args.level.now.rounds; nodes = Means.nodes c.args.walk.now.nodes } ∷ []
shown g c =
    let v = c.args.level.now in
    ap Means.certificates c.in_ok-push.ensures.ok ∙ map-append Means.certificate v.certs (record { rounds = c.replace-rounds.result; nodes = c.replace-nodes.result } ∷ [])
    ∙ ap₂ (λ (rs : List Round) (ns : List Node). Means.certificates v.certs ++ record { rounds = Means.rounds rs; nodes = Means.nodes ns } ∷ []) c.replace-rounds.ensures.value c.replace-nodes.ensures.value

pub returns-clause-suits : goal.returns-clause-suits
returns-clause-suits g c = record { size = size g (goal.at.returns-clause-suits g c).After-begin_again; goal = c.requires.later; one = λ e. let l = c.requires.later in absurd (omega arith) }

pub returns-clause-fresh : goal.returns-clause-fresh
returns-clause-fresh g c = fresh g (goal.at.returns-clause-fresh g c).After-begin_again

pub returns-clause-walk : goal.returns-clause-walk
returns-clause-walk g c = fresh_walk c.args.instance.now c.begin_again.new.walk (fresh g (goal.at.returns-clause-walk g c).After-begin_again) c.begin_again.ensures.ray

pub returns-clause-carried : goal.returns-clause-carried
returns-clause-carried g c = λ keeps.
    let h = c.in_ok-carry.ensures.at (sym c.begin_again.ensures.keeps ∙ keeps) in
    subst (λ (l : List (Option Carried)). HoldsAt l 0 None) (sym (ap (λ (v : _). v.items) c.begin_again.ensures.carried)) h

pub returns-clause-begun : goal.returns-clause-begun
returns-clause-begun g c = λ L D at'.
    let here = (goal.at.returns-clause-begun g c).After-begin_again in
    let p = c.args.instance.now in
    let v = c.args.level.now in
    let w = c.args.walk.now in
    let more = c.requires.later in
    let l : 1 < length p.goals = omega arith in
    let same = at'.several l in
    let given : IsGiven p c.args.relaxation.now.ends L = subst (λ I. IsGiven p c.args.relaxation.now.ends I) same at'.given in
    let told = shown g here in
    let K = next_level L (ratio c.args.end) (get_or (goals p.goals) (v.goal + 1) no_goal) in
    let own = goal_is p c.args.relaxation.now v w L D at' c.requires.width in
    let u : Level = record { goal = v.goal + 1; certs = c.push.new.self; rounds = c.replace-rounds.new.dest; before = v.before + c.len.result } in
    record {
      at = record {
        good = next-instance L c.args.end (get_or (goals p.goals) (v.goal + 1) no_goal) (subst IsInstance same at'.good) (goal-numbers p v.goal);
        given = subst (λ k. IsGiven p k K) (sym c.ask.ensures) (given_goal p c.add_goal_row.new.relaxation.ends _ (c.in_ok-add_goal_row.ensures.given L given (own ∙ sym c.requires.goal)) (v.goal + 1));
        goal = ap (λ (k : Cutting). k.goal) c.ask.ensures;
        level_goal = refl;
        shown = ap (λ (cs : List Cert). length cs) c.in_ok-push.ensures.ok ∙ length_push v.certs _ ∙ ap (λ n. n + 1) at'.shown;
        counted = λ n.
            let k = length-map w.nodes Means.node in
            ap (λ cs. nodes_with cs n) told ∙ nodes_more (Means.certificates v.certs) (record { rounds = Means.rounds v.rounds; nodes = Means.nodes w.nodes }) n ∙ at'.counted (length (Means.nodes w.nodes) + n) ∙ (omega arith);
        several = λ h. refl;
        first = λ e. absurd (omega arith);
      };
      shown = told;
      begins = λ k. fresh_moment p K u c.begin_again.new.walk k (fresh g here) c.begin_again.ensures.ray given.variables (c.replace-rounds.ensures.after ∙ c.new-2.ensures) ∙ ap (begun_at (level p K u) k) (ap best c.begin_again.ensures.best);
    }
