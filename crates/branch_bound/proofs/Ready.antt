-- What the code has suits each other after each of its steps.
use Rattle.std.proofs.Common.{◌≡◌, ℕ, ◌⊎◌, ◌+◌, ◌-◌, ◌^◌, ◌<◌, ◌≤◌, inl, inr, Option, Some, IfSome, Result, IfOk, Ok, Err, List, length, get_or, arith, refl, sym, ◌∙◌, ap, subst}
use Rattle.std.proofs.lemmas.List.{length-map}
use Rattle.certificate.specs.Meanings as Means
use Rattle.instance.specs.Parts.{Parts}
use Rattle.instance.specs.Program.{goals, program}
use Rattle.case_tree.specs.Cuts.{AreBranches}
use Rattle.cert_checker.specs.declared.at_hand.Added.{Added}
use Rattle.cert_checker.specs.Programs.{with_rows}
use Rattle.simplex.specs.declared.ends.Ends.{Ends}
use Rattle.simplex.specs.declared.work.Work.{Work}
use Rattle.simplex.specs.Cuts.{Cutting, Suits}
use Rattle.simplex.specs.Memory.{width_in, height_in, point_of}
use Rattle.evidence.specs.Instance.{Instance, no_goal}
use Rattle.branch_bound.specs.declared.level.Level.{Level}
use Rattle.branch_bound.specs.declared.limits.Limits.{Limits}
use Rattle.branch_bound.specs.declared.relaxation.Relaxation.{Relaxation}
use Rattle.branch_bound.specs.declared.walk.Walk.{Walk}
use Rattle.branch_bound.specs.Walks.{IsWalk, IsAt}
use Rattle.branch_bound.specs.Levels.{AsksGoal, level, IsGiven, IsAtLevel}
use Rattle.branch_bound.specs.Cases.{HasSize, SuitsLevel, AreNodesWithin, HaveValues, IsWalkReady, GoesFurther, HasGoneOn}

-- at a case the walk is a walk
pub at_walk : (n d : ℕ) (w : Walk) → IsAt n w d → IsWalk n w
at_walk n d w at = record {
  width = at.width;
  room = subst (λ (o : Option ℕ). IfSome o (λ d. d ≤ length w.branches.items)) (sym at.next) at.room;
  above = subst (λ (o : Option ℕ). IfSome o (λ d. AreBranches n w.branches.items d)) (sym at.next) at.above;
  ray = subst (λ (o : Option ℕ). IfSome o (λ d. IfSome w.ray (λ r. r.depth ≤ d))) (sym at.next) at.ray;
}

-- and a walk that is at a case is there
pub walk_at : (n d : ℕ) (w : Walk) → IsWalk n w → w.next ≡ Some d → IsAt n w d
walk_at n d w walk next = record {
  width = walk.width;
  next = next;
  room = subst (λ (o : Option ℕ). IfSome o (λ d. d ≤ length w.branches.items)) next walk.room;
  above = subst (λ (o : Option ℕ). IfSome o (λ d. AreBranches n w.branches.items d)) next walk.above;
  ray = subst (λ (o : Option ℕ). IfSome o (λ d. IfSome w.ray (λ r. r.depth ≤ d))) next walk.ray;
}

-- one more node stands
pub gone_on : {L : _} {G : _} (p : Parts) (l : Limits) (r : Relaxation L G) (v : Level) (w x : Walk) (d : ℕ) → IsWalkReady p l r v w d → IsWalk (length p.vars) x → HaveValues p x.best → length x.nodes ≡ length w.nodes + 1 → HasGoneOn p l v w r v x
gone_on p l r v w x d ready walk values one = record {
  suits = ready.suits;
  walk = walk;
  fresh = λ e. let z = ap length e in absurd (omega arith);
  values = values;
  further = record { level = (refl, refl); within = ready.within; one = inl (one, refl) };
}

pub if_ok₂ : {T E : Type 0} {P Q R : T → Type 0} (r : Result T E) → ((x : T) → P x → Q x → R x) → IfOk r P → IfOk r Q → IfOk r R
if_ok₂ (Ok x) f p q = f x p q
if_ok₂ (Err e) f p q = p

pub if_ok₃ : {T E : Type 0} {P Q R S : T → Type 0} (r : Result T E) → ((x : T) → P x → Q x → R x → S x) → IfOk r P → IfOk r Q → IfOk r R → IfOk r S
if_ok₃ (Ok x) f p q r = f x p q r
if_ok₃ (Err e) f p q r = p

-- the level's goal is that of its number
pub asks : {M : _} {G : _} (p : Parts) (r : Relaxation M G) (v : Level) (L D : Instance) (w : Walk) → length w.cuts.items ≡ length p.vars → IsAtLevel p r v L D → AsksGoal p v.goal (level p L v)
asks p r v L D w long at = record {
  goal = at.level_goal ∙ (at.given.cut w.cuts.items long).goal ∙ ap (λ k. get_or (goals p.goals) k no_goal) at.goal;
  before = length-map v.certs Means.certificate ∙ at.shown;
}

-- whatever the ends of the variables, and whatever a run leaves in memory
pub given_as : (p : Parts) (k : Cutting) (D : Instance) (es : List Ends) → IsGiven p k D → IsGiven p (record k { ends = es }) D
given_as p k D es given = record { cut = given.cut; variables = given.variables }

module _ {M : _} {G : _} (p : Parts) (r s : Relaxation M G) (es : List Ends) (ends : s.ends ≡ record r.ends { ends = es }) (rows : s.rows.items ≡ r.rows.items) (v : Level) where
  pub at_as : (L D : Instance) → IsAtLevel p r v L D → IsAtLevel p s v L D
  at_as L D at = record {
    good = at.good;
    given = subst (λ (k : Cutting). IsGiven p k D) (sym ends) (given_as p r.ends D es at.given);
    goal = ap (λ (k : Cutting). k.goal) ends ∙ at.goal;
    level_goal = at.level_goal;
    shown = at.shown;
    counted = at.counted;
    several = at.several;
    first = λ e. at.first e ∙ ap (with_rows (program p)) (sym rows);
  }

  pub suits_as : HasSize p s → SuitsLevel p r v → SuitsLevel p s v
  suits_as size suits = record {
    size = size;
    goal = suits.goal;
    one = λ e.
        let one = suits.one e in (
          subst (λ (k : Cutting). IsGiven p k (with_rows (program p) s.rows.items)) (sym ends)
              (subst (λ (vs : List Added). IsGiven p (record r.ends { ends = es }) (with_rows (program p) vs)) (sym rows) (given_as p r.ends (with_rows (program p) r.rows.items) es one.0)),
          ap length rows ∙ one.1 ∙ ap (λ (k : Cutting). length k.rows) (sym ends),
        );
  }

-- what is left to search becomes less
module _ (l : Limits) (v u : Level) (w x : Walk) (further : GoesFurther l v u w x) where
  abbrev left : Level → Walk → ℕ
  left y z = (l.nodes - (y.before + length z.nodes)) + (l.rounds - length y.rounds)

  pub further_within : AreNodesWithin l u x
  further_within = by further.one
    where
      by : ((length x.nodes ≡ length w.nodes + 1) × (length u.rounds ≡ length v.rounds)) ⊎ ((length x.nodes ≡ length w.nodes) × (length u.rounds ≡ length v.rounds + 1) × (length v.rounds < l.rounds)) → AreNodesWithin l u x
      by (inl (one, same)) = let low = further.within in let b = further.level.1 in omega arith
      by (inr (same, more, fewer)) = let low = further.within in let b = further.level.1 in omega arith

  pub further_less : left u x < left v w
  further_less = by further.one
    where
      by : ((length x.nodes ≡ length w.nodes + 1) × (length u.rounds ≡ length v.rounds)) ⊎ ((length x.nodes ≡ length w.nodes) × (length u.rounds ≡ length v.rounds + 1) × (length v.rounds < l.rounds)) → left u x < left v w
      by (inl (one, same)) = let low = further.within in let b = further.level.1 in omega arith
      by (inr (same, more, fewer)) = let low = further.within in let b = further.level.1 in omega arith

-- the same memory for runs
module _ {M : _} {G : _} (p : Parts) (r q : Relaxation M G) (work : q.work ≡ r.work) where
  pub same_point : point_of q.work ≡ point_of r.work
  same_point = ap (λ (y : Work M G). point_of y) work

  pub size_as : q.ends ≡ r.ends → length q.slots.items ≡ length r.slots.items → HasSize p r → HasSize p q
  size_as ends slots size = record {
    width = ap (λ (y : Work M G). width_in y) work ∙ size.width;
    height = ap (λ (y : Work M G). height_in y) work ∙ size.height ∙ ap (λ (k : Cutting). length p.rows + length k.rows) (sym ends);
    few = subst (λ (k : Cutting). length p.vars + (length p.rows + length k.rows) < 2 ^ 32) (sym ends) size.few;
    suits = subst (Suits p) (sym ends) size.suits;
    slots = slots ∙ size.slots;
  }
