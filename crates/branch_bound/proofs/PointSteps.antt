-- From a point of a case on, as the code goes.
use Rattle.std.proofs.Common.{◌≡◌, ℕ, ◌<◌, inl, inr, true, false, Option, None, Some, Result, Ok, Err, IfErr, List, [], ◌∷◌, ◌++◌, length, ◌+◌, refl, sym, ◌∙◌, ap, subst, arith}
use Rattle.std.specs.Prelude.{drop}
use Rattle.std.specs.Option.{is_some}
use Rattle.std.proofs.lemmas.List.{length-map, length_push}
use Rattle.rational.specs.Ratio.{Ratio}
use Rattle.fraction.specs.Frac.{ratios}
use Rattle.fraction.specs.declared.frac.Frac.{Frac}
use Rattle.evidence.specs.Instance.{Instance, Problem, width}
use Rattle.evidence.specs.Cases.{Multiplier, BoundBy}
use Rattle.evidence.specs.Width.{PointFits}
use Rattle.certificate.specs.declared.causes.Step.TheVariants.{Point}
use Rattle.evidence.specs.Rounds as With
use Rattle.certificate.specs.declared.nodes.Round.{Round}
use Rattle.certificate.specs.declared.nodes.Node as Own
use Rattle.certificate.specs.Meanings as Means
use Rattle.instance.specs.declared.parts.Goal as Asked
use Rattle.instance.specs.Parts.{Parts}
use Rattle.instance.specs.Program.{goals, problem}
use Rattle.simplex_rules.specs.Ends.{Terms, Clock}
use Rattle.search_rules.specs.Branching.{Case, AreMetBelow}
use Rattle.search_rules.specs.Search.{SearchMoment, Outcome, NextOfSearch, To, Out, MayCut, TakesFound, TakesPoint, MeetsPoint, ImprovesBest, GoesFromBest, IsPassed, IsHopeful, AreValuesAt, closed_by_leaf, too_wide}
use Rattle.branch_bound.specs.declared.ended.Ended.{Ended}
use Rattle.branch_bound.specs.declared.found.Found as Best
use Rattle.branch_bound.specs.declared.level.Level.{Level}
use Rattle.branch_bound.specs.declared.limits.Limits.{Limits}
use Rattle.branch_bound.specs.declared.walk.RayAt.{RayAt}
use Rattle.branch_bound.specs.declared.walk.Walk.{Walk}
use Rattle.branch_bound.specs.Walks.{ray}
use Rattle.branch_bound.specs.Levels.{moment}
use Rattle.branch_bound.specs.Cases.{OrMemory, HaveValues}

pub if_err : {T E : Type 0} {P Q : E → Type 0} (r : Result T E) → ((x : E) → P x → Q x) → IfErr r P → IfErr r Q
if_err (Ok x) f h = h
if_err (Err y) f h = f y h

pub if_err₂ : {T E : Type 0} {P Q R : E → Type 0} (r : Result T E) → ((x : E) → P x → Q x → R x) → IfErr r P → IfErr r Q → IfErr r R
if_err₂ (Ok x) f p q = p
if_err₂ (Err y) f p q = f y p q

pub or_memory : {P Q : Type 0} (w : Walk) (ended : Ended) → (P → Q) → OrMemory w ended P → OrMemory w ended Q
or_memory w ended f (inl e) = inl e
or_memory w ended f (inr h) = inr (f h)

pub ray_is_some : (r : Option RayAt) → is_some (ray r) ≡ is_some r
ray_is_some None = refl
ray_is_some (Some r) = refl

module _ (P : Problem) (t : Terms) (C : Case) (rest : List Case) (m : SearchMoment) (ms : List Multiplier) (x : List Ratio) (next : NextOfSearch) where
  -- a point whose values are as they must be, as it was read
  module _ (xs : List Frac) (at : ratios xs ≡ x) (met : AreMetBelow C.program x (width C.program)) where
    pub takes_wide : (o : Outcome) → (PointFits P (ratios xs) → ⊥) → o ≡ too_wide m Point → next ≡ Out o m.clock → TakesPoint P t C rest m x ms next
    takes_wide o f e is = (met, inl ((λ h. f (subst (PointFits P) (sym at) h)), is ∙ ap (λ (p : Outcome). Out p m.clock) e))

    pub takes_by : (vs : List Ratio) → PointFits P (ratios xs) → AreValuesAt P (ratios xs) vs → (r : Option (List Ratio)) → C.ray ≡ r → TakesFound P t r rest m (record { point = ratios xs; values = vs }) ms next → TakesPoint P t C rest m x ms next
    takes_by vs fits values r is takes = (
      met,
      inr (
        vs,
        subst (PointFits P) at fits,
        subst (λ (y : List Ratio). AreValuesAt P y vs) at values,
        subst (λ (q : Option (List Ratio)). TakesFound P t q rest m (record { point = x; values = vs }) ms next) (sym is)
            (subst (λ (y : List Ratio). TakesFound P t r rest m (record { point = y; values = vs }) ms next) at takes),
      ),
    )

  module _ (before : Clock) (b : Ratio) where
    -- where no cut may be derived
    pub improves_plain : (MayCut P t m → ⊥) → MeetsPoint P t C rest m x ms next → ImprovesBest P t C rest m before b x ms next
    improves_plain never (inl branches) = inr (inl (never, branches))
    improves_plain never (inr takes) = inl takes

    -- where there is a ray, any point will do
    pub best_below_ray : (r : Option RayAt) → is_some r ≡ true → MeetsPoint P t C rest m x ms next → GoesFromBest P t (ray r) C rest m before b x ms next
    best_below_ray None e h = let f : false ≡ true = e in absurd (cc)
    best_below_ray (Some r) e h = h

    module _ (r : Option RayAt) (none : is_some r ≡ false) where
      pub best_passed : IsPassed m.level m.best b → next ≡ To (closed_by_leaf m rest (BoundBy ms)) → GoesFromBest P t (ray r) C rest m before b x ms next
      best_passed passed is = by r none
        where
          by : (r : Option RayAt) → is_some r ≡ false → GoesFromBest P t (ray r) C rest m before b x ms next
          by None e = inl (passed, is)
          by (Some q) e = let f : true ≡ false = e in absurd (cc)

      pub best_hopeful : IsHopeful m.level m.best b → ImprovesBest P t C rest m before b x ms next → GoesFromBest P t (ray r) C rest m before b x ms next
      best_hopeful hopeful improves = by r none
        where
          by : (r : Option RayAt) → is_some r ≡ false → GoesFromBest P t (ray r) C rest m before b x ms next
          by None e = inr (hopeful, improves)
          by (Some q) e = let f : true ≡ false = e in absurd (cc)

-- which goals come after the first
pub later_none : (gs : List Asked.Goal) → length gs ≡ 1 → drop 1 (goals gs) ≡ []
later_none [] e = let f : 0 ≡ 1 = e in absurd (omega arith)
later_none (g ∷ []) e = refl
later_none (g ∷ h ∷ gs) e = let f : length gs + 2 ≡ 1 = omega arith in absurd (omega arith)

pub one_goal : (gs : List Asked.Goal) (k : ℕ) → k < length gs → drop 1 (goals gs) ≡ [] → length gs ≡ 1
one_goal [] k l e = absurd (omega arith)
one_goal (g ∷ []) k l e = refl
one_goal (g ∷ h ∷ gs) k l e = absurd (cc)

pub no_nodes : (ns : List Own.Node) → Means.nodes ns ≡ [] → ns ≡ []
no_nodes [] e = refl
no_nodes (n ∷ ns) e = absurd (cc)

-- the best point's values
pub kept_values : (p : Parts) (old new : Option Best.Found) → new ≡ old → HaveValues p old → HaveValues p new
kept_values p old new e h = subst (HaveValues p) (sym e) h

pub some_found : (f g : Best.Found) → Some g ≡ Some f → length f.values ≡ length g.values
some_found f g e = let same : g ≡ f = cc in ap (λ (h : Best.Found). length h.values) (sym same)

pub none_ray : {T : Type 0} (o : Option T) → is_some o ≡ false → o ≡ None
none_ray None e = refl
none_ray (Some x) e = absurd (cc)

-- whether one more cut may be derived
module _ (p : Parts) (t : Terms) (L D : Instance) (v : Level) (w : Walk) (c : Clock) (l : Limits) (rounds : t.rounds ≡ l.rounds) (some : v.goal < length p.goals) where
  pub no_cut_left : ((length p.goals ≡ 1) × (w.nodes ≡ []) × (length v.rounds < l.rounds) → ⊥) → MayCut (problem p) t (moment p L D v w c) → ⊥
  no_cut_left never may = never (
    one_goal p.goals v.goal some may.one_goal,
    no_nodes w.nodes may.first_case,
    let f = may.fewer in let n = length-map v.rounds Means.round in omega arith,
  )

pub may_derive : (p : Parts) (t : Terms) (L D : Instance) (v : Level) (w : Walk) (c : Clock) → length p.goals ≡ 1 → w.nodes ≡ [] → length v.rounds < t.rounds → MayCut (problem p) t (moment p L D v w c)
may_derive p t L D v w c one none fewer = record {
  one_goal = later_none p.goals one;
  first_case = ap Means.nodes none;
  fewer = let n = length-map v.rounds Means.round in omega arith;
}

pub rounds_more : (rs ss : List Round) (r : With.Round) → Means.rounds ss ≡ Means.rounds rs ++ r ∷ [] → length ss ≡ length rs + 1
rounds_more rs ss r e = sym (length-map ss Means.round) ∙ ap length e ∙ length_push (Means.rounds rs) r ∙ ap (λ n. n + 1) (length-map rs Means.round)
