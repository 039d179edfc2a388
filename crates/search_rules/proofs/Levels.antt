-- What is known of a level of a search, and of the one after it.
use Rattle.std.proofs.Common.{◌≡◌, ℕ, suc, ◌+◌, ◌<◌, ℤ, Option, Some, List, [], ◌∷◌, ◌++◌, length, get_or, arith, refl, sym, ◌∙◌, ap, subst}
use Rattle.std.specs.List.{All}
use Rattle.std.proofs.lemmas.List.{length-append}
use Rattle.std.proofs.lemmas.List.Elements.{All-head, All-tail}
use Rattle.rational.specs.Ratio.{Ratio, product, IsNumber, IsSame}
use Rattle.rational.proofs.ReducedForms.{same_reduced}
use Rattle.evidence.specs.Sums.{none, total}
use Rattle.evidence.specs.Instance.{Variable, Goal, Instance, Problem, IsInstance, IsProblem, IsGoalOfNumbers, goals, asking, no_goal, width, minimising}
use Rattle.evidence.specs.Point.{value_at, objective, IsFeasible, IsRay}
use Rattle.evidence.specs.Cases.{Node}
use Rattle.evidence.specs.Rounds.{Certificate, Round, IsRound, RoundFits, derive}
use Rattle.evidence.specs.Levels.{IsReachedEnd, next_level}
use Rattle.evidence.proofs.Numbers.{◌≈◌, ◌⊙◌}
use Rattle.evidence.proofs.LevelSteps.{next-instance, up, down, kept, objective-number}
use Rattle.search_rules.specs.Search.{Found, Level, reached, IsValue, AreValuesAt}
use Rattle.search_rules.specs.Outcomes.{Proves, ProvesAfter, CertificateProves, AreLevelsProved, ProvesEndless}

-- D is I with a row for each of these cuts
abbrev pub IsAfter : Instance → List Round → Instance → Type 0
IsAfter I [] D = I ≡ D
IsAfter I (r ∷ rounds) D = (cs : List ℤ) × (k : ℤ) × IsRound I r cs k × RoundFits I r cs × IsAfter (derive I cs k) rounds D

pub after_on : (rounds : List Round) (I D : Instance) (r : Round) (cs : List ℤ) (k : ℤ) → IsAfter I rounds D → IsRound D r cs k → RoundFits D r cs → IsAfter I (rounds ++ r ∷ []) (derive D cs k)
after_on [] I D r cs k e cut fits = (cs, k, subst (λ J. IsRound J r cs k) (sym e) cut, subst (λ J. RoundFits J r cs) (sym e) fits, ap (λ J. derive J cs k) e)
after_on (q ∷ rounds) I D r cs k (ds, l, c, f, a) cut fits = (ds, l, c, f, after_on rounds (derive I ds l) D r cs k a cut fits)

-- what is proved of it is proved after the cuts
pub proves_after : (rounds : List Round) (I D : Instance) (nodes : List Node) (z : Option Ratio) → IsAfter I rounds D → Proves D nodes z → ProvesAfter I rounds nodes z
proves_after [] I D nodes z e p = subst (λ J. Proves J nodes z) (sym e) p
proves_after (r ∷ rounds) I D nodes z (cs, k, c, f, a) p = (cs, k, c, f, proves_after rounds (derive I cs k) D nodes z a p)

-- certificates lead from the program I, with goals gs after its own, to the program J, with goals hs after its own, by these values
abbrev pub Reaches : Instance → List Goal → List Ratio → List Certificate → Instance → List Goal → Type 0
Reaches I gs vs [] J hs = (I ≡ J) × (gs ≡ hs)
Reaches I (g ∷ gs) (v ∷ vs) (c ∷ cs) J hs = CertificateProves I c (Some (minimising I v)) × (e : Ratio) × IsReachedEnd I v e × Reaches (next_level I e g) gs vs cs J hs
Reaches I gs vs cs J hs = ⊥

module _ (J : Instance) (c : Certificate) (v : Ratio) (proves : CertificateProves J c (Some (minimising J v))) where
  -- a level more
  pub reaches_on : (e : Ratio) → IsReachedEnd J v e → (g : Goal) (hs : List Goal) → (cs : List Certificate) (I : Instance) (gs : List Goal) (vs : List Ratio) → length cs < length vs → value_at vs (length cs) ≡ v → Reaches I gs vs cs J (g ∷ hs) → Reaches I gs vs (cs ++ c ∷ []) (next_level J e g) hs
  reaches_on e end g hs [] I [] vs low at r = let no = r.1 in absurd (cc)
  reaches_on e end g hs [] I (h ∷ gs) [] low at r = absurd (omega arith)
  reaches_on e end g hs [] I (h ∷ gs) (w ∷ vs) low at r =
      let q : h ∷ gs ≡ g ∷ hs = r.1 in
      let a : h ≡ g = cc in
      let b : gs ≡ hs = cc in
      let w_is : v ≡ w = sym at in (
        subst (λ K. CertificateProves K c (Some (minimising K w))) (sym r.0) (subst (λ x. CertificateProves J c (Some (minimising J x))) w_is proves),
        e,
        subst (λ K. IsReachedEnd K w e) (sym r.0) (subst (λ x. IsReachedEnd J x e) w_is end),
        (ap (λ K. next_level K e h) r.0 ∙ ap (λ x. next_level J e x) a, b),
      )
  reaches_on e end g hs (d ∷ cs) I [] vs low at r = absurd r
  reaches_on e end g hs (d ∷ cs) I (h ∷ gs) [] low at r = absurd r
  reaches_on e end g hs (d ∷ cs) I (h ∷ gs) (w ∷ vs) low at (p, x, is, r) = (p, x, is, reaches_on e end g hs cs (next_level I x h) gs vs (omega arith) at r)

  -- the last level
  pub reaches_end : (cs : List Certificate) (I : Instance) (gs : List Goal) (vs : List Ratio) → length vs ≡ suc (length cs) → value_at vs (length cs) ≡ v → Reaches I gs vs cs J [] → AreLevelsProved I gs vs (cs ++ c ∷ [])
  reaches_end [] I (g ∷ gs) vs n at r = let no = r.1 in absurd (cc)
  reaches_end [] I [] [] n at r = absurd (omega arith)
  reaches_end [] I [] (w ∷ []) n at r = subst (λ K. CertificateProves K c (Some (minimising K w))) (sym r.0) (subst (λ x. CertificateProves J c (Some (minimising J x))) (sym at) proves)
  reaches_end [] I [] (w ∷ u ∷ vs) n at r = absurd (omega arith)
  reaches_end (d ∷ cs) I [] vs n at r = absurd r
  reaches_end (d ∷ cs) I (g ∷ gs) [] n at r = absurd r
  reaches_end (d ∷ cs) I (g ∷ gs) (w ∷ vs) n at (p, x, is, r) = (p, x, is, reaches_end cs (next_level I x g) gs vs (omega arith) at r)

-- a ray on the level that is reached
pub reaches_ray : (J : Instance) (hs : List Goal) (x r : List Ratio) → IsRay J x r → (cs : List Certificate) (I : Instance) (gs : List Goal) (vs : List Ratio) → Reaches I gs vs cs J hs → ProvesEndless I gs vs cs x r
reaches_ray J hs x r ray [] I gs vs h = subst (λ K. IsRay K x r) (sym h.0) ray
reaches_ray J hs x r ray (c ∷ cs) I [] vs h = absurd h
reaches_ray J hs x r ray (c ∷ cs) I (g ∷ gs) [] h = absurd h
reaches_ray J hs x r ray (c ∷ cs) I (g ∷ gs) (v ∷ vs) (p, e, is, h) = (p, e, is, reaches_ray J hs x r ray cs (next_level I e g) gs vs h)

-- a level of a search of P: its points are the problem's that the certificates leave
pub record IsLevel (P : Problem) (l : Level) : Type 0 where
  pub good : IsInstance l.program
  pub later : All IsGoalOfNumbers l.later
  pub variables : l.program.variables ≡ P.program.variables
  pub asked : (k : ℕ) → get_or (l.program.goal ∷ l.later) k no_goal ≡ get_or (goals P) (k + length l.shown) no_goal
  pub count : length (goals P) ≡ length (l.program.goal ∷ l.later) + length l.shown
  pub feasible : (x : List Ratio) → IsFeasible l.program x → IsFeasible P.program x
  pub reaches : (x vs : List Ratio) → IsFeasible l.program x → AreValuesAt P x vs → Reaches P.program P.later vs l.shown l.program l.later
  pub first : l.shown ≡ [] → (l.program ≡ P.program) × (l.later ≡ P.later)

pub level_first : (P : Problem) → IsProblem P → IsLevel P (record { program = P.program; later = P.later; shown = [] })
level_first P n = record {
  good = n.program;
  later = n.later;
  variables = refl;
  asked = λ k. ap (λ i. get_or (goals P) i no_goal) (omega arith);
  count = omega arith;
  feasible = λ x h. h;
  reaches = λ x vs h v. (refl, refl);
  first = λ e. (refl, refl);
}

module _ (P : Problem) (l : Level) (is : IsLevel P l) where
  pub width_is : width l.program ≡ width P.program
  width_is = ap (λ (vs : List Variable). length vs) is.variables

  under_count : length l.shown < length (goals P)
  under_count = let n = is.count in omega arith

  -- the value of the level's goal
  pub value_of : (x vs : List Ratio) → AreValuesAt P x vs → IsValue l.program x (value_at vs (length l.shown))
  value_of x vs v =
      let at = v.values (length l.shown) under_count in
      let f : Goal → ℕ → Ratio = λ g n. total g.constant n (λ j. product (get_or g.costs j none) (value_at x j)) in
      let place : 0 + length l.shown ≡ length l.shown = omega arith in
      let goal : l.program.goal ≡ get_or (goals P) (length l.shown) no_goal = is.asked 0 ∙ ap (λ i. get_or (goals P) i no_goal) place in
      let same : objective (asking P (length l.shown)) x ≡ objective l.program x = ap (λ g. f g (width P.program)) (sym goal) ∙ ap (f l.program.goal) (sym width_is) in
      record { numbers = at.numbers; reduced = at.reduced; same = subst (IsSame (value_at vs (length l.shown))) same at.same }

  -- the next level, which a point with the value reaches
  module _ (c : Certificate) (f : Found) (values : AreValuesAt P f.point f.values) (e : Ratio) (end : IsReachedEnd l.program (reached l f) e) (g : Goal) (gs : List Goal) (later : l.later ≡ g ∷ gs)
      (proves : CertificateProves l.program c (Some (minimising l.program (reached l f)))) where
    abbrev next : Level
    next = record { program = next_level l.program e g; later = gs; shown = l.shown ++ c ∷ [] }

    value : IsValue l.program f.point (reached l f)
    value = value_of f.point f.values values

    number : IsNumber (reached l f)
    number = let r = value.reduced in r.0

    goals_on : All IsGoalOfNumbers (g ∷ gs)
    goals_on = subst (All IsGoalOfNumbers) later is.later

    first_on : IsGoalOfNumbers g
    first_on = All-head IsGoalOfNumbers g gs goals_on

    -- values of a goal of a point of the next level are the best point's
    same_value : (x vs : List Ratio) → IsFeasible next.program x → AreValuesAt P x vs → value_at vs (length l.shown) ≡ reached l f
    same_value x vs h v =
        let w = value_of x vs v in
        let a : objective l.program x ≈ reached l f = kept l.program is.good (reached l f) e number end g first_on x h in
        let b : value_at vs (length l.shown) ≈ objective l.program x = record { left = let r = w.reduced in r.0; right = a.left; is = w.same } in
        let all = b ⊙ a in
        same_reduced (value_at vs (length l.shown)) (reached l f) w.reduced value.reduced all.is

    pub feasible_on : IsFeasible l.program f.point → IsFeasible next.program f.point
    feasible_on h =
        up l.program is.good (reached l f) e number end g first_on f.point h
        (record { left = objective-number l.program is.good f.point h; right = number; is = sym value.same })

    before : (x : List Ratio) → IsFeasible next.program x → IsFeasible l.program x
    before x h = down l.program is.good (reached l f) e number end g first_on x h

    length_on : length (l.shown ++ c ∷ []) ≡ suc (length l.shown)
    length_on = length-append l.shown (c ∷ []) ∙ (omega arith)

    pub level_on : IsLevel P next
    level_on = record {
      good = next-instance l.program is.good (reached l f) e number end g first_on;
      later = All-tail IsGoalOfNumbers g gs goals_on;
      variables = is.variables;
      asked = λ k.
          let shift : suc k + length l.shown ≡ k + length (l.shown ++ c ∷ []) = let n = length_on in omega arith in
          sym (ap (λ hs. get_or (l.program.goal ∷ hs) (suc k) no_goal) later) ∙ is.asked (suc k) ∙ ap (λ i. get_or (goals P) i no_goal) shift;
      count = let n = length_on in let a = is.count in let b = ap length later in omega arith;
      feasible = λ x h. is.feasible x (before x h);
      reaches = λ x vs h v.
          let r = subst (λ hs. Reaches P.program P.later vs l.shown l.program hs) later (is.reaches x vs (before x h) v) in
          let low : length l.shown < length vs = let n = v.count in let u = under_count in omega arith in
          reaches_on l.program c (reached l f) proves e end g gs l.shown P.program P.later vs low (same_value x vs h v) r;
      first = λ no. let n = length_on in let z = ap length no in absurd (omega arith);
    }
