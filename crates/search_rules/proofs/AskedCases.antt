-- What the open cases of an asked search carry: multipliers that bound them, and nothing below a ray or where the run ends along a direction.
use Rattle.std.proofs.Common.{◌≡◌, ◌⊎◌, inl, inr, Option, None, Some, List, [], ◌∷◌, ◌++◌, map, refl, sym, ◌∙◌, subst}
use Rattle.std.specs.List.{All}
use Rattle.std.specs.Option.{is_some}
use Rattle.std.proofs.lemmas.List.Elements.{All-head, All-tail}
use Rattle.rational.specs.Ratio.{Ratio}
use Rattle.evidence.specs.Instance.{Problem, IsInstance, IsProblem}
use Rattle.simplex_rules.specs.Ends.{Terms, Clock, End, Clash, Empty, Best, Endless, TurnsOut, TooWide, Stopped}
use Rattle.simplex_rules.specs.Runs.{Run, looked_once}
use Rattle.simplex_rules.proofs.Moments.{run_true}
use Rattle.search_rules.specs.Branching.{Case}
use Rattle.search_rules.specs.Search.{Found, SearchMoment}
use Rattle.search_rules.specs.Beginnings.{IsFirstBest}
use Rattle.search_rules.specs.Bounds.{Carried, carried_after}
use Rattle.search_rules.specs.Asked.{Asked, ComesAsked, asked_first, asked_on, asked_level}
use Rattle.search_rules.proofs.Moments.{this}
use Rattle.search_rules.proofs.OpenBounds.{AllCarry, rays_part, level_begins}
use Rattle.search_rules.proofs.Directions.{no_direction}
use Rattle.search_rules.proofs.AskedSearches.{asked_hold}
use Rattle.search_rules.proofs.NearSearches.{to_carry, all_numbered}

-- a case has no ray, or carries nothing
abbrev AllApart : List Case → List Carried → Type 0
AllApart [] ks = Unit {0}
AllApart (C ∷ Cs) [] = Unit {0}
AllApart (C ∷ Cs) (k ∷ ks) = ((C.ray ≡ None) ⊎ (k ≡ None)) × AllApart Cs ks

-- cases that came before the rest, all of which carry k
each_apart : (k : Carried) (new rest : List Case) (ks : List Carried) → (k ≡ None) ⊎ All (λ (K : Case). K.ray ≡ None) new → AllApart rest ks → AllApart (new ++ rest) (map (λ C. k) new ++ ks)
each_apart k [] rest ks h a = a
each_apart k (K ∷ new) rest ks (inl none) a = (inr none, each_apart k new rest ks (inl none) a)
each_apart k (K ∷ new) rest ks (inr rays) a = (inl (All-head (λ (K : Case). K.ray ≡ None) K new rays), each_apart k new rest ks (inr (All-tail (λ (K : Case). K.ray ≡ None) K new rays)) a)

none_beside : (C : Case) (k : Carried) (r : List Ratio) → C.ray ≡ Some r → (C.ray ≡ None) ⊎ (k ≡ None) → k ≡ None
none_beside C k r is (inl none) = let q : Some r ≡ None = sym is ∙ none in absurd (cc)
none_beside C k r is (inr none) = none

-- unless the run ends along a direction, its cases have the ray as it was
apart_after : (ray : Option (List Ratio)) (e : End) (k : Carried) (new : List Case) → (ray ≡ None) ⊎ (k ≡ None) → (((x d : List Ratio) → e ≡ Endless x d → ⊥) → All (λ (K : Case). K.ray ≡ ray) new) → ((x d : List Ratio) → e ≡ Endless x d → k ≡ None)
    → (carried_after ray e k ≡ None) ⊎ All (λ (K : Case). K.ray ≡ None) new
apart_after (Some r) e k new (inl none) rays along = absurd (cc)
apart_after (Some r) e k new (inr none) rays along = inl none
apart_after None (Endless x d) k new apart rays along = inl (along x d refl)
apart_after None (Clash c) k new apart rays along = inr (rays (λ x d e. absurd (cc)))
apart_after None (Empty ms) k new apart rays along = inr (rays (λ x d e. absurd (cc)))
apart_after None (Best b y ms) k new apart rays along = inr (rays (λ x d e. absurd (cc)))
apart_after None TurnsOut k new apart rays along = inr (rays (λ x d e. absurd (cc)))
apart_after None (TooWide w) k new apart rays along = inr (rays (λ x d e. absurd (cc)))
apart_after None Stopped k new apart rays along = inr (rays (λ x d e. absurd (cc)))

module _ (P : Problem) (t : Terms) (a : Asked) (good : IsProblem P) (gs : Option (List (Option Ratio))) (start : Option Found) (is_first : IsFirstBest P gs start) where
  pub carry : (m : SearchMoment) (ks : List Carried) (xs : List (Option Ratio)) → ComesAsked P t a start m ks xs → AllCarry m.waiting ks
  carry m ks xs c = to_carry m.waiting ks xs (all_numbered P t a good gs start is_first m ks xs c)

  -- a case whose run ends along a direction carries nothing: multipliers that bound it would leave it none
  pub none_along : (m : SearchMoment) (k : Carried) (ks : List Carried) (xs : List (Option Ratio)) (C : Case) (rest : List Case) (before c : Clock) (y d : List Ratio) → ComesAsked P t a start m (k ∷ ks) xs → m.waiting ≡ C ∷ rest → Run C.program (is_some C.ray) t before (Endless y d) c → k ≡ None
  none_along m None ks xs C rest before c y d comes is run = refl
  none_along m (Some ms) ks xs C rest before c y d comes is run =
      let opened = this P C rest m is (asked_hold P t a good gs start is_first m (Some ms ∷ ks) xs comes) in
      let numbers : IsInstance C.program = opened.case.numbers in
      let all : AllCarry (C ∷ rest) (Some ms ∷ ks) = subst (λ cs. AllCarry cs (Some ms ∷ ks)) is (carry m (Some ms ∷ ks) xs comes) in
      let shown = run_true C.program (is_some C.ray) t before (Endless y d) c numbers run in
      absurd (no_direction C.program numbers ms all.0 d shown.2)

  all_apart : (m : SearchMoment) (ks : List Carried) (xs : List (Option Ratio)) → ComesAsked P t a start m ks xs → AllApart m.waiting ks
  all_apart m ks xs asked_first = (inl refl, tt)
  all_apart n ls ys (asked_on {m} {k} {ks} {x} {xs} comes far v new is) =
      let C = v.visit.case in
      let rest = v.visit.rest in
      let before : AllApart (C ∷ rest) (k ∷ ks) = subst (λ cs. AllApart cs (k ∷ ks)) v.visit.is (all_apart m (k ∷ ks) (x ∷ xs) comes) in
      let along : (y d : List Ratio) → v.end ≡ Endless y d → k ≡ None =
      λ y d e. none_along m k ks (x ∷ xs) C rest (looked_once m.clock) v.clock y d comes v.visit.is (subst (λ e. Run C.program (is_some C.ray) t (looked_once m.clock) e v.clock) e v.visit.run) in
      let rays = rays_part P t C rest (record m { clock = v.clock }) (looked_once m.clock) v.end n v.goes new is in
      subst (λ cs. AllApart cs (map (λ C. carried_after v.visit.case.ray v.end k) new ++ ks)) (sym is) (each_apart (carried_after C.ray v.end k) new rest ks (apart_after C.ray v.end k new before.0 rays along) before.1)
  all_apart n ls ys (asked_level {m} comes empty next) = subst (λ cs. AllApart cs (None ∷ [])) (sym (level_begins P t m n empty next)) (inl refl, tt)

  -- below a ray nothing is carried
  pub none_below_ray : (m : SearchMoment) (k : Carried) (ks : List Carried) (xs : List (Option Ratio)) (C : Case) (rest : List Case) (r : List Ratio) → ComesAsked P t a start m (k ∷ ks) xs → m.waiting ≡ C ∷ rest → C.ray ≡ Some r → k ≡ None
  none_below_ray m k ks xs C rest r comes is ray =
      let all : AllApart (C ∷ rest) (k ∷ ks) = subst (λ cs. AllApart cs (k ∷ ks)) is (all_apart m (k ∷ ks) xs comes) in
      none_beside C k r ray all.0
