-- What the open cases of an asked search carry: all some once the run of the only one had a best point, and from then on.
use Rattle.std.proofs.Common.{◌≡◌, ◌∙◌, suc, Option, None, Some, List, [], ◌∷◌, ◌++◌, map, length, arith, refl, sym, ap, ap₂, subst}
use Rattle.rational.specs.Ratio.{Ratio}
use Rattle.evidence.specs.Instance.{Problem}
use Rattle.evidence.specs.Cases.{Multiplier}
use Rattle.simplex_rules.specs.Ends.{Terms, End, Clash, Empty, Best, Endless, TurnsOut, TooWide, Stopped}
use Rattle.simplex_rules.specs.Runs.{looked_once}
use Rattle.search_rules.specs.Branching.{Case}
use Rattle.search_rules.specs.Search.{Found, SearchMoment, To, IsVisit}
use Rattle.search_rules.specs.Bounds.{Carried, carried_after}
use Rattle.search_rules.specs.Gaps.{number_after}
use Rattle.search_rules.specs.Asked.{Asked, StopsNear, ComesAsked, asked_on}
use Rattle.search_rules.proofs.OpenBounds.{IsPart, goes_part}
use Rattle.search_rules.proofs.AskedSearches.{counts}

all_some : (new : List Case) (ms : List Multiplier) (mss : List (List Multiplier)) → map (λ (ms : List Multiplier). Some ms) (map (λ C. ms) new ++ mss) ≡ map (λ C. Some ms) new ++ map (λ ms. Some ms) mss
all_some [] ms mss = refl
all_some (C ∷ new) ms mss = ap (λ ks. Some ms ∷ ks) (all_some new ms mss)

after_some : (ray : Option (List Ratio)) (e : End) (ms : List Multiplier) → (ns : List Multiplier) × (carried_after ray e (Some ms) ≡ Some ns)
after_some (Some r) e ms = (ms, refl)
after_some None (Clash c) ms = (ms, refl)
after_some None (Empty ns) ms = (ms, refl)
after_some None (Best b x ns) ms = (ns, refl)
after_some None (Endless x d) ms = (ms, refl)
after_some None TurnsOut ms = (ms, refl)
after_some None (TooWide w) ms = (ms, refl)
after_some None Stopped ms = (ms, refl)

-- a visit of the case at hand, which wasn't near enough
module _ (P : Problem) (t : Terms) (a : Asked) (start : Option Found) (m n : SearchMoment) (v : IsVisit P t m (To n)) where
  part : IsPart v.visit.case v.visit.rest n
  part = goes_part P t v.visit.case v.visit.rest (record m { clock = v.clock }) (looked_once m.clock) v.end n v.goes

  abbrev AllCarrySome : Type 0
  AllCarrySome = (nss : List (List Multiplier)) × (ys : List (Option Ratio)) × ComesAsked P t a start n (map (λ ms. Some ms) nss) ys

  -- by what the case carries after its run, and the others before
  some_carried : (k : Carried) (x : Option Ratio) (ms : List Multiplier) (mss : List (List Multiplier)) (xs : List (Option Ratio)) → carried_after v.visit.case.ray v.end k ≡ Some ms → ComesAsked P t a start m (k ∷ map (λ ms. Some ms) mss) (x ∷ xs) → (StopsNear P t a m (x ∷ xs) → ⊥) → AllCarrySome
  some_carried k x ms mss xs e c far =
      let new = part.new in
      let ys = map (λ (C : Case). number_after v.visit.case.ray v.end x) new ++ xs in
      let next = asked_on c far v new part.is in
      (map (λ C. ms) new ++ mss, ys, subst (λ ks. ComesAsked P t a start n ks ys) (ap (λ k. map (λ (C : Case). k) new ++ map (λ ms. Some ms) mss) e ∙ sym (all_some new ms mss)) next)

  waits : length m.waiting ≡ suc (length v.visit.rest)
  waits = ap (λ (Cs : List Case). length Cs) v.visit.is

  -- where all carry multipliers, all do after a visit
  pub all_stay : (mss : List (List Multiplier)) (xs : List (Option Ratio)) → ComesAsked P t a start m (map (λ ms. Some ms) mss) xs → (StopsNear P t a m xs → ⊥) → AllCarrySome
  all_stay [] xs c far = let both = counts P t a start m [] xs c in let g : 0 ≡ suc (length v.visit.rest) = both.0 ∙ waits in absurd (cc)
  all_stay (ms ∷ mss) [] c far = let both = counts P t a start m (Some ms ∷ map (λ ms. Some ms) mss) [] c in let g : 0 ≡ suc (length v.visit.rest) = both.1 ∙ waits in absurd (cc)
  all_stay (ms ∷ mss) (x ∷ xs) c far = let (ns, e) = after_some v.visit.case.ray v.end ms in some_carried (Some ms) x ns mss xs e c far

  -- where the only open case has a best point, all carry its multipliers
  pub all_start : (ks : List Carried) (xs : List (Option Ratio)) (b : Ratio) (y : List Ratio) (ms : List Multiplier) → ComesAsked P t a start m ks xs → (StopsNear P t a m xs → ⊥) → m.waiting ≡ v.visit.case ∷ [] → v.visit.case.ray ≡ None → v.end ≡ Best b y ms → AllCarrySome
  all_start ks xs b y ms c far alone none best =
      let both = counts P t a start m ks xs c in
      let one : length m.waiting ≡ 1 = ap (λ (Cs : List Case). length Cs) alone in
      by ks xs (both.0 ∙ one) (both.1 ∙ one) c far
    where
      by : (ks : List Carried) (xs : List (Option Ratio)) → length ks ≡ 1 → length xs ≡ 1 → ComesAsked P t a start m ks xs → (StopsNear P t a m xs → ⊥) → AllCarrySome
      by [] xs e f c far = let g : 0 ≡ suc 0 = e in absurd (cc)
      by (k ∷ l ∷ ks) xs e f c far = let g : suc (suc (length ks)) ≡ 1 = e in absurd (omega arith)
      by (k ∷ []) [] e f c far = let g : 0 ≡ suc 0 = f in absurd (cc)
      by (k ∷ []) (x ∷ z ∷ xs) e f c far = let g : suc (suc (length xs)) ≡ 1 = f in absurd (omega arith)
      by (k ∷ []) (x ∷ []) e f c far = some_carried k x ms [] [] (ap₂ (λ ray e. carried_after ray e k) none best) c far
