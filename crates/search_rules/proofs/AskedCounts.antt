-- As much is carried as there are open cases.
use Rattle.std.proofs.Common.{◌≡◌, Option, List, ◌∷◌, map, length, arith, refl, sym, ◌∙◌, ap}
use Rattle.std.proofs.lemmas.List.{length-map}
use Rattle.std.proofs.Math.ListN.{length-append}
use Rattle.rational.specs.Ratio.{Ratio}
use Rattle.evidence.specs.Instance.{Problem}
use Rattle.simplex_rules.specs.Ends.{Terms}
use Rattle.search_rules.specs.Branching.{Case}
use Rattle.search_rules.specs.Search.{Found, SearchMoment}
use Rattle.search_rules.specs.Bounds.{Carried, carried_after}
use Rattle.search_rules.specs.Gaps.{number_after}
use Rattle.search_rules.specs.Asked.{Asked, ComesAsked, asked_first, asked_on, asked_level}
use Rattle.search_rules.proofs.OpenBounds.{level_begins}

module _ (P : Problem) (t : Terms) (a : Asked) (start : Option Found) where
  pub as_many : (m : SearchMoment) (ks : List Carried) (xs : List (Option Ratio)) → ComesAsked P t a start m ks xs → (length ks ≡ length m.waiting) × (length xs ≡ length m.waiting)
  as_many m ks xs asked_first = (refl, refl)
  as_many _ ls ys (asked_on {m} {n} {k} {ks} {x} {xs} c far v new is) =
      let h = as_many m (k ∷ ks) (x ∷ xs) c in
      let here = ap (λ (Cs : List Case). length Cs) v.visit.is in
      let there = ap (λ (Cs : List Case). length Cs) is ∙ length-append new v.visit.rest in
      let f = length-append (map (λ C. carried_after v.visit.case.ray v.end k) new) ks in
      let g = length-append (map (λ C. number_after v.visit.case.ray v.end x) new) xs in
      let i = length-map new (λ (C : Case). carried_after v.visit.case.ray v.end k) in
      let j = length-map new (λ (C : Case). number_after v.visit.case.ray v.end x) in
      let p = h.0 in
      let q = h.1 in
      (omega arith, omega arith)
  as_many _ ls ys (asked_level {m} {n} c none next) = let e = ap (λ (Cs : List Case). length Cs) (level_begins P t m n none next) in (sym e, sym e)
