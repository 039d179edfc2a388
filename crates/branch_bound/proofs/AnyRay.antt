-- What a search shows of its open cases is the same whatever their rays.
use Rattle.std.proofs.Common.{◌≡◌, inl, inr, ℕ, Option, None, Some, IfSome, List, [], ◌∷◌, refl, ap₂, subst}
use Rattle.rational.specs.Ratio.{Ratio}
use Rattle.evidence.specs.Instance.{Instance, Problem, minimising}
use Rattle.evidence.specs.Cases.{Multiplier, AreLegal}
use Rattle.evidence.specs.Width.{LowFits}
use Rattle.evidence.specs.ProvedBounds.{ProvedBound}
use Rattle.case_tree.specs.declared.cuts.Cut.{Cut}
use Rattle.case_tree.specs.declared.path.Branch.{Branch}
use Rattle.search_rules.specs.Branching.{Case}
use Rattle.search_rules.specs.Search.{SearchMoment}
use Rattle.search_rules.specs.Bounds.{Carried, shown_by, open_numbers, with_best, IsLeast, IsOpenBound, IsBoundOf}
use Rattle.search_rules.specs.Asked.{OpenSumsFit, AllOpenFit, FindsBound}
use Rattle.branch_bound.specs.declared.walk.RayAt.{RayAt}
use Rattle.branch_bound.specs.Bounds.{AllBound}
use Rattle.branch_bound.specs.Walks.{second_cases, waiting_by}

-- cases of the same programs
abbrev pub AreAlike : List Case → List Case → Type 0
AreAlike [] [] = Unit {0}
AreAlike (C ∷ Cs) (D ∷ Ds) = (C.program ≡ D.program) × AreAlike Cs Ds
AreAlike Cs Ds = ⊥

alike_numbers : (Cs Ds : List Case) (mss : List (List Multiplier)) → AreAlike Cs Ds → open_numbers Cs mss ≡ open_numbers Ds mss
alike_numbers [] [] mss a = refl
alike_numbers [] (D ∷ Ds) mss a = absurd a
alike_numbers (C ∷ Cs) [] mss a = absurd a
alike_numbers (C ∷ Cs) (D ∷ Ds) [] a = refl
alike_numbers (C ∷ Cs) (D ∷ Ds) (ms ∷ mss) a = ap₂ (λ (I : Instance) (xs : List Ratio). shown_by I ms ∷ xs) a.0 (alike_numbers Cs Ds mss a.1)

alike_fit : (Cs Ds : List Case) (mss : List (List Multiplier)) → AreAlike Cs Ds → OpenSumsFit Cs mss → OpenSumsFit Ds mss
alike_fit [] [] mss a f = tt
alike_fit [] (D ∷ Ds) mss a f = absurd a
alike_fit (C ∷ Cs) [] mss a f = absurd a
alike_fit (C ∷ Cs) (D ∷ Ds) [] a f = tt
alike_fit (C ∷ Cs) (D ∷ Ds) (ms ∷ mss) a f = (subst (λ (I : Instance). LowFits I (minimising I I.goal.constant) ms) a.0 f.0, alike_fit Cs Ds mss a.1 f.1)

pub alike_bound : (Cs Ds : List Case) (ks : List Carried) → AreAlike Cs Ds → AllBound Cs ks → AllBound Ds ks
alike_bound [] [] ks a f = tt
alike_bound [] (D ∷ Ds) ks a f = absurd a
alike_bound (C ∷ Cs) [] ks a f = absurd a
alike_bound (C ∷ Cs) (D ∷ Ds) [] a f = tt
alike_bound (C ∷ Cs) (D ∷ Ds) (k ∷ ks) a f = (subst (λ (I : Instance). IfSome k (λ ms. AreLegal I ms)) a.0 f.0, alike_bound Cs Ds ks a.1 f.1)

-- those of a walk, with another ray
second_alike : (bs : List Branch) (r q : Option RayAt) (Js : List Instance) (es : List ℕ) → AreAlike (second_cases bs r Js es) (second_cases bs q Js es)
second_alike bs r q [] es = tt
second_alike bs r q (J ∷ Js) [] = tt
second_alike bs r q (J ∷ Js) (e ∷ es) = (refl, second_alike bs r q Js es)

pub waiting_alike : (I : Instance) (cs : List Cut) (bs : List Branch) (r q : Option RayAt) (o : Option ℕ) → AreAlike (waiting_by I cs bs r o) (waiting_by I cs bs q o)
waiting_alike I cs bs r q None = tt
waiting_alike I cs bs r q (Some d) = (refl, second_alike bs r q _ _)

module _ (P : Problem) (m : SearchMoment) (Ds : List Case) (alike : AreAlike m.waiting Ds) (ks : List Carried) where
  open_alike : (b : ProvedBound) → IsOpenBound P m ks b → IsOpenBound P (record m { waiting = Ds }) ks b
  open_alike b o = record {
    first_level = o.first_level;
    multipliers = o.multipliers;
    all_carry = o.all_carry;
    reduced = o.reduced;
    least = subst (λ (xs : List Ratio). IsLeast (with_best m.level m.best xs) (minimising m.level.program b.number)) (alike_numbers m.waiting Ds o.multipliers alike) o.least;
    certificate = o.certificate;
  }

  bound_alike : (b : ProvedBound) → IsBoundOf P m ks b → IsBoundOf P (record m { waiting = Ds }) ks b
  bound_alike b (inl o) = inl (open_alike b o)
  bound_alike b (inr r) = inr (record { found = r.found; best = r.best; others = r.others; shown = r.shown; value = r.value })

  all_fit : AllOpenFit m ks → AllOpenFit (record m { waiting = Ds }) ks
  all_fit f = λ mss e first. alike_fit m.waiting Ds mss alike (f mss e first)

-- the bound that is found
pub finds_alike : (P : Problem) (m : SearchMoment) (Ds : List Case) → AreAlike m.waiting Ds → AreAlike Ds m.waiting → (ks : List Carried) (b : Option ProvedBound) → FindsBound P m ks b → FindsBound P (record m { waiting = Ds }) ks b
finds_alike P m Ds alike back ks None f = λ b is fit. f b (bound_alike P (record m { waiting = Ds }) m.waiting back ks b is) (all_fit P (record m { waiting = Ds }) m.waiting back ks fit)
finds_alike P m Ds alike back ks (Some b) f = (bound_alike P m Ds alike ks b f.0, all_fit P m Ds alike ks f.1)
