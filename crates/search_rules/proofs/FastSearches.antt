-- The search `fast` is legal, and none of its choices has two answers.
use Rattle.std.proofs.Common.{◌≡◌, ℕ, ◌+◌, ◌⊎◌, inl, inr, ℤ, Some, List, refl, sym, ◌∙◌, ap, subst, arith}
use Rattle.std.proofs.Math.Path.{fun_ext}
use Rattle.std.proofs.lemmas.Int.{ints}
use Rattle.std.specs.Option.{is_some}
use Rattle.rational.specs.Ratio.{Ratio, IsAtMost, IsSame}
use Rattle.evidence.specs.Instance.{Instance, width, height}
use Rattle.evidence.specs.Point.{value_at}
use Rattle.evidence.proofs.Columns.{by_lt}
use Rattle.bases.specs.Dictionary.{Entries}
use Rattle.bases.specs.Program.{rows_with_goal}
use Rattle.bases.proofs.Lists as Lists
use Rattle.simplex_rules.specs.declared.columns.Status.{Status}
use Rattle.simplex_rules.specs.Statuses.{basic_in, HasDictionary}
use Rattle.simplex_rules.specs.Fast.{IsUnbeaten}
use Rattle.simplex_rules.proofs.OneEnd.{one_reduced}
use Rattle.simplex_rules.proofs.FastRules as Runs
use Rattle.simplex_rules.proofs.FastRules.{AreOrdered, by_order, greater_ordered, unbeaten_once}
use Rattle.search_rules.specs.RuleSearch.{BranchView, AreLegalSearches, AreSingleSearches}
use Rattle.search_rules.specs.FastSearch.{floor_of, infinite, finite, penalty, middle, IsFractional, Later, BeatsBy, IsFirstUneither, IsByPenalty, IsStepOf, fast_search}

module _ (I : Instance) (ss : List Status) (u : Entries) (x : List Ratio) where
  later_ordered : (f : ℕ → Ratio) (Beats : ℕ → ℕ → Type 0) → AreOrdered Beats → AreOrdered (Later I ss u x f Beats)
  later_ordered f Beats ordered k c =
      by_order (f c) (f k) (λ h. inl (inl h))
      (λ e. on e (ordered k c))
      (λ h. inr (inr (inl h)))
    where
      on : IsSame (f c) (f k) → Beats k c ⊎ (k ≡ c) ⊎ Beats c k → Later I ss u x f Beats k c ⊎ (k ≡ c) ⊎ Later I ss u x f Beats c k
      on e (inl p) = inl (inr (sym e, p))
      on e (inr (inl p)) = inr (inl p)
      on e (inr (inr p)) = inr (inr (inr (e, p)))

  all_ordered : AreOrdered (BeatsBy I ss u x)
  all_ordered = later_ordered (λ j. infinite (penalty I ss u x j)) _ (later_ordered (λ j. finite (penalty I ss u x j)) _ (greater_ordered (middle I ss u x)))

penalties_once : (h : BranchView) (i j : ℕ) (k l : ℤ) → IsByPenalty h i k → IsByPenalty h j l → (i ≡ j) × (k ≡ l)
penalties_once h i j k l p q =
    let I = h.case.program in
    let some : Some p.statuses ≡ Some q.statuses = sym p.is ∙ q.is in
    let s : p.statuses ≡ q.statuses = cc in
    let d : HasDictionary I (is_some h.case.ray) q.statuses p.entries = subst (λ z. HasDictionary I (is_some h.case.ray) z p.entries) s p.dictionary in
    let u : p.entries ≡ q.entries = fun_ext (λ b. fun_ext (λ c. Lists.one_dictionary (width I) (height I + 1) (rows_with_goal (is_some h.case.ray) I) (basic_in q.statuses) p.entries q.entries d q.dictionary b c)) in
    let a = subst (λ z. IsUnbeaten (width I) (IsFractional I z p.entries h.point) (BeatsBy I z p.entries h.point) i) s p.unbeaten in
    let b = subst (λ z. IsUnbeaten (width I) (IsFractional I q.statuses z h.point) (BeatsBy I q.statuses z h.point) i) u a in
    let e : i ≡ j = unbeaten_once (width I) _ _ i j (all_ordered I q.statuses q.entries h.point) b q.unbeaten in
    (e, p.floor ∙ ap (λ i. floor_of (value_at h.point i).num (value_at h.point i).den) e ∙ sym q.floor)

uneither_once : (h : BranchView) (i j : ℕ) → IsFirstUneither h i → IsFirstUneither h j → i ≡ j
uneither_once h i j p q = by_lt i j (λ l. absurd (p.other (q.below i l))) (λ a. by_lt j i (λ l. absurd (q.other (p.below j l))) (λ b. omega arith))

one_step : (I : Instance) (g h : Ratio) → IsStepOf I g → IsStepOf I h → g ≡ h
one_step I g h p q = one_reduced g h h (let s = q.step in s.number) p.reduced q.reduced (same g h (q.greatest g p.step) (p.greatest h q.step)) refl
  where
    same : (x y : Ratio) → IsAtMost x y → IsAtMost y x → IsSame x y
    same x y a b = omega (arith, ints)

pub legal_fast : AreLegalSearches fast_search
legal_fast = record { runs = Runs.legal; splits = λ h j k p. p.branch; divides = λ h j p. p.branch }

pub single_fast : AreSingleSearches fast_search
single_fast = record {
  runs = Runs.single;
  splits = λ h i j k l p q. penalties_once h i j k l p q;
  divides = λ h i j p q. uneither_once h i j p q;
  steps = λ I g h p q. one_step I g h p q;
  either = λ h i j k p q. q.other (p.either j (let b = q.branch in b.variable));
  split_unmet = λ h j k p met. let a = p.unbeaten in let f = a.wanted in let m = met j a.inside in f.1 (m.whole f.0);
  divided_unmet = λ h j p met. let m = met j (let b = p.branch in b.variable) in p.other m.either;
}
