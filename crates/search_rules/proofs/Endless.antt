-- A direction along which no undivided variable moves that may be 0 besides is a ray from each point of its case.
use Rattle.std.proofs.Common.{◌≡◌, ℕ, zero, suc, ◌<◌, inl, inr, ℤ, pos, negsuc, ◌*ℤ◌, Option, None, Some, IfSome, IsSome, List, [], ◌∷◌, arith, refl, sym, ◌∙◌, ap, subst}
use Rattle.std.specs.List.{All}
use Rattle.std.proofs.Math.IntN.{zero-*ℤ}
use Rattle.std.proofs.lemmas.Int.{ints}
use Rattle.std.proofs.lemmas.List.Elements.{All-head, All-tail, All-cons, All-nil}
use Rattle.rational.specs.Ratio.{Ratio, IsSame}
use Rattle.evidence.specs.Sums.{none}
use Rattle.evidence.specs.Instance.{Range, Variable, Instance, IsInstance, width, variable_at}
use Rattle.evidence.specs.Point.{value_at, IsBetween, NeverLeaves, NeverLeavesZeroOr}
use Rattle.evidence.specs.Cases.{or_free}
use Rattle.evidence.proofs.Columns.{by_eq}
use Rattle.simplex_rules.specs.Ends.{IsDirection}
use Rattle.search_rules.specs.Branching.{Case, NoneMoves}
use Rattle.search_rules.specs.Rays.{IsScaled}
use Rattle.search_rules.proofs.Ranges.{inside_moves}
use Rattle.search_rules.proofs.Cases.{IsSettled, IsEndless, IsOpen}
use Rattle.search_rules.proofs.Rays.{ray_of}

by_none : {P : Type 0} (z : ℤ) → (z ≡ pos 0 → P) → ((z ≡ pos 0 → ⊥) → P) → P
by_none (pos zero) f g = f refl
by_none (pos (suc n)) f g = g (λ e. omega (arith, ints))
by_none (negsuc n) f g = g (λ e. omega (arith, ints))

zero_same : (m : Ratio) → m.num ≡ pos 0 → IsSame m none
zero_same m e = ap (λ z. z *ℤ pos 1) e ∙ zero-*ℤ (pos 1) ∙ sym (zero-*ℤ (pos m.den))

-- a number is in a list, or each element is another one
found_in : {Q : Type 0} (P : ℕ → Type 0) (is : List ℕ) (j : ℕ) → All P is → (P j → Q) → (All (λ i. i ≡ j → ⊥) is → Q) → Q
found_in P [] j p there off = off (All-nil (λ i. i ≡ j → ⊥))
found_in P (i ∷ is) j p there off =
    by_eq i j
    (λ e. there (subst P e (All-head P i is p)))
    (λ d. found_in P is j (All-tail P i is p) there (λ a. off (All-cons (λ i. i ≡ j → ⊥) i is d a)))

-- a movement that leaves neither end at 0 is none
held : (m : Ratio) (o : Option Range) (x : Ratio) → NeverLeaves (record { lb = Some none; ub = Some none }) m → IfSome o (λ e. NeverLeavesZeroOr e x m)
held m None x n = tt
held m (Some r) x n = let a = n.low in let b = n.high in inl (omega (arith, ints))

within : (m : Ratio) (o : Option Range) (x : Ratio) → IsBetween (or_free o) x → NeverLeaves (or_free o) m → IfSome o (λ e. NeverLeavesZeroOr e x m)
within m None x b n = tt
within m (Some r) x b n = inr (b, n)

settled_stays : (v : Variable) (x m : Ratio) → IsSettled v → IsBetween v.range x → NeverLeaves v.range m → IfSome v.unless_zero (λ e. NeverLeavesZeroOr e x m)
settled_stays v x m (inl i) b n = held m v.unless_zero x (inside_moves m i n)
settled_stays v x m (inr i) b n = within m v.unless_zero x (i.values x b) (inside_moves m i n)

module _ (I : Instance) (C : Case) (good : IsInstance I) (this : IsOpen I C) (d : List Ratio) (along : IsDirection C.program d) (none_moves : NoneMoves C d) where
  stays_at : (x : List Ratio) (j : ℕ) → j < width C.program → IsBetween (variable_at C.program j).range (value_at x j) → (o : Option Range) → (variable_at C.program j).unless_zero ≡ o → IfSome o (λ e. NeverLeavesZeroOr e (value_at x j) (value_at d j))
  stays_at x j low b None e = tt
  stays_at x j low b (Some s) e =
      let there : IsSome (variable_at C.program j).unless_zero = subst IsSome (sym e) refl in
      let stays : Option Range → Type 0 = λ o. IfSome o (λ e. NeverLeavesZeroOr e (value_at x j) (value_at d j)) in
      by_none (value_at d j).num
      (λ z. inl (zero_same (value_at d j) z))
      (λ moves. found_in (λ i. IsSettled (variable_at C.program i)) C.divided j this.divided
      (λ settled. subst stays e (settled_stays (variable_at C.program j) (value_at x j) (value_at d j) settled b (along.variables j low)))
      (λ fresh. absurd (none_moves j (record { branch = record { variable = low; further = there }; moves = moves; fresh = fresh }))))

  pub endless_case : (r : List Ratio) → IsScaled I d r → IsEndless I C.program r
  endless_case r scaled x relaxed met =
      ray_of I x d r good
      (λ j low.
      let under : j < width C.program = subst (λ n. j < n) (sym this.case.count) low in
      subst (λ (o : Option Range). IfSome o (λ e. NeverLeavesZeroOr e (value_at x j) (value_at d j))) (this.case.further j)
      (stays_at x j under (relaxed.variables j under) (variable_at C.program j).unless_zero refl))
      (this.case.directions d along) scaled
