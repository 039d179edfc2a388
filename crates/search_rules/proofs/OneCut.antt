-- Trying a cut at a basis comes out one way.
use Rattle.std.proofs.Common.{◌≡◌, ℕ, zero, suc, ◌+◌, ◌<◌, inl, inr, ℤ, pos, negsuc, ◌+ℤ◌, ◌<ℤ◌, Bool, true, false, IsTrue, List, ◌++◌, arith, lit<, refl, sym, ◌∙◌, ap, subst}
use Rattle.std.proofs.Math.Path.{fun_ext}
use Rattle.std.proofs.lemmas.Int.{ints}
use Rattle.rational.specs.Ratio.{Ratio, whole, sum, negative, IsNumber, IsSame, IsFloor}
use Rattle.rational.proofs.Integers.{below-from_times}
use Rattle.rational.proofs.Scaling.{IsSame-trans}
use Rattle.rational.proofs.ReducedForms.{same_reduced}
use Rattle.evidence.specs.OneDenominator.{number_at}
use Rattle.evidence.specs.Instance.{Instance, IsInstance, width, height, variable_at}
use Rattle.evidence.specs.Cases.{Multiplier, form}
use Rattle.evidence.specs.Rounds.{IsCeiling, IsRoundingCut}
use Rattle.evidence.specs.Width.{FormFits}
use Rattle.evidence.proofs.Columns.{by_lt}
use Rattle.evidence.proofs.Numbers.{sum-number}
use Rattle.evidence.proofs.UniqueRows.{one_row}
use Rattle.bases.specs.Dictionary.{Entries}
use Rattle.bases.specs.Program.{goal_column, rows_with_goal}
use Rattle.bases.proofs.Lists as Lists
use Rattle.simplex_rules.specs.declared.columns.Status.{Status}
use Rattle.simplex_rules.specs.declared.columns.Status.TheVariants.{Basic, Lower, Upper, Zero}
use Rattle.simplex_rules.specs.Statuses.{status_at, basic_in}
use Rattle.simplex_rules.specs.Reports.{collected, one_of}
use Rattle.search_rules.specs.Branching.{IsWholeBelow}
use Rattle.search_rules.specs.Cuts.{IsFractional, IsLessBy, IsLeftOver, IsCutFormBy, IsCutForm, IsWideCut, IsNoCut, MakesCut, AreCutMultipliers, Trial, Cut, TriesMultipliers, TriesEquation, TriesBasis}

pub one_floor : (x : Ratio) (k l : ℤ) → IsFloor x k → IsFloor x l → k ≡ l
one_floor x k l f g =
    let a : k <ℤ (l +ℤ pos 1) = below-from_times k (l +ℤ pos 1) x.den (let p = f.low in let q = g.high in omega (arith, ints)) in
    let b : l <ℤ (k +ℤ pos 1) = below-from_times l (k +ℤ pos 1) x.den (let p = g.low in let q = f.high in omega (arith, ints)) in
    omega (arith, ints)

pub one_ceiling : (x : Ratio) (k l : ℤ) → IsCeiling x k → IsCeiling x l → k ≡ l
one_ceiling x k l c d =
    let a : (k +ℤ negsuc 0) <ℤ l = below-from_times (k +ℤ negsuc 0) l x.den (let p = c.low in let q = d.high in omega (arith, ints)) in
    let b : (l +ℤ negsuc 0) <ℤ k = below-from_times (l +ℤ negsuc 0) k x.den (let p = d.low in let q = c.high in omega (arith, ints)) in
    omega (arith, ints)

one_less : (x r q : Ratio) (k : ℤ) → IsNumber x → IsLessBy x k r → IsLessBy x k q → r ≡ q
one_less x r q k n l m =
    same_reduced r q l.reduced m.reduced (IsSame-trans r (sum x (negative (whole k))) q (sum-number x (negative (whole k)) n (lit< tt)) l.same (sym m.same))

one_left : (s : Status) (x r q : Ratio) → IsNumber x → IsLeftOver s x r → IsLeftOver s x q → r ≡ q
one_left Basic x r q n e f = e ∙ sym f
one_left Zero x r q n e f = e ∙ sym f
one_left Lower x r q n (k, a, l) (h, b, m) = one_less x r q h n (subst (λ k. IsLessBy x k r) (one_floor x k h a b) l) m
one_left Upper x r q n (k, a, l) (h, b, m) = one_less x r q h n (subst (λ k. IsLessBy x k r) (one_ceiling x k h a b) l) m

-- the multipliers below a column are those of the numbers below it
collected_same : (y z : ℕ → Ratio) (n : ℕ) → ((c : ℕ) → c < n → y c ≡ z c) → collected y n ≡ collected z n
collected_same y z zero same = refl
collected_same y z (suc n) same =
    ap (λ l. l ++ one_of n (y n).num (y n)) (collected_same y z n (λ c low. same c (omega arith))) ∙ ap (λ v. collected z n ++ one_of n v.num v) (same n (omega arith))

-- of multipliers
module _ (I : Instance) (good : IsInstance I) (ms : List Multiplier) where
  no_or_wide : IsNoCut I ms → IsWideCut I ms → ⊥
  no_or_wide (inl (j, low, are, fits, other)) (inl (i, high, befores, wide)) =
      by_lt i j (λ below. wide (let f = are i below in f.0)) (λ up. by_lt j i (λ above. other (let f = befores j above in f.1)) (λ down. let e : i ≡ j = omega arith in wide (subst (FormFits I ms) (sym e) fits)))
  no_or_wide (inl (j, low, are, fits, other)) (inr (all, wide)) = other (let f = all j low in f.1)
  no_or_wide (inr (all, fits, whole)) (inl (i, high, befores, wide)) = wide (let f = all i high in f.0)
  no_or_wide (inr (all, fits, whole)) (inr (also, wide)) = wide fits

  cut_form : (cs : List ℤ) (k : ℤ) → IsRoundingCut I ms cs k → (j : ℕ) → j < width I → IsCutForm I ms j
  cut_form cs k c j low = by (variable_at I j).whole refl
    where
      by : (b : Bool) → (variable_at I j).whole ≡ b → IsCutFormBy b (form I ms j)
      by true e = record { number = number_at cs j; same = c.forms j low }
      by false e = subst (λ n. IsSame (form I ms j) (whole n)) (c.others j low (λ w. let f : IsTrue false = subst IsTrue e w in cc)) (c.forms j low)

  no_or_cut : (cs : List ℤ) (k : ℤ) → IsNoCut I ms → MakesCut I ms cs k → ⊥
  no_or_cut cs k (inl (j, low, are, fits, other)) c = other (cut_form cs k c.cut j low)
  no_or_cut cs k (inr (all, fits, whole)) c = c.rounds whole

  wide_or_cut : (cs : List ℤ) (k : ℤ) → IsWideCut I ms → MakesCut I ms cs k → ⊥
  wide_or_cut cs k (inl (j, low, are, wide)) c = let f = c.fits in wide (f.forms j low)
  wide_or_cut cs k (inr (all, wide)) c = let f = c.fits in wide f.low

  multipliers_once : (a b : Trial) → TriesMultipliers I ms a → TriesMultipliers I ms b → a ≡ b
  multipliers_once a b (inl (n, e)) (inl (m, f)) = e ∙ sym f
  multipliers_once a b (inl (n, e)) (inr (inl (w, f))) = absurd (no_or_wide n w)
  multipliers_once a b (inl (n, e)) (inr (inr (cs, k, c, f))) = absurd (no_or_cut cs k n c)
  multipliers_once a b (inr (inl (w, e))) (inl (n, f)) = absurd (no_or_wide n w)
  multipliers_once a b (inr (inl (w, e))) (inr (inl (v, f))) = e ∙ sym f
  multipliers_once a b (inr (inl (w, e))) (inr (inr (cs, k, c, f))) = absurd (wide_or_cut cs k w c)
  multipliers_once a b (inr (inr (cs, k, c, e))) (inl (n, f)) = absurd (no_or_cut cs k n c)
  multipliers_once a b (inr (inr (cs, k, c, e))) (inr (inl (w, f))) = absurd (wide_or_cut cs k w c)
  multipliers_once a b (inr (inr (cs, k, c, e))) (inr (inr (ds, l, d, f))) =
      let r = one_row I good ms cs ds k l c.cut d.cut in e ∙ ap (λ z. Cut ms z k) r.0 ∙ ap (λ z. Cut ms ds z) r.1 ∙ sym f

-- of an equation
module _ (I : Instance) (good : IsInstance I) (ss : List Status) (u : Entries) (j : ℕ) (numbers : (c : ℕ) → IsNumber (u j c)) where
  one_multipliers : (ms ns : List Multiplier) → AreCutMultipliers I ss u j ms → AreCutMultipliers I ss u j ns → ms ≡ ns
  one_multipliers ms ns p q =
      p.is ∙ collected_same p.left q.left (goal_column I) (λ c low. one_left (status_at ss c) (u j c) (p.left c) (q.left c) (numbers c) (p.are c low) (q.are c low)) ∙ sym q.is

  equation_once : (a b : Trial) → TriesEquation I ss u j a → TriesEquation I ss u j b → a ≡ b
  equation_once a b (inl (w, e)) (inl (v, f)) = e ∙ sym f
  equation_once a b (inl (w, e)) (inr (inl (fits, z, f))) = absurd (w fits)
  equation_once a b (inl (w, e)) (inr (inr (ms, fits, z, m, t))) = absurd (w fits)
  equation_once a b (inr (inl (fits, z, e))) (inl (w, f)) = absurd (w fits)
  equation_once a b (inr (inl (fits, z, e))) (inr (inl (also, y, f))) = e ∙ sym f
  equation_once a b (inr (inl (fits, z, e))) (inr (inr (ms, also, y, m, t))) = absurd (z y)
  equation_once a b (inr (inr (ms, fits, z, m, t))) (inl (w, f)) = absurd (w fits)
  equation_once a b (inr (inr (ms, fits, z, m, t))) (inr (inl (also, y, f))) = absurd (y z)
  equation_once a b (inr (inr (ms, fits, z, m, t))) (inr (inr (ns, also, y, n, s))) =
      multipliers_once I good ns a b (subst (λ l. TriesMultipliers I l a) (one_multipliers ms ns m n) t) s

-- of a basis
module _ (I : Instance) (good : IsInstance I) (x : List Ratio) (ss : List Status) where
  one_fractional : (i j : ℕ) → IsFractional I x i → IsFractional I x j → i ≡ j
  one_fractional i j p q =
      by_lt i j (λ below. absurd (p.other (q.below i below p.whole)))
      (λ up. by_lt j i (λ above. absurd (q.other (p.below j above q.whole))) (λ down. omega arith))

  all_whole : (j : ℕ) → IsWholeBelow I x (width I) → IsFractional I x j → ⊥
  all_whole j w p = p.other (w j p.inside p.whole)

  apart : (i j : ℕ) → IsFractional I x i → IsFractional I x j → basic_in ss i ≡ false → basic_in ss j ≡ true → ⊥
  apart i j p q f t = let e : i ≡ j = one_fractional i j p q in let g : basic_in ss j ≡ false = subst (λ k. basic_in ss k ≡ false) e f in absurd (cc)

  pub trial_once : (a b : Trial) → TriesBasis I x ss a → TriesBasis I x ss b → a ≡ b
  trial_once a b (inl (w, e)) (inl (v, f)) = e ∙ sym f
  trial_once a b (inl (w, e)) (inr (inl (j, p, n, f))) = absurd (all_whole j w p)
  trial_once a b (inl (w, e)) (inr (inr (j, u, p, t, d, s))) = absurd (all_whole j w p)
  trial_once a b (inr (inl (i, p, n, e))) (inl (w, f)) = absurd (all_whole i w p)
  trial_once a b (inr (inl (i, p, n, e))) (inr (inl (j, q, m, f))) = e ∙ sym f
  trial_once a b (inr (inl (i, p, n, e))) (inr (inr (j, u, q, t, d, s))) = absurd (apart i j p q n t)
  trial_once a b (inr (inr (i, u, p, t, d, r))) (inl (w, f)) = absurd (all_whole i w p)
  trial_once a b (inr (inr (i, u, p, t, d, r))) (inr (inl (j, q, n, f))) = absurd (apart j i q p n t)
  trial_once a b (inr (inr (i, u, p, t, d, r))) (inr (inr (j, v, q, s, g, z))) =
      let e : i ≡ j = one_fractional i j p q in
      let h : u ≡ v = fun_ext (λ b. fun_ext (λ c. Lists.one_dictionary (width I) (height I + 1) (rows_with_goal false I) (basic_in ss) u v d g b c)) in
      let entries = g.entries in
      equation_once I good ss v j (λ c. let n = entries.reduced j c in n.0) a b (subst (λ w. TriesEquation I ss w j a) h (subst (λ k. TriesEquation I ss u k a) e r)) z
