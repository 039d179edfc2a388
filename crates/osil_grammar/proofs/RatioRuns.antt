-- Runs of rational numbers, each the same number as in the definition.
use Rattle.osil_grammar.proofs.Words.{◌≡◌, ℕ, zero, suc, ◌<◌, ◌+◌, List, [], ◌∷◌, ◌++◌, length, arith, refl, sym, ◌∙◌, ap, subst, inl, inr, cases_eq, append_assoc, map_push, length-append, length-map, Ratio, sum, IsNumber, IsSame, SumFits, IsSame-trans, IsSame-sum, sum-number, sums_same, ratio, ratios, Frac, ratio_run, ratio_at, AreSame}

-- the run's numbers one after another
later : (first step : Ratio) (k : ℕ) → ratio_at (sum first step) step k ≡ ratio_at first step (suc k)
later first step zero = refl
later first step (suc k) = ap (λ (x : Ratio). sum x step) (later first step k)

pub ratio_run-push : (first step : Ratio) (k : ℕ) → ratio_run first step (suc k) ≡ ratio_run first step k ++ ratio_at first step k ∷ []
ratio_run-push first step zero = refl
ratio_run-push first step (suc k) =
    ap (λ (xs : List Ratio). first ∷ xs) (ratio_run-push (sum first step) step k ∙ ap (λ (x : Ratio). ratio_run (sum first step) step k ++ x ∷ []) (later first step k))

pub ratio_at-number : (first step : Ratio) (k : ℕ) → IsNumber first → IsNumber step → IsNumber (ratio_at first step k)
ratio_at-number first step zero p q = p
ratio_at-number first step (suc k) p q = sum-number (ratio_at first step k) step (ratio_at-number first step k p q) q

pub AreSame-push : (xs ys : List Ratio) (x y : Ratio) → AreSame xs ys → IsSame x y → AreSame (xs ++ x ∷ []) (ys ++ y ∷ [])
AreSame-push [] [] x y h s = (s, tt)
AreSame-push (v ∷ xs) (w ∷ ys) x y h s = (h.0, AreSame-push xs ys x y h.1 s)
AreSame-push xs ys x y h s = absurd h

-- the numbers of a run that are in the list so far, and the last of them
pub record HasRun (old now : List Frac) (first step next : Frac) (k : ℕ) : Type 0 where
  pub added : List Frac
  pub behind : now ≡ old ++ added
  pub same : AreSame (ratios added) (ratio_run (ratio first) (ratio step) (suc k))
  pub last : IsSame (ratio next) (ratio_at (ratio first) (ratio step) k)
  pub fits : (j : ℕ) → j < k → SumFits (ratio_at (ratio first) (ratio step) j) (ratio step)

-- the number at the next place doesn't fit where the sum of the last and the step doesn't
place_fits : (old now : List Frac) (first step next : Frac) (k : ℕ) → HasRun old now first step next k → SumFits (ratio next) (ratio step) → SumFits (ratio_at (ratio first) (ratio step) k) (ratio step)
place_fits old now first step next k run fits = sums_same (ratio next) (ratio step) (ratio_at (ratio first) (ratio step) k) (ratio step) (ratio_at-number (ratio first) (ratio step) k first.above step.above) step.above run.last refl fits

pub run_wide : (old now : List Frac) (first step next : Frac) (k : ℕ) → HasRun old now first step next k → (SumFits (ratio next) (ratio step) → ⊥) → SumFits (ratio_at (ratio first) (ratio step) k) (ratio step) → ⊥
run_wide old now first step next k run wide fits = wide (sums_same (ratio_at (ratio first) (ratio step) k) (ratio step) (ratio next) (ratio step) next.above step.above (sym run.last) refl fits)

more_fits : (P : ℕ → Type 0) (k : ℕ) → ((j : ℕ) → j < k → P j) → P k → (j : ℕ) → j < suc k → P j
more_fits P k below here j h = elim (cases_eq j k) [ inl same ↦ subst P (sym same) here | inr other ↦ below j (omega arith) ]

pub run_more : (old now after : List Frac) (first step next total : Frac) (k : ℕ) → HasRun old now first step next k → IsSame (ratio total) (sum (ratio next) (ratio step)) → SumFits (ratio next) (ratio step) → after ≡ now ++ total ∷ [] → HasRun old after first step total (suc k)
run_more old now after first step next total k run is fits pushed =
    let at_next : IsSame (ratio total) (ratio_at (ratio first) (ratio step) (suc k)) = IsSame-trans (ratio total) (sum (ratio next) (ratio step)) (ratio_at (ratio first) (ratio step) (suc k)) (sum-number (ratio next) (ratio step) next.above step.above) is (IsSame-sum (ratio next) (ratio_at (ratio first) (ratio step) k) (ratio step) run.last) in
    record {
      added = run.added ++ total ∷ [];
      behind = pushed ∙ ap (λ (l : List Frac). l ++ total ∷ []) run.behind ∙ append_assoc old run.added (total ∷ []);
      same = subst (λ (xs : List Ratio). AreSame xs (ratio_run (ratio first) (ratio step) (suc (suc k)))) (sym (map_push ratio run.added total))
          (subst (λ (ys : List Ratio). AreSame (ratios run.added ++ ratio total ∷ []) ys) (sym (ratio_run-push (ratio first) (ratio step) (suc k)))
          (AreSame-push (ratios run.added) (ratio_run (ratio first) (ratio step) (suc k)) (ratio total) (ratio_at (ratio first) (ratio step) (suc k)) run.same at_next));
      last = at_next;
      fits = more_fits (λ (j : ℕ). SumFits (ratio_at (ratio first) (ratio step) j) (ratio step)) k run.fits (place_fits old now first step next k run fits);
    }

-- how long a run is, and a list with one behind it
length-ratio_run : (first step : Ratio) (m : ℕ) → length (ratio_run first step m) ≡ m
length-ratio_run first step zero = refl
length-ratio_run first step (suc m) = ap suc (length-ratio_run (sum first step) step m)

pub length-same : (xs ys : List Ratio) → AreSame xs ys → length xs ≡ length ys
length-same [] [] h = refl
length-same (x ∷ xs) (y ∷ ys) h = ap suc (length-same xs ys h.1)
length-same xs ys h = absurd h

pub ratio_length : (old new added : List Frac) (first step : Frac) (m : ℕ) → new ≡ old ++ added → AreSame (ratios added) (ratio_run (ratio first) (ratio step) m) → length new ≡ length old + m
ratio_length old new added first step m is same =
    ap length is ∙ length-append old added ∙ (let a = length-same (ratios added) (ratio_run (ratio first) (ratio step) m) same in let b = length-map added ratio in let c = length-ratio_run (ratio first) (ratio step) m in omega arith)
