-- The instances that the definitions are tried on.
use Rattle.std.proofs.Common.{◌≡◌, inl, IfSome, ℕ, zero, suc, ◌+◌, ◌<◌, ◌≤◌, ℤ, pos, negsuc, ◌+ℤ◌, ◌*ℤ◌, IsTrue, List, [], ◌∷◌, length, arith, lit<, lit≤, refl, sym, ◌∙◌, ap, subst}
use Rattle.std.specs.Prelude.{unsigned_abs}
use Rattle.std.specs.Int.{IsGcd, ◌∣◌}
use Rattle.std.proofs.Math.Nat.{eq-one_of_dvd-one}
use Rattle.std.proofs.Math.IntN.{*ℤ_comm}
use Rattle.std.specs.List.{All}
use Rattle.std.proofs.lemmas.Int.{ints}
use Rattle.std.proofs.lemmas.List.{length-append}
use Rattle.std.proofs.lemmas.List.Elements.{All-cons, All-nil}
use Rattle.rational.specs.Ratio.{Ratio, IsNumber, whole, product, IsSame}
use Rattle.rational.specs.Width.{most, AreFourWithin, SumFits}
use Rattle.rational.proofs.Scaling.{IsSame-trans}
use Rattle.rational.proofs.ReducedForms.{same_reduced}
use Rattle.evidence.specs.Sums.{none, IsWhole, total}
use Rattle.evidence.specs.Width.{TermFits, StatedFits, RowFits, FormFits, LeafFits, PointFits, RayFits}
use Rattle.evidence.proofs.Numbers.{one_times}
use Rattle.evidence.proofs.Fits.{whole-reduced}
use Rattle.evidence.specs.Instance.{alone, Instance, asking, variable_at, row_at, cost_at, entry_at, coefficient_at, minimising}
use Rattle.evidence.specs.Point.{value_at, activity, objective, IsBetween, IsZeroOr, IsFeasible, NeverLeaves, NeverLeavesZeroOr, IsRay}
use Rattle.evidence.specs.Cases.{Multiplier, Tree, Clash, Farkas, Bound, Grid, FarkasRows, BoundRows, GridRows, Split, Zero, Node, SplitAt, BoundBy, AreLegal, form, end_of, preorder, at_most, at_least, IsBound, IsFarkas, IsBranch, Shows, multiplier_at, or_none}
use Rattle.evidence.specs.Claim.{Accepts}
use Rattle.evidence.specs.Examples.{times, halves, two, half_a_proof, slope_example, upwards}

-- sums of whole numbers fit where both and their sum are small
pub record AreSmall (m n : ℤ) : Type 0 where
  pub left : unsigned_abs m ≤ most
  pub right : unsigned_abs n ≤ most
  pub all : unsigned_abs (m +ℤ n) ≤ most

pub times_one : (z : ℤ) → z *ℤ pos 1 ≡ z
times_one z = *ℤ_comm z (pos 1) ∙ one_times z

four : (m n : ℤ) (g h : ℕ) → g ≡ 1 → h ≡ 1 → AreSmall m n → AreFourWithin (whole m) (whole n) g h
four m n g h eg eh s =
    let a = times_one m in
    let b = times_one n in
    rw (eg, eh) (record { left = rw a s.left; right = rw b s.right; total = rw (a, b) s.all; below = lit≤ tt })

pub whole_sums : (x y : Ratio) (m n : ℤ) → IsNumber x → IsNumber y → IsSame x (whole m) → IsSame y (whole n) → AreSmall m n → SumFits x y
whole_sums x y m n px py ex ey s = record {
  left = px;
  right = py;
  by = λ p q rp rq ep eq g h isg ish.
      let a : whole m ≡ p = same_reduced (whole m) p (whole-reduced m) rp (sym (IsSame-trans p x (whole m) px ep ex)) in
      let b : whole n ≡ q = same_reduced (whole n) q (whole-reduced n) rq (sym (IsSame-trans q y (whole n) py eq ey)) in
      let d : q.den ≡ 1 = sym (ap (λ (r : Ratio). r.den) b) in
      let eg : g ≡ 1 = eq-one_of_dvd-one (subst (λ k. g ∣ k) d isg.1) in
      let eh : h ≡ 1 = eq-one_of_dvd-one (subst (λ k. h ∣ k) eg ish.1) in
      subst (λ r. AreFourWithin r q g h) a (subst (λ r. AreFourWithin (whole m) r g h) b (four m n g h eg eh s));
}

term : (s a x : Ratio) (m n : ℤ) → IsNumber s → IsNumber (product a x) → IsSame s (whole m) → IsSame (product a x) (whole n) → AreSmall m n → TermFits s a x
term s a x m n ps pt es et small = record {
  term = λ h k. record { number = pt; form = whole n; same = sym et; reduced = whole-reduced n; within = (small.right, lit≤ tt) };
  sum = λ h k. whole_sums s (product a x) m n ps pt es et small;
}

-- below 1, below 2
pub one : (P : ℕ → Type 0) → P 0 → (j : ℕ) → j < 1 → P j
one P p zero h = p
one P p (suc j) h = absurd (omega arith)

pub both : (P : ℕ → Type 0) → P 0 → P 1 → (j : ℕ) → j < 2 → P j
both P p q zero h = p
both P p q (suc zero) h = q
both P p q (suc (suc j)) h = absurd (omega arith)

pub stated_one : (start : Ratio) (a x : ℕ → Ratio) → TermFits start (a 0) (x 0) → StatedFits start 1 a x
stated_one start a x p = record { steps = one (λ j. TermFits (total start j (λ k. product (a k) (x k))) (a j) (x j)) p }

pub stated_two : (start : Ratio) (a x : ℕ → Ratio) → TermFits start (a 0) (x 0) → TermFits (total start 1 (λ k. product (a k) (x k))) (a 1) (x 1) → StatedFits start 2 a x
stated_two start a x p q = record { steps = both (λ j. TermFits (total start j (λ k. product (a k) (x k))) (a j) (x j)) p q }

-- s plus a x, as whole numbers
pub wholes : (s a x : Ratio) (m n : ℤ) → IsNumber s → IsNumber (product a x) → IsSame s (whole m) → IsSame (product a x) (whole n) → unsigned_abs m ≤ most → unsigned_abs n ≤ most → unsigned_abs (m +ℤ n) ≤ most → TermFits s a x
wholes s a x m n ps pt es et p q r = term s a x m n ps pt es et (record { left = p; right = q; all = r })

pub just : {X : Type 0} (P : X → Type 0) (x : X) → P x → All P (x ∷ [])
just P x p = All-cons P x [] p (All-nil P)

pub two_of : {X : Type 0} (P : X → Type 0) (x y : X) → P x → P y → All P (x ∷ y ∷ [])
two_of P x y p q = All-cons P x (y ∷ []) p (just P y q)

pub halves_feasible : IsFeasible halves (whole (pos 2) ∷ [])
halves_feasible = record {
  count = refl;
  numbers = just IsNumber (whole (pos 2)) (lit< tt);
  variables = one (λ j. IsBetween (variable_at halves j).range (value_at (whole (pos 2) ∷ []) j)) (record { low = omega (arith, ints); high = tt });
  rows = one (λ i. IsBetween (row_at halves i) (activity halves (whole (pos 2) ∷ []) i)) (record { low = tt; high = omega (arith, ints) });
  whole = one (λ j. IsTrue (variable_at halves j).whole → IsWhole (value_at (whole (pos 2) ∷ []) j)) (λ h. record { number = pos 2; same = refl });
  further = one (λ j. IfSome (variable_at halves j).unless_zero (λ r. IsZeroOr r (value_at (whole (pos 2) ∷ []) j))) tt;
}

low_case : Instance
low_case = at_most halves 0 (pos 2)

abbrev pub high_case : Instance
high_case = at_least halves 0 (pos 3)

abbrev pub bound : List Multiplier
bound = times 0 (negsuc 0) ∷ []

abbrev pub farkas : List Multiplier
farkas = times 0 (pos 2) ∷ times 1 (negsuc 0) ∷ []

pub bound_legal : AreLegal (at_most halves 0 (pos 2)) bound
bound_legal = record {
  numbers = just (λ m. IsNumber m.by) (times 0 (negsuc 0)) (lit< tt);
  columns = just (λ m. m.column < 2) (times 0 (negsuc 0)) (lit< tt);
  ascending = λ k h. absurd (omega arith);
  nonzero = just (λ m. m.by.num ≡ pos 0 → ⊥) (times 0 (negsuc 0)) (λ e. cc);
  ends = just (λ m. Rattle.std.specs.Prelude.IsSome (end_of (at_most halves 0 (pos 2)) m)) (times 0 (negsuc 0)) refl;
}

pub farkas_legal : AreLegal high_case farkas
farkas_legal = record {
  numbers = two_of (λ m. IsNumber m.by) (times 0 (pos 2)) (times 1 (negsuc 0)) (lit< tt) (lit< tt);
  columns = two_of (λ m. m.column < 2) (times 0 (pos 2)) (times 1 (negsuc 0)) (lit< tt) (lit< tt);
  ascending = λ k h. one (λ k. (Rattle.evidence.specs.Cases.multiplier_at farkas k).column < (Rattle.evidence.specs.Cases.multiplier_at farkas (k + 1)).column) (lit< tt) k (omega arith);
  nonzero = two_of (λ m. m.by.num ≡ pos 0 → ⊥) (times 0 (pos 2)) (times 1 (negsuc 0)) (λ e. absurd (omega (arith, ints))) (λ e. cc);
  ends = two_of (λ m. Rattle.std.specs.Prelude.IsSome (end_of high_case m)) (times 0 (pos 2)) (times 1 (negsuc 0)) refl refl;
}

pub halves_fit : PointFits (alone halves) (whole (pos 2) ∷ [])
halves_fit = record {
  rows = one (λ i. RowFits halves (whole (pos 2) ∷ []) i)
      (stated_one none (entry_at halves.entries 0) (value_at (whole (pos 2) ∷ [])) (wholes none (whole (pos 2)) (whole (pos 2)) (pos 0) (pos 4) (lit< tt) (lit< tt) refl refl (lit≤ tt) (lit≤ tt) (lit≤ tt)));
  goals = one (λ k. Rattle.evidence.specs.Width.GoalFits (asking (alone halves) k) (whole (pos 2) ∷ []))
      (stated_one none (cost_at halves) (value_at (whole (pos 2) ∷ [])) (wholes none (whole (pos 1)) (whole (pos 2)) (pos 0) (pos 2) (lit< tt) (lit< tt) refl refl (lit≤ tt) (lit≤ tt) (lit≤ tt)));
}

abbrev by_of : List Multiplier → ℕ → Ratio
by_of ms k = (multiplier_at ms k).by

abbrev coefficient_of : Instance → List Multiplier → ℕ → ℕ → Ratio
coefficient_of I ms j k = coefficient_at I (multiplier_at ms k).column j

abbrev end_at : Instance → List Multiplier → ℕ → Ratio
end_at I ms k = or_none (end_of I (multiplier_at ms k))

pub bound_fits : LeafFits (at_most halves 0 (pos 2)) none bound
bound_fits = record {
  forms = one (λ j. FormFits (at_most halves 0 (pos 2)) bound j)
      (stated_one none (by_of bound) (coefficient_of (at_most halves 0 (pos 2)) bound 0) (wholes none (whole (negsuc 0)) (whole (pos 1)) (pos 0) (negsuc 0) (lit< tt) (lit< tt) refl refl (lit≤ tt) (lit≤ tt) (lit≤ tt)));
  low = stated_one none (by_of bound) (end_at (at_most halves 0 (pos 2)) bound) (wholes none (whole (negsuc 0)) (whole (pos 2)) (pos 0) (negsuc 1) (lit< tt) (lit< tt) refl refl (lit≤ tt) (lit≤ tt) (lit≤ tt));
}

pub farkas_fits : LeafFits high_case none farkas
farkas_fits = record {
  forms = one (λ j. FormFits high_case farkas j)
      (stated_two none (by_of farkas) (coefficient_of high_case farkas 0)
      (wholes none (whole (pos 2)) (whole (pos 1)) (pos 0) (pos 2) (lit< tt) (lit< tt) refl refl (lit≤ tt) (lit≤ tt) (lit≤ tt))
      (wholes (whole (pos 2)) (whole (negsuc 0)) (whole (pos 2)) (pos 2) (negsuc 1) (lit< tt) (lit< tt) refl refl (lit≤ tt) (lit≤ tt) (lit≤ tt)));
  low = stated_two none (by_of farkas) (end_at high_case farkas)
      (wholes none (whole (pos 2)) (whole (pos 3)) (pos 0) (pos 6) (lit< tt) (lit< tt) refl refl (lit≤ tt) (lit≤ tt) (lit≤ tt))
      (wholes (whole (pos 6)) (whole (negsuc 0)) (whole (pos 5)) (pos 6) (negsuc 4) (lit< tt) (lit< tt) refl refl (lit≤ tt) (lit≤ tt) (lit≤ tt));
}

pub branches : Accepts (alone halves) two
branches = (
  record { feasible = halves_feasible; count = refl; numbers = just IsNumber (whole (pos 2)) (lit< tt); values = one (λ k. IsSame (value_at (whole (pos 2) ∷ []) k) (objective (asking (alone halves) k) (whole (pos 2) ∷ []))) refl },
  halves_fit,
  inl refl,
  record {
    tree = Split 0 (pos 2) (Bound bound) (Farkas farkas);
    listed = refl;
    shows = (
      inl (record { variable = lit< tt; whole = refl; low = omega (arith, ints); high = omega (arith, ints) }),
      record { legal = bound_legal; costs = one (λ j. Rattle.rational.specs.Ratio.IsSame (form (at_most halves 0 (pos 2)) bound j) (minimising halves (cost_at halves j))) refl; reaches = omega (arith, ints) },
      record { legal = farkas_legal; vanishes = one (λ j. Rattle.rational.specs.Ratio.IsSame (form high_case farkas j) none) refl; above = omega (arith, ints) },
    );
    fits = (bound_fits, farkas_fits);
  },
)

listed_some : (t : Tree) → 1 ≤ length (preorder t)
listed_some (Clash c) = omega arith
listed_some (Farkas ms) = omega arith
listed_some (Bound ms) = omega arith
listed_some (Grid g ms) = omega arith
listed_some (FarkasRows ms) = omega arith
listed_some (BoundRows ms) = omega arith
listed_some (GridRows g ms) = omega arith
listed_some (Split j k a b) = omega arith
listed_some (Zero j a b) = omega arith

not_two : (t : Tree) (x y : Node) → x ∷ y ∷ [] ≡ preorder t → ⊥
not_two (Clash c) x y e = let l = ap length e in omega arith
not_two (Farkas ms) x y e = let l = ap length e in omega arith
not_two (Bound ms) x y e = let l = ap length e in omega arith
not_two (Grid g ms) x y e = let l = ap length e in omega arith
not_two (FarkasRows ms) x y e = let l = ap length e in omega arith
not_two (BoundRows ms) x y e = let l = ap length e in omega arith
not_two (GridRows g ms) x y e = let l = ap length e in omega arith
not_two (Split j k a b) x y e = let l = ap length e in let m = length-append (preorder a) (preorder b) in let p = listed_some a in let q = listed_some b in omega arith
not_two (Zero j a b) x y e = let l = ap length e in let m = length-append (preorder a) (preorder b) in let p = listed_some a in let q = listed_some b in omega arith

pub half : Accepts (alone halves) half_a_proof → ⊥
half a = not_two a.3.tree _ _ a.3.listed

slope_feasible : IsFeasible slope_example (none ∷ none ∷ [])
slope_feasible = record {
  count = refl;
  numbers = two_of IsNumber none none (lit< tt) (lit< tt);
  variables = both (λ j. IsBetween (variable_at slope_example j).range (value_at (none ∷ none ∷ []) j)) (record { low = omega (arith, ints); high = tt }) (record { low = omega (arith, ints); high = tt });
  rows = one (λ i. IsBetween (row_at slope_example i) (activity slope_example (none ∷ none ∷ []) i)) (record { low = omega (arith, ints); high = omega (arith, ints) });
  whole = both (λ j. IsTrue (variable_at slope_example j).whole → IsWhole (value_at (none ∷ none ∷ []) j)) (λ h. record { number = pos 0; same = refl }) (λ h. record { number = pos 0; same = refl });
  further = both (λ j. IfSome (variable_at slope_example j).unless_zero (λ r. IsZeroOr r (value_at (none ∷ none ∷ []) j))) tt tt;
}

abbrev ray : List Ratio
ray = whole (pos 3) ∷ whole (pos 2) ∷ []

slope_ray : IsRay slope_example (none ∷ none ∷ []) ray
slope_ray = record {
  count = refl;
  numbers = two_of IsNumber (whole (pos 3)) (whole (pos 2)) (lit< tt) (lit< tt);
  variables = both (λ j. NeverLeaves (variable_at slope_example j).range (value_at ray j)) (record { low = omega (arith, ints); high = tt }) (record { low = omega (arith, ints); high = tt });
  rows = one (λ i. NeverLeaves (row_at slope_example i) (activity slope_example ray i)) (record { low = omega (arith, ints); high = omega (arith, ints) });
  whole = both (λ j. IsTrue (variable_at slope_example j).whole → IsWhole (value_at ray j)) (λ h. record { number = pos 3; same = refl }) (λ h. record { number = pos 2; same = refl });
  further = both (λ j. IfSome (variable_at slope_example j).unless_zero (λ e. NeverLeavesZeroOr e (value_at (none ∷ none ∷ []) j) (value_at ray j))) tt tt;
  better = omega (arith, ints);
}

abbrev origin : List Ratio
origin = none ∷ none ∷ []

-- none is added to s
pub zeros : (s a x : Ratio) → x.num ≡ pos 0 → TermFits s a x
zeros s a x e = record { term = λ h k. absurd (k e); sum = λ h k. absurd (k e) }

slope_fit : PointFits (alone slope_example) origin
slope_fit = record {
  rows = one (λ i. RowFits slope_example origin i) (stated_two none (entry_at slope_example.entries 0) (value_at origin) (zeros none (whole (pos 2)) none refl) (zeros none (whole (negsuc 2)) none refl));
  goals = one (λ k. Rattle.evidence.specs.Width.GoalFits (asking (alone slope_example) k) origin)
      (stated_two none (cost_at slope_example) (value_at origin) (zeros none (whole (pos 1)) none refl) (zeros none none none refl));
}

ray_fits : RayFits slope_example ray
ray_fits = record {
  rows = one (λ i. RowFits slope_example ray i)
      (stated_two none (entry_at slope_example.entries 0) (value_at ray)
      (wholes none (whole (pos 2)) (whole (pos 3)) (pos 0) (pos 6) (lit< tt) (lit< tt) refl refl (lit≤ tt) (lit≤ tt) (lit≤ tt))
      (wholes (whole (pos 6)) (whole (negsuc 2)) (whole (pos 2)) (pos 6) (negsuc 5) (lit< tt) (lit< tt) refl refl (lit≤ tt) (lit≤ tt) (lit≤ tt)));
  goal = stated_two none (λ j. minimising slope_example (cost_at slope_example j)) (value_at ray)
      (wholes none (whole (negsuc 0)) (whole (pos 3)) (pos 0) (negsuc 2) (lit< tt) (lit< tt) refl refl (lit≤ tt) (lit≤ tt) (lit≤ tt))
      (wholes (whole (negsuc 2)) none (whole (pos 2)) (negsuc 2) (pos 0) (lit< tt) (lit< tt) refl refl (lit≤ tt) (lit≤ tt) (lit≤ tt));
}

pub rays : Accepts (alone slope_example) upwards
rays = (
  record { feasible = slope_feasible; count = refl; numbers = just IsNumber none (lit< tt); values = one (λ k. IsSame (value_at (none ∷ []) k) (objective (asking (alone slope_example) k) origin)) refl },
  slope_fit,
  inl refl,
  (slope_ray, ray_fits),
)
