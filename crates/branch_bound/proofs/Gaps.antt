-- How far a best point may be, and which open cases are bounded.
use Rattle.std.proofs.Common.{◌≡◌, ℕ, zero, suc, ◌+◌, ◌<◌, Bool, true, false, cond, Option, None, Some, IsSomeAnd, List, [], ◌∷◌, map, length, get_or, arith, lit<, refl, sym, ◌∙◌, ap, subst}
use Rattle.std.specs.List.{All}
use Rattle.std.proofs.lemmas.List.{length-map, get_or-map}
use Rattle.std.proofs.lemmas.List.Elements.{All-nil, All-cons, All-head, All-tail, All-map}
use Rattle.rational.specs.Ratio.{Ratio, sum, product, negative, IsNumber, IsSame, IsAtMost}
use Rattle.rational.specs.Width.{ReducedFits}
use Rattle.fraction.specs.Frac.{ratio, ratios}
use Rattle.fraction.specs.declared.frac.Frac.{Frac}
use Rattle.std.proofs.lemmas.Bool.{false≢true}
use Rattle.evidence.specs.Sums.{none}
use Rattle.evidence.specs.Instance.{Goal, Problem, no_goal, minimising, minimising_by}
use Rattle.evidence.specs.Point.{value_at}
use Rattle.instance.specs.declared.parts.Goal.{Goal as Own}
use Rattle.instance.specs.Parts.{Parts}
use Rattle.instance.specs.Program.{goal, program}
use Rattle.certificate.specs.Meanings as Means
use Rattle.evidence.proofs.Columns.{by_lt}
use Rattle.evidence.proofs.Numbers.{sum-number, ≲-from, ≲-trans, product-number, product-≈, ≈-refl, ≈-sym, ◌≈◌, ◌⊙◌}
use Rattle.evidence.proofs.Fits.{reduced_same}
use Rattle.simplex_rules.proofs.OneEnd.{one_reduced}
use Rattle.case_tree.specs.declared.path.Branch.{Branch}
use Rattle.case_tree.specs.Cuts.{pending_places, branch_at}
use Rattle.search_rules.specs.Search.{Found, SearchMoment, reached}
use Rattle.search_rules.specs.Gaps as gaps
use Rattle.search_rules.specs.Gaps.{Number, Percent, IsAllowed, IsPart, IsNearBy, size, hundredth}
use Rattle.branch_bound.specs.declared.carried.Carried.{Carried}
use Rattle.branch_bound.specs.declared.level.Level.{Level}
use Rattle.branch_bound.specs.Bounds.{carried_at, kept_after, number_of, IsThreshold}

-- a fraction's number fits
pub fraction_fits : (f : Frac) (x : Ratio) → IsNumber x → IsSame (ratio f) x → ReducedFits x
fraction_fits f x n e = record { number = n; form = ratio f; same = e; reduced = (f.above, f.reduced); within = (f.numer_within, f.denom_within) }

-- so many hundredths of a value, by two products
module _ (p v : Frac) (q : Frac) (whole : IsSame (ratio q) (product (ratio p) (size (ratio v)))) where
  part_number : IsNumber (product (ratio p) (size (ratio v)))
  part_number = product-number (ratio p) (size (ratio v)) p.above v.above

  parts : product (ratio q) hundredth ≈ product (product (ratio p) (size (ratio v))) hundredth
  parts = product-≈ (record { left = q.above; right = part_number; is = whole }) (≈-refl (lit< tt))

  pub part_is : (r : Frac) → IsSame (ratio r) (product (ratio q) hundredth) → IsPart (ratio p) (ratio v) (ratio r)
  part_is r e =
      let t : ratio r ≈ product (product (ratio p) (size (ratio v))) hundredth = record { left = r.above; right = parts.left; is = e } ⊙ parts in
      record {
        whole_fits = fraction_fits q (product (ratio p) (size (ratio v))) part_number whole;
        fits = fraction_fits r (product (product (ratio p) (size (ratio v))) hundredth) parts.right t.is;
        same = t.is;
        reduced = (r.above, r.reduced);
      }

  pub no_part : (ReducedFits (product (ratio q) hundredth) → ⊥) → (a : Ratio) → IsPart (ratio p) (ratio v) a → ⊥
  no_part wide a part = let back = ≈-sym parts in wide (reduced_same (product (product (ratio p) (size (ratio v))) hundredth) (product (ratio q) hundredth) parts.left back.is part.fits)

-- what is allowed is one number
pub allowed_once : (g : gaps.Gap) (v a b : Ratio) → IsAllowed g v a → IsAllowed g v b → a ≡ b
allowed_once (Number n) v a b h k = h ∙ sym k
allowed_once (Percent p) v a b h k = one_reduced a b (product (product p (size v)) hundredth) h.fits.number h.reduced k.reduced h.same k.same

-- of the branches above those count whose second case is still to come
module _ (P : Option Carried → Type 0) (ks : List (Option Carried)) (bs : List Branch) where
  abbrev pub EachCounts : ℕ → Type 0
  EachCounts d = (e : ℕ) → e < d → (branch_at bs e).is_second ≡ false → P (carried_at ks (e + 1))

  below_them : (d : ℕ) → EachCounts (suc d) → EachCounts d
  below_them d h = λ e low. h e (omega arith)

  pub all_count : (d : ℕ) → EachCounts d → All P (kept_after ks (pending_places bs d))
  all_count zero h = All-nil P
  all_count (suc d) h = by (branch_at bs d).is_second (λ is. h d (omega arith) is) (all_count d (below_them d h))
    where
      by : (b : Bool) → (b ≡ false → P (carried_at ks (d + 1))) → All P (kept_after ks (pending_places bs d)) → All P (kept_after ks (cond b (pending_places bs d) (d ∷ pending_places bs d)))
      by true here below = below
      by false here below = All-cons P (carried_at ks (d + 1)) (kept_after ks (pending_places bs d)) (here refl) below

  pub each_counts : (d : ℕ) → All P (kept_after ks (pending_places bs d)) → EachCounts d
  each_counts zero all = λ e low is. absurd (omega arith)
  each_counts (suc d) all = let s = by (branch_at bs d).is_second all in at (each_counts d s.1) s.0
    where
      by : (b : Bool) → All P (kept_after ks (cond b (pending_places bs d) (d ∷ pending_places bs d))) → (b ≡ false → P (carried_at ks (d + 1))) × All P (kept_after ks (pending_places bs d))
      by true h = (λ is. absurd (false≢true (sym is)), h)
      by false h = (λ is. All-head P (carried_at ks (d + 1)) (kept_after ks (pending_places bs d)) h, All-tail P (carried_at ks (d + 1)) (kept_after ks (pending_places bs d)) h)

      at : EachCounts d → ((branch_at bs d).is_second ≡ false → P (carried_at ks (d + 1))) → EachCounts (suc d)
      at below here = λ e low is. by_lt e d (λ l. below e l is) (λ l. let s : d ≡ e = omega arith in subst (λ n. (branch_at bs n).is_second ≡ false → P (carried_at ks (n + 1))) s here is)

-- the list of what these have
all_unmapped : {X Y : Type 0} (P : X → Type 0) (f : Y → X) (ys : List Y) → All P (map f ys) → All (λ y. P (f y)) ys
all_unmapped P f [] h = All-nil (λ y. P (f y))
all_unmapped P f (y ∷ ys) h = All-cons (λ z. P (f z)) y ys (All-head P (f y) (map f ys) h) (all_unmapped P f ys (All-tail P (f y) (map f ys) h))

-- the value of the level's goal that a best point has
pub value_reached : (vs : List Frac) (v : Level) (gs : List Frac) (x : Frac) → gs ≡ vs → v.goal < length vs → x ≡ get_or gs v.goal x → length v.certs ≡ v.goal → ratio x ≡ value_at (ratios vs) (length (Means.certificates v.certs))
value_reached vs v gs x same low is shown =
    sym (ap (value_at (ratios vs)) (length-map v.certs Means.certificate ∙ shown) ∙ get_or-map ratio vs v.goal x none low ∙ ap ratio (ap (λ (l : List Frac). get_or l v.goal x) (sym same) ∙ sym is))

-- and turned so that less is better
pub less_is : (p : Parts) (gs : List Own) (g : Own) (x : Ratio) → gs ≡ p.goals → 0 < length p.goals → g ≡ get_or gs 0 g → minimising_by (goal g).sense x ≡ minimising (program p) x
less_is p gs g x same some is = ap (λ (h : Goal). minimising_by h.sense x) (sym (get_or-map goal p.goals 0 g no_goal some ∙ ap goal (ap (λ (l : List Own). get_or l 0 g) (sym same) ∙ sym is)))

-- where numbers fit, the point is near exactly where each open case is bounded
module _ (P : Problem) (g : gaps.Gap) (m : SearchMoment) (f : Found) (n : Frac) (t : IsThreshold g (reached m.level f) (minimising P.program (reached m.level f)) (ratio n)) (best : m.best ≡ Some f) where
  pub is_near : (ks : List (Option Carried)) → P.later ≡ [] → (ks ≡ [] → ⊥) → All (λ (k : Option Carried). IsSomeAnd (number_of k) (λ b. IsAtMost (ratio n) b)) ks → IsNearBy P g m (map number_of ks)
  is_near ks one some all = record {
    one_goal = one;
    some = λ e. some (none_mapped ks e);
    found = f;
    best = best;
    allowed = t.0;
    is = t.1;
    least = ratio n;
    number = n.above;
    fits = t.2;
    same = t.3;
    numbers = All-map (λ (x : Option Ratio). IsSomeAnd x (λ b. IsAtMost (ratio n) b)) number_of ks all;
  }
    where
      none_mapped : (l : List (Option Carried)) → map number_of l ≡ [] → l ≡ []
      none_mapped [] e = refl
      none_mapped (k ∷ l) e = let q : number_of k ∷ map number_of l ≡ [] = e in absurd (cc)

  bounded_more : (k : Option Carried) (a b : Ratio) → IsNumber a → IsNumber b → IsAtMost a b → IsSomeAnd (number_of k) (λ c. IsAtMost b c) → IsSomeAnd (number_of k) (λ c. IsAtMost a c)
  bounded_more None a b na nb h s = s
  bounded_more (Some k) a b na nb h s = let t = ≲-trans (record { left = na; right = nb; is = h }) (record { left = nb; right = k.bound.above; is = s }) in t.is

  pub was_near : (ks : List (Option Carried)) → IsNearBy P g m (map number_of ks) → All (λ (k : Option Carried). IsSomeAnd (number_of k) (λ b. IsAtMost (ratio n) b)) ks
  was_near ks h =
      let q : Some h.found ≡ Some f = sym h.best ∙ best in
      let e : h.found ≡ f = cc in
      let is = subst (λ (y : Found). IsAllowed g (reached m.level y) h.allowed) e h.is in
      let same = subst (λ (y : Found). IsSame h.least (sum (minimising P.program (reached m.level y)) (negative h.allowed))) e h.same in
      let alike : h.allowed ≡ t.0 = allowed_once g (reached m.level f) h.allowed t.0 is t.1 in
      let here = subst (λ (a : Ratio). IsSame h.least (sum (minimising P.program (reached m.level f)) (negative a))) alike same in
      let z = sum (minimising P.program (reached m.level f)) (negative t.0) in
      let total : IsNumber z = sum-number (minimising P.program (reached m.level f)) (negative t.0) t.2.left t.2.right in
      let below : IsAtMost (ratio n) h.least = (let l = ≲-from (record { left = n.above; right = total; is = t.3 } ⊙ ≈-sym (record { left = h.number; right = total; is = here })) in l.is) in
      let all = all_unmapped (λ (x : Option Ratio). IsSomeAnd x (λ b. IsAtMost h.least b)) number_of ks h.numbers in
      λ i d low. bounded_more _ (ratio n) h.least n.above h.number below (all i d low)
