-- The least number of the cases that are closed one after the other.
use Rattle.std.proofs.Common.{◌≡◌, ◌⊎◌, inl, inr, ℕ, zero, suc, ◌+◌, ◌<◌, pos, ◌*ℤ◌, true, Option, None, Some, IfSome, List, [], ◌∷◌, ◌++◌, length, map, option_map, arith, refl, sym, ◌∙◌, ap, ap₂, append_assoc, append-nil, lit<, subst}
use Rattle.std.proofs.Math.ListN.{get_or-append, length-append}
use Rattle.std.proofs.lemmas.Int.{ints, by_lt_z}
use Rattle.std.proofs.lemmas.List.{get_or-append-add}
use Rattle.std.proofs.lemmas.List.Elements.{All-nil, All-cons, All-head, All-tail, All-append}
use Rattle.rational.specs.Ratio.{Ratio, IsNumber, IsSame, IsAtMost}
use Rattle.rational.proofs.Integers.{more-times, most-from_times}
use Rattle.rational.proofs.Scaling.{times_swap, IsSame-trans}
use Rattle.fraction.specs.Frac.{ratio, ratios}
use Rattle.fraction.specs.declared.frac.Frac.{Frac}
use Rattle.evidence.specs.Sums.{none}
use Rattle.evidence.specs.Instance.{Instance, Goal, Sense, Minimum, Maximum, minimising, minimising_by}
use Rattle.evidence.specs.Rounds.{Certificate}
use Rattle.evidence.proofs.Inverses.{negative-negative}
use Rattle.evidence.specs.Point.{value_at}
use Rattle.evidence.specs.Cases.{Multiplier, BoundBy, Node, AreLegal}
use Rattle.evidence.specs.Width.{LowFits}
use Rattle.certificate.specs.Meanings as Means
use Rattle.certificate.specs.declared.nodes.Cert.{Cert}
use Rattle.simplex_rules.specs.Ends.{Clock}
use Rattle.instance.specs.Parts.{Parts}
use Rattle.instance.specs.Program.{program, problem}
use Rattle.cert_checker.specs.declared.at_hand.Added.{Added}
use Rattle.cert_checker.specs.Programs.{with_rows}
use Rattle.case_tree.specs.Cuts.{pending_places}
use Rattle.search_rules.specs.Branching.{Case}
use Rattle.search_rules.specs.Bounds as Rules
use Rattle.search_rules.specs.Bounds.{IsLeast}
use Rattle.search_rules.specs.Search.{SearchMoment}
use Rattle.search_rules.specs.Asked.{OpenSumsFit, FindsBound}
use Rattle.branch_bound.specs.declared.found.Found as Best
use Rattle.branch_bound.specs.declared.level.Level.{Level}
use Rattle.branch_bound.specs.declared.carried.Carried.{Carried}
use Rattle.branch_bound.specs.declared.walk.Walk.{Walk}
use Rattle.branch_bound.specs.Walks.{best, waiting, case, rest}
use Rattle.branch_bound.specs.Levels.{moment}
use Rattle.branch_bound.specs.Bounds.{carried_at, kept_after, kept_next, carried, multipliers_of, numbers_before, case_program, start_of, AllBound, IsBestNumber, HasClosed, ClosesCase, ClosesAll}

at_most-trans : (x y z : Ratio) → IsNumber y → IsAtMost x y → IsAtMost y z → IsAtMost x z
at_most-trans x y z n p q =
    let a = more-times (x.num *ℤ pos y.den) (y.num *ℤ pos x.den) z.den p in
    let b = more-times (y.num *ℤ pos z.den) (z.num *ℤ pos y.den) x.den q in
    let e = times_swap x.num y.den z.den in
    let f = times_swap y.num x.den z.den in
    let g = times_swap z.num y.den x.den in
    most-from_times _ _ y.den n (omega (arith, ints))

at_most-same : (x y : Ratio) → IsSame x y → IsAtMost x y
at_most-same x y h = omega (arith, ints)

-- a number that is the least of some, before others
pub least_joined : (xs ys : List Ratio) (n z : Ratio) → IsNumber n → IsLeast xs n → IsLeast (n ∷ ys) z → IsLeast (xs ++ ys) z
least_joined xs ys n z num a b = record {
  below = All-append (λ x. IsAtMost z x) xs ys (λ i d h. at_most-trans z n _ num (All-head (λ x. IsAtMost z x) n ys b.below) (a.below i d h)) (All-tail (λ x. IsAtMost z x) n ys b.below);
  place = at.0;
  inside = at.1;
  same = at.2;
}
  where
    past : (k : ℕ) → k < length (n ∷ ys) → IsSame z (value_at (n ∷ ys) k) → (q : ℕ) × (q < length (xs ++ ys)) × IsSame z (value_at (xs ++ ys) q)
    past zero h s =
        let l = length-append xs ys in
        let low = a.inside in (a.place, omega arith, subst (λ (v : Ratio). IsSame z v) (sym (get_or-append xs ys none a.place low)) (IsSame-trans z n (value_at xs a.place) num s a.same))
    past (suc k) h s =
        let l = length-append xs ys in
        (length xs + k, omega arith, subst (λ (v : Ratio). IsSame z v) (sym (get_or-append-add xs ys k none)) s)

    at : (q : ℕ) × (q < length (xs ++ ys)) × IsSame z (value_at (xs ++ ys) q)
    at = past b.place b.inside b.same

-- another form of a number
least_alike : (b : Option Frac) (x y n : Ratio) → IsNumber x → IsSame x y → IsLeast (numbers_before b (x ∷ [])) n → IsLeast (numbers_before b (y ∷ [])) n
least_alike None x y n num e h = record {
  below = All-cons (λ v. IsAtMost n v) y [] (at_most-trans n x y num (All-head (λ v. IsAtMost n v) x [] h.below) (at_most-same x y e)) (All-nil (λ v. IsAtMost n v));
  place = 0;
  inside = lit< tt;
  same = at h.place h.inside h.same;
}
  where
    at : (k : ℕ) → k < length (x ∷ []) → IsSame n (value_at (x ∷ []) k) → IsSame n y
    at zero l s = IsSame-trans n x y num s e
    at (suc k) l s = absurd (omega arith)
least_alike (Some z) x y n num e h = record {
  below = All-cons (λ v. IsAtMost n v) (ratio z) (y ∷ []) (All-head (λ v. IsAtMost n v) (ratio z) (x ∷ []) h.below)
      (All-cons (λ v. IsAtMost n v) y [] (at_most-trans n x y num (All-head (λ v. IsAtMost n v) x [] (All-tail (λ v. IsAtMost n v) (ratio z) (x ∷ []) h.below)) (at_most-same x y e)) (All-nil (λ v. IsAtMost n v)));
  place = h.place;
  inside = h.inside;
  same = at h.place h.inside h.same;
}
  where
    at : (k : ℕ) → k < length (ratio z ∷ x ∷ []) → IsSame n (value_at (ratio z ∷ x ∷ []) k) → IsSame n (value_at (ratio z ∷ y ∷ []) k)
    at zero l s = s
    at (suc zero) l s = IsSame-trans n x y num s e
    at (suc (suc k)) l s = absurd (omega arith)

-- the lesser of two numbers, or the only one
pub one_least : (x n : Ratio) → n ≡ x → IsLeast (x ∷ []) n
one_least x n e = record { below = All-cons (λ v. IsAtMost n v) x [] (at_most-same n x (ap (λ (v : Ratio). v.num *ℤ pos x.den) e ∙ ap (λ (v : Ratio). x.num *ℤ pos v.den) (sym e))) (All-nil (λ v. IsAtMost n v)); place = 0; inside = lit< tt; same = ap (λ (v : Ratio). v.num *ℤ pos x.den) e ∙ ap (λ (v : Ratio). x.num *ℤ pos v.den) (sym e) }

split_before : (b : Option Frac) (xs ys : List Ratio) → numbers_before b (xs ++ ys) ≡ numbers_before b xs ++ ys
split_before None xs ys = refl
split_before (Some z) xs ys = refl

module _ (p : Parts) (rows : List Added) where
  abbrev I : Instance
  I = with_rows (program p) rows

  -- all are closed
  pub all_closed : (w : Walk) (number : Option Frac) → w.next ≡ None → ClosesAll p rows w w number number
  all_closed w None done = λ mss e. inl (refl, done)
  all_closed w (Some z) done = (
    [],
    ap (λ o. map multipliers_of (kept_next w.carried.items w.branches.items o)) done,
    subst (λ (Cs : List Case). IsLeast (ratio z ∷ Rules.open_numbers Cs []) (ratio z)) (sym (ap (waiting I w) done)) (one_least (ratio z) (ratio z) refl),
    sym (append-nil (Means.nodes w.nodes)),
    subst (λ (Cs : List Case). OpenSumsFit Cs []) (sym (ap (waiting I w) done)) tt,
  )

  -- the case at hand, with d branches above
  module _ (w : Walk) (d : ℕ) (next : w.next ≡ Some d) where
    carried_is : carried w ≡ multipliers_of (carried_at w.carried.items d) ∷ map multipliers_of (kept_after w.carried.items (pending_places w.branches.items d))
    carried_is = ap (λ o. map multipliers_of (kept_next w.carried.items w.branches.items o)) next

    waits : waiting I w w.next ≡ case I w d ∷ rest I w d
    waits = ap (waiting I w) next

    -- can't be closed
    pub not_closed : (x y : Walk) (before : Option Frac) → ClosesCase p rows w x d None → ClosesAll p rows w y before None
    not_closed x y before none_ = λ mss e. inr (λ fits. by mss e (subst (λ (Cs : List Case). OpenSumsFit Cs mss) waits fits))
      where
        has : (o : Option Carried) (ms : List Multiplier) → carried_at w.carried.items d ≡ o → multipliers_of o ≡ Some ms → LowFits (case_program p rows w.cuts.items) (start_of (case_program p rows w.cuts.items)) ms → ⊥
        has None ms is e fits = absurd (cc)
        has (Some k) ms is e fits = none_ k is (subst (λ (l : List Multiplier). LowFits (case_program p rows w.cuts.items) (start_of (case_program p rows w.cuts.items)) l) (let q : Some ms ≡ Some (Means.multipliers k.mults) = sym e in cc) fits)

        by : (mss : List (List Multiplier)) → carried w ≡ map (λ ms. Some ms) mss → OpenSumsFit (case I w d ∷ rest I w d) mss → ⊥
        by [] e fits = let q : multipliers_of (carried_at w.carried.items d) ∷ map multipliers_of (kept_after w.carried.items (pending_places w.branches.items d)) ≡ [] = sym carried_is ∙ e in absurd (cc)
        by (ms ∷ mss) e fits =
            let q : multipliers_of (carried_at w.carried.items d) ∷ map multipliers_of (kept_after w.carried.items (pending_places w.branches.items d)) ≡ Some ms ∷ map (λ ms. Some ms) mss = sym carried_is ∙ e in
            let h : multipliers_of (carried_at w.carried.items d) ≡ Some ms = cc in
            has (carried_at w.carried.items d) ms refl h fits.0

    -- was closed, and showed this number
    module _ (n : ℕ) (x y : Walk) (before : Option Frac) (shown number : Frac) (keeps : w.keeps ≡ true) (closes : ClosesCase p rows w x d (Some shown)) (went : HasClosed n w x d) (least : IsLeast (numbers_before before (ratio shown ∷ [])) (ratio number)) where
      abbrev mults : List Multiplier
      mults = Means.multipliers closes.0.mults

      more : carried w ≡ Some mults ∷ carried x
      more = carried_is ∙ ap₂ (λ (k : Rules.Carried) (l : List (Option Carried)). k ∷ map multipliers_of l) (ap multipliers_of closes.1) (sym (went.leaves.1 keeps))

      opens : waiting I w w.next ≡ case I w d ∷ waiting I x x.next
      opens = waits ∙ ap (λ (Cs : List Case). case I w d ∷ Cs) (sym (went.cases I))

      pub closes_on : (r : Option Frac) → ClosesAll p rows x y (Some number) r → ClosesAll p rows w y before r
      closes_on None h = λ mss e. inr (λ fits. by mss e (subst (λ (Cs : List Case). OpenSumsFit Cs mss) opens fits))
        where
          by : (mss : List (List Multiplier)) → carried w ≡ map (λ ms. Some ms) mss → OpenSumsFit (case I w d ∷ waiting I x x.next) mss → ⊥
          by [] e fits = let q : Some mults ∷ carried x ≡ [] = sym more ∙ e in absurd (cc)
          by (ms ∷ mss) e fits =
              let q : Some mults ∷ carried x ≡ Some ms ∷ map (λ ms. Some ms) mss = sym more ∙ e in
              let t : carried x ≡ map (λ ms. Some ms) mss = cc in
              rest_fails (h mss t) fits.1
            where
              rest_fails : ((Some number ≡ None) × (x.next ≡ None)) ⊎ (OpenSumsFit (waiting I x x.next) mss → ⊥) → OpenSumsFit (waiting I x x.next) mss → ⊥
              rest_fails (inl e) f = let q = e.0 in absurd (cc)
              rest_fails (inr g) f = g f
      closes_on (Some z) h = (
        mults ∷ h.0,
        more ∙ ap (λ (l : List Rules.Carried). Some mults ∷ l) h.1,
        subst (λ (Cs : List Case). IsLeast (numbers_before before (Rules.open_numbers Cs (mults ∷ h.0))) (ratio z)) (sym opens)
            (subst (λ (l : List Ratio). IsLeast l (ratio z)) (sym (split_before before (Rules.shown_by (case_program p rows w.cuts.items) mults ∷ []) (Rules.open_numbers (waiting I x x.next) h.0)))
            (least_joined (numbers_before before (Rules.shown_by (case_program p rows w.cuts.items) mults ∷ [])) (Rules.open_numbers (waiting I x x.next) h.0) (ratio number) (ratio z) number.above
            (least_alike before (ratio shown) (Rules.shown_by (case_program p rows w.cuts.items) mults) (ratio number) shown.above closes.3 least) h.2)),
        h.3 ∙ ap (λ (l : List Node). l ++ Rules.closing_leaves h.0) closes.4 ∙ append_assoc (Means.nodes w.nodes) (BoundBy mults ∷ []) (Rules.closing_leaves h.0),
        subst (λ (Cs : List Case). OpenSumsFit Cs (mults ∷ h.0)) (sym opens) (closes.2, h.4),
      )

  -- what is carried may be multipliers of the cases that are left
  pub bounds_left : (w x : Walk) (d n : ℕ) → w.next ≡ Some d → w.keeps ≡ true → HasClosed n w x d → AllBound (waiting I w w.next) (carried w) → AllBound (waiting I x x.next) (carried x)
  bounds_left w x d n next keeps went all =
      let ks = map multipliers_of (kept_after w.carried.items (pending_places w.branches.items d)) in
      let here : AllBound (case I w d ∷ rest I w d) (multipliers_of (carried_at w.carried.items d) ∷ ks) =
      subst (λ (Cs : List Case). AllBound Cs (multipliers_of (carried_at w.carried.items d) ∷ ks)) (waits w d next) (subst (λ (l : List Rules.Carried). AllBound (waiting I w w.next) l) (carried_is w d next) all) in
      subst (λ (Cs : List Case). AllBound Cs (carried x)) (sym (went.cases I)) (subst (λ (l : List (Option Carried)). AllBound (rest I w d) (map multipliers_of l)) (sym (went.leaves.1 keeps)) here.1)

  -- and of the case at hand
  pub bound_here : (w : Walk) (d : ℕ) (k : Carried) → w.next ≡ Some d → AllBound (waiting I w w.next) (carried w) → carried_at w.carried.items d ≡ Some k → AreLegal (case_program p rows w.cuts.items) (Means.multipliers k.mults)
  bound_here w d k next all is =
      let ks = map multipliers_of (kept_after w.carried.items (pending_places w.branches.items d)) in
      let here : AllBound (case I w d ∷ rest I w d) (multipliers_of (carried_at w.carried.items d) ∷ ks) =
      subst (λ (Cs : List Case). AllBound Cs (multipliers_of (carried_at w.carried.items d) ∷ ks)) (waits w d next) (subst (λ (l : List Rules.Carried). AllBound (waiting I w w.next) l) (carried_is w d next) all) in
      let t : IfSome (Some (Means.multipliers k.mults)) (λ ms. AreLegal (case_program p rows w.cuts.items) ms) = subst (λ (o : Option Carried). IfSome (multipliers_of o) (λ ms. AreLegal (case_program p rows w.cuts.items) ms)) is here.0 in
      t

-- a number before which another one isn't at most it
pub second_least : (x y : Ratio) → (IsAtMost x y → ⊥) → IsLeast (x ∷ y ∷ []) y
second_least x y above = record {
  below = All-cons (λ v. IsAtMost y v) x (y ∷ []) (by_lt_z (y.num *ℤ pos x.den) (x.num *ℤ pos y.den) (λ l. omega (arith, ints)) (λ l. absurd (above l))) (All-cons (λ v. IsAtMost y v) y [] (at_most-same y y refl) (All-nil (λ v. IsAtMost y v)));
  place = 1;
  inside = lit< tt;
  same = refl;
}

-- lists of what is there are one list
one_list : (xs ys : List (List Multiplier)) → map (λ ms. Some ms) xs ≡ map (λ ms. Some ms) ys → xs ≡ ys
one_list [] [] e = refl
one_list [] (y ∷ ys) e = let q : [] ≡ Some y ∷ map (λ ms. Some ms) ys = e in absurd (cc)
one_list (x ∷ xs) [] e = let q : Some x ∷ map (λ ms. Some ms) xs ≡ [] = e in absurd (cc)
one_list (x ∷ xs) (y ∷ ys) e =
    let q : Some x ∷ map (λ ms. Some ms) xs ≡ Some y ∷ map (λ ms. Some ms) ys = e in
    let h : x ≡ y = cc in
    let t : map (λ ms. Some ms) xs ≡ map (λ ms. Some ms) ys = cc in
    ap₂ (λ (a : List Multiplier) (l : List (List Multiplier)). a ∷ l) h (one_list xs ys t)

turned_twice : (s : Sense) (x : Ratio) → minimising_by s (minimising_by s x) ≡ x
turned_twice Minimum x = refl
turned_twice Maximum x = negative-negative x

-- on the first level, with this best point, the bound that is told
module _ (p : Parts) (rows : List Added) (v : Level) (w : Walk) (f : Option Best.Found) (L : Instance) (c : Clock) (none_shown : v.certs ≡ []) (asks : L.goal ≡ (program p).goal) where
  abbrev m : SearchMoment
  m = moment p L (with_rows (program p) rows) v (record w { best = f }) c

  first_level : m.level.shown ≡ []
  first_level = ap Means.certificates none_shown

  best_is : (g : Option Best.Found) (b : Option Frac) → IsBestNumber p g (option_map ratio b) → (xs : List Ratio) → Rules.with_best m.level (best g) xs ≡ numbers_before b xs
  best_is None None e xs = refl
  best_is None (Some z) e xs = let q : Some (ratio z) ≡ None = e in absurd (cc)
  best_is (Some g) None e xs = let q : None ≡ Some (minimising (program p) (value_at (ratios g.values) 0)) = e in absurd (cc)
  best_is (Some g) (Some z) e xs =
      let q : Some (ratio z) ≡ Some (minimising (program p) (value_at (ratios g.values) 0)) = e in
      let is : ratio z ≡ minimising (program p) (value_at (ratios g.values) 0) = cc in
      ap (λ (y : Ratio). y ∷ xs) (ap₂ (λ (h : Goal) (n : ℕ). minimising_by h.sense (value_at (ratios g.values) n)) asks (ap (λ (cs : List Cert). length (Means.certificates cs)) none_shown) ∙ sym is)

  module _ (x : Walk) (before : Option Frac) (is_best : IsBestNumber p f (option_map ratio before)) where
    pub finds : (z t : Frac) → ClosesAll p rows w x before (Some z) → ratio t ≡ minimising (program p) (ratio z) → FindsBound (problem p) m (carried w) (Some (Means.proved (record { number = t; cert = record { rounds = v.rounds; nodes = x.nodes } })))
    finds z t closes turned = (
      inl (record {
        first_level = first_level;
        multipliers = closes.0;
        all_carry = closes.1;
        reduced = (t.above, t.reduced);
        least = subst (λ (l : List Ratio). IsLeast l (minimising L (ratio t))) (sym (best_is f before is_best (Rules.open_numbers m.waiting closes.0)))
            (subst (λ (y : Ratio). IsLeast (numbers_before before (Rules.open_numbers m.waiting closes.0)) y) (sym (ap (λ (h : Goal). minimising_by h.sense (ratio t)) asks ∙ ap (minimising (program p)) turned ∙ turned_twice (program p).goal.sense (ratio z))) closes.2);
        certificate = ap (λ (l : List Node). let d : Certificate = record { rounds = Means.rounds v.rounds; nodes = l } in d) closes.3;
      }),
      λ mss e first. subst (OpenSumsFit m.waiting) (one_list closes.0 mss (sym closes.1 ∙ e)) closes.4,
    )

    pub finds_none : ClosesAll p rows w x before None → FindsBound (problem p) m (carried w) None
    finds_none closes b (inr r) fit = let q : b.certificate ∷ r.others ≡ [] = sym r.shown ∙ first_level in absurd (cc)
    finds_none closes b (inl o) fit = by (closes o.multipliers o.all_carry)
      where
        by : ((before ≡ None) × (w.next ≡ None)) ⊎ (OpenSumsFit m.waiting o.multipliers → ⊥) → ⊥
        by (inr f) = f (fit o.multipliers o.all_carry first_level)
        by (inl (none_, done)) =
            let l : Rules.with_best m.level (best f) (Rules.open_numbers m.waiting o.multipliers) ≡ [] =
            best_is f before is_best (Rules.open_numbers m.waiting o.multipliers) ∙ ap (λ (b : Option Frac). numbers_before b (Rules.open_numbers m.waiting o.multipliers)) none_ ∙ ap (λ (Cs : List Case). Rules.open_numbers Cs o.multipliers) (ap (waiting (with_rows (program p) rows) w) done) in
            let low = o.least.inside in
            let z = ap (λ (k : List Ratio). length k) l in
            absurd (omega arith)

pub empty_list : {X : Type 0} (xs : List X) → length xs ≡ 0 → xs ≡ []
empty_list [] e = refl
empty_list (x ∷ xs) e = absurd (omega arith)
