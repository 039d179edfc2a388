-- Where a search stops for a gap, no feasible point is better by more: each open case is bounded by its number, by the multipliers that it carries.
use Rattle.std.proofs.Common.{◌≡◌, inr, Option, None, Some, IsSomeAnd, List, [], ◌∷◌, ◌++◌, map, length, arith, refl, sym, ◌∙◌, ap, subst}
use Rattle.std.specs.List.{All}
use Rattle.std.specs.Option.{is_some}
use Rattle.std.proofs.lemmas.List.{append_cancel_right}
use Rattle.std.proofs.lemmas.List.Elements.{All-head, All-tail, All-cons, All-nil}
use Rattle.rational.specs.Ratio.{Ratio, sum, negative, IsNumber, IsAtMost}
use Rattle.evidence.specs.Sums.{none}
use Rattle.evidence.specs.Instance.{Instance, Problem, IsInstance, IsProblem, minimising}
use Rattle.evidence.specs.Point.{objective, IsFeasible}
use Rattle.evidence.specs.Cases.{Multiplier, IsBound}
use Rattle.evidence.specs.Narrower.{IsNarrower}
use Rattle.evidence.specs.Rounds.{Certificate}
use Rattle.evidence.specs.ProvedBounds.{IsWithinGap}
use Rattle.evidence.proofs.Numbers.{◌≈◌, ◌≲◌, ◌⊙◌, ◌▹◌, ≈-refl, ≲-from, ≲-trans, ≲-is, sum-number, sum-≈, sum-≲, sum-none, none-sum, sum_assoc, negative-sum}
use Rattle.evidence.proofs.Inverses.{negative-≈, negative-negative, sum-negative}
use Rattle.evidence.proofs.Duality.{minimising-number}
use Rattle.evidence.proofs.LevelSteps.{objective-number}
use Rattle.evidence.proofs.Narrower.{bound_in}
use Rattle.simplex_rules.specs.Ends.{Terms, End, Clash, Empty, Best, Endless, TurnsOut, TooWide, Stopped, Shown}
use Rattle.simplex_rules.specs.Runs.{looked_once}
use Rattle.simplex_rules.proofs.Moments.{run_true}
use Rattle.search_rules.specs.Branching.{Case}
use Rattle.search_rules.specs.Search.{Found, SearchMoment, To, reached, IsVisit, IsNextInSearch}
use Rattle.search_rules.specs.Beginnings.{IsFirstBest}
use Rattle.search_rules.specs.Outcomes.{CertificateProves}
use Rattle.search_rules.specs.Bounds.{Carried, carried_after, shown_by, open_numbers, with_best, closing_leaves}
use Rattle.search_rules.specs.Gaps.{Gap, number_after, IsNearBy}
use Rattle.search_rules.specs.Asked.{Asked, ComesAsked, asked_first, asked_on, asked_level}
use Rattle.search_rules.proofs.Nodes.{at_most-trans}
use Rattle.search_rules.proofs.Moments.{HoldsWith, Holds, this, best_number, next_holds}
use Rattle.search_rules.proofs.OpenBounds.{AllCarry, bounds_of, goes_part, level_begins, open_proves}
use Rattle.search_rules.proofs.BoundLaws.{meets_after, negatives_turn}
use Rattle.search_rules.proofs.AskedSearches.{asked_hold}

-- multipliers and the number that they show, or neither
abbrev pub NumberedBy : Instance → Carried → Option Ratio → Type 0
NumberedBy I None None = Unit {0}
NumberedBy I (Some ms) (Some b) = IsNumber b × IsBound I ms b
NumberedBy I k x = ⊥

abbrev pub AllNumbered : List Case → List Carried → List (Option Ratio) → Type 0
AllNumbered [] [] [] = Unit {0}
AllNumbered (C ∷ Cs) (k ∷ ks) (x ∷ xs) = NumberedBy C.program k x × AllNumbered Cs ks xs
AllNumbered Cs ks xs = ⊥

numbered_in : (J K : Instance) → IsInstance J → IsInstance K → IsNarrower K J → (k : Carried) (x : Option Ratio) → NumberedBy J k x → NumberedBy K k x
numbered_in J K gj gk n None None h = tt
numbered_in J K gj gk n None (Some b) h = absurd h
numbered_in J K gj gk n (Some ms) None h = absurd h
numbered_in J K gj gk n (Some ms) (Some b) h = (h.0, bound_in J K gj gk n ms b h.0 h.1)

pub numbered_after : (J : Instance) (ray : Option (List Ratio)) (e : End) (k : Carried) (x : Option Ratio) → Shown (is_some ray) J e → NumberedBy J k x → NumberedBy J (carried_after ray e k) (number_after ray e x)
numbered_after J (Some r) e k x s h = h
numbered_after J None (Clash c) k x s h = h
numbered_after J None (Empty ms) k x s h = h
numbered_after J None (Best b y ms) k x s h = let best = s.1 refl in (best.number, best.bound)
numbered_after J None (Endless y d) k x s h = h
numbered_after J None TurnsOut k x s h = h
numbered_after J None (TooWide w) k x s h = h
numbered_after J None Stopped k x s h = h

pub each_numbered : (J : Instance) (k : Carried) (x : Option Ratio) → IsInstance J → NumberedBy J k x → (new rest : List Case) (ks : List Carried) (xs : List (Option Ratio)) → All (λ (K : Case). IsNarrower K.program J) new → All (λ (K : Case). IsInstance K.program) (new ++ rest) → AllNumbered rest ks xs → AllNumbered (new ++ rest) (map (λ C. k) new ++ ks) (map (λ C. x) new ++ xs)
each_numbered J k x good h [] rest ks xs n i a = a
each_numbered J k x good h (K ∷ new) rest ks xs n i a = (
  numbered_in J K.program good (All-head (λ (K : Case). IsInstance K.program) K (new ++ rest) i) (All-head (λ (K : Case). IsNarrower K.program J) K new n) k x h,
  each_numbered J k x good h new rest ks xs (All-tail (λ (K : Case). IsNarrower K.program J) K new n) (All-tail (λ (K : Case). IsInstance K.program) K (new ++ rest) i) a,
)

pub to_carry : (Cs : List Case) (ks : List Carried) (xs : List (Option Ratio)) → AllNumbered Cs ks xs → AllCarry Cs ks
to_carry [] [] [] a = tt
to_carry [] [] (x ∷ xs) a = absurd a
to_carry [] (k ∷ ks) xs a = absurd a
to_carry (C ∷ Cs) [] xs a = absurd a
to_carry (C ∷ Cs) (k ∷ ks) [] a = absurd a
to_carry (C ∷ Cs) (None ∷ ks) (None ∷ xs) a = (tt, to_carry Cs ks xs a.1)
to_carry (C ∷ Cs) (None ∷ ks) (Some b ∷ xs) a = absurd (a.0)
to_carry (C ∷ Cs) (Some ms ∷ ks) (None ∷ xs) a = absurd (a.0)
to_carry (C ∷ Cs) (Some ms ∷ ks) (Some b ∷ xs) a = let h = a.0 in (bounds_of C.program ms b h.1, to_carry Cs ks xs a.1)

module _ (P : Problem) (t : Terms) (good : IsProblem P) where
  pub visit_numbered : (m n : SearchMoment) (h : Holds P m) (g : Holds P n) (k : Carried) (x : Option Ratio) (ks : List Carried) (xs : List (Option Ratio)) (v : IsVisit P t m (To n)) (new : List Case) → n.waiting ≡ new ++ v.visit.rest → AllNumbered m.waiting (k ∷ ks) (x ∷ xs)
      → AllNumbered n.waiting (map (λ C. carried_after v.visit.case.ray v.end k) new ++ ks) (map (λ C. number_after v.visit.case.ray v.end x) new ++ xs)
  visit_numbered m n h g k x ks xs v new is all =
      let C = v.visit.case in
      let rest = v.visit.rest in
      let both : AllNumbered (C ∷ rest) (k ∷ ks) (x ∷ xs) = subst (λ cs. AllNumbered cs (k ∷ ks) (x ∷ xs)) v.visit.is all in
      let opened = this P C rest m v.visit.is h in
      let numbers : IsInstance C.program = opened.case.numbers in
      let shown = run_true C.program (is_some C.ray) t (looked_once m.clock) v.end v.clock numbers v.visit.run in
      let part = goes_part P t C rest (record m { clock = v.clock }) (looked_once m.clock) v.end n v.goes in
      let same : part.new ≡ new = append_cancel_right part.new new rest (sym part.is ∙ is) in
      let narrower = subst (All (λ (K : Case). IsNarrower K.program C.program)) same part.narrower in
      let instances : All (λ (K : Case). IsInstance K.program) (new ++ rest) = subst (All (λ (K : Case). IsInstance K.program)) is (λ i d low. let o = g.cases i d low in o.case.numbers) in
      subst (λ cs. AllNumbered cs (map (λ C. carried_after v.visit.case.ray v.end k) new ++ ks) (map (λ C. number_after v.visit.case.ray v.end x) new ++ xs)) (sym is)
      (each_numbered C.program (carried_after C.ray v.end k) (number_after C.ray v.end x) numbers (numbered_after C.program C.ray v.end k x shown both.0) new rest ks xs narrower instances both.1)

  -- a level begins with nothing
  pub level_numbered : (m n : SearchMoment) → m.waiting ≡ [] → IsNextInSearch P t m (To n) → AllNumbered n.waiting (None ∷ []) (None ∷ [])
  level_numbered m n empty next = subst (λ cs. AllNumbered cs (None ∷ []) (None ∷ [])) (sym (level_begins P t m n empty next)) (tt, tt)

module _ (P : Problem) (t : Terms) (a : Asked) (good : IsProblem P) (gs : Option (List (Option Ratio))) (start : Option Found) (is_first : IsFirstBest P gs start) where
  pub all_numbered : (m : SearchMoment) (ks : List Carried) (xs : List (Option Ratio)) → ComesAsked P t a start m ks xs → AllNumbered m.waiting ks xs
  all_numbered m ks xs asked_first = (tt, tt)
  all_numbered n ls ys (asked_on {m} {k} {ks} {x} {xs} c far v new is) =
      let h = asked_hold P t a good gs start is_first m (k ∷ ks) (x ∷ xs) c in
      visit_numbered P t good m n h (next_holds P t m n h (inr (inr v))) k x ks xs v new is (all_numbered m (k ∷ ks) (x ∷ xs) c)
  all_numbered n ls ys (asked_level {m} c empty next) = level_numbered P t good m n empty next

-- numbers none of which is below z
record SomeNumbers (Cs : List Case) (ks : List Carried) (z : Ratio) : Type 0 where
  multipliers : List (List Multiplier)
  are : ks ≡ map (λ ms. Some ms) multipliers
  low : All (λ x. IsAtMost z x) (open_numbers Cs multipliers)

some_numbers : (Cs : List Case) (ks : List Carried) (xs : List (Option Ratio)) (z : Ratio) → AllNumbered Cs ks xs → All (λ (x : Option Ratio). IsSomeAnd x (λ b. IsAtMost z b)) xs → SomeNumbers Cs ks z
some_numbers [] [] [] z a h = record { multipliers = []; are = refl; low = All-nil (λ x. IsAtMost z x) }
some_numbers [] [] (x ∷ xs) z a h = absurd a
some_numbers [] (k ∷ ks) xs z a h = absurd a
some_numbers (C ∷ Cs) [] xs z a h = absurd a
some_numbers (C ∷ Cs) (k ∷ ks) [] z a h = absurd a
some_numbers (C ∷ Cs) (None ∷ ks) (None ∷ xs) z a h = absurd (All-head (λ (x : Option Ratio). IsSomeAnd x (λ b. IsAtMost z b)) None xs h)
some_numbers (C ∷ Cs) (None ∷ ks) (Some b ∷ xs) z a h = absurd (a.0)
some_numbers (C ∷ Cs) (Some ms ∷ ks) (None ∷ xs) z a h = absurd (a.0)
some_numbers (C ∷ Cs) (Some ms ∷ ks) (Some b ∷ xs) z a h =
    let rest = some_numbers Cs ks xs z a.1 (All-tail (λ (x : Option Ratio). IsSomeAnd x (λ b. IsAtMost z b)) (Some b) xs h) in
    let here : IsAtMost z b = All-head (λ (x : Option Ratio). IsSomeAnd x (λ b. IsAtMost z b)) (Some b) xs h in
    let own = a.0 in
    let bound = own.1 in
    record {
      multipliers = ms ∷ rest.multipliers;
      are = ap (λ ks. Some ms ∷ ks) rest.are;
      low = All-cons (λ x. IsAtMost z x) (shown_by C.program ms) (open_numbers Cs rest.multipliers) (at_most-trans z b (shown_by C.program ms) own.0 here bound.reaches) rest.low;
    }

-- what is left of a value less a gap, taken off it, is the gap
gap_left : (v g z : Ratio) → IsNumber v → IsNumber g → z ≈ sum v (negative g) → sum v (negative z) ≈ g
gap_left v g z pv pg e =
    let turned : negative (sum v (negative g)) ≡ sum (negative v) g = sym (negative-sum v (negative g)) ∙ ap (λ x. sum (negative v) x) (negative-negative g) in
    let off = sum-≈ (≈-refl pv) (negative-≈ e ▹ turned) in
    let grouped = off ▹ sym (sum_assoc v (negative v) g) in
    (grouped ⊙ sum-≈ (sum-negative v pv) (≈-refl pg)) ▹ none-sum g

-- whatever the nodes so far lead to
module _ (P : Problem) (m : SearchMoment) (ks : List Carried) (xs : List (Option Ratio)) (good : IsProblem P) {A : Instance → Type 0} (h : HoldsWith P m A) (a : AllNumbered m.waiting ks xs) (g : Gap) (near : IsNearBy P g m xs) (from : IsAtMost none near.allowed) where
  abbrev value : Ratio
  value = minimising P.program (reached m.level near.found)

  abbrev z : Ratio
  z = near.least

  value-number : IsNumber value
  value-number = minimising-number P.program (reached m.level near.found) (best_number P m.level near.found h.level (h.best near.found near.best))

  allowed-number : IsNumber near.allowed
  allowed-number = let f = near.fits in f.right

  left : z ≈ sum value (negative near.allowed)
  left = record { left = near.number; right = sum-number value (negative near.allowed) value-number allowed-number; is = near.same }

  on_first : m.level.program ≡ P.program
  on_first =
      let one : length P.later ≡ 0 = ap (λ gs. length gs) near.one_goal in
      let none_shown : length m.level.shown ≡ 0 = omega (arith, h.level.count, one) in
      let first = h.level.first (no_more m.level.shown none_shown) in
      first.0
    where
      no_more : {X : Type 0} (xs : List X) → length xs ≡ 0 → xs ≡ []
      no_more [] e = refl
      no_more (x ∷ xs) e = absurd (cc)

  below_value : IsAtMost z value
  below_value =
      let gap : none ≲ near.allowed = record { left = omega arith; right = allowed-number; is = from } in
      let less = sum-≲ (≲-from (≈-refl value-number)) (negatives_turn gap) in
      let all = ≲-trans (≲-from left) (≲-is less (sum-none value)) in
      all.is

  -- where the nodes so far and leaves for the open cases, told in this certificate, show each number that none of theirs is below
  pub within_gap : (certificate : List (List Multiplier) → Certificate)
      → ((mss : List (List Multiplier)) (w : Ratio) → ks ≡ map (λ ms. Some ms) mss → All (λ x. IsAtMost w x) (with_best m.level m.best (open_numbers m.waiting mss)) → CertificateProves m.level.program (certificate mss) (Some w))
      → (y : List Ratio) → IsFeasible P.program y → IsWithinGap P.program (reached m.level near.found) (objective P.program y) near.allowed
  within_gap certificate proves y f =
      let some = some_numbers m.waiting ks xs z a near.numbers in
      let c = certificate some.multipliers in
      let best : IsAtMost z (minimising m.level.program (reached m.level near.found)) = subst (λ I. IsAtMost z (minimising I (reached m.level near.found))) (sym on_first) below_value in
      let low : All (λ x. IsAtMost z x) (with_best m.level m.best (open_numbers m.waiting some.multipliers)) =
      subst (λ b. All (λ x. IsAtMost z x) (with_best m.level b (open_numbers m.waiting some.multipliers))) (sym near.best)
      (All-cons (λ x. IsAtMost z x) (minimising m.level.program (reached m.level near.found)) (open_numbers m.waiting some.multipliers) best some.low) in
      let proved = proves some.multipliers z some.are low in
      let there : CertificateProves P.program c (Some z) = subst (λ I. CertificateProves I c (Some z)) on_first proved in
      let meets = meets_after c.rounds P.program c.nodes (Some z) near.number good.program there y f in
      let above : z ≲ minimising P.program (objective P.program y) = record { left = near.number; right = minimising-number P.program (objective P.program y) (objective-number P.program good.program y f); is = meets } in
      let all = ≲-trans (sum-≲ (≲-from (≈-refl value-number)) (negatives_turn above)) (≲-from (gap_left value near.allowed z value-number allowed-number left)) in
      all.is

pub near_true : (P : Problem) (m : SearchMoment) (ks : List Carried) (xs : List (Option Ratio)) → IsProblem P → Holds P m → AllNumbered m.waiting ks xs → (g : Gap) (near : IsNearBy P g m xs) → IsAtMost none near.allowed → (y : List Ratio) → IsFeasible P.program y → IsWithinGap P.program (reached m.level near.found) (objective P.program y) near.allowed
near_true P m ks xs good h a g near from y f =
    within_gap P m ks xs good h a g near from (λ mss. record { rounds = m.rounds; nodes = m.nodes ++ closing_leaves mss })
    (λ mss w e low. open_proves P m ks h (to_carry m.waiting ks xs a) mss w e low) y f
