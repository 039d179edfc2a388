-- The bound at a moment of a search by rules: it is shown by the nodes so far and a leaf for each open case, as a certificate has them, and there is no other.
use Rattle.std.proofs.Common.{◌≡◌, ℕ, suc, ◌+◌, ◌≤◌, inl, inr, Bool, true, false, Option, None, Some, List, [], ◌∷◌, ◌++◌, map, length, arith, refl, sym, ◌∙◌, ap, ap₂, subst}
use Rattle.std.specs.List.{All}
use Rattle.std.proofs.lemmas.List.Elements.{All-head, All-tail}
use Rattle.rational.specs.Ratio.{Ratio, IsAtMost}
use Rattle.evidence.specs.Instance.{Problem, IsProblem, minimising}
use Rattle.evidence.specs.Cases.{Multiplier, Bound, BoundBy, Node}
use Rattle.evidence.specs.Rounds.{Certificate}
use Rattle.evidence.specs.ProvedBounds.{ProvedBound}
use Rattle.search_rules.specs.Branching.{Case}
use Rattle.search_rules.specs.Search.{SearchMoment, Outcome, Optimal, Infeasible, Unbounded, BestSoFar, Unsure}
use Rattle.search_rules.specs.Outcomes.{Proves, CertificateProves}
use Rattle.search_rules.specs.Bounds.{Carried, shown_by, open_numbers, with_best, closing_leaves, IsOpenBound, IsShownBound}
use Rattle.search_rules.specs.Sides.{Met, is_among, sided, told}
use Rattle.search_rules.specs.RuleSearch.{MomentBy}
use Rattle.search_rules.specs.RuleAsked.{placed_certificate, placed_bound, IsBoundBy, FindsBoundBy, FindsAskedBy}
use Rattle.search_rules.proofs.Nodes.{programs}
use Rattle.search_rules.proofs.Levels.{proves_after}
use Rattle.search_rules.proofs.MetNodes.{met, MetAll, all_met}
use Rattle.search_rules.proofs.SidedNodes.{AreBelow, leaf_met, told_tree}
use Rattle.search_rules.proofs.SidedMoments.{HoldsBy}
use Rattle.search_rules.proofs.OpenBounds.{AllCarry, below_best, below_open, rounds_here, reached_shown}
use Rattle.search_rules.proofs.BoundLaws.{is_one}

-- the leaves as they are met
abbrev closing_met : List (List Multiplier) → List Met
closing_met [] = []
closing_met (ms ∷ mss) = met (BoundBy ms) false ∷ closing_met mss

sided_both : (ts : List ℕ) (i : ℕ) (ns os : List Node) (k : ℕ) → k ≡ i + length ns → sided ts i (ns ++ os) ≡ sided ts i ns ++ sided ts k os
sided_both ts i [] os k e = ap (λ (j : ℕ). sided ts j os) (let f : i ≡ k = omega (arith, e) in f)
sided_both ts i (n ∷ ns) os k e = ap (λ (ms : List Met). met n (is_among i ts) ∷ ms) (sided_both ts (suc i) ns os k (let f : k ≡ suc i + length ns = omega (arith, e) in f))

sided_leaves : (ts : List ℕ) (k : ℕ) (mss : List (List Multiplier)) → AreBelow ts k → sided ts k (closing_leaves mss) ≡ closing_met mss
sided_leaves ts k [] h = refl
sided_leaves ts k (ms ∷ mss) h =
    let here : k ≤ k = omega arith in
    ap₂ (λ (up : Bool) (ns : List Met). met (BoundBy ms) up ∷ ns) (h k here) (sided_leaves ts (suc k) mss (λ i l. h i (let low : k ≤ i = omega (arith, l) in low)))

-- behind the nodes so far
sided_closing : (ts : List ℕ) (ns : List Node) (mss : List (List Multiplier)) → AreBelow ts (length ns) → sided ts 0 (ns ++ closing_leaves mss) ≡ sided ts 0 ns ++ closing_met mss
sided_closing ts ns mss h =
    let same : length ns ≡ 0 + length ns = omega arith in
    sided_both ts 0 ns (closing_leaves mss) (length ns) same ∙ ap (λ (ms : List Met). sided ts 0 ns ++ ms) (sided_leaves ts (length ns) mss h)

-- they show each number that none of theirs is below
leaves_met : (Cs : List Case) (mss : List (List Multiplier)) (z : Ratio) → AllCarry Cs (map (λ ms. Some ms) mss) → All (λ x. IsAtMost z x) (open_numbers Cs mss) → MetAll (programs Cs) (closing_met mss) (Some z)
leaves_met [] [] z a h = refl
leaves_met [] (ms ∷ mss) z a h = absurd a
leaves_met (C ∷ Cs) [] z a h = absurd a
leaves_met (C ∷ Cs) (ms ∷ mss) z a h =
    let low = All-head (λ x. IsAtMost z x) (shown_by C.program ms) (open_numbers Cs mss) h in
    leaf_met C Cs (BoundBy ms) (closing_met mss) (Some z) (Bound ms, refl, refl, record { legal = a.0.legal; costs = a.0.costs; reaches = low })
    (leaves_met Cs mss z a.1 (All-tail (λ x. IsAtMost z x) (shown_by C.program ms) (open_numbers Cs mss) h))

abbrev pub closing_certificate : MomentBy → List (List Multiplier) → Certificate
closing_certificate s mss = record { rounds = s.moment.rounds; nodes = told s.turned (s.moment.nodes ++ closing_leaves mss) }

module _ (P : Problem) (s : MomentBy) (ks : List Carried) (by : HoldsBy P s.moment s.turned) (a : AllCarry s.moment.waiting ks) where
  abbrev m : SearchMoment
  m = s.moment

  -- the tree of the nodes so far and those leaves
  pub closing_proves : (mss : List (List Multiplier)) (z : Ratio) → ks ≡ map (λ ms. Some ms) mss → All (λ x. IsAtMost z x) (with_best m.level m.best (open_numbers m.waiting mss)) → CertificateProves m.level.program (closing_certificate s mss) (Some z)
  closing_proves mss z e low =
      let h = by.holds in
      let nodes = m.nodes ++ closing_leaves mss in
      let leaves = leaves_met m.waiting mss z (subst (AllCarry m.waiting) e a) (below_open m.level m.best (open_numbers m.waiting mss) z low) in
      let all = h.leads (Some z) (below_best m.level m.best (open_numbers m.waiting mss) z low) (closing_met mss) leaves in
      let whole : MetAll (h.cut ∷ []) (sided s.turned 0 nodes) (Some z) = subst (λ (ms : List Met). MetAll (h.cut ∷ []) ms (Some z)) (sym (sided_closing s.turned m.nodes mss by.below)) all in
      let r = all_met h.cut (sided s.turned 0 nodes) (Some z) whole in
      let tree : Proves h.cut (told s.turned nodes) (Some z) = record { tree = r.0; listed = told_tree s.turned nodes r.0 r.1; shows = r.2 } in
      proves_after m.rounds m.level.program h.cut (told s.turned nodes) (Some z) h.after tree

  placed_shown : (d : ProvedBound) → IsOpenBound P m ks d → IsShownBound P (placed_bound s.turned d)
  placed_shown d o =
      let h = by.holds in
      let is = h.level.first o.first_level in
      let least = o.least in
      let I = m.level.program in
      let p = closing_proves o.multipliers (minimising I d.number) o.all_carry least.below in
      let same : placed_certificate s.turned d.certificate ≡ closing_certificate s o.multipliers = ap (λ (c : Certificate). placed_certificate s.turned c) o.certificate in
      let c : CertificateProves I (placed_certificate s.turned d.certificate) (Some (minimising I d.number)) = subst (λ c. CertificateProves I c (Some (minimising I d.number))) (sym same) p in
      record {
        number = let r = o.reduced in r.0;
        rounds = rounds_here P m h (placed_certificate s.turned d.certificate) (ap (λ (c : Certificate). c.rounds) o.certificate);
        proves = subst (λ J. CertificateProves J (placed_certificate s.turned d.certificate) (Some (minimising J d.number))) is.0 c;
      }

  pub bound_shown_by : (b : ProvedBound) → IsBoundBy P s ks b → IsShownBound P b
  bound_shown_by b (inl (d, o, e)) = subst (IsShownBound P) (sym e) (placed_shown d o)
  bound_shown_by b (inr r) = reached_shown P m by.holds b r

  module _ (good : IsProblem P) where
    pub is_one_by : (b c : ProvedBound) → IsBoundBy P s ks b → IsBoundBy P s ks c → b ≡ c
    is_one_by b c (inl (d, o, e)) (inl (f, p, g)) = e ∙ ap (λ d. placed_bound s.turned d) (is_one P good m ks by.holds a d f (inl o) (inl p)) ∙ sym g
    is_one_by b c (inl (d, o, e)) (inr y) = absurd (let q : c.certificate ∷ y.others ≡ [] = sym y.shown ∙ o.first_level in cc)
    is_one_by b c (inr x) (inl (f, p, g)) = absurd (let q : b.certificate ∷ x.others ≡ [] = sym x.shown ∙ p.first_level in cc)
    is_one_by b c (inr x) (inr y) = is_one P good m ks by.holds a b c (inr x) (inr y)

    found_once : (b d : Option ProvedBound) → FindsBoundBy P s ks b → FindsBoundBy P s ks d → b ≡ d
    found_once None None x y = refl
    found_once None (Some d) x y = absurd (x d y.0 y.1)
    found_once (Some b) None x y = absurd (y b x.0 x.1)
    found_once (Some b) (Some d) x y = ap (λ b. Some b) (is_one_by b d x.0 y.0)

    pub has_once_by : (asks : Bool) (o : Outcome) (b d : Option ProvedBound) → FindsAskedBy P asks s ks o b → FindsAskedBy P asks s ks o d → b ≡ d
    has_once_by false o b d p q = p ∙ sym q
    has_once_by true (Optimal x vs cs) b d p q = p ∙ sym q
    has_once_by true (Infeasible k) b d p q = p ∙ sym q
    has_once_by true (Unbounded x vs cs r) b d p q = p ∙ sym q
    has_once_by true (BestSoFar x vs k) b d p q = found_once b d p q
    has_once_by true (Unsure k) b d p q = found_once b d p q

-- a bound that is found is shown
pub found_shown_by : (P : Problem) (s : MomentBy) (ks : List Carried) → HoldsBy P s.moment s.turned → AllCarry s.moment.waiting ks → (asks : Bool) (o : Outcome) (d : Option ProvedBound) (b : ProvedBound) → d ≡ Some b → FindsAskedBy P asks s ks o d → IsShownBound P b
found_shown_by P s ks by a asks o None b e h = absurd (cc)
found_shown_by P s ks by a false o (Some y) b e h = absurd (cc)
found_shown_by P s ks by a true (Optimal x vs cs) (Some y) b e h = absurd (cc)
found_shown_by P s ks by a true (Infeasible k) (Some y) b e h = absurd (cc)
found_shown_by P s ks by a true (Unbounded x vs cs r) (Some y) b e h = absurd (cc)
found_shown_by P s ks by a true (BestSoFar x vs k) (Some y) b e h = let same : y ≡ b = cc in subst (IsShownBound P) same (bound_shown_by P s ks by a y h.0)
found_shown_by P s ks by a true (Unsure k) (Some y) b e h = let same : y ≡ b = cc in subst (IsShownBound P) same (bound_shown_by P s ks by a y h.0)
