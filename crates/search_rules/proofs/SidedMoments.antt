-- What holds at each moment of a search by rules: as at each moment of a search, but that its nodes are told in another order than they are met.
use Rattle.std.proofs.Common.{◌≡◌, ℕ, inl, inr, ℤ, pos, ◌+ℤ◌, false, Option, None, Some, List, [], ◌∷◌, ◌++◌, length, length-append, refl, sym, subst, arith}
use Rattle.std.specs.List.{All}
use Rattle.std.proofs.lemmas.Bool.{ne_eqb}
use Rattle.rational.specs.Ratio.{Ratio}
use Rattle.evidence.specs.Instance.{Goal, Instance, Problem}
use Rattle.evidence.specs.Cases.{Multiplier, Node, BoundBy, SplitAt, ZeroAt, IsBranch, IsZeroBranch}
use Rattle.evidence.specs.Rounds.{derive}
use Rattle.simplex_rules.specs.Ends.{Terms, IsBest}
use Rattle.search_rules.specs.Branching.{Case, split_cases, divided_cases}
use Rattle.search_rules.specs.Cuts.{MakesCut}
use Rattle.search_rules.specs.Search.{Found, SearchMoment, To, undivided, closed_by_leaf, branch, divide, with_cut, next_level_at, IsHopeful, TakesPoint, ClosesLevel}
use Rattle.search_rules.specs.Sides.{Met, told}
use Rattle.search_rules.specs.RuleSearch.{risen_cases, branch_up}
use Rattle.search_rules.proofs.Nodes.{programs, Within, Leads, IsLeaf}
use Rattle.search_rules.proofs.Cases.{IsOpen, open_most, open_least}
use Rattle.search_rules.proofs.MetNodes.{met, MetAll}
use Rattle.search_rules.proofs.SidedNodes.{AreBelow, LeadsBy, leads_by_first, leads_by_low, leads_by_high, leaf_met, low_met, high_met, zero_met, leads_told, told_some}
use Rattle.search_rules.proofs.Moments.{HoldsWith, Holds, IsFound, node_with, taken, both_open, divided_open, cut_next, cut_with}

-- ts are the places of the nodes behind which the case of at least k + 1 came first
pub record HoldsBy (P : Problem) (m : SearchMoment) (ts : List ℕ) : Type 0 where
  pub holds : HoldsWith P m (λ D. LeadsBy m.level D m.waiting ts m.nodes m.best)
  pub below : AreBelow ts (length m.nodes)

-- a level before its first node
pub begun_by : (P : Problem) (m : SearchMoment) → Holds P m → m.nodes ≡ [] → HoldsBy P m []
begun_by P m h none = record {
  holds = record {
    level = h.level;
    cut = h.cut;
    after = h.after;
    within = h.within;
    cases = h.cases;
    best = h.best;
    first = h.first;
    leads = subst (λ (ns : List Node). LeadsBy m.level h.cut m.waiting [] ns m.best) (sym none) (subst (λ (cs : List Case). LeadsBy m.level h.cut cs [] [] m.best) (sym (h.root none)) (leads_by_first m.level h.cut [] m.best));
    root = h.root;
    rounds = h.rounds;
  };
  below = λ i l. refl;
}

-- a level without open cases, its nodes as a certificate has them
pub placed_holds : (P : Problem) (m : SearchMoment) (ts : List ℕ) → HoldsBy P m ts → m.waiting ≡ [] → Holds P (record m { nodes = told ts m.nodes })
placed_holds P m ts by none =
    let h = by.holds in
    record {
      level = h.level;
      cut = h.cut;
      after = h.after;
      within = h.within;
      cases = h.cases;
      best = h.best;
      first = h.first;
      leads = subst (λ (cs : List Case). Leads m.level h.cut cs (told ts m.nodes) m.best) (sym none) (leads_told m.level h.cut ts m.nodes m.best (subst (λ (cs : List Case). LeadsBy m.level h.cut cs ts m.nodes m.best) none h.leads));
      root = λ e. h.root (told_some ts m.nodes e);
      rounds = h.rounds;
    }

pub closes_begin : (P : Problem) (t : Terms) (m n : SearchMoment) (best : Option Found) (gs : List Goal) → ClosesLevel P t m best gs (To n) → n.nodes ≡ []
closes_begin P t m n None gs e = absurd (cc)
closes_begin P t m n (Some f) [] e = absurd (cc)
closes_begin P t m n (Some f) (g ∷ gs) (inl (e, end, q)) = let same : next_level_at m f e g gs ≡ n = cc in subst (λ (k : SearchMoment). k.nodes ≡ []) same refl
closes_begin P t m n (Some f) (g ∷ gs) (inr (wide, inl (inl (limit, q)))) = absurd (cc)
closes_begin P t m n (Some f) (g ∷ gs) (inr (wide, inl (inr (within, stop, q)))) = absurd (cc)
closes_begin P t m n (Some f) (g ∷ gs) (inr (wide, inr (goes, q))) = absurd (cc)

below_low : (ts : List ℕ) (ns : List Node) (n : Node) → AreBelow ts (length ns) → AreBelow ts (length (ns ++ n ∷ []))
below_low ts ns n h i l = let e = length-append ns (n ∷ []) in h i (omega (arith, e))

below_high : (ts : List ℕ) (ns : List Node) (n : Node) → AreBelow ts (length ns) → AreBelow (length ns ∷ ts) (length (ns ++ n ∷ []))
below_high ts ns n h i l = let e = length-append ns (n ∷ []) in rw (ne_eqb i (length ns) (λ q. omega (arith, e, q))) (h i (omega (arith, e)))

-- case C is open before the rest
module _ (P : Problem) (C : Case) (rest : List Case) (m : SearchMoment) (ts : List ℕ) (by : HoldsBy P m ts) (this : IsOpen m.level.program C) (others : All (IsOpen m.level.program) rest) (leads : LeadsBy m.level by.holds.cut (C ∷ rest) ts m.nodes m.best) where
  node_by : (after : List Case) (node : Node) (better : Option Found) → All (IsOpen m.level.program) after → ((f : Found) → better ≡ Some f → IsFound P m.level f) → (better ≡ None → m.best ≡ None) → ((z : Option Ratio) → Within m.level z better → Within m.level z m.best)
      → ((z : Option Ratio) → Within m.level z better → (more : List Met) → MetAll (programs after) more z → MetAll (programs (C ∷ rest)) (met node false ∷ more) z)
      → HoldsBy P (record m { waiting = after; nodes = m.nodes ++ node ∷ []; best = better }) ts
  node_by after node better cases found none back step = record {
    holds = node_with P C rest m by.holds this others after node better (λ D. LeadsBy m.level D after ts (m.nodes ++ node ∷ []) better) cases found none
        (leads_by_low m.level by.holds.cut (C ∷ rest) after ts m.nodes node m.best better by.below back step leads);
    below = below_low ts m.nodes node by.below;
  }

  pub leaf_by : (node : Node) → ((z : Option Ratio) → Within m.level z m.best → IsLeaf C.program node z) → HoldsBy P (closed_by_leaf m rest node) ts
  leaf_by node leaf = node_by rest node m.best others by.holds.best (λ e. e) (λ z w. w) (λ z w more o. leaf_met C rest node more z (leaf z w) o)

  pub low_by : (j : ℕ) (k : ℤ) → IsBranch C.program j k → HoldsBy P (branch m C rest j k) ts
  low_by j k b =
      node_by (split_cases C j k rest) (SplitAt j k) m.best
      (both_open P C rest m by.holds this others _ _ (open_most m.level.program C this j b.variable k) (open_least m.level.program C this j b.variable (k +ℤ pos 1)))
      by.holds.best (λ e. e) (λ z w. w) (λ z w more o. low_met C rest j k more z b o)

  pub high_by : (j : ℕ) (k : ℤ) → IsBranch C.program j k → HoldsBy P (branch_up m C rest j k) (length m.nodes ∷ ts)
  high_by j k b = record {
    holds = node_with P C rest m by.holds this others (risen_cases C j k rest) (SplitAt j k) m.best (λ D. LeadsBy m.level D (risen_cases C j k rest) (length m.nodes ∷ ts) (m.nodes ++ SplitAt j k ∷ []) m.best)
        (both_open P C rest m by.holds this others _ _ (open_least m.level.program C this j b.variable (k +ℤ pos 1)) (open_most m.level.program C this j b.variable k))
        by.holds.best (λ e. e) (leads_by_high m.level by.holds.cut (C ∷ rest) (risen_cases C j k rest) ts m.nodes (SplitAt j k) m.best (λ z more o. high_met C rest j k more z b o) leads);
    below = below_high ts m.nodes (SplitAt j k) by.below;
  }

  pub divide_by : (j : ℕ) → IsZeroBranch C.program j → HoldsBy P (divide m C rest j) ts
  divide_by j b = node_by (divided_cases C j rest) (ZeroAt j) m.best (divided_open P C rest m by.holds this others j b) by.holds.best (λ e. e) (λ z w. w) (λ z w more o. zero_met C rest j more z b o)

  pub takes_by : (t : Terms) (x : List Ratio) (ms : List Multiplier) (n : SearchMoment) → (C.ray ≡ None → (b : Ratio) × IsBest C.program b x ms × IsHopeful m.level m.best b) → TakesPoint P t C rest m x ms (To n) → HoldsBy P n ts
  takes_by t x ms n is_best p =
      let (f, q, a) = taken P C rest m by.holds this others t x ms n is_best p in
      subst (λ (n : SearchMoment). HoldsBy P n ts) q
      (node_by rest (BoundBy ms) (Some f) others (λ g e. let i : f ≡ g = cc in subst (IsFound P m.level) i a.found) (λ e. absurd (cc)) a.weaker (λ z w more o. leaf_met C rest (BoundBy ms) more z (a.leaf z w) o))

-- a cut is a row more of the one case
pub cut_by : (P : Problem) (C : Case) (rest : List Case) (m : SearchMoment) (ts : List ℕ) → m.waiting ≡ C ∷ rest → HoldsBy P m ts → (ms : List Multiplier) (cs : List ℤ) (k : ℤ) → P.later ≡ [] → m.nodes ≡ [] → MakesCut C.program ms cs k → HoldsBy P (with_cut m C rest ms cs k) ts
cut_by P C rest m ts is by ms cs k one none c =
    let h = by.holds in
    let D : Instance = derive h.cut cs k in
    record {
      holds = cut_with P C rest m is h ms cs k (λ E. LeadsBy m.level E (record C { program = derive C.program cs k } ∷ rest) ts m.nodes m.best) one none c
          (subst (λ (cases : List Case). LeadsBy m.level D cases ts m.nodes m.best) (sym (cut_next P C rest m is h cs k none)) (subst (λ (ns : List Node). LeadsBy m.level D (undivided D ∷ []) ts ns m.best) (sym none) (leads_by_first m.level D ts m.best)));
      below = by.below;
    }
