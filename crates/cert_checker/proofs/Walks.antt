-- A step of the walk: what it leaves to show, with the rest of the nodes, shows what was to show before it.
use Rattle.std.proofs.Common.{◌≡◌, ℕ, ◌+◌, ◌<◌, length, drop, slice_index_or, ap₂, add-one, arith, ℤ, pos, ◌+ℤ◌, Option, None, Some, IfSome, List, [], ◌∷◌, refl, sym, ◌∙◌, ap, subst, inl, inr}
use Rattle.std.proofs.Math.Seq.{drop-cons}
use Rattle.std.proofs.lemmas.List.{get_or-map, length-map}
use Rattle.rational.specs.Ratio.{Ratio, IsNumber}
use Rattle.fraction.specs.Frac.{ratio}
use Rattle.fraction.specs.declared.frac.Frac.{Frac}
use Rattle.evidence.specs.Sums.{none}
use Rattle.evidence.specs.Instance.{Instance, minimising}
use Rattle.evidence.specs.Cases.{Multiplier, Node, ClashAt, FarkasBy, BoundBy, GridBy, SplitAt, ZeroAt, IsSplit, IsZeroBranch, IsFarkas, IsBound, low_case, high_case, at_zero, unless_zero}
use Rattle.evidence.specs.Width.{LeafFits}
use Rattle.evidence.specs.PendingNodes.{ShowsAll}
use Rattle.evidence.proofs.PendingNodes.{clash_step, farkas_step, bound_step, grid_step, any_split_step, zero_step}
use Rattle.certificate.specs.Meanings as Means
use Rattle.certificate.specs.declared.lists.Mult.{Mult}
use Rattle.certificate.specs.declared.nodes.Node as Has
use Rattle.certificate.specs.declared.nodes.Node.TheVariants.{Farkas, Bound, Grid}
use Rattle.cert_checker.specs.declared.refused.Unshown.{Unshown}
use Rattle.case_tree.specs.declared.cuts.Cut.{Cut}
use Rattle.case_tree.specs.declared.path.Branch.{Branch}
use Rattle.cert_checker.specs.declared.refused.Unshown.TheVariants.{Tree as Missing}
use Rattle.cert_checker.specs.Columns.{open_cases}
use Rattle.cert_checker.specs.Cuts.{aim}
use Rattle.cert_checker.specs.Leaves.{LeafHolds, LeafRefuses, ClashHolds}
use Rattle.cert_checker.specs.Grids.{GridLeafHolds, GridLeafRefuses}
use Rattle.cert_checker.specs.Trees.{TreeRefuses, LeadsThrough}
use Rattle.cert_checker.proofs.GridSteps.{grid_is}

pub farkas_of : (I : Instance) (ms : List Multiplier) → LeafHolds I ms None → IsFarkas I ms × LeafFits I none ms
farkas_of I ms h = (
  record { legal = h.legal; vanishes = λ j g. (h.forms j g).is; above = h.sum.reaches },
  record { forms = λ j g. (h.forms j g).fits; low = h.sum.fits },
)

pub farkas_from : (I : Instance) (ms : List Multiplier) → IsFarkas I ms → LeafFits I none ms → LeafHolds I ms None
farkas_from I ms f w = record {
  legal = f.legal;
  forms = λ j g. record { fits = w.forms j g; is = f.vanishes j g };
  sum = record { fits = w.low; reaches = f.above };
}

pub bound_of : (I : Instance) (ms : List Multiplier) (z : Ratio) → LeafHolds I ms (Some z) → IsBound I ms z × LeafFits I (minimising I I.goal.constant) ms
bound_of I ms z h = (
  record { legal = h.legal; costs = λ j g. (h.forms j g).is; reaches = h.sum.reaches },
  record { forms = λ j g. (h.forms j g).fits; low = h.sum.fits },
)

pub bound_from : (I : Instance) (ms : List Multiplier) (z : Ratio) → IsBound I ms z → LeafFits I (minimising I I.goal.constant) ms → LeafHolds I ms (Some z)
bound_from I ms z b w = record {
  legal = b.legal;
  forms = λ j g. record { fits = w.forms j g; is = b.costs j g };
  sum = record { fits = w.low; reaches = b.reaches };
}

module _ (I : Instance) (js after : List Instance) (n : ℕ) (z : Option Ratio) (rest : List Node) where
  pub clash_leads : (c : ℕ) → ClashHolds I c → after ≡ js → LeadsThrough (I ∷ js) (ClashAt c ∷ rest) n after rest (n + 1) z
  clash_leads c h e = record {
    shown = λ s. (clash_step I js c rest z).1 (h, subst (λ l. ShowsAll l rest z) e s);
    refused = λ r q. inr (h, subst (λ l. TreeRefuses l rest z (n + 1) r) e q);
  }

  farkas_leads : (ms : List Multiplier) → LeafHolds I ms None → after ≡ js → LeadsThrough (I ∷ js) (FarkasBy ms ∷ rest) n after rest (n + 1) z
  farkas_leads ms h e = record {
    shown = λ s. let f = farkas_of I ms h in (farkas_step I js ms rest z).1 (f.0, f.1, subst (λ l. ShowsAll l rest z) e s);
    refused = λ r q. inr (h, subst (λ l. TreeRefuses l rest z (n + 1) r) e q);
  }

  pub split_leads : (j : ℕ) (k : ℤ) → IsSplit I j k → after ≡ low_case I j k ∷ high_case I j (k +ℤ pos 1) ∷ js → LeadsThrough (I ∷ js) (SplitAt j k ∷ rest) n after rest (n + 1) z
  split_leads j k b e = record {
    shown = λ s. (any_split_step I js j k rest z).1 (b, subst (λ l. ShowsAll l rest z) e s);
    refused = λ r q. inr (b, subst (λ l. TreeRefuses l rest z (n + 1) r) e q);
  }

  pub zero_leads : (j : ℕ) → IsZeroBranch I j → after ≡ at_zero I j ∷ unless_zero I j ∷ js → LeadsThrough (I ∷ js) (ZeroAt j ∷ rest) n after rest (n + 1) z
  zero_leads j b e = record {
    shown = λ s. (zero_step I js j rest z).1 (b, subst (λ l. ShowsAll l rest z) e s);
    refused = λ r q. inr (b, subst (λ l. TreeRefuses l rest z (n + 1) r) e q);
  }

module _ (I : Instance) (js after : List Instance) (n : ℕ) (rest : List Node) (ms : List Multiplier) where
  bound_some : (z : Ratio) → LeafHolds I ms (Some z) → after ≡ js → LeadsThrough (I ∷ js) (BoundBy ms ∷ rest) n after rest (n + 1) (Some z)
  bound_some z h e = record {
    shown = λ s. let b = bound_of I ms z h in (bound_step I js ms rest z).1 (b.0, b.1, subst (λ l. ShowsAll l rest (Some z)) e s);
    refused = λ r q. inr (h, subst (λ l. TreeRefuses l rest (Some z) (n + 1) r) e q);
  }

  bound_leads : (a : Option Frac) → (a ≡ None → ⊥) → LeafHolds I ms (aim a) → after ≡ js → LeadsThrough (I ∷ js) (BoundBy ms ∷ rest) n after rest (n + 1) (aim a)
  bound_leads None ne h e = absurd (ne refl)
  bound_leads (Some f) ne h e = bound_some _ h e

  bound_refuses : (a : Option Frac) → (a ≡ None → ⊥) → (r : Unshown) → LeafRefuses I ms (aim a) n r → TreeRefuses (I ∷ js) (BoundBy ms ∷ rest) (aim a) n r
  bound_refuses None ne r q = absurd (ne refl)
  bound_refuses (Some f) ne r q = inl q

-- the multipliers of a node, as its list lends them
module _ (I : Instance) (js after : List Instance) (n : ℕ) (z : Option Ratio) (rest : List Node) (x : Has.Node) (ms lent : List Mult) (is : x ≡ Farkas ms) (le : lent ≡ ms) where
  node_is : Means.node x ≡ FarkasBy (Means.multipliers lent)
  node_is = ap Means.node is ∙ ap (λ l. FarkasBy (Means.multipliers l)) (sym le)

  pub farkas_node_leads : LeafHolds I (Means.multipliers lent) None → after ≡ js → LeadsThrough (I ∷ js) (Means.node x ∷ rest) n after rest (n + 1) z
  farkas_node_leads h e = subst (λ y. LeadsThrough (I ∷ js) (y ∷ rest) n after rest (n + 1) z) (sym node_is) (farkas_leads I js after n z rest (Means.multipliers lent) h e)

pub farkas_refused : (I : Instance) (js : List Instance) (n : ℕ) (z : Option Ratio) (rest : List Node) (x : Has.Node) (ms lent : List Mult) (is : x ≡ Farkas ms) (le : lent ≡ ms) (r : Unshown) → LeafRefuses I (Means.multipliers lent) None n r → TreeRefuses (I ∷ js) (Means.node x ∷ rest) z n r
farkas_refused I js n z rest x ms lent is le r q =
    subst (λ y. TreeRefuses (I ∷ js) (y ∷ rest) z n r) (sym (ap Means.node is ∙ ap (λ l. FarkasBy (Means.multipliers l)) (sym le))) (inl q)

module _ (I : Instance) (js after : List Instance) (n : ℕ) (rest : List Node) (x : Has.Node) (ms lent : List Mult) (is : x ≡ Bound ms) (le : lent ≡ ms) (a : Option Frac) (ne : a ≡ None → ⊥) where
  pub bound_node_leads : LeafHolds I (Means.multipliers lent) (aim a) → after ≡ js → LeadsThrough (I ∷ js) (Means.node x ∷ rest) n after rest (n + 1) (aim a)
  bound_node_leads h e =
      subst (λ y. LeadsThrough (I ∷ js) (y ∷ rest) n after rest (n + 1) (aim a)) (sym (ap Means.node is ∙ ap (λ l. BoundBy (Means.multipliers l)) (sym le)))
      (bound_leads I js after n rest (Means.multipliers lent) a ne h e)

pub bound_refused : (I : Instance) (js : List Instance) (n : ℕ) (rest : List Node) (x : Has.Node) (ms lent : List Mult) (is : x ≡ Bound ms) (le : lent ≡ ms) (a : Option Frac) (ne : a ≡ None → ⊥) (r : Unshown) → LeafRefuses I (Means.multipliers lent) (aim a) n r → TreeRefuses (I ∷ js) (Means.node x ∷ rest) (aim a) n r
bound_refused I js n rest x ms lent is le a ne r q =
    subst (λ y. TreeRefuses (I ∷ js) (y ∷ rest) (aim a) n r) (sym (ap Means.node is ∙ ap (λ l. BoundBy (Means.multipliers l)) (sym le)))
    (bound_refuses I js js n rest (Means.multipliers lent) a ne r q)

module _ (I : Instance) (js after : List Instance) (n : ℕ) (rest : List Node) (g : Ratio) (ms : List Multiplier) where
  grid_leads : (z : Option Ratio) → IsNumber g → GridLeafHolds I g ms z → after ≡ js → LeadsThrough (I ∷ js) (GridBy g ms ∷ rest) n after rest (n + 1) z
  grid_leads None p h e = absurd h
  grid_leads (Some z) p h e = record {
    shown = λ s. let b = (grid_is I g ms z p).0 h in (grid_step I js g ms rest z).1 (b.0, (b.1, b.2), subst (λ l. ShowsAll l rest (Some z)) e s);
    refused = λ r q. inr (h, subst (λ l. TreeRefuses l rest (Some z) (n + 1) r) e q);
  }

module _ (I : Instance) (js after : List Instance) (n : ℕ) (z : Option Ratio) (rest : List Node) (x : Has.Node) (g : Frac) (ms lent : List Mult) (is : x ≡ Grid g ms) (le : lent ≡ ms) where
  grid_node : Means.node x ≡ GridBy (ratio g) (Means.multipliers lent)
  grid_node = ap Means.node is ∙ ap (λ l. GridBy (ratio g) (Means.multipliers l)) (sym le)

  pub grid_node_leads : GridLeafHolds I (ratio g) (Means.multipliers lent) z → after ≡ js → LeadsThrough (I ∷ js) (Means.node x ∷ rest) n after rest (n + 1) z
  grid_node_leads h e = subst (λ y. LeadsThrough (I ∷ js) (y ∷ rest) n after rest (n + 1) z) (sym grid_node) (grid_leads I js after n rest (ratio g) (Means.multipliers lent) z g.above h e)

pub grid_refused : (I : Instance) (js : List Instance) (n : ℕ) (z : Option Ratio) (rest : List Node) (x : Has.Node) (g : Frac) (ms lent : List Mult) (is : x ≡ Grid g ms) (le : lent ≡ ms) (r : Unshown) → GridLeafRefuses I (ratio g) (Means.multipliers lent) z n r → TreeRefuses (I ∷ js) (Means.node x ∷ rest) z n r
grid_refused I js n z rest x g ms lent is le r q =
    subst (λ y. TreeRefuses (I ∷ js) (y ∷ rest) z n r) (sym (ap Means.node is ∙ ap (λ l. GridBy (ratio g) (Means.multipliers l)) (sym le))) (inl q)

pub leads_on : (Is Js Ks : List Instance) (a b c : List Node) (n m l : ℕ) (z : Option Ratio) → LeadsThrough Is a n Js b m z → LeadsThrough Js b m Ks c l z → LeadsThrough Is a n Ks c l z
leads_on Is Js Ks a b c n m l z f g = record { shown = λ s. f.shown (g.shown s); refused = λ r q. f.refused r (g.refused r q) }

pub drop_node : (ns : List Has.Node) (i : ℕ) (x : Has.Node) → i < length ns → x ≡ slice_index_or ns i x → drop i (Means.nodes ns) ≡ Means.node x ∷ drop (i + 1) (Means.nodes ns)
drop_node ns i x h is =
    let long = length-map ns Means.node in
    let d : Node = ClashAt 0 in
    drop-cons (Means.nodes ns) i d (omega arith) ∙ ap₂ (λ y l. y ∷ l) (get_or-map Means.node ns i x d h ∙ sym (ap Means.node is)) (ap (λ k. drop k (Means.nodes ns)) (sym (add-one i)))

-- the leads so far, with the node at hand first
pub leads_here : (m : ℕ) (Is : List Instance) (ns : List Has.Node) (I : Instance) (vs : List Cut) (bs : List Branch) (o : Option ℕ) (d i : ℕ) (z : Option Ratio) (x : Has.Node) → o ≡ Some d → i < length ns → x ≡ slice_index_or ns i x → LeadsThrough Is (Means.nodes ns) 1 (open_cases m I vs bs o) (drop i (Means.nodes ns)) (i + 1) z → LeadsThrough Is (Means.nodes ns) 1 (open_cases m I vs bs (Some d)) (Means.node x ∷ drop (i + 1) (Means.nodes ns)) (i + 1) z
leads_here m Is ns I vs bs o d i z x e h is f =
    subst (λ l. LeadsThrough Is (Means.nodes ns) 1 (open_cases m I vs bs (Some d)) l (i + 1) z) (drop_node ns i x h is)
    (subst (λ o. LeadsThrough Is (Means.nodes ns) 1 (open_cases m I vs bs o) (drop i (Means.nodes ns)) (i + 1) z) e f)

pub leads_first : (Is : List Instance) (ns : List Node) (z : Option Ratio) → LeadsThrough Is ns 1 Is (drop 0 ns) (0 + 1) z
leads_first Is ns z = record { shown = λ s. s; refused = λ r q. q }

-- all nodes are read
none_after : {X : Type 0} (xs : List X) → drop (length xs) xs ≡ []
none_after [] = refl
none_after (x ∷ xs) = none_after xs

pub drop_all : {X : Type 0} (xs : List X) (n : ℕ) → n ≡ length xs → drop n xs ≡ []
drop_all xs n e = ap (λ k. drop k xs) e ∙ none_after xs

pub one_more : (I : Instance) (ns : List Has.Node) (i : ℕ) (x : Has.Node) (z : Option Ratio) → i < length ns → x ≡ slice_index_or ns i x → LeadsThrough (I ∷ []) (Means.nodes ns) 1 [] (drop i (Means.nodes ns)) (i + 1) z → TreeRefuses (I ∷ []) (Means.nodes ns) z 1 (Missing (i + 1))
one_more I ns i x z h is f = f.refused (Missing (i + 1)) (subst (λ l. TreeRefuses [] l z (i + 1) (Missing (i + 1))) (sym (drop_node ns i x h is)) refl)

pub some_weaker : {X : Type 0} {P Q : X → Type 0} (o : Option X) → ((x : X) → P x → Q x) → IfSome o P → IfSome o Q
some_weaker None f p = p
some_weaker (Some x) f p = f x p
