-- A leaf of rows that shows its case leads on to the rest of the nodes.
use Rattle.std.proofs.Common.{◌≡◌, ◌∙◌, ℕ, ◌+◌, Option, None, Some, List, ◌∷◌, inr, ap, sym, subst}
use Rattle.rational.specs.Ratio.{Ratio, IsNumber}
use Rattle.fraction.specs.Frac.{ratio}
use Rattle.fraction.specs.declared.frac.Frac.{Frac}
use Rattle.evidence.specs.Instance.{Instance, IsInstance}
use Rattle.evidence.specs.Cases.{Multiplier, Node, FarkasByRows, BoundByRows, GridByRows}
use Rattle.evidence.specs.PendingNodes.{ShowsAll}
use Rattle.evidence.proofs.PendingNodes.{farkas_rows_step, bound_rows_step, grid_rows_step}
use Rattle.certificate.specs.Meanings as Means
use Rattle.certificate.specs.declared.lists.Mult.{Mult}
use Rattle.certificate.specs.declared.nodes.Node as Has
use Rattle.certificate.specs.declared.nodes.Node.TheVariants.{FarkasRows, BoundRows, GridRows}
use Rattle.cert_checker.specs.declared.refused.Unshown.{Unshown}
use Rattle.cert_checker.specs.RowLeaves.{RowLeafHolds, BoundRowsHold, GridRowLeafHolds}
use Rattle.cert_checker.specs.Trees.{TreeRefuses, LeadsThrough}
use Rattle.cert_checker.proofs.RowLeaves.{farkas_rows_of, bound_rows_of, grid_rows_of}

module _ (I : Instance) (good : IsInstance I) (js after : List Instance) (n : ℕ) (rest : List Node) (ms : List Multiplier) where
  pub farkas_rows_leads : (z : Option Ratio) → RowLeafHolds I ms None → after ≡ js → LeadsThrough (I ∷ js) (FarkasByRows ms ∷ rest) n after rest (n + 1) z
  farkas_rows_leads z h e = record {
    shown = λ s. let f = farkas_rows_of I good ms h in (farkas_rows_step I js ms rest z).1 (f.0, f.1, subst (λ l. ShowsAll l rest z) e s);
    refused = λ r q. inr (h, subst (λ l. TreeRefuses l rest z (n + 1) r) e q);
  }

  pub bound_rows_leads : (z : Option Ratio) → BoundRowsHold I ms z → after ≡ js → LeadsThrough (I ∷ js) (BoundByRows ms ∷ rest) n after rest (n + 1) z
  bound_rows_leads None h e = absurd h
  bound_rows_leads (Some z) h e = record {
    shown = λ s. let f = bound_rows_of I good ms z h in (bound_rows_step I js ms rest z).1 (f.0, f.1, subst (λ l. ShowsAll l rest (Some z)) e s);
    refused = λ r q. inr (h, subst (λ l. TreeRefuses l rest (Some z) (n + 1) r) e q);
  }

  pub grid_rows_leads : (g : Ratio) → IsNumber g → (z : Option Ratio) → GridRowLeafHolds I g ms z → after ≡ js → LeadsThrough (I ∷ js) (GridByRows g ms ∷ rest) n after rest (n + 1) z
  grid_rows_leads g p None h e = absurd h
  grid_rows_leads g p (Some z) h e = record {
    shown = λ s. let f = grid_rows_of I good g ms z p h in (grid_rows_step I js g ms rest z).1 (f.0, f.1, subst (λ l. ShowsAll l rest (Some z)) e s);
    refused = λ r q. inr (h, subst (λ l. TreeRefuses l rest (Some z) (n + 1) r) e q);
  }

-- a node, as what it means
pub as_meant : (I : Instance) (js after : List Instance) (n : ℕ) (rest : List Node) (z : Option Ratio) (x : Has.Node) (y : Node) → Means.node x ≡ y → LeadsThrough (I ∷ js) (y ∷ rest) n after rest (n + 1) z → LeadsThrough (I ∷ js) (Means.node x ∷ rest) n after rest (n + 1) z
as_meant I js after n rest z x y e h = subst (λ y. LeadsThrough (I ∷ js) (y ∷ rest) n after rest (n + 1) z) (sym e) h

pub meant_refused : (I : Instance) (js : List Instance) (n : ℕ) (z : Option Ratio) (rest : List Node) (x : Has.Node) (y : Node) → Means.node x ≡ y → (r : Unshown) → TreeRefuses (I ∷ js) (y ∷ rest) z n r → TreeRefuses (I ∷ js) (Means.node x ∷ rest) z n r
meant_refused I js n z rest x y e r h = subst (λ y. TreeRefuses (I ∷ js) (y ∷ rest) z n r) (sym e) h

-- with its multipliers as its list lends them
module _ (x : Has.Node) (ms lent : List Mult) (le : lent ≡ ms) where
  pub farkas_meant : x ≡ FarkasRows ms → Means.node x ≡ FarkasByRows (Means.multipliers lent)
  farkas_meant is = ap Means.node is ∙ ap (λ l. FarkasByRows (Means.multipliers l)) (sym le)

  pub bound_meant : x ≡ BoundRows ms → Means.node x ≡ BoundByRows (Means.multipliers lent)
  bound_meant is = ap Means.node is ∙ ap (λ l. BoundByRows (Means.multipliers l)) (sym le)

  pub grid_meant : (g : Frac) → x ≡ GridRows g ms → Means.node x ≡ GridByRows (ratio g) (Means.multipliers lent)
  grid_meant g is = ap Means.node is ∙ ap (λ l. GridByRows (ratio g) (Means.multipliers l)) (sym le)
