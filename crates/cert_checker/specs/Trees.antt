-- Which refusal of a list of nodes is the first: it is read from its head, with the cases that are still to show.
use Rattle.std.specs.Prelude.{◌≡◌, ℕ, ◌+◌, ◌⊎◌, pos, ◌+ℤ◌, Option, None, Some, List, [], ◌∷◌}
use Rattle.rational.specs.Ratio.{Ratio}
use Rattle.evidence.specs.Instance.{Instance}
use Rattle.evidence.specs.Cases.{Node, ClashAt, FarkasBy, BoundBy, GridBy, FarkasByRows, BoundByRows, GridByRows, SplitAt, ZeroAt, IsSplit, IsZeroBranch, low_case, high_case, at_zero, unless_zero}
use Rattle.evidence.specs.PendingNodes.{ShowsAll}
use Rattle.cert_checker.specs.declared.refused.Unshown.{Unshown}
use Rattle.cert_checker.specs.declared.refused.Unshown.TheVariants.{Tree}
use Rattle.cert_checker.specs.Leaves.{LeafHolds, LeafRefuses, ClashHolds, ClashRefuses}
use Rattle.cert_checker.specs.Grids.{GridLeafHolds, GridLeafRefuses}
use Rattle.cert_checker.specs.RowLeaves.{RowLeafHolds, RowLeafRefuses, BoundRowsHold, BoundRowsRefuse, GridRowLeafHolds, GridRowLeafRefuses}

-- the first node, of those numbered from the given number on, that is refused: it isn't needed, or is missing, or has no place,
-- or doesn't show its case; the nodes before it do
abbrev pub TreeRefuses : List Instance → List Node → Option Ratio → ℕ → Unshown → Type 0
TreeRefuses [] [] z number r = ⊥
TreeRefuses [] (node ∷ nodes) z number r = r ≡ Tree number
TreeRefuses (I ∷ cases) [] z number r = r ≡ Tree number
TreeRefuses (I ∷ cases) (ClashAt c ∷ nodes) z number r = ClashRefuses I c number r ⊎ (ClashHolds I c × TreeRefuses cases nodes z (number + 1) r)
TreeRefuses (I ∷ cases) (FarkasBy ms ∷ nodes) z number r = LeafRefuses I ms None number r ⊎ (LeafHolds I ms None × TreeRefuses cases nodes z (number + 1) r)
TreeRefuses (I ∷ cases) (BoundBy ms ∷ nodes) None number r = r ≡ Tree number
TreeRefuses (I ∷ cases) (BoundBy ms ∷ nodes) (Some z) number r = LeafRefuses I ms (Some z) number r ⊎ (LeafHolds I ms (Some z) × TreeRefuses cases nodes (Some z) (number + 1) r)
TreeRefuses (I ∷ cases) (GridBy g ms ∷ nodes) z number r = GridLeafRefuses I g ms z number r ⊎ (GridLeafHolds I g ms z × TreeRefuses cases nodes z (number + 1) r)
TreeRefuses (I ∷ cases) (FarkasByRows ms ∷ nodes) z number r = RowLeafRefuses I ms None number r ⊎ (RowLeafHolds I ms None × TreeRefuses cases nodes z (number + 1) r)
TreeRefuses (I ∷ cases) (BoundByRows ms ∷ nodes) z number r = BoundRowsRefuse I ms z number r ⊎ (BoundRowsHold I ms z × TreeRefuses cases nodes z (number + 1) r)
TreeRefuses (I ∷ cases) (GridByRows g ms ∷ nodes) z number r = GridRowLeafRefuses I g ms z number r ⊎ (GridRowLeafHolds I g ms z × TreeRefuses cases nodes z (number + 1) r)
TreeRefuses (I ∷ cases) (SplitAt c k ∷ nodes) z number r =
    ((IsSplit I c k → ⊥) × (r ≡ Tree number)) ⊎ (IsSplit I c k × TreeRefuses (low_case I c k ∷ high_case I c (k +ℤ pos 1) ∷ cases) nodes z (number + 1) r)
TreeRefuses (I ∷ cases) (ZeroAt j ∷ nodes) z number r =
    ((IsZeroBranch I j → ⊥) × (r ≡ Tree number)) ⊎ (IsZeroBranch I j × TreeRefuses (at_zero I j ∷ unless_zero I j ∷ cases) nodes z (number + 1) r)

-- if the rest shows what is still to show, then all nodes show all; and the first refusal of the rest is that of all
pub record LeadsThrough (before : List Instance) (nodes : List Node) (number : ℕ) (after : List Instance) (rest : List Node) (next : ℕ) (z : Option Ratio) : Type 0 where
  pub shown : ShowsAll after rest z → ShowsAll before nodes z
  pub refused : (r : Unshown) → TreeRefuses after rest z next r → TreeRefuses before nodes z number r
