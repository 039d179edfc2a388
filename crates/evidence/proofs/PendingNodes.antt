-- How a list of nodes is read from its head: each step holds both ways.
use Rattle.std.proofs.Common.{◌≡◌, inl, inr, ℕ, ◌+◌, ◌<◌, ℤ, pos, ◌+ℤ◌, ◌↔◌, Option, None, Some, List, [], ◌∷◌, ◌++◌, append_assoc, append-nil, refl, sym, ◌∙◌, ap, subst}
use Rattle.rational.specs.Ratio.{Ratio}
use Rattle.evidence.specs.Sums.{none}
use Rattle.evidence.specs.Instance.{Instance, width, height, column_at, minimising}
use Rattle.evidence.specs.Cases.{Multiplier, Tree, Clash, Farkas, Bound, Grid, FarkasRows, BoundRows, GridRows, Split, Zero, Node, ClashAt, FarkasBy, BoundBy, GridBy, FarkasByRows, BoundByRows, GridByRows, SplitAt, ZeroAt, preorder, Shows, IsEmpty, IsFarkas, IsBound, IsGrid, AreOfRows, completed, no_costs, goal_costs, IsBranch, IsRowBranch, IsSplit, IsZeroBranch, at_most, at_least, row_at_most, row_at_least, low_case, high_case, at_zero, unless_zero}
use Rattle.evidence.specs.Width.{LeafFits, StepsFit, RowsFit, TreeFits, ProvesWithin}
use Rattle.evidence.specs.PendingNodes.{ShowsEach, ShowsAll}
use Rattle.evidence.proofs.RowBranches.{low_variable, high_variable, low_row, high_row, variable_split, row_split}

-- whatever more is known of the trees
module _ (known : Instance → Tree → Type 0) (I : Instance) (Is : List Instance) (z : Option Ratio) where
  pub none_read : ShowsEach known (I ∷ Is) [] z → ⊥
  none_read (Clash m, rest, e, s, w, o) = cc
  none_read (Farkas m, rest, e, s, w, o) = cc
  none_read (Bound m, rest, e, s, w, o) = cc
  none_read (Grid m g, rest, e, s, w, o) = cc
  none_read (FarkasRows m, rest, e, s, w, o) = cc
  none_read (BoundRows m, rest, e, s, w, o) = cc
  none_read (GridRows m g, rest, e, s, w, o) = cc
  none_read (Split j k a b, rest, e, s, w, o) = cc
  none_read (Zero j a b, rest, e, s, w, o) = cc

  module _ (rest : List Node) where
    pub clash_read : (c : ℕ) → ShowsEach known (I ∷ Is) (ClashAt c ∷ rest) z → Shows I (Clash c) z × known I (Clash c) × ShowsEach known Is rest z
    clash_read c (Clash n, others, e, s, w, o) =
        let p : n ≡ c = cc in
        let q : others ≡ rest = cc in
        (subst (λ m. Shows I (Clash m) z) p s, subst (λ m. known I (Clash m)) p w, subst (λ r. ShowsEach known Is r z) q o)
    clash_read c (Farkas p, others, e, s, w, o) = absurd (cc)
    clash_read c (Bound p, others, e, s, w, o) = absurd (cc)
    clash_read c (Grid p q, others, e, s, w, o) = absurd (cc)
    clash_read c (FarkasRows p, others, e, s, w, o) = absurd (cc)
    clash_read c (BoundRows p, others, e, s, w, o) = absurd (cc)
    clash_read c (GridRows p q, others, e, s, w, o) = absurd (cc)
    clash_read c (Split j k a b, others, e, s, w, o) = absurd (cc)
    clash_read c (Zero j a b, others, e, s, w, o) = absurd (cc)

    pub farkas_read : (ms : List Multiplier) → ShowsEach known (I ∷ Is) (FarkasBy ms ∷ rest) z → Shows I (Farkas ms) z × known I (Farkas ms) × ShowsEach known Is rest z
    farkas_read ms (Clash p, others, e, s, w, o) = absurd (cc)
    farkas_read ms (Farkas n, others, e, s, w, o) =
        let p : n ≡ ms = cc in
        let q : others ≡ rest = cc in
        (subst (λ m. Shows I (Farkas m) z) p s, subst (λ m. known I (Farkas m)) p w, subst (λ r. ShowsEach known Is r z) q o)
    farkas_read ms (Bound p, others, e, s, w, o) = absurd (cc)
    farkas_read ms (Grid p q, others, e, s, w, o) = absurd (cc)
    farkas_read ms (FarkasRows p, others, e, s, w, o) = absurd (cc)
    farkas_read ms (BoundRows p, others, e, s, w, o) = absurd (cc)
    farkas_read ms (GridRows p q, others, e, s, w, o) = absurd (cc)
    farkas_read ms (Split j k a b, others, e, s, w, o) = absurd (cc)
    farkas_read ms (Zero j a b, others, e, s, w, o) = absurd (cc)

    pub bound_read : (ms : List Multiplier) → ShowsEach known (I ∷ Is) (BoundBy ms ∷ rest) z → Shows I (Bound ms) z × known I (Bound ms) × ShowsEach known Is rest z
    bound_read ms (Clash p, others, e, s, w, o) = absurd (cc)
    bound_read ms (Farkas p, others, e, s, w, o) = absurd (cc)
    bound_read ms (Bound n, others, e, s, w, o) =
        let p : n ≡ ms = cc in
        let q : others ≡ rest = cc in
        (subst (λ m. Shows I (Bound m) z) p s, subst (λ m. known I (Bound m)) p w, subst (λ r. ShowsEach known Is r z) q o)
    bound_read ms (Grid p q, others, e, s, w, o) = absurd (cc)
    bound_read ms (FarkasRows p, others, e, s, w, o) = absurd (cc)
    bound_read ms (BoundRows p, others, e, s, w, o) = absurd (cc)
    bound_read ms (GridRows p q, others, e, s, w, o) = absurd (cc)
    bound_read ms (Split j k a b, others, e, s, w, o) = absurd (cc)
    bound_read ms (Zero j a b, others, e, s, w, o) = absurd (cc)

    pub grid_read : (g : Ratio) (ms : List Multiplier) → ShowsEach known (I ∷ Is) (GridBy g ms ∷ rest) z → Shows I (Grid g ms) z × known I (Grid g ms) × ShowsEach known Is rest z
    grid_read g ms (Clash p, others, e, s, w, o) = absurd (cc)
    grid_read g ms (Farkas p, others, e, s, w, o) = absurd (cc)
    grid_read g ms (Bound p, others, e, s, w, o) = absurd (cc)
    grid_read g ms (Grid h n, others, e, s, w, o) =
        let t : h ≡ g = cc in
        let p : n ≡ ms = cc in
        let q : others ≡ rest = cc in
        (subst (λ m. Shows I (Grid g m) z) p (subst (λ u. Shows I (Grid u n) z) t s), subst (λ m. known I (Grid g m)) p (subst (λ u. known I (Grid u n)) t w), subst (λ r. ShowsEach known Is r z) q o)
    grid_read g ms (FarkasRows p, others, e, s, w, o) = absurd (cc)
    grid_read g ms (BoundRows p, others, e, s, w, o) = absurd (cc)
    grid_read g ms (GridRows p q, others, e, s, w, o) = absurd (cc)
    grid_read g ms (Split j k a b, others, e, s, w, o) = absurd (cc)
    grid_read g ms (Zero j a b, others, e, s, w, o) = absurd (cc)

    pub farkas_rows_read : (ms : List Multiplier) → ShowsEach known (I ∷ Is) (FarkasByRows ms ∷ rest) z → Shows I (FarkasRows ms) z × known I (FarkasRows ms) × ShowsEach known Is rest z
    farkas_rows_read ms (Clash p, others, e, s, w, o) = absurd (cc)
    farkas_rows_read ms (Farkas p, others, e, s, w, o) = absurd (cc)
    farkas_rows_read ms (Bound p, others, e, s, w, o) = absurd (cc)
    farkas_rows_read ms (Grid p q, others, e, s, w, o) = absurd (cc)
    farkas_rows_read ms (FarkasRows n, others, e, s, w, o) =
        let p : n ≡ ms = cc in
        let q : others ≡ rest = cc in
        (subst (λ m. Shows I (FarkasRows m) z) p s, subst (λ m. known I (FarkasRows m)) p w, subst (λ r. ShowsEach known Is r z) q o)
    farkas_rows_read ms (BoundRows p, others, e, s, w, o) = absurd (cc)
    farkas_rows_read ms (GridRows p q, others, e, s, w, o) = absurd (cc)
    farkas_rows_read ms (Split j k a b, others, e, s, w, o) = absurd (cc)
    farkas_rows_read ms (Zero j a b, others, e, s, w, o) = absurd (cc)

    pub bound_rows_read : (ms : List Multiplier) → ShowsEach known (I ∷ Is) (BoundByRows ms ∷ rest) z → Shows I (BoundRows ms) z × known I (BoundRows ms) × ShowsEach known Is rest z
    bound_rows_read ms (Clash p, others, e, s, w, o) = absurd (cc)
    bound_rows_read ms (Farkas p, others, e, s, w, o) = absurd (cc)
    bound_rows_read ms (Bound p, others, e, s, w, o) = absurd (cc)
    bound_rows_read ms (Grid p q, others, e, s, w, o) = absurd (cc)
    bound_rows_read ms (FarkasRows p, others, e, s, w, o) = absurd (cc)
    bound_rows_read ms (BoundRows n, others, e, s, w, o) =
        let p : n ≡ ms = cc in
        let q : others ≡ rest = cc in
        (subst (λ m. Shows I (BoundRows m) z) p s, subst (λ m. known I (BoundRows m)) p w, subst (λ r. ShowsEach known Is r z) q o)
    bound_rows_read ms (GridRows p q, others, e, s, w, o) = absurd (cc)
    bound_rows_read ms (Split j k a b, others, e, s, w, o) = absurd (cc)
    bound_rows_read ms (Zero j a b, others, e, s, w, o) = absurd (cc)

    pub grid_rows_read : (g : Ratio) (ms : List Multiplier) → ShowsEach known (I ∷ Is) (GridByRows g ms ∷ rest) z → Shows I (GridRows g ms) z × known I (GridRows g ms) × ShowsEach known Is rest z
    grid_rows_read g ms (Clash p, others, e, s, w, o) = absurd (cc)
    grid_rows_read g ms (Farkas p, others, e, s, w, o) = absurd (cc)
    grid_rows_read g ms (Bound p, others, e, s, w, o) = absurd (cc)
    grid_rows_read g ms (Grid p q, others, e, s, w, o) = absurd (cc)
    grid_rows_read g ms (FarkasRows p, others, e, s, w, o) = absurd (cc)
    grid_rows_read g ms (BoundRows p, others, e, s, w, o) = absurd (cc)
    grid_rows_read g ms (GridRows h n, others, e, s, w, o) =
        let t : h ≡ g = cc in
        let p : n ≡ ms = cc in
        let q : others ≡ rest = cc in
        (subst (λ m. Shows I (GridRows g m) z) p (subst (λ u. Shows I (GridRows u n) z) t s), subst (λ m. known I (GridRows g m)) p (subst (λ u. known I (GridRows u n)) t w), subst (λ r. ShowsEach known Is r z) q o)
    grid_rows_read g ms (Split j k a b, others, e, s, w, o) = absurd (cc)
    grid_rows_read g ms (Zero j a b, others, e, s, w, o) = absurd (cc)

    -- what is known of a tree is known of its two cases
    pub split_read : (j : ℕ) (k : ℤ) → ((a b : Tree) → known I (Split j k a b) → known (low_case I j k) a × known (high_case I j (k +ℤ pos 1)) b)
        → ShowsEach known (I ∷ Is) (SplitAt j k ∷ rest) z → IsSplit I j k × ShowsEach known (low_case I j k ∷ high_case I j (k +ℤ pos 1) ∷ Is) rest z
    split_read j k inner (Clash p, others, e, s, w, o) = absurd (cc)
    split_read j k inner (Farkas p, others, e, s, w, o) = absurd (cc)
    split_read j k inner (Bound p, others, e, s, w, o) = absurd (cc)
    split_read j k inner (Grid p q, others, e, s, w, o) = absurd (cc)
    split_read j k inner (FarkasRows p, others, e, s, w, o) = absurd (cc)
    split_read j k inner (BoundRows p, others, e, s, w, o) = absurd (cc)
    split_read j k inner (GridRows p q, others, e, s, w, o) = absurd (cc)
    split_read j k inner (Zero i a b, others, e, s, w, o) = absurd (cc)
    split_read j k inner (Split i l a b, others, e, s, w, o) =
        let p : i ≡ j = cc in
        let q : l ≡ k = cc in
        let r : rest ≡ (preorder a ++ preorder b) ++ others = cc in
        let t : Shows I (Split j k a b) z = subst (λ n. Shows I (Split n k a b) z) p (subst (λ m. Shows I (Split i m a b) z) q s) in
        let f = inner a b (subst (λ n. known I (Split n k a b)) p (subst (λ m. known I (Split i m a b)) q w)) in
        (t.0, (a, preorder b ++ others, r ∙ append_assoc (preorder a) (preorder b) others, t.1, f.0, (b, others, refl, t.2, f.1, o)))

    pub split_back : (j : ℕ) (k : ℤ) → ((a b : Tree) → known (low_case I j k) a → known (high_case I j (k +ℤ pos 1)) b → known I (Split j k a b))
        → IsSplit I j k → ShowsEach known (low_case I j k ∷ high_case I j (k +ℤ pos 1) ∷ Is) rest z → ShowsEach known (I ∷ Is) (SplitAt j k ∷ rest) z
    split_back j k outer br (a, ra, ea, sa, wa, (b, rb, eb, sb, wb, o)) =
        (Split j k a b, rb, ap (λ r. SplitAt j k ∷ r) (ea ∙ ap (λ r. preorder a ++ r) eb ∙ sym (append_assoc (preorder a) (preorder b) rb)), (br, sa, sb), outer a b wa wb, o)

    pub zero_read : (j : ℕ) → ((a b : Tree) → known I (Zero j a b) → known (at_zero I j) a × known (unless_zero I j) b)
        → ShowsEach known (I ∷ Is) (ZeroAt j ∷ rest) z → IsZeroBranch I j × ShowsEach known (at_zero I j ∷ unless_zero I j ∷ Is) rest z
    zero_read j inner (Clash p, others, e, s, w, o) = absurd (cc)
    zero_read j inner (Farkas p, others, e, s, w, o) = absurd (cc)
    zero_read j inner (Bound p, others, e, s, w, o) = absurd (cc)
    zero_read j inner (Grid p q, others, e, s, w, o) = absurd (cc)
    zero_read j inner (FarkasRows p, others, e, s, w, o) = absurd (cc)
    zero_read j inner (BoundRows p, others, e, s, w, o) = absurd (cc)
    zero_read j inner (GridRows p q, others, e, s, w, o) = absurd (cc)
    zero_read j inner (Split i l a b, others, e, s, w, o) = absurd (cc)
    zero_read j inner (Zero i a b, others, e, s, w, o) =
        let p : i ≡ j = cc in
        let r : rest ≡ (preorder a ++ preorder b) ++ others = cc in
        let t : Shows I (Zero j a b) z = subst (λ n. Shows I (Zero n a b) z) p s in
        let f = inner a b (subst (λ n. known I (Zero n a b)) p w) in
        (t.0, (a, preorder b ++ others, r ∙ append_assoc (preorder a) (preorder b) others, t.1, f.0, (b, others, refl, t.2, f.1, o)))

    zero_back : (j : ℕ) → ((a b : Tree) → known (at_zero I j) a → known (unless_zero I j) b → known I (Zero j a b))
        → IsZeroBranch I j → ShowsEach known (at_zero I j ∷ unless_zero I j ∷ Is) rest z → ShowsEach known (I ∷ Is) (ZeroAt j ∷ rest) z
    zero_back j outer br (a, ra, ea, sa, wa, (b, rb, eb, sb, wb, o)) =
        (Zero j a b, rb, ap (λ r. ZeroAt j ∷ r) (ea ∙ ap (λ r. preorder a ++ r) eb ∙ sym (append_assoc (preorder a) (preorder b) rb)), (br, sa, sb), outer a b wa wb, o)

-- by sums that fit
pub start : (I : Instance) (nodes : List Node) (z : Option Ratio) → ProvesWithin I nodes z ↔ ShowsAll (I ∷ []) nodes z
start I nodes z = (
  λ p. (p.tree, [], p.listed ∙ sym (append-nil (preorder p.tree)), p.shows, p.fits, refl),
  λ (t, rest, e, s, w, o). record { tree = t; listed = e ∙ ap (λ r. preorder t ++ r) o ∙ append-nil (preorder t); shows = s; fits = w },
)

pub none_left : (I : Instance) (Is : List Instance) (z : Option Ratio) → ShowsAll (I ∷ Is) [] z → ⊥
none_left I Is z s = none_read TreeFits I Is z s

pub one_more : (node : Node) (nodes : List Node) (z : Option Ratio) → ShowsAll [] (node ∷ nodes) z → ⊥
one_more node nodes z e = cc

pub clash_step : (I : Instance) (Is : List Instance) (c : ℕ) (rest : List Node) (z : Option Ratio) → ShowsAll (I ∷ Is) (ClashAt c ∷ rest) z ↔ (((c < width I + height I) × IsEmpty (column_at I c)) × ShowsAll Is rest z)
clash_step I Is c rest z = (λ s. let t = clash_read TreeFits I Is z rest c s in (t.0, t.2), λ (s, o). (Clash c, rest, refl, s, tt, o))

pub farkas_step : (I : Instance) (Is : List Instance) (ms : List Multiplier) (rest : List Node) (z : Option Ratio) → ShowsAll (I ∷ Is) (FarkasBy ms ∷ rest) z ↔ (IsFarkas I ms × LeafFits I none ms × ShowsAll Is rest z)
farkas_step I Is ms rest z = (λ s. farkas_read TreeFits I Is z rest ms s, λ (s, w, o). (Farkas ms, rest, refl, s, w, o))

pub bound_step : (I : Instance) (Is : List Instance) (ms : List Multiplier) (rest : List Node) (z : Ratio) → ShowsAll (I ∷ Is) (BoundBy ms ∷ rest) (Some z) ↔ (IsBound I ms z × LeafFits I (minimising I I.goal.constant) ms × ShowsAll Is rest (Some z))
bound_step I Is ms rest z = (λ s. bound_read TreeFits I Is (Some z) rest ms s, λ (s, w, o). (Bound ms, rest, refl, s, w, o))

pub grid_step : (I : Instance) (Is : List Instance) (g : Ratio) (ms : List Multiplier) (rest : List Node) (z : Ratio) → ShowsAll (I ∷ Is) (GridBy g ms ∷ rest) (Some z) ↔ (IsGrid I g ms z × (LeafFits I none ms × StepsFit I g ms) × ShowsAll Is rest (Some z))
grid_step I Is g ms rest z = (λ s. grid_read TreeFits I Is (Some z) rest g ms s, λ (s, w, o). (Grid g ms, rest, refl, s, w, o))

pub farkas_rows_step : (I : Instance) (Is : List Instance) (ms : List Multiplier) (rest : List Node) (z : Option Ratio) → ShowsAll (I ∷ Is) (FarkasByRows ms ∷ rest) z ↔ ((AreOfRows I ms × IsFarkas I (completed I no_costs ms)) × RowsFit I none no_costs ms × ShowsAll Is rest z)
farkas_rows_step I Is ms rest z = (λ s. farkas_rows_read TreeFits I Is z rest ms s, λ (s, w, o). (FarkasRows ms, rest, refl, s, w, o))

pub bound_rows_step : (I : Instance) (Is : List Instance) (ms : List Multiplier) (rest : List Node) (z : Ratio) → ShowsAll (I ∷ Is) (BoundByRows ms ∷ rest) (Some z) ↔ ((AreOfRows I ms × IsBound I (completed I (goal_costs I) ms) z) × RowsFit I (minimising I I.goal.constant) (goal_costs I) ms × ShowsAll Is rest (Some z))
bound_rows_step I Is ms rest z = (λ s. bound_rows_read TreeFits I Is (Some z) rest ms s, λ (s, w, o). (BoundRows ms, rest, refl, s, w, o))

pub grid_rows_step : (I : Instance) (Is : List Instance) (g : Ratio) (ms : List Multiplier) (rest : List Node) (z : Ratio) → ShowsAll (I ∷ Is) (GridByRows g ms ∷ rest) (Some z) ↔ ((AreOfRows I ms × IsGrid I g (completed I (goal_costs I) ms) z) × (RowsFit I none (goal_costs I) ms × StepsFit I g (completed I (goal_costs I) ms)) × ShowsAll Is rest (Some z))
grid_rows_step I Is g ms rest z = (λ s. grid_rows_read TreeFits I Is (Some z) rest g ms s, λ (s, w, o). (GridRows g ms, rest, refl, s, w, o))

pub no_grid : (I : Instance) (Is : List Instance) (g : Ratio) (ms : List Multiplier) (rest : List Node) → ShowsAll (I ∷ Is) (GridBy g ms ∷ rest) None → ⊥
no_grid I Is g ms rest s = (grid_read TreeFits I Is None rest g ms s).0

pub no_bound_rows : (I : Instance) (Is : List Instance) (ms : List Multiplier) (rest : List Node) → ShowsAll (I ∷ Is) (BoundByRows ms ∷ rest) None → ⊥
no_bound_rows I Is ms rest s = (bound_rows_read TreeFits I Is None rest ms s).0

pub no_grid_rows : (I : Instance) (Is : List Instance) (g : Ratio) (ms : List Multiplier) (rest : List Node) → ShowsAll (I ∷ Is) (GridByRows g ms ∷ rest) None → ⊥
no_grid_rows I Is g ms rest s = (grid_rows_read TreeFits I Is None rest g ms s).0

pub no_bound : (I : Instance) (Is : List Instance) (ms : List Multiplier) (rest : List Node) → ShowsAll (I ∷ Is) (BoundBy ms ∷ rest) None → ⊥
no_bound I Is ms rest s = (bound_read TreeFits I Is None rest ms s).0

pub any_split_step : (I : Instance) (Is : List Instance) (j : ℕ) (k : ℤ) (rest : List Node) (z : Option Ratio) → ShowsAll (I ∷ Is) (SplitAt j k ∷ rest) z ↔ (IsSplit I j k × ShowsAll (low_case I j k ∷ high_case I j (k +ℤ pos 1) ∷ Is) rest z)
any_split_step I Is j k rest z = (λ s. split_read TreeFits I Is z rest j k (λ a b w. w) s, λ (br, s). split_back TreeFits I Is z rest j k (λ a b v w. (v, w)) br s)

-- over a whole variable
pub split_step : (I : Instance) (Is : List Instance) (j : ℕ) (k : ℤ) (rest : List Node) (z : Option Ratio) → j < width I → ShowsAll (I ∷ Is) (SplitAt j k ∷ rest) z ↔ (IsBranch I j k × ShowsAll (at_most I j k ∷ at_least I j (k +ℤ pos 1) ∷ Is) rest z)
split_step I Is j k rest z h =
    let s = any_split_step I Is j k rest z in
    let e = low_variable I j k h in
    let f = high_variable I j (k +ℤ pos 1) h in (
      λ r. let t = s.0 r in (variable_split I j k h t.0, subst (λ K. ShowsAll (at_most I j k ∷ K ∷ Is) rest z) f (subst (λ J. ShowsAll (J ∷ high_case I j (k +ℤ pos 1) ∷ Is) rest z) e t.1)),
      λ (br, r). s.1 (inl br, subst (λ J. ShowsAll (J ∷ high_case I j (k +ℤ pos 1) ∷ Is) rest z) (sym e) (subst (λ K. ShowsAll (at_most I j k ∷ K ∷ Is) rest z) (sym f) r)),
    )

-- over a row
pub row_split_step : (I : Instance) (Is : List Instance) (i : ℕ) (k : ℤ) (rest : List Node) (z : Option Ratio) → ShowsAll (I ∷ Is) (SplitAt (width I + i) k ∷ rest) z ↔ (IsRowBranch I (width I + i) k × ShowsAll (row_at_most I i k ∷ row_at_least I i (k +ℤ pos 1) ∷ Is) rest z)
row_split_step I Is i k rest z =
    let s = any_split_step I Is (width I + i) k rest z in
    let e = low_row I i k in
    let f = high_row I i (k +ℤ pos 1) in (
      λ r. let t = s.0 r in (row_split I i k t.0, subst (λ K. ShowsAll (row_at_most I i k ∷ K ∷ Is) rest z) f (subst (λ J. ShowsAll (J ∷ high_case I (width I + i) (k +ℤ pos 1) ∷ Is) rest z) e t.1)),
      λ (br, r). s.1 (inr br, subst (λ J. ShowsAll (J ∷ high_case I (width I + i) (k +ℤ pos 1) ∷ Is) rest z) (sym e) (subst (λ K. ShowsAll (row_at_most I i k ∷ K ∷ Is) rest z) (sym f) r)),
    )

pub zero_step : (I : Instance) (Is : List Instance) (j : ℕ) (rest : List Node) (z : Option Ratio) → ShowsAll (I ∷ Is) (ZeroAt j ∷ rest) z ↔ (IsZeroBranch I j × ShowsAll (at_zero I j ∷ unless_zero I j ∷ Is) rest z)
zero_step I Is j rest z = (λ s. zero_read TreeFits I Is z rest j (λ a b w. w) s, λ (br, s). zero_back TreeFits I Is z rest j (λ a b v w. (v, w)) br s)
