-- The columns of a tree that shows something of an instance are the instance's, and its splits are at numbers that fit.
use Rattle.std.proofs.Common.{◌≡◌, inl, inr, ℕ, ◌+◌, ◌-◌, ◌^◌, ◌<◌, ◌≤◌, pos, ◌+ℤ◌, Option, None, Some, List, [], ◌∷◌, ◌++◌, length, sym, subst, arith}
use Rattle.std.specs.Prelude.{neg_ℤ, ◌≤ℤ◌, ◌<ℤ◌}
use Rattle.std.specs.List.{All}
use Rattle.std.proofs.lemmas.List.{length-set}
use Rattle.std.proofs.lemmas.List.Elements.{All-nil, All-cons, All-head, All-tail, All-append}
use Rattle.rational.specs.Ratio.{Ratio, whole}
use Rattle.rational.specs.Width.{most}
use Rattle.evidence.specs.Sums.{none}
use Rattle.evidence.specs.Instance.{Range, Instance, width, height, variable_at, row_at}
use Rattle.evidence.specs.Cases as Of
use Rattle.evidence.specs.Cases.{Multiplier, Tree, preorder, Shows, AreLegal, lesser_end, greater_end, both, or_free, with_range, with_row_range, at_most, at_least, row_at_most, row_at_least, at_zero, unless_zero}
use Rattle.certificate.specs.declared.nodes.Node.{Node}
use Rattle.certificate.specs.declared.nodes.Node.TheVariants.{Split, Zero, Clash, Farkas, Bound, Grid, FarkasRows, BoundRows, GridRows}
use Rattle.evidence.proofs.RowBranches.{low_variable, high_variable, low_past, high_past}
use Rattle.evidence.proofs.Branches.{width_with}
use Rattle.certificate.specs.Meanings.{node, nodes}
use Rattle.certificate.specs.Nodes.{IsInRange}
use Rattle.cert_checker.specs.RowLeaves.{all_of}
use Rattle.cert_checker.proofs.RowLeaves.{parts_of}

-- the columns are below n, and a split's number fits
abbrev pub HasColumn : ℕ → Multiplier → Type 0
HasColumn n m = m.column < n

abbrev pub IsWithin : ℕ → Of.Node → Type 0
IsWithin n (Of.ClashAt c) = c < n
IsWithin n (Of.FarkasBy ms) = All (HasColumn n) ms
IsWithin n (Of.BoundBy ms) = All (HasColumn n) ms
IsWithin n (Of.GridBy g ms) = All (HasColumn n) ms
IsWithin n (Of.FarkasByRows ms) = All (HasColumn n) ms
IsWithin n (Of.BoundByRows ms) = All (HasColumn n) ms
IsWithin n (Of.GridByRows g ms) = All (HasColumn n) ms
IsWithin n (Of.SplitAt j k) = (j < n) × (neg_ℤ (pos most) ≤ℤ k) × (k <ℤ pos most)
IsWithin n (Of.ZeroAt j) = j < n

all_of_one : (n : ℕ) (x : Of.Node) → IsWithin n x → All (IsWithin n) (x ∷ [])
all_of_one n x h = All-cons (IsWithin n) x [] h (All-nil (IsWithin n))

few_with : (n : ℕ) (I : Instance) (j : ℕ) (r : Range) → width I + height I ≤ n → width (with_range I j r) + height I ≤ n
few_with n I j r few = let same = width_with I j r in omega (arith, same)

few_with_row : (n : ℕ) (I : Instance) (i : ℕ) (r : Range) → width I + height I ≤ n → width I + height (with_row_range I i r) ≤ n
few_with_row n I i r few = let same = length-set I.rows i r in omega (arith, same)

-- so are the columns of rows that are completed to legal multipliers
rows_within : (n : ℕ) (I : Instance) (ms : List Multiplier) (z : Option Ratio) → width I + height I ≤ n → AreLegal I (all_of I ms z) → All (HasColumn n) ms
rows_within n I ms z few legal = λ k d h. let l = (parts_of I ms z legal).0 in let below = l.columns k d h in omega (arith, below)

tree_within : (n : ℕ) (I : Instance) (t : Tree) (z : Option Ratio) → width I + height I ≤ n → Shows I t z → All (IsWithin n) (preorder t)
tree_within n I (Of.Clash c) z few s = all_of_one n (Of.ClashAt c) (omega (arith, s.0))
tree_within n I (Of.Farkas ms) z few s = all_of_one n (Of.FarkasBy ms) (λ k d h. let below = s.legal.columns k d h in omega (arith, below))
tree_within n I (Of.Bound ms) None few s = absurd s
tree_within n I (Of.Bound ms) (Some z) few s = all_of_one n (Of.BoundBy ms) (λ k d h. let below = s.legal.columns k d h in omega (arith, below))
tree_within n I (Of.Grid g ms) None few s = absurd s
tree_within n I (Of.Grid g ms) (Some z) few s = all_of_one n (Of.GridBy g ms) (λ k d h. let below = s.legal.columns k d h in omega (arith, below))
tree_within n I (Of.FarkasRows ms) z few s = all_of_one n (Of.FarkasByRows ms) (rows_within n I ms None few s.1.legal)
tree_within n I (Of.BoundRows ms) None few s = absurd s
tree_within n I (Of.BoundRows ms) (Some z) few s = all_of_one n (Of.BoundByRows ms) (rows_within n I ms (Some z) few s.1.legal)
tree_within n I (Of.GridRows g ms) None few s = absurd s
tree_within n I (Of.GridRows g ms) (Some z) few s = all_of_one n (Of.GridByRows g ms) (rows_within n I ms (Some z) few s.1.legal)
tree_within n I (Of.Split j k a b) z few (inl branch, first, second) =
    let inside = branch.variable in
    All-cons (IsWithin n) (Of.SplitAt j k) (preorder a ++ preorder b) (omega (arith, inside), branch.low, branch.high)
    (All-append (IsWithin n) (preorder a) (preorder b)
    (tree_within n (at_most I j k) a z (few_with n I j (record (variable_at I j).range { ub = lesser_end (variable_at I j).range.ub (whole k) }) few) (subst (λ J. Shows J a z) (low_variable I j k inside) first))
    (tree_within n (at_least I j (k +ℤ pos 1)) b z (few_with n I j (record (variable_at I j).range { lb = greater_end (variable_at I j).range.lb (whole (k +ℤ pos 1)) }) few) (subst (λ J. Shows J b z) (high_variable I j (k +ℤ pos 1) inside) second)))
tree_within n I (Of.Split c k a b) z few (inr branch, first, second) =
    let inside = branch.inside in
    let i : ℕ = c - width I in
    All-cons (IsWithin n) (Of.SplitAt c k) (preorder a ++ preorder b) (omega (arith, inside), branch.low, branch.high)
    (All-append (IsWithin n) (preorder a) (preorder b)
    (tree_within n (row_at_most I i k) a z (few_with_row n I i (record (row_at I i) { ub = lesser_end (row_at I i).ub (whole k) }) few) (subst (λ J. Shows J a z) (low_past I c k branch.past) first))
    (tree_within n (row_at_least I i (k +ℤ pos 1)) b z (few_with_row n I i (record (row_at I i) { lb = greater_end (row_at I i).lb (whole (k +ℤ pos 1)) }) few) (subst (λ J. Shows J b z) (high_past I c (k +ℤ pos 1) branch.past) second)))
tree_within n I (Of.Zero j a b) z few (branch, first, second) =
    let inside = branch.variable in
    All-cons (IsWithin n) (Of.ZeroAt j) (preorder a ++ preorder b) (omega (arith, inside))
    (All-append (IsWithin n) (preorder a) (preorder b)
    (tree_within n (at_zero I j) a z (few_with n I j (both (variable_at I j).range (record { lb = Some none; ub = Some none })) few) first)
    (tree_within n (unless_zero I j) b z (few_with n I j (both (variable_at I j).range (or_free (variable_at I j).unless_zero)) few) second))

node_range : (x : Node) → IsWithin (2 ^ 32) (node x) → IsInRange x
node_range (Split j k) (inside, low, high) = low
node_range (Zero j) h = tt
node_range (Clash c) h = tt
node_range (Farkas ms) h = tt
node_range (Bound ms) h = tt
node_range (Grid g ms) h = tt
node_range (FarkasRows ms) h = tt
node_range (BoundRows ms) h = tt
node_range (GridRows g ms) h = tt

pub each_of : (P : Node → Type 0) → ((x : Node) → IsWithin (2 ^ 32) (node x) → P x) → (ns : List Node) → All (IsWithin (2 ^ 32)) (nodes ns) → All P ns
each_of P f [] h = All-nil P
each_of P f (x ∷ ns) h = All-cons P x ns (f x (All-head (IsWithin (2 ^ 32)) (node x) (nodes ns) h)) (each_of P f ns (All-tail (IsWithin (2 ^ 32)) (node x) (nodes ns) h))

pub some_nodes : (t : Tree) → 0 < length (preorder t)
some_nodes (Of.Clash c) = omega arith
some_nodes (Of.Farkas ms) = omega arith
some_nodes (Of.Bound ms) = omega arith
some_nodes (Of.Grid g ms) = omega arith
some_nodes (Of.FarkasRows ms) = omega arith
some_nodes (Of.BoundRows ms) = omega arith
some_nodes (Of.GridRows g ms) = omega arith
some_nodes (Of.Split j k a b) = omega arith
some_nodes (Of.Zero j a b) = omega arith

pub nodes_within : (n : ℕ) (I : Instance) (t : Tree) (z : Option Ratio) (ns : List Of.Node) → width I + height I ≤ n → ns ≡ preorder t → Shows I t z → All (IsWithin n) ns
nodes_within n I t z ns few listed shows = subst (All (IsWithin n)) (sym listed) (tree_within n I t z few shows)

pub in_range : (ns : List Node) → All (IsWithin (2 ^ 32)) (nodes ns) → All IsInRange ns
in_range ns h = each_of IsInRange node_range ns h
