-- What the nodes of a level show, with trees for the cases still open.
use Rattle.std.proofs.Common.{◌≡◌, inl, ℕ, ◌+◌, ◌<◌, ℤ, pos, neg_ℤ, ◌+ℤ◌, ◌*ℤ◌, false, Option, None, Some, List, [], ◌∷◌, ◌++◌, map, append_assoc, append-nil, arith, refl, sym, ◌∙◌, ap, subst}
use Rattle.std.proofs.lemmas.Int.{ints}
use Rattle.rational.specs.Ratio.{Ratio, whole, sum, product, IsSame, IsBelow, IsNumber, IsAtMost}
use Rattle.rational.proofs.Integers.{more-times, most-from_times, neg-times}
use Rattle.rational.proofs.Scaling.{times_swap}
use Rattle.evidence.specs.Instance.{Instance, Sense, Minimum, Maximum, width, height, column_at, minimising, minimising_by}
use Rattle.evidence.specs.Cases.{Multiplier, Tree, Clash, Farkas, Bound, Grid, Zero, Node, ClashAt, FarkasBy, BoundBy, GridBy, SplitAt, ZeroAt, preorder, IsEmpty, IsFarkas, IsBound, IsGrid, IsBranch, IsZeroBranch, Shows, low_sum, at_most, high_case}
use Rattle.evidence.specs.PendingNodes.{anything, ProvesAll as AllProve}
use Rattle.evidence.proofs.RowBranches.{low_variable, high_variable}
use Rattle.evidence.proofs.PendingNodes.{split_back}
use Rattle.search_rules.specs.Branching.{Case, split_cases, divided_cases}
use Rattle.search_rules.specs.Search.{Found, Level, undivided, reached}
use Rattle.search_rules.specs.Outcomes.{Proves}
use Rattle.search_rules.specs.Sides.{has_cases}

-- the programs of cases
abbrev pub programs : List Case → List Instance
programs cases = map (λ C. C.program) cases

-- a tree for each case, one after the other, and nothing after them
abbrev pub ProvesAll : List Case → List Node → Option Ratio → Type 0
ProvesAll cases nodes z = AllProve (programs cases) nodes z

-- order, where the middle one is a number
pub at_most-trans : (x y z : Ratio) → IsNumber y → IsAtMost x y → IsAtMost y z → IsAtMost x z
at_most-trans x y z n p q =
    let a = more-times (x.num *ℤ pos y.den) (y.num *ℤ pos x.den) z.den p in
    let b = more-times (y.num *ℤ pos z.den) (z.num *ℤ pos y.den) x.den q in
    let e = times_swap x.num y.den z.den in
    let f = times_swap y.num x.den z.den in
    let g = times_swap z.num y.den x.den in
    most-from_times _ _ y.den n (omega (arith, ints))

pub at_most-below : (x y : Ratio) → IsBelow x y → IsAtMost x y
at_most-below x y h = omega (arith, ints)

pub at_most-same : (x y : Ratio) → IsSame x y → IsAtMost x y
at_most-same x y h = omega (arith, ints)

pub minimising_by-same : (s : Sense) (x y : Ratio) → IsSame x y → IsSame (minimising_by s x) (minimising_by s y)
minimising_by-same Minimum x y h = h
minimising_by-same Maximum x y h = neg-times x.num (pos y.den) ∙ ap neg_ℤ h ∙ sym (neg-times y.num (pos x.den))

-- the value that is to be shown is at most the best one of the level's goal; without a best point nothing is asked
abbrev pub Within : Level → Option Ratio → Option Found → Type 0
Within l z None = Unit {0}
Within l None (Some f) = ⊥
Within l (Some w) (Some f) = IsAtMost w (minimising l.program (reached l f))

-- a node is a tree that shows it of the instance
abbrev pub IsLeaf : Instance → Node → Option Ratio → Type 0
IsLeaf I n z = (T : Tree) × (preorder T ≡ n ∷ []) × (has_cases n ≡ false) × Shows I T z

pub clash_leaf : (I : Instance) (c : ℕ) (z : Option Ratio) → (c < width I + height I) × IsEmpty (column_at I c) → IsLeaf I (ClashAt c) z
clash_leaf I c z h = (Clash c, refl, refl, h)

pub farkas_leaf : (I : Instance) (ms : List Multiplier) (z : Option Ratio) → IsFarkas I ms → IsLeaf I (FarkasBy ms) z
farkas_leaf I ms z h = (Farkas ms, refl, refl, h)

pub bound_leaf : (I : Instance) (ms : List Multiplier) (b w : Ratio) → IsNumber b → IsBound I ms b → IsAtMost w b → IsLeaf I (BoundBy ms) (Some w)
bound_leaf I ms b w n h le =
    (Bound ms, refl, refl, record { legal = h.legal; costs = h.costs; reaches = at_most-trans w b (low_sum I (minimising I I.goal.constant) ms) n le h.reaches })

pub grid_leaf : (I : Instance) (g : Ratio) (ms : List Multiplier) (v w : Ratio) → IsNumber v → IsGrid I g ms v → IsAtMost w v → IsLeaf I (GridBy g ms) (Some w)
grid_leaf I g ms v w n h le =
    (Grid g ms, refl, refl, record { legal = h.legal; costs = h.costs; step = h.step; steps = h.steps; rounded = h.rounded; reaches = at_most-trans w v (sum (minimising I I.goal.constant) (product (whole h.steps) g)) n le h.reaches })

pub leaf_first : (C : Case) (rest : List Case) (n : Node) (after : List Node) (z : Option Ratio) → IsLeaf C.program n z → ProvesAll rest after z → ProvesAll (C ∷ rest) (n ∷ after) z
leaf_first C rest n after z (T, e, leaf, s) o = (T, after, ap (λ (ns : List Node). ns ++ after) (sym e), s, tt, o)

pub split_first : (C : Case) (rest : List Case) (j : ℕ) (k : ℤ) (after : List Node) (z : Option Ratio) → IsBranch C.program j k → ProvesAll (split_cases C j k rest) after z → ProvesAll (C ∷ rest) (SplitAt j k ∷ after) z
split_first C rest j k after z br s =
    let I = C.program in
    split_back anything I (programs rest) z after j k (λ a b v w. tt) (inl br)
    (subst (λ J. AllProve (J ∷ high_case I j (k +ℤ pos 1) ∷ programs rest) after z) (sym (low_variable I j k br.variable))
    (subst (λ J. AllProve (at_most I j k ∷ J ∷ programs rest) after z) (sym (high_variable I j (k +ℤ pos 1) br.variable)) s))

pub zero_first : (C : Case) (rest : List Case) (j : ℕ) (after : List Node) (z : Option Ratio) → IsZeroBranch C.program j → ProvesAll (divided_cases C j rest) after z → ProvesAll (C ∷ rest) (ZeroAt j ∷ after) z
zero_first C rest j after z br (a, ra, ea, sa, wa, (b, rb, eb, sb, wb, o)) =
    (Zero j a b, rb, ap (λ r. ZeroAt j ∷ r) (ea ∙ ap (λ r. preorder a ++ r) eb ∙ sym (append_assoc (preorder a) (preorder b) rb)), (br, sa, sb), tt, o)

-- the nodes so far, with trees for the open cases, prove of D what the best point asks
abbrev pub Leads : Level → Instance → List Case → List Node → Option Found → Type 0
Leads l D waiting nodes best = (z : Option Ratio) → Within l z best → (after : List Node) → ProvesAll waiting after z → ProvesAll (undivided D ∷ []) (nodes ++ after) z

pub leads_first : (l : Level) (D : Instance) (best : Option Found) → Leads l D (undivided D ∷ []) [] best
leads_first l D best z w after p = p

-- one node more
pub leads_on : (l : Level) (D : Instance) (waiting after : List Case) (nodes : List Node) (node : Node) (best better : Option Found)
    → ((z : Option Ratio) → Within l z better → Within l z best)
    → ((z : Option Ratio) → Within l z better → (more : List Node) → ProvesAll after more z → ProvesAll waiting (node ∷ more) z)
    → Leads l D waiting nodes best → Leads l D after (nodes ++ node ∷ []) better
leads_on l D waiting after nodes node best better back step leads z w more p =
    subst (λ ns. ProvesAll (undivided D ∷ []) ns z) (sym (append_assoc nodes (node ∷ []) more)) (leads z (back z w) (node ∷ more) (step z w more p))

-- a list with one node more has a node
pub no_nodes : (nodes : List Node) (n : Node) → nodes ++ n ∷ [] ≡ [] → ⊥
no_nodes [] n e = cc
no_nodes (x ∷ xs) n e = cc

-- at the end
pub leads_out : (l : Level) (D : Instance) (nodes : List Node) (best : Option Found) → Leads l D [] nodes best → (z : Option Ratio) → Within l z best → Proves D nodes z
leads_out l D nodes best leads z w =
    let p = leads z w [] refl in
    record { tree = p.0; listed = sym (append-nil nodes) ∙ p.2 ∙ ap (λ r. preorder p.0 ++ r) p.5 ∙ append-nil (preorder p.0); shows = p.3 }
