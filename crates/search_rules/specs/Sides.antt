-- In which order a certificate has the nodes of a search in which the second case of a split may come first.
use Rattle.std.specs.Prelude.{◌≡◌, ℕ, suc, ℤ, Bool, true, false, cond, nat_eq, List, [], ◌∷◌, ◌++◌}
use Rattle.evidence.specs.Cases.{Tree, Split, Zero, Node, ClashAt, FarkasBy, BoundBy, GridBy, FarkasByRows, BoundByRows, GridByRows, SplitAt, ZeroAt, preorder}

-- a node as a search meets it, and whether the case of at least k + 1 comes first behind it
pub record Met : Type 0 where
  pub node : Node
  pub up : Bool

-- it has two cases
abbrev pub has_cases : Node → Bool
has_cases (ClashAt c) = false
has_cases (FarkasBy ms) = false
has_cases (BoundBy ms) = false
has_cases (GridBy g ms) = false
has_cases (FarkasByRows ms) = false
has_cases (BoundByRows ms) = false
has_cases (GridByRows g ms) = false
has_cases (SplitAt j k) = true
has_cases (ZeroAt j) = true

-- a node before the nodes behind it, which are those of the case that is met first, those of the next one, and so on
abbrev pub joined : Met → List (List Node) → List (List Node)
joined m [] = (m.node ∷ []) ∷ []
joined m (a ∷ []) = (m.node ∷ a) ∷ []
joined m (a ∷ b ∷ rest) = (m.node ∷ cond m.up (b ++ a) (a ++ b)) ∷ rest

abbrev pub placed : Met → List (List Node) → List (List Node)
placed m parts = cond (has_cases m.node) (joined m parts) ((m.node ∷ []) ∷ parts)

-- the nodes in one walk from the last one on
abbrev pub parts_of : List Met → List (List Node)
parts_of [] = []
parts_of (m ∷ ms) = placed m (parts_of ms)

abbrev pub first_part : List (List Node) → List Node
first_part [] = []
first_part (a ∷ rest) = a

-- as the certificate has them: the case of at most k before the other one
abbrev pub in_order : List Met → List Node
in_order ms = first_part (parts_of ms)

abbrev pub is_among : ℕ → List ℕ → Bool
is_among i [] = false
is_among i (k ∷ ks) = cond (nat_eq i k) true (is_among i ks)

-- nodes from place i on, as they were met: the case of at least k + 1 came first behind those at these places
abbrev pub sided : List ℕ → ℕ → List Node → List Met
sided ts i [] = []
sided ts i (n ∷ ns) = record { node = n; up = is_among i ts } ∷ sided ts (suc i) ns

-- met nodes as a certificate has them; where that case came first behind none, they are so as they were met
abbrev pub told : List ℕ → List Node → List Node
told [] ns = ns
told (t ∷ ts) ns = in_order (sided (t ∷ ts) 0 ns)

-- a search meets the nodes of this tree so
pub data IsMet : Tree → List Met → Type 0 where
  closes : {T : Tree} {n : Node} → preorder T ≡ n ∷ [] → has_cases n ≡ false → IsMet T (record { node = n; up = false } ∷ [])
  low_first : {a b : Tree} {xs ys : List Met} → (j : ℕ) (k : ℤ) → IsMet a xs → IsMet b ys → IsMet (Split j k a b) (record { node = SplitAt j k; up = false } ∷ (xs ++ ys))
  high_first : {a b : Tree} {xs ys : List Met} → (j : ℕ) (k : ℤ) → IsMet a xs → IsMet b ys → IsMet (Split j k a b) (record { node = SplitAt j k; up = true } ∷ (ys ++ xs))
  divides : {a b : Tree} {xs ys : List Met} → (j : ℕ) → IsMet a xs → IsMet b ys → IsMet (Zero j a b) (record { node = ZeroAt j; up = false } ∷ (xs ++ ys))
