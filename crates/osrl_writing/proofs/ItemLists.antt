-- Lists that are told item by item.
use Rattle.osrl_writing.proofs.Names.{◌≡◌, ℕ, ◌-◌, ◌<◌, ◌≤◌, Bool, cond, get_or, ◌≢◌, List, [], ◌∷◌, length, refl, ap, sym, lt-ltb, le-ltb, arith, decimal, codes, Nodes, none, element, chars, Event, nodes_events, ◌++◌, leaf, Frac, Mult, Cert, Node, Split, Zero, Clash, Farkas, Bound, Grid, FarkasRows, BoundRows, GridRows, indexed, Labels, name_at, row_values, values_part, values_part_unless_none, tree_values, dual_values, item_nodes, certificate_part, level_text, level_texts, node_text, round_text, rounds_part, ◌+◌, ◌∙◌, map, drop, ap₂}
use Rattle.std.proofs.lemmas.List.{at_drop_more}
use Rattle.certificate.specs.declared.nodes.Round.{Round}
use Rattle.osrl_writing.specs.declared.parts.Part.TheVariants.{Rounds}
use Rattle.osrl_writing.specs.Writing.{rows_part}

-- the value of a row's multiplier, and those behind it
abbrev pub row_value : Labels → ℕ → Mult → Nodes → Nodes
row_value ls n m more = indexed (codes "con") (decimal (m.col - n)) (name_at ls (m.col - n)) m.value more

-- a multiplier of a variable is passed over
pub passed : (ls : Labels) (n : ℕ) (m : Mult) (ms : List Mult) → m.col < n → row_values ls n (m ∷ ms) ≡ row_values ls n ms
passed ls n m ms h = ap (λ (b : Bool). cond b (row_values ls n ms) (row_value ls n m (row_values ls n ms))) (lt-ltb m.col n h)

-- one of a row isn't
pub shown : (ls : Labels) (n : ℕ) (m : Mult) (ms : List Mult) → n ≤ m.col → row_values ls n (m ∷ ms) ≡ row_value ls n m (row_values ls n ms)
shown ls n m ms h = ap (λ (b : Bool). cond b (row_values ls n ms) (row_value ls n m (row_values ls n ms))) (le-ltb m.col n h)

unless_none : (name list : List ℕ) (values more : Nodes) → (values ≡ none → ⊥) → values_part name list values more ≡ values_part_unless_none name list values more
unless_none name list none more some = absurd (some refl)
unless_none name list (element n attributes children behind) more some = refl
unless_none name list (chars text behind) more some = refl

-- the part stands where there is a row's multiplier
pub rows_shown : (ls : Labels) (n : ℕ) (ms : List Mult) → (row_values ls n ms ≡ none → ⊥) → (k : List Event) → nodes_events (values_part (codes "constraints") (codes "dualValues") (row_values ls n ms) none) k ≡ nodes_events (rows_part ls n ms none) k
rows_shown ls n ms some k = ap (λ (nodes : Nodes). nodes_events nodes k) (unless_none (codes "constraints") (codes "dualValues") (row_values ls n ms) none some)

-- a tree of several nodes, or none, has no dual values, nor has one with rounds
pub several : (ls : Labels) (n : ℕ) (rounds : List Round) (tree : List Node) → length tree ≢ 1 → (k : List Event) → k ≡ nodes_events (tree_values ls n rounds tree none) k
several ls n (r ∷ rs) tree h k = refl
several ls n [] [] h k = refl
several ls n [] (Split j b ∷ more) h k = refl
several ls n [] (Zero j ∷ more) h k = refl
several ls n [] (Clash c ∷ more) h k = refl
several ls n [] (Farkas ms ∷ more) h k = refl
several ls n [] (Grid g ms ∷ more) h k = refl
several ls n [] (FarkasRows ms ∷ more) h k = refl
several ls n [] (GridRows g ms ∷ more) h k = refl
several ls n [] (Bound ms ∷ []) h k = absurd (h refl)
several ls n [] (Bound ms ∷ m ∷ more) h k = refl
several ls n [] (BoundRows ms ∷ []) h k = absurd (h refl)
several ls n [] (BoundRows ms ∷ m ∷ more) h k = refl

-- several values, or trees, have none
pub many : (ls : Labels) (n : ℕ) (values : List Frac) (trees : List Cert) → (length values ≡ 1 → length trees ≡ 1 → ⊥) → (k : List Event) → k ≡ nodes_events (dual_values ls n values trees none) k
many ls n [] cs h k = refl
many ls n (v ∷ w ∷ vs) cs h k = refl
many ls n (v ∷ []) [] h k = refl
many ls n (v ∷ []) (c ∷ []) h k = absurd (h refl refl)
many ls n (v ∷ []) (c ∷ d ∷ cs) h k = refl

-- items of two lists are those of the one and those of the other
pub items_both : (xs ys : List (List ℕ)) (k : List Event) → nodes_events (item_nodes xs) (nodes_events (item_nodes ys) k) ≡ nodes_events (item_nodes (xs ++ ys)) k
items_both [] ys k = refl
items_both (x ∷ xs) ys k = ap (λ (es : List Event). nodes_events (leaf (codes "item") x none) es) (items_both xs ys k)

rows_then_by : (name list : List ℕ) (values more : Nodes) (k : List Event) → nodes_events (values_part_unless_none name list values none) (nodes_events more k) ≡ nodes_events (values_part_unless_none name list values more) k
rows_then_by name list none more k = refl
rows_then_by name list (element n attributes children behind) more k = refl
rows_then_by name list (chars text behind) more k = refl

-- the dual values, and then more
tree_then : (ls : Labels) (n : ℕ) (rounds : List Round) (tree : List Node) (more : Nodes) (k : List Event) → nodes_events (tree_values ls n rounds tree none) (nodes_events more k) ≡ nodes_events (tree_values ls n rounds tree more) k
tree_then ls n (r ∷ rs) tree more k = refl
tree_then ls n [] [] more k = refl
tree_then ls n [] (Split j b ∷ ns) more k = refl
tree_then ls n [] (Zero j ∷ ns) more k = refl
tree_then ls n [] (Clash c ∷ ns) more k = refl
tree_then ls n [] (Farkas ms ∷ ns) more k = refl
tree_then ls n [] (Grid g ms ∷ ns) more k = refl
tree_then ls n [] (FarkasRows ms ∷ ns) more k = refl
tree_then ls n [] (GridRows g ms ∷ ns) more k = refl
tree_then ls n [] (BoundRows ms ∷ []) more k = rows_then_by (codes "constraints") (codes "dualValues") (row_values ls n ms) more k
tree_then ls n [] (BoundRows ms ∷ m ∷ ns) more k = refl
tree_then ls n [] (Bound ms ∷ []) more k = rows_then_by (codes "constraints") (codes "dualValues") (row_values ls n ms) more k
tree_then ls n [] (Bound ms ∷ m ∷ ns) more k = refl

pub duals_then : (ls : Labels) (n : ℕ) (values : List Frac) (trees : List Cert) (more : Nodes) (k : List Event) → nodes_events (dual_values ls n values trees none) (nodes_events more k) ≡ nodes_events (dual_values ls n values trees more) k
duals_then ls n [] cs more k = refl
duals_then ls n (v ∷ w ∷ vs) cs more k = refl
duals_then ls n (v ∷ []) [] more k = refl
duals_then ls n (v ∷ []) (c ∷ []) more k = tree_then ls n c.rounds c.nodes more k
duals_then ls n (v ∷ []) (c ∷ d ∷ cs) more k = refl

-- rounds, where there are any, and then more
pub rounds_then : (rs : List Round) (more : Nodes) (k : List Event) → nodes_events (rounds_part rs none) (nodes_events more k) ≡ nodes_events (rounds_part rs more) k
rounds_then [] more k = refl
rounds_then (r ∷ rs) more k = refl

-- they stand where there is one
pub rounds_shown : (rs : List Round) → (rs ≡ [] → ⊥) → (k : List Event) → nodes_events (certificate_part Rounds (map round_text rs) none) k ≡ nodes_events (rounds_part rs none) k
rounds_shown [] some k = absurd (some refl)
rounds_shown (r ∷ rs) some k = refl

-- the levels from one on: what begins it and its nodes, and those behind it
pub levels_more : (i : ℕ) (cs : List Cert) (c : Cert) → i < length cs → c ≡ get_or cs i c → (k : List Event) → nodes_events (item_nodes (level_texts (i + 2) (drop i cs))) k ≡ nodes_events (item_nodes (level_text (i + 2) ∷ map node_text c.nodes)) (nodes_events (item_nodes (level_texts (i + 1 + 2) (drop (i + 1) cs))) k)
levels_more i cs c within is k =
    let same : i + 2 + 1 ≡ i + 1 + 2 = omega arith in
    let texts = level_text (i + 2) ∷ map node_text c.nodes in
    at_drop_more (λ (l : List Cert). nodes_events (item_nodes (level_texts (i + 2) l)) k) cs i c within
    ∙ ap₂ (λ (d : Cert) (n : ℕ). nodes_events (item_nodes (level_text (i + 2) ∷ (map node_text d.nodes ++ level_texts n (drop (i + 1) cs)))) k) (sym is) same
    ∙ sym (items_both texts (level_texts (i + 1 + 2) (drop (i + 1) cs)) k)
