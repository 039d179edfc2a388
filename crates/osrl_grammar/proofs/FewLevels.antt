-- A written report has fewer levels than its text has bytes.
use Rattle.osrl_grammar.proofs.Names.{ℕ, ◌+◌, ◌^◌, ◌≤◌, Option, None, Some, List, [], ◌∷◌, ◌++◌, map, length, arith, Nodes, none, element, chars, elements_in, codes, group, Frac, Cert, Node, Split, Zero, Clash, Farkas, Bound, Grid, FarkasRows, BoundRows, GridRows, Claim, Optimal, Infeasible, Unbounded, BestSoFar, Unsure, Report, item_nodes, level_texts, node_text, point_parts, rounds_part, tree_parts, trees_parts, tree_values, dual_values, values_part_unless_none, row_values, certificate_part, claim_nodes, no_names, optimization, ComesBack, Round}
use Rattle.std.proofs.lemmas.List.{length-append}
use Rattle.certificate.specs.Nodes.{certs_of}
use Rattle.document_tags.proofs.Sizes.{fewer_elements}
use Rattle.osrl_writing.specs.declared.parts.Part.TheVariants.{Tree}
use Rattle.osrl_grammar.proofs.SoundStates.{certs_in}
use Rattle.osrl_grammar.proofs.BackText.{root_of, text_document}

-- an item for each level
items_in : (texts : List (List ℕ)) → length texts ≤ elements_in (item_nodes texts)
items_in [] = omega arith
items_in (t ∷ ts) = let rest = items_in ts in omega (arith, rest)

levels_in : (k : ℕ) (cs : List Cert) → length cs ≤ length (level_texts k cs)
levels_in k [] = omega arith
levels_in k (c ∷ cs) = let rest = levels_in (k + 1) cs in let both = length-append (map node_text c.nodes) (level_texts (k + 1) cs) in omega (arith, rest, both)

-- what stands behind is not less with rounds, and with dual values, before it
behind_rounds : (rs : List Round) (more : Nodes) → elements_in more ≤ elements_in (rounds_part rs more)
behind_rounds [] more = omega arith
behind_rounds (r ∷ rs) more = omega arith

behind_rows : (values more : Nodes) → elements_in more ≤ elements_in (values_part_unless_none (codes "constraints") (codes "dualValues") values more)
behind_rows none more = omega arith
behind_rows (element n as' cs behind) more = omega arith
behind_rows (chars t behind) more = omega arith

behind_tree : (n : ℕ) (rs : List Round) (ns : List Node) (more : Nodes) → elements_in more ≤ elements_in (tree_values [] n rs ns more)
behind_tree n (r ∷ rs) ns more = omega arith
behind_tree n [] [] more = omega arith
behind_tree n [] (Split j k ∷ ns) more = omega arith
behind_tree n [] (Zero j ∷ ns) more = omega arith
behind_tree n [] (Clash c ∷ ns) more = omega arith
behind_tree n [] (Farkas ms ∷ ns) more = omega arith
behind_tree n [] (Grid g ms ∷ ns) more = omega arith
behind_tree n [] (FarkasRows ms ∷ ns) more = omega arith
behind_tree n [] (GridRows g ms ∷ ns) more = omega arith
behind_tree n [] (Bound ms ∷ []) more = behind_rows (row_values [] n ms) more
behind_tree n [] (Bound ms ∷ m ∷ ns) more = omega arith
behind_tree n [] (BoundRows ms ∷ []) more = behind_rows (row_values [] n ms) more
behind_tree n [] (BoundRows ms ∷ m ∷ ns) more = omega arith

behind_duals : (n : ℕ) (vs : List Frac) (cs : List Cert) (more : Nodes) → elements_in more ≤ elements_in (dual_values [] n vs cs more)
behind_duals n [] cs more = omega arith
behind_duals n (v ∷ w ∷ vs) cs more = omega arith
behind_duals n (v ∷ []) [] more = omega arith
behind_duals n (v ∷ []) (c ∷ []) more = behind_tree n c.rounds c.nodes more
behind_duals n (v ∷ []) (c ∷ d ∷ cs) more = omega arith

-- a certificate for each level but the first
tree_long : (c : Cert) (cs : List Cert) → length cs ≤ elements_in (tree_parts c cs)
tree_long c cs =
    let texts = map node_text c.nodes ++ level_texts 2 cs in
    let both = length-append (map node_text c.nodes) (level_texts 2 cs) in
    let items = items_in texts in
    let levels = levels_in 2 cs in
    let behind = behind_rounds c.rounds (certificate_part Tree texts none) in
    omega (arith, both, items, levels, behind)

trees_long : (cs : List Cert) → length cs ≤ 1 + elements_in (trees_parts cs)
trees_long [] = omega arith
trees_long (c ∷ cs) = let long = tree_long c cs in omega (arith, long)

claim_long : (c : Claim) → length (certs_of c) ≤ 1 + elements_in (claim_nodes no_names c)
claim_long (Optimal x vs cs) =
    let long = trees_long cs in
    let behind = behind_duals (length x) vs cs (group (codes "otherSolutionResults") (point_parts x vs (trees_parts cs)) none) in
    omega (arith, long, behind)
claim_long (Infeasible c) = omega arith
claim_long (Unbounded x vs cs r) = let long = trees_long cs in omega (arith, long)
claim_long (BestSoFar x vs c None) = omega arith
claim_long (BestSoFar x vs c (Some b)) = omega arith
claim_long (Unsure c None) = omega arith
claim_long (Unsure c (Some b)) = omega arith

claims_long : (o : Option Claim) → length (certs_in o) ≤ 1 + elements_in (optimization no_names o)
claims_long None = omega arith
claims_long (Some c) = let long = claim_long c in omega (arith, long)

pub levels_few : (r : Report) → ComesBack r → 2 + length (certs_in r.claim) ≤ 2 ^ 32
levels_few r back =
    let long = claims_long r.claim in
    let fewer = fewer_elements _ (root_of no_names r) (text_document r back).document in
    let short = back.short in
    omega (arith, long, fewer, short)
