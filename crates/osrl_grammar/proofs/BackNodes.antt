-- The nodes of a written solution are nodes of XML.
use Rattle.osrl_grammar.proofs.Names.{◌≡◌, ℕ, suc, ◌+◌, ◌-◌, nat_lt, Bool, true, false, cond, List, [], ◌∷◌, ◌++◌, map, length, refl, subst, codes, decimal, lit≤, All, All-nil, All-cons, All-head, All-tail, All-append, IsXmlText, Each, Attribute, Nodes, none, element, chars, Printable, list_printable, ratio, Frac, Mult, Cert, Node, Split, Zero, Clash, Farkas, Bound, Grid, FarkasRows, BoundRows, GridRows, ProvedBound, Option, None, Some, Claim, Optimal, Infeasible, Unbounded, BestSoFar, Unsure, Part, Claiming, cut_text, part_name, claiming_text, text_nodes, leaf, group, typed, indexed, Labels, NameLists, AreXmlLabels, AreXmlNames, name_at, name_attribute, variable_values, row_values, values_part, values_part_unless_none, point_values, goal_values, tree_values, dual_values, node_text, round_text, level_texts, cause_text, item_nodes, certificate_part, fraction_texts, point_parts, ray_part, rounds_part, tree_parts, trees_parts, bound_parts, cause_part, solution, claim_nodes, printable_text, decimal_printable, none_flat, Round}
use Rattle.std.proofs.Common.{lit<}
use Rattle.tree_grammar.specs.Characters.{local_part}
use Rattle.certificate.specs.declared.causes.Cause.{Cause}
use Rattle.osrl_writing.specs.declared.parts.Part.TheVariants as parts
use Rattle.osrl_writing.specs.declared.parts.Claiming.TheVariants as claiming
use Rattle.std.specs.Prelude.{IfSome}
use Rattle.document_tags.specs.Writing.{only, with_attribute}
use Rattle.tree_writing.specs.WritableElements.{kept_attributes}
use Rattle.document_tags.proofs.XmlNodes.{is_tag, AreTexts, AreFlat, text_flat, element_flat}
use Rattle.osrl_grammar.proofs.BackTexts.{cut_printable, cause_printable, fractions_xml, nodes_xml, rounds_xml, levels_xml}

-- nodes of XML without prefixes, of which at most so many stand in one another
abbrev pub Flat : ℕ → Nodes → Type 0
Flat n nodes = AreFlat n nodes nodes

-- an element that belongs to the tree as it is written, with what stands in it, and then more
plain_flat : (n : ℕ) (name : List ℕ) (attributes : List Attribute) (children more : Nodes) → is_tag name attributes ≡ true → local_part name ≡ name → kept_attributes attributes ≡ attributes → AreTexts attributes → Flat n children → Flat (suc n) more → Flat (suc n) (element name attributes children more)
plain_flat n name attributes children more is plain kept texts inside rest =
    let flat = element_flat n name attributes children more children more is texts inside rest in
    subst (λ (a : List Attribute). AreFlat (suc n) (element name attributes children more) (element name a children more)) kept
    (subst (λ (l : List ℕ). AreFlat (suc n) (element name attributes children more) (element l (kept_attributes attributes) children more)) plain flat)

pub leaf_flat : (n : ℕ) (name text : List ℕ) (more : Nodes) → is_tag name [] ≡ true → local_part name ≡ name → IsXmlText text → Flat (suc n) more → Flat (suc n) (leaf name text more)
leaf_flat n name text more is plain xml rest = plain_flat n name [] (text_nodes text) more is plain refl tt (text_flat n text xml) rest

pub group_flat : (n : ℕ) (name : List ℕ) (children more : Nodes) → is_tag name [] ≡ true → local_part name ≡ name → Flat n children → Flat (suc n) more → Flat (suc n) (group name children more)
group_flat n name children more is plain inside rest = plain_flat n name [] children more is plain refl tt inside rest

pub typed_flat : (n : ℕ) (name type : List ℕ) (more : Nodes) → is_tag name (only (codes "type") type) ≡ true → local_part name ≡ name → Each Printable type → Flat (suc n) more → Flat (suc n) (typed name type more)
typed_flat n name type more is plain printable rest = plain_flat n name (only (codes "type") type) none more is plain refl (printable_text type printable, tt) (none_flat n) rest

var_tag : (index : List ℕ) (o : Option (List ℕ)) → is_tag (codes "var") (with_attribute (codes "idx") index (name_attribute o)) ≡ true
var_tag index None = refl
var_tag index (Some name) = refl

con_tag : (index : List ℕ) (o : Option (List ℕ)) → is_tag (codes "con") (with_attribute (codes "idx") index (name_attribute o)) ≡ true
con_tag index None = refl
con_tag index (Some name) = refl

indexed_flat : (name index : List ℕ) (o : Option (List ℕ)) (x : Frac) (more : Nodes) → is_tag name (with_attribute (codes "idx") index (name_attribute o)) ≡ true → local_part name ≡ name → Each Printable index → IfSome o IsXmlText → Flat 1 more → Flat 1 (indexed name index o x more)
indexed_flat name index None x more is plain printable xml rest =
    plain_flat 0 name (only (codes "idx") index) (text_nodes (cut_text (ratio x))) more is plain refl (printable_text index printable, tt) (text_flat 0 (cut_text (ratio x)) (printable_text (cut_text (ratio x)) (cut_printable (ratio x)))) rest
indexed_flat name index (Some own) x more is plain printable xml rest =
    plain_flat 0 name (with_attribute (codes "idx") index (only (codes "name") own)) (text_nodes (cut_text (ratio x))) more is plain refl (printable_text index printable, (xml, tt)) (text_flat 0 (cut_text (ratio x)) (printable_text (cut_text (ratio x)) (cut_printable (ratio x)))) rest

variables_flat : (ls : Labels) → AreXmlLabels ls → (j : ℕ) (xs : List Frac) → Flat 1 (variable_values ls j xs)
variables_flat ls xml j [] = none_flat 1
variables_flat ls xml j (x ∷ xs) = indexed_flat (codes "var") (decimal j) (name_at ls j) x (variable_values ls (j + 1) xs) (var_tag (decimal j) (name_at ls j)) refl (decimal_printable j) (xml j) (variables_flat ls xml (j + 1) xs)

one_of : (b : Bool) (n : ℕ) (xs ys : Nodes) → Flat n xs → Flat n ys → Flat n (cond b xs ys)
one_of true n xs ys h k = h
one_of false n xs ys h k = k

rows_flat : (ls : Labels) → AreXmlLabels ls → (n : ℕ) (ms : List Mult) → Flat 1 (row_values ls n ms)
rows_flat ls xml n [] = none_flat 1
rows_flat ls xml n (m ∷ ms) =
    let rest = rows_flat ls xml n ms in
    let i = m.col - n in
    one_of (nat_lt m.col n) 1 (row_values ls n ms) (indexed (codes "con") (decimal i) (name_at ls i) m.value (row_values ls n ms)) rest (indexed_flat (codes "con") (decimal i) (name_at ls i) m.value (row_values ls n ms) (con_tag (decimal i) (name_at ls i)) refl (decimal_printable i) (xml i) rest)

values_flat : (name list : List ℕ) (values more : Nodes) → is_tag name [] ≡ true → local_part name ≡ name → is_tag list [] ≡ true → local_part list ≡ list → Flat 1 values → Flat 3 more → Flat 3 (values_part name list values more)
values_flat name list values more is plain is_list plain_list inside rest = group_flat 2 name (group list values none) more is plain (group_flat 1 list values none is_list plain_list inside (none_flat 2)) rest

some_flat : (values more : Nodes) → Flat 1 values → Flat 3 more → Flat 3 (values_part_unless_none (codes "constraints") (codes "dualValues") values more)
some_flat none more inside rest = rest
some_flat (element n attributes children behind) more inside rest = values_flat (codes "constraints") (codes "dualValues") (element n attributes children behind) more refl refl refl refl inside rest
some_flat (chars text behind) more inside rest = values_flat (codes "constraints") (codes "dualValues") (chars text behind) more refl refl refl refl inside rest

tree_duals_flat : (ls : Labels) → AreXmlLabels ls → (n : ℕ) (rs : List Round) (ns : List Node) (more : Nodes) → Flat 3 more → Flat 3 (tree_values ls n rs ns more)
tree_duals_flat ls xml n (r ∷ rs) ns more rest = rest
tree_duals_flat ls xml n [] [] more rest = rest
tree_duals_flat ls xml n [] (Split j k ∷ ns) more rest = rest
tree_duals_flat ls xml n [] (Zero j ∷ ns) more rest = rest
tree_duals_flat ls xml n [] (Clash c ∷ ns) more rest = rest
tree_duals_flat ls xml n [] (Farkas ms ∷ ns) more rest = rest
tree_duals_flat ls xml n [] (Grid g ms ∷ ns) more rest = rest
tree_duals_flat ls xml n [] (FarkasRows ms ∷ ns) more rest = rest
tree_duals_flat ls xml n [] (GridRows g ms ∷ ns) more rest = rest
tree_duals_flat ls xml n [] (Bound ms ∷ []) more rest = some_flat (row_values ls n ms) more (rows_flat ls xml n ms) rest
tree_duals_flat ls xml n [] (Bound ms ∷ m ∷ ns) more rest = rest
tree_duals_flat ls xml n [] (BoundRows ms ∷ []) more rest = some_flat (row_values ls n ms) more (rows_flat ls xml n ms) rest
tree_duals_flat ls xml n [] (BoundRows ms ∷ m ∷ ns) more rest = rest

duals_flat : (ls : Labels) → AreXmlLabels ls → (n : ℕ) (vs : List Frac) (cs : List Cert) (more : Nodes) → Flat 3 more → Flat 3 (dual_values ls n vs cs more)
duals_flat ls xml n [] cs more rest = rest
duals_flat ls xml n (v ∷ w ∷ vs) cs more rest = rest
duals_flat ls xml n (v ∷ []) [] more rest = rest
duals_flat ls xml n (v ∷ []) (c ∷ []) more rest = tree_duals_flat ls xml n c.rounds c.nodes more rest
duals_flat ls xml n (v ∷ []) (c ∷ d ∷ cs) more rest = rest

goals_flat : (k : ℕ) (vs : List Frac) → Flat 1 (goal_values k vs)
goals_flat k [] = none_flat 1
goals_flat k (v ∷ vs) = indexed_flat (codes "obj") (45 ∷ decimal k) None v (goal_values (k + 1) vs) refl refl ((lit≤ tt, lit< tt), decimal_printable k) tt (goals_flat (k + 1) vs)

point_flat : (ls : Labels) → AreXmlLabels ls → (x vs : List Frac) (more : Nodes) → Flat 3 more → Flat 3 (point_values ls x vs more)
point_flat ls xml x vs more rest =
    let objectives = values_flat (codes "objectives") (codes "values") (goal_values 1 vs) more refl refl refl refl (goals_flat 1 vs) rest in
    values_flat (codes "variables") (codes "values") (variable_values ls 0 x) (values_part (codes "objectives") (codes "values") (goal_values 1 vs) more) refl refl refl refl (variables_flat ls xml 0 x) objectives

items_flat : (texts : List (List ℕ)) → All IsXmlText texts → Flat 1 (item_nodes texts)
items_flat [] xml = none_flat 1
items_flat (text ∷ more) xml = leaf_flat 0 (codes "item") text (item_nodes more) refl refl (All-head IsXmlText text more xml) (items_flat more (All-tail IsXmlText text more xml))

name_printable : (p : Part) → Each Printable (part_name p)
name_printable parts.Point = list_printable (part_name parts.Point) refl
name_printable parts.Value = list_printable (part_name parts.Value) refl
name_printable parts.Ray = list_printable (part_name parts.Ray) refl
name_printable parts.Cause = list_printable (part_name parts.Cause) refl
name_printable parts.Bound = list_printable (part_name parts.Bound) refl
name_printable parts.Rounds = list_printable (part_name parts.Rounds) refl
name_printable parts.Tree = list_printable (part_name parts.Tree) refl

part_flat : (p : Part) (texts : List (List ℕ)) (more : Nodes) → All IsXmlText texts → Flat 2 more → Flat 2 (certificate_part p texts more)
part_flat p texts more xml rest =
    plain_flat 1 (codes "otherSolutionResult") (only (codes "name") (part_name p)) (item_nodes texts) more refl refl refl (printable_text (part_name p) (name_printable p), tt) (items_flat texts xml) rest

points_flat : (x vs : List Frac) (more : Nodes) → Flat 2 more → Flat 2 (point_parts x vs more)
points_flat x vs more rest = part_flat parts.Point (fraction_texts x) (certificate_part parts.Value (fraction_texts vs) more) (fractions_xml x) (part_flat parts.Value (fraction_texts vs) more (fractions_xml vs) rest)

ray_flat : (r : List Frac) (more : Nodes) → Flat 2 more → Flat 2 (ray_part r more)
ray_flat r more rest = part_flat parts.Ray (fraction_texts r) more (fractions_xml r) rest

rounds_flat : (rs : List Round) (more : Nodes) → Flat 2 more → Flat 2 (rounds_part rs more)
rounds_flat [] more rest = rest
rounds_flat (r ∷ rs) more rest = part_flat parts.Rounds (map round_text (r ∷ rs)) more (rounds_xml (r ∷ rs)) rest

tree_flat : (c : Cert) (cs : List Cert) → Flat 2 (tree_parts c cs)
tree_flat c cs =
    let texts = map node_text c.nodes ++ level_texts 2 cs in
    rounds_flat c.rounds (certificate_part parts.Tree texts none) (part_flat parts.Tree texts none (All-append IsXmlText (map node_text c.nodes) (level_texts 2 cs) (nodes_xml c.nodes) (levels_xml 2 cs)) (none_flat 2))

trees_flat : (cs : List Cert) → Flat 2 (trees_parts cs)
trees_flat [] = none_flat 2
trees_flat (c ∷ cs) = tree_flat c cs

cause_flat : (c : Cause) (more : Nodes) → Flat 2 more → Flat 2 (cause_part c more)
cause_flat c more rest = part_flat parts.Cause (cause_text c ∷ []) more (All-cons IsXmlText (cause_text c) [] (printable_text (cause_text c) (cause_printable c)) (All-nil IsXmlText)) rest

bound_flat : (b : Option ProvedBound) → Flat 2 (bound_parts b)
bound_flat None = none_flat 2
bound_flat (Some b) = part_flat parts.Bound (fraction_texts (b.number ∷ [])) (tree_parts b.cert []) (fractions_xml (b.number ∷ [])) (tree_flat b.cert [])

claiming_printable : (c : Claiming) → Each Printable (claiming_text c)
claiming_printable claiming.Optimal = list_printable (claiming_text claiming.Optimal) refl
claiming_printable claiming.Infeasible = list_printable (claiming_text claiming.Infeasible) refl
claiming_printable claiming.Unbounded = list_printable (claiming_text claiming.Unbounded) refl
claiming_printable claiming.BestSoFar = list_printable (claiming_text claiming.BestSoFar) refl
claiming_printable claiming.Unsure = list_printable (claiming_text claiming.Unsure) refl

solution_flat : (c : Claiming) (certificate : Nodes) (values : Nodes → Nodes) → Flat 2 certificate → ((more : Nodes) → Flat 3 more → Flat 3 (values more)) → Flat 3 (solution c certificate values)
solution_flat c certificate values inside shows =
    let parts = group_flat 2 (codes "otherSolutionResults") certificate none refl refl inside (none_flat 3) in
    typed_flat 2 (codes "status") (claiming_text c) (values (group (codes "otherSolutionResults") certificate none)) refl refl (claiming_printable c) (shows (group (codes "otherSolutionResults") certificate none) parts)

pub claim_flat : (ns : NameLists) → AreXmlNames ns → (c : Claim) → Flat 3 (claim_nodes ns c)
claim_flat ns xml (Optimal x vs cs) = solution_flat claiming.Optimal (point_parts x vs (trees_parts cs)) (λ more. point_values ns.variables x vs (dual_values ns.rows (length x) vs cs more)) (points_flat x vs (trees_parts cs) (trees_flat cs)) (λ more rest. point_flat ns.variables xml.variables x vs (dual_values ns.rows (length x) vs cs more) (duals_flat ns.rows xml.rows (length x) vs cs more rest))
claim_flat ns xml (Infeasible c) = solution_flat claiming.Infeasible (tree_parts c []) (λ more. more) (tree_flat c []) (λ more rest. rest)
claim_flat ns xml (Unbounded x vs cs r) = solution_flat claiming.Unbounded (point_parts x vs (ray_part r (trees_parts cs))) (point_values ns.variables x vs) (points_flat x vs (ray_part r (trees_parts cs)) (ray_flat r (trees_parts cs) (trees_flat cs))) (point_flat ns.variables xml.variables x vs)
claim_flat ns xml (BestSoFar x v c b) =
    let behind = cause_part c (bound_parts b) in
    solution_flat claiming.BestSoFar (point_parts x v behind) (point_values ns.variables x v) (points_flat x v behind (cause_flat c (bound_parts b) (bound_flat b))) (point_flat ns.variables xml.variables x v)
claim_flat ns xml (Unsure c b) = solution_flat claiming.Unsure (cause_part c (bound_parts b)) (λ more. more) (cause_flat c (bound_parts b) (bound_flat b)) (λ more rest. rest)
