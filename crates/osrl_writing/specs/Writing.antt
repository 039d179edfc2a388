-- The document that a report is written as (Optimization Services result language), and its text.
use Rattle.std.specs.Prelude.{ℕ, ◌+◌, ◌-◌, Bool, true, false, Option, None, Some, nat_lt, nat_le, cond, List, [], ◌∷◌, ◌++◌, map, flat_map, length, codes, decimal}
use Rattle.std.specs.Fmt.{signed_decimal}
use Rattle.tree_grammar.specs.Elements.{Attribute, Nodes, none, element, chars, Element}
use Rattle.tree_grammar.specs.WrittenText.{written}
use Rattle.document_tags.specs.Texts.{document_limit}
use Rattle.document_tags.specs.Writing.{only, with_attribute, text_nodes, leaf, group, typed, rooted}
use Rattle.fraction.specs.Frac.{ratio}
use Rattle.fraction.specs.declared.frac.Frac.{Frac}
use Rattle.decimal_text.specs.Exact.{ratio_text}
use Rattle.certificate.specs.declared.lists.Mult.{Mult}
use Rattle.certificate.specs.declared.nodes.Node.{Node}
use Rattle.certificate.specs.declared.nodes.Node.TheVariants.{Split, Zero, Clash, Farkas, Bound, Grid, FarkasRows, BoundRows, GridRows}
use Rattle.certificate.specs.declared.nodes.Round.{Round}
use Rattle.certificate.specs.declared.nodes.Round.TheVariants.{Whole, OfRows}
use Rattle.certificate.specs.declared.nodes.Cert.{Cert}
use Rattle.certificate.specs.declared.causes.Cause.{Cause}
use Rattle.certificate.specs.declared.causes.Cause.TheVariants as causes
use Rattle.certificate.specs.declared.claims.ProvedBound.{ProvedBound}
use Rattle.certificate.specs.declared.claims.Claim.{Claim}
use Rattle.certificate.specs.declared.claims.Claim.TheVariants.{Optimal, Infeasible, Unbounded, BestSoFar, Unsure}
use Rattle.osrl_writing.specs.declared.told_names.NameLists.{NameLists}
use Rattle.osrl_writing.specs.declared.report.JobStatus.{JobStatus}
use Rattle.osrl_writing.specs.declared.report.Report.{Report}
use Rattle.osrl_writing.specs.Cuts.{cut_text}
use Rattle.osrl_writing.specs.Labels.{Labels, name_at, no_names}
use Rattle.osrl_writing.specs.declared.parts.Part.{Part}
use Rattle.osrl_writing.specs.declared.parts.Part.TheVariants as parts
use Rattle.osrl_writing.specs.declared.parts.Claiming.{Claiming}
use Rattle.osrl_writing.specs.declared.parts.Claiming.TheVariants as claiming
use Rattle.certificate.specs.Words.{step_text}
use Rattle.osrl_writing.specs.Words.{status_text, claiming_text, part_name}

-- the attribute that tells a name, if there is one
abbrev pub name_attribute : Option (List ℕ) → List Attribute
name_attribute None = []
name_attribute (Some name) = only (codes "name") name

-- an element with an index, and with a name where there is one, that holds a cut number, and then more
abbrev pub indexed : (element_name index : List ℕ) → (name : Option (List ℕ)) → Frac → Nodes → Nodes
indexed element_name index name x more = element element_name (with_attribute (codes "idx") index (name_attribute name)) (text_nodes (cut_text (ratio x))) more

-- the values of the variables from j on, each with its name
abbrev pub variable_values : Labels → ℕ → List Frac → Nodes
variable_values ls j [] = none
variable_values ls j (x ∷ xs) = indexed (codes "var") (decimal j) (name_at ls j) x (variable_values ls (j + 1) xs)

-- of n variables' and the rows' multipliers, those of the rows, each with its row's name
abbrev pub row_values : Labels → ℕ → List Mult → Nodes
row_values ls n [] = none
row_values ls n (m ∷ ms) = cond (nat_lt m.col n) (row_values ls n ms) (indexed (codes "con") (decimal (m.col - n)) (name_at ls (m.col - n)) m.value (row_values ls n ms))

-- a part of a solution with its values, and then more
abbrev pub values_part : (name list : List ℕ) → Nodes → Nodes → Nodes
values_part name list values more = group name (group list values none) more

-- the same, where there is a value
abbrev pub values_part_unless_none : (name list : List ℕ) → Nodes → Nodes → Nodes
values_part_unless_none name list none more = more
values_part_unless_none name list (element n attributes children behind) more = values_part name list (element n attributes children behind) more
values_part_unless_none name list (chars text behind) more = values_part name list (chars text behind) more

-- the values of the objectives from the k-th on, whose indices are below 0
abbrev pub goal_values : ℕ → List Frac → Nodes
goal_values k [] = none
goal_values k (v ∷ vs) = indexed (codes "obj") (45 ∷ decimal k) None v (goal_values (k + 1) vs)

-- the values of the variables and of the objectives, and then more
abbrev pub point_values : Labels → List Frac → List Frac → Nodes → Nodes
point_values ls x vs more = values_part (codes "variables") (codes "values") (variable_values ls 0 x) (values_part (codes "objectives") (codes "values") (goal_values 1 vs) more)

-- the multipliers of rows, where there are any, and then more
abbrev pub rows_part : Labels → ℕ → List Mult → Nodes → Nodes
rows_part ls n ms more = values_part_unless_none (codes "constraints") (codes "dualValues") (row_values ls n ms) more

-- those of a tree, where it is one leaf that bounds the objective, and there is no round, and then more
abbrev pub tree_values : Labels → ℕ → List Round → List Node → Nodes → Nodes
tree_values ls n [] (Bound ms ∷ []) more = rows_part ls n ms more
tree_values ls n [] (BoundRows ms ∷ []) more = rows_part ls n ms more
tree_values ls n rs ns more = more

-- the dual values, which stand where there is one objective and one tree, and then more
abbrev pub dual_values : Labels → ℕ → List Frac → List Cert → Nodes → Nodes
dual_values ls n (v ∷ []) (c ∷ []) more = tree_values ls n c.rounds c.nodes more
dual_values ls n vs cs more = more

-- a column and its multiplier behind a space
abbrev pub mult_text : Mult → List ℕ
mult_text m = 32 ∷ (decimal m.col ++ (58 ∷ ratio_text (ratio m.value)))

abbrev pub node_text : Node → List ℕ
node_text (Split j k) = codes "split " ++ (decimal j ++ (32 ∷ signed_decimal k))
node_text (Zero j) = codes "zero " ++ decimal j
node_text (Clash c) = codes "clash " ++ decimal c
node_text (Farkas ms) = codes "farkas" ++ flat_map mult_text ms
node_text (Bound ms) = codes "bound" ++ flat_map mult_text ms
node_text (Grid g ms) = codes "grid " ++ (ratio_text (ratio g) ++ flat_map mult_text ms)
node_text (FarkasRows ms) = codes "farkasRows" ++ flat_map mult_text ms
node_text (BoundRows ms) = codes "boundRows" ++ flat_map mult_text ms
node_text (GridRows g ms) = codes "gridRows " ++ (ratio_text (ratio g) ++ flat_map mult_text ms)

abbrev pub round_text : Round → List ℕ
round_text (Whole ms) = codes "round" ++ flat_map mult_text ms
round_text (OfRows ms) = codes "roundRows" ++ flat_map mult_text ms

-- what begins the k-th level
abbrev pub level_text : ℕ → List ℕ
level_text k = codes "level " ++ decimal k

-- the texts of the trees of the levels from the k-th on, each behind what begins its level
abbrev pub level_texts : ℕ → List Cert → List (List ℕ)
level_texts k [] = []
level_texts k (c ∷ cs) = level_text k ∷ (map node_text c.nodes ++ level_texts (k + 1) cs)

abbrev pub cause_text : Cause → List ℕ
cause_text causes.Killed = codes "killed"
cause_text (causes.NodeLimit n) = codes "nodeLimit " ++ decimal n
cause_text (causes.TurnLimit n) = codes "turnLimit " ++ decimal n
cause_text causes.Gap = codes "gap"
cause_text (causes.TimeLimit x) = codes "timeLimit " ++ ratio_text (ratio x)
cause_text (causes.Wide p) = codes "wide " ++ (decimal p.node ++ (32 ∷ (decimal p.turn ++ (32 ∷ step_text p.step))))
cause_text causes.Length = codes "length"
cause_text causes.Memory = codes "memory"

-- one item for each text
abbrev pub item_nodes : List (List ℕ) → Nodes
item_nodes [] = none
item_nodes (text ∷ more) = leaf (codes "item") text (item_nodes more)

-- a part of a certificate, and then more
abbrev pub certificate_part : Part → List (List ℕ) → Nodes → Nodes
certificate_part p texts more = element (codes "otherSolutionResult") (only (codes "name") (part_name p)) (item_nodes texts) more

abbrev pub fraction_texts : List Frac → List (List ℕ)
fraction_texts xs = map (λ x. ratio_text (ratio x)) xs

-- a point and its values, and then more
abbrev pub point_parts : List Frac → List Frac → Nodes → Nodes
point_parts x vs more = certificate_part parts.Point (fraction_texts x) (certificate_part parts.Value (fraction_texts vs) more)

abbrev pub ray_part : List Frac → Nodes → Nodes
ray_part r more = certificate_part parts.Ray (fraction_texts r) more

-- rounds, where there are any, and then more
abbrev pub rounds_part : List Round → Nodes → Nodes
rounds_part [] more = more
rounds_part (r ∷ rs) more = certificate_part parts.Rounds (map round_text (r ∷ rs)) more

-- the first tree with its rounds, and those of the levels behind it
abbrev pub tree_parts : Cert → List Cert → Nodes
tree_parts c cs = rounds_part c.rounds (certificate_part parts.Tree (map node_text c.nodes ++ level_texts 2 cs) none)

-- the trees of all levels, where there are any
abbrev pub trees_parts : List Cert → Nodes
trees_parts [] = none
trees_parts (c ∷ cs) = tree_parts c cs

-- why a search stopped, and then more
abbrev pub cause_part : Cause → Nodes → Nodes
cause_part c more = certificate_part parts.Cause (cause_text c ∷ []) more

-- a bound, where there is one: its number, and the tree that shows it
abbrev pub bound_parts : Option ProvedBound → Nodes
bound_parts None = none
bound_parts (Some b) = certificate_part parts.Bound (fraction_texts (b.number ∷ [])) (tree_parts b.cert [])

-- a solution: its status, values for people, and its certificate
abbrev pub solution : Claiming → (certificate : Nodes) → (values : Nodes → Nodes) → Nodes
solution c certificate values = typed (codes "status") (claiming_text c) (values (group (codes "otherSolutionResults") certificate none))

abbrev pub claim_nodes : NameLists → Claim → Nodes
claim_nodes ns (Optimal x vs cs) = solution claiming.Optimal (point_parts x vs (trees_parts cs)) (λ more. point_values ns.variables x vs (dual_values ns.rows (length x) vs cs more))
claim_nodes ns (Infeasible c) = solution claiming.Infeasible (tree_parts c []) (λ more. more)
claim_nodes ns (Unbounded x vs cs r) = solution claiming.Unbounded (point_parts x vs (ray_part r (trees_parts cs))) (point_values ns.variables x vs)
claim_nodes ns (BestSoFar x vs c b) = solution claiming.BestSoFar (point_parts x vs (cause_part c (bound_parts b))) (point_values ns.variables x vs)
claim_nodes ns (Unsure c b) = solution claiming.Unsure (cause_part c (bound_parts b)) (λ more. more)

-- a text in an element of this name, if there is one, and then more
abbrev pub leaf_of : (name : List ℕ) → Option (List ℕ) → Nodes → Nodes
leaf_of name None more = more
leaf_of name (Some text) more = leaf name text more

-- the claim's solution, if there is one
abbrev pub optimization : NameLists → Option Claim → Nodes
optimization ns None = none
optimization ns (Some c) = group (codes "optimization") (group (codes "solution") (claim_nodes ns c) none) none

abbrev pub general_type : Bool → List ℕ
general_type true = codes "error"
general_type false = codes "normal"

-- what is said of the job in general
abbrev pub general_nodes : Report → Nodes
general_nodes r = typed (codes "generalStatus") (general_type r.error) (leaf_of (codes "jobID") r.job (leaf_of (codes "message") r.message none))

-- how far the job is, and then more
abbrev pub status_nodes : JobStatus → Nodes → Nodes
status_nodes status more = group (codes "job") (leaf (codes "status") (status_text status) none) more

-- the root that a report is written as with these names
abbrev pub named_element : NameLists → Report → Element
named_element ns r = rooted (codes "osrl") (group (codes "general") (general_nodes r) (status_nodes r.status (optimization ns r.claim)))

-- the text of a report with these names
abbrev pub named_text : NameLists → Report → List ℕ
named_text ns r = written (named_element ns r)

-- the root that a report is written as
abbrev pub report_element : Report → Element
report_element r = named_element no_names r

-- the text of a report
abbrev pub report_text : Report → List ℕ
report_text r = written (report_element r)

-- what is told of a report where these are its names: its text with them, or without any where that would be too long
abbrev pub told_text : NameLists → Report → List ℕ
told_text ns r = cond (nat_le (length (named_text ns r)) document_limit) (named_text ns r) (report_text r)
