-- What the marks of nodes leave, whatever marks come behind them: place by place, from the innermost.
use Rattle.std.proofs.Common.{◌≡◌, ◌∙◌, ℕ, suc, ◌+◌, ◌-◌, Bool, true, false, cond, bytes_eq, List, [], ◌∷◌, ◌++◌, map, refl, ap, arith, add-one}
use Rattle.std.specs.Prelude.{codes}
use Rattle.tree_grammar.specs.Elements.{Nodes, none, element, chars, Element, Event, Close, events, nodes_events}
use Rattle.doc_tree.specs.Marks.{Mark, Char, spread}
use Rattle.instance_names.specs.declared.parse_state.PartNames.{PartNames}
use Rattle.instance_names.specs.declared.parse_state.PartNames.TheVariants.{Nothing}
use Rattle.instance_names.specs.declared.parse_state.Place.{Place}
use Rattle.instance_names.specs.declared.parse_state.Place.TheVariants.{InRoot, InData, InVariables, InRows}
use Rattle.instance_names.specs.declared.parse_state.ParseState.{ParseState}
use Rattle.mark_folds.proofs.PassedOver.{nodes_passed}
use Rattle.instance_names.specs.Marked.{begun, again, item_begun, start, left_by, left}

abbrev at : Place → ℕ → Bool → PartNames → PartNames → ParseState
at place over had vs rs = record { place = place; over = over; has_data = had; variables = vs; rows = rs }

-- characters say nothing, also before other marks
pub chars_alone : (text : List ℕ) (s : ParseState) → left s (map Char text) ≡ s
chars_alone [] s = refl
chars_alone (c ∷ cs) s = chars_alone cs s

chars_left : (text : List ℕ) (s : ParseState) (k : List Mark) → left s (map Char text ++ k) ≡ left s k
chars_left [] s k = refl
chars_left (c ∷ cs) s k = chars_left cs s k

-- ---- in an element that is passed over

over_left : (ns : Nodes) (place : Place) (d : ℕ) (had : Bool) (vs rs : PartNames) (k : List Event) → left (at place (suc d) had vs rs) (spread (nodes_events ns k)) ≡ left (at place (suc d) had vs rs) (spread k)
over_left ns place d had vs rs k =
    nodes_passed left_by (λ n. at place (suc n) had vs rs) (λ n c. refl) (λ n name as'. ap (λ (m : ℕ). at place m had vs rs) (add-one (suc n)))
    (λ n name. let one_less : suc (suc n) - 1 ≡ suc n = omega arith in ap (λ (m : ℕ). at place m had vs rs) one_less) ns d k

-- one whole element that is passed over
passed_left : (inside : Nodes) (name : List ℕ) (place : Place) (had : Bool) (vs rs : PartNames) (k : List Event) → left (at place 1 had vs rs) (spread (nodes_events inside (Close name ∷ k))) ≡ left (at place 0 had vs rs) (spread k)
passed_left inside name place had vs rs k = over_left inside place 0 had vs rs (Close name ∷ k)

-- ---- in a part

-- what nodes in a part say
abbrev pub items_told : (item : List ℕ) → PartNames → Nodes → PartNames
items_told item p none = p
items_told item p (chars text more) = items_told item p more
items_told item p (element name as' inside more) = items_told item (item_begun item name as' p) more

variables_left : (ns : Nodes) (had : Bool) (vs rs : PartNames) (k : List Event) → left (at InVariables 0 had vs rs) (spread (nodes_events ns k)) ≡ left (at InVariables 0 had (items_told (codes "var") vs ns) rs) (spread k)
variables_left none had vs rs k = refl
variables_left (chars text more) had vs rs k = chars_left text (at InVariables 0 had vs rs) (spread (nodes_events more k)) ∙ variables_left more had vs rs k
variables_left (element name as' inside more) had vs rs k =
    passed_left inside name InVariables had (item_begun (codes "var") name as' vs) rs (nodes_events more k) ∙ variables_left more had (item_begun (codes "var") name as' vs) rs k

rows_left : (ns : Nodes) (had : Bool) (vs rs : PartNames) (k : List Event) → left (at InRows 0 had vs rs) (spread (nodes_events ns k)) ≡ left (at InRows 0 had vs (items_told (codes "con") rs ns)) (spread k)
rows_left none had vs rs k = refl
rows_left (chars text more) had vs rs k = chars_left text (at InRows 0 had vs rs) (spread (nodes_events more k)) ∙ rows_left more had vs rs k
rows_left (element name as' inside more) had vs rs k =
    passed_left inside name InRows had vs (item_begun (codes "con") name as' rs) (nodes_events more k) ∙ rows_left more had vs (item_begun (codes "con") name as' rs) k

-- ---- in data

-- what an element says of a part that it is, or isn't
abbrev pub part_told : Bool → (item : List ℕ) → PartNames → Nodes → PartNames
part_told is item p inside = cond is (items_told item (begun p) inside) p

abbrev pub data_variables : PartNames → Nodes → PartNames
data_variables p none = p
data_variables p (chars text more) = data_variables p more
data_variables p (element name as' inside more) = data_variables (part_told (bytes_eq name (codes "variables")) (codes "var") p inside) more

-- of the rows those elements say something that aren't the variables
abbrev pub data_rows : PartNames → Nodes → PartNames
data_rows p none = p
data_rows p (chars text more) = data_rows p more
data_rows p (element name as' inside more) = data_rows (cond (bytes_eq name (codes "variables")) p (part_told (bytes_eq name (codes "constraints")) (codes "con") p inside)) more

part_left : (is_variables is_rows : Bool) (inside : Nodes) (name : List ℕ) (had : Bool) (vs rs : PartNames) (k : List Event)
    → left (cond is_variables (at InVariables 0 had (begun vs) rs) (cond is_rows (at InRows 0 had vs (begun rs)) (at InData 1 had vs rs))) (spread (nodes_events inside (Close name ∷ k)))
    ≡ left (at InData 0 had (part_told is_variables (codes "var") vs inside) (cond is_variables rs (part_told is_rows (codes "con") rs inside))) (spread k)
part_left true is_rows inside name had vs rs k = variables_left inside had (begun vs) rs (Close name ∷ k)
part_left false true inside name had vs rs k = rows_left inside had vs (begun rs) (Close name ∷ k)
part_left false false inside name had vs rs k = passed_left inside name InData had vs rs k

data_left : (ns : Nodes) (had : Bool) (vs rs : PartNames) (k : List Event) → left (at InData 0 had vs rs) (spread (nodes_events ns k)) ≡ left (at InData 0 had (data_variables vs ns) (data_rows rs ns)) (spread k)
data_left none had vs rs k = refl
data_left (chars text more) had vs rs k = chars_left text (at InData 0 had vs rs) (spread (nodes_events more k)) ∙ data_left more had vs rs k
data_left (element name as' inside more) had vs rs k =
    let is_variables = bytes_eq name (codes "variables") in
    let is_rows = bytes_eq name (codes "constraints") in
    part_left is_variables is_rows inside name had vs rs (nodes_events more k)
    ∙ data_left more had (part_told is_variables (codes "var") vs inside) (cond is_variables rs (part_told is_rows (codes "con") rs inside)) k

-- ---- in the root

-- what an element says, by what its nodes say in data, where it is data
abbrev pub child_told : (PartNames → Nodes → PartNames) → Bool → Bool → PartNames → Nodes → PartNames
child_told told is had p inside = cond is (told (again had p) inside) p

abbrev pub root_told : (PartNames → Nodes → PartNames) → Bool → PartNames → Nodes → PartNames
root_told told had p none = p
root_told told had p (chars text more) = root_told told had p more
root_told told had p (element name as' inside more) =
    root_told told (cond (bytes_eq name (codes "instanceData")) true had) (child_told told (bytes_eq name (codes "instanceData")) had p inside) more

abbrev root_has : Bool → Nodes → Bool
root_has had none = had
root_has had (chars text more) = root_has had more
root_has had (element name as' inside more) = root_has (cond (bytes_eq name (codes "instanceData")) true had) more

child_left : (is : Bool) (inside : Nodes) (name : List ℕ) (had : Bool) (vs rs : PartNames) (k : List Event)
    → left (cond is (at InData 0 true (again had vs) (again had rs)) (at InRoot 1 had vs rs)) (spread (nodes_events inside (Close name ∷ k)))
    ≡ left (at InRoot 0 (cond is true had) (child_told data_variables is had vs inside) (child_told data_rows is had rs inside)) (spread k)
child_left true inside name had vs rs k = data_left inside true (again had vs) (again had rs) (Close name ∷ k)
child_left false inside name had vs rs k = passed_left inside name InRoot had vs rs k

root_left : (ns : Nodes) (had : Bool) (vs rs : PartNames) (k : List Event)
    → left (at InRoot 0 had vs rs) (spread (nodes_events ns k)) ≡ left (at InRoot 0 (root_has had ns) (root_told data_variables had vs ns) (root_told data_rows had rs ns)) (spread k)
root_left none had vs rs k = refl
root_left (chars text more) had vs rs k = chars_left text (at InRoot 0 had vs rs) (spread (nodes_events more k)) ∙ root_left more had vs rs k
root_left (element name as' inside more) had vs rs k =
    let is = bytes_eq name (codes "instanceData") in
    child_left is inside name had vs rs (nodes_events more k)
    ∙ root_left more (cond is true had) (child_told data_variables is had vs inside) (child_told data_rows is had rs inside) k

-- ---- the document

pub variables_told : (root : Element) → (left start (spread (events root))).variables ≡ root_told data_variables false Nothing root.children
variables_told root = ap (λ (s : ParseState). s.variables) (root_left root.children false Nothing Nothing (Close root.name ∷ []))

pub rows_told : (root : Element) → (left start (spread (events root))).rows ≡ root_told data_rows false Nothing root.children
rows_told root = ap (λ (s : ParseState). s.rows) (root_left root.children false Nothing Nothing (Close root.name ∷ []))
