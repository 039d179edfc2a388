-- What is written of variables, rows, costs, indices and values: elements in a row, whose text is XML, and none in another.
use Rattle.osil_grammar.proofs.Words.{ℕ, suc, ◌+◌, ◌^◌, ◌<◌, ◌≤◌, List, [], ◌∷◌, refl, sym, subst, arith, inl, inr, codes, decimal, All, All-head, All-tail, IsXmlText, Attribute, Nodes, none, element, chars, nodes_depth, NodesWritable, local_nodes, Frac, Entry, Var, Row, with_attribute, WriteVars, WriteRows, WriteCosts, WriteValues, counts_nodes, var_attributes}
use Rattle.document_tags.proofs.XmlNodes.{IsTag, tag_by}
use Rattle.document_tags.proofs.PrintableTexts.{printable_text, number_text}
use Rattle.osil_grammar.proofs.PrintableTexts.{IsShown, count_shown, plain_shown, end_shown}
use Rattle.osil_grammar.proofs.VarTags.{var_tag}

-- nodes of XML, of which at most so many stand in one another
pub record AreLow (n : ℕ) (nodes : Nodes) : Type 0 where
  pub writable : NodesWritable nodes
  pub low : nodes_depth (local_nodes nodes) ≤ n

pub none_low : (n : ℕ) → AreLow n none
none_low n = record { writable = tt; low = omega arith }

pub text_low : (n : ℕ) (text : List ℕ) → IsShown text → AreLow n (chars text none)
text_low n text shown = record { writable = (shown.some, printable_text text shown.printable, tt, tt); low = omega arith }

-- an element with what stands in it, and then more
pub element_low : (n : ℕ) (name : List ℕ) (attributes : List Attribute) (children more : Nodes) → IsTag name attributes → AreLow n children → AreLow (suc n) more → AreLow (suc n) (element name attributes children more)
element_low n name attributes children more tag inside rest = record { writable = (tag, inside.writable, rest.writable); low = let k = inside.low in let l = rest.low in omega (arith, k, l) }

-- where fewer stand in one another, not more do
pub still_low : (m n : ℕ) (nodes : Nodes) → m ≤ n → AreLow m nodes → AreLow n nodes
still_low m n nodes less are = record { writable = are.writable; low = let k = are.low in omega (arith, k, less) }

pub shown_text : (text : List ℕ) → IsShown text → IsXmlText text
shown_text text shown = printable_text text shown.printable

abbrev ends : (lb ub : List ℕ) → List Attribute
ends lb ub = with_attribute (codes "lb") lb (with_attribute (codes "ub") ub [])

pub vars_flat : (vs : List Var) (nodes : Nodes) → WriteVars vs nodes → AreLow 1 nodes
vars_flat [] nodes is = subst (AreLow 1) (sym is) (none_low 1)
vars_flat (v ∷ vs) nodes (more, rest, is) = subst (AreLow 1) (sym is.says) (element_low 0 (codes "var") (var_attributes v is.lb is.ub) none more (var_tag v more nodes is) (none_low 0) (vars_flat vs more rest))

pub rows_flat : (rs : List Row) (nodes : Nodes) → WriteRows rs nodes → AreLow 1 nodes
rows_flat [] nodes is = subst (AreLow 1) (sym is) (none_low 1)
rows_flat (r ∷ rs) nodes is =
    let lb = is.0 in
    let ub = is.1 in
    let tag : IsTag (codes "con") (ends lb ub) = tag_by (codes "con") (ends lb ub) refl (shown_text lb (end_shown r.lb lb is.3), (shown_text ub (end_shown r.ub ub is.4), tt)) in
    subst (AreLow 1) (sym is.6) (element_low 0 (codes "con") (ends lb ub) none is.2 tag (none_low 0) (rows_flat rs is.2 is.5))

pub costs_flat : (j : ℕ) (cs : List Frac) (nodes : Nodes) → WriteCosts j cs nodes → AreLow 1 nodes
costs_flat j [] nodes is = subst (AreLow 1) (sym is) (none_low 1)
costs_flat j (c ∷ cs) nodes (inl is) = costs_flat (j + 1) cs nodes is.1
costs_flat j (c ∷ cs) nodes (inr is) =
    subst (AreLow 1) (sym is.5) (element_low 0 (codes "coef") (with_attribute (codes "idx") (decimal j) []) (chars is.1 none) is.2 (tag_by (codes "coef") (with_attribute (codes "idx") (decimal j) []) refl (number_text j, tt)) (text_low 0 is.1 (plain_shown c is.1 is.3)) (costs_flat (j + 1) cs is.2 is.4))

pub el_tag : IsTag (codes "el") []
el_tag = tag_by (codes "el") [] refl tt

pub counts_flat : (ns : List ℕ) → All (λ n. n < 10 ^ 64) ns → AreLow 1 (counts_nodes ns)
counts_flat [] small = none_low 1
counts_flat (n ∷ ns) small = element_low 0 (codes "el") [] (chars (decimal n) none) (counts_nodes ns) el_tag (text_low 0 (decimal n) (count_shown n (All-head (λ (m : ℕ). m < 10 ^ 64) n ns small))) (counts_flat ns (All-tail (λ (m : ℕ). m < 10 ^ 64) n ns small))

pub values_flat : (es : List Entry) (nodes : Nodes) → WriteValues es nodes → AreLow 1 nodes
values_flat [] nodes is = subst (AreLow 1) (sym is) (none_low 1)
values_flat (e ∷ es) nodes is = subst (AreLow 1) (sym is.4) (element_low 0 (codes "el") [] (chars is.0 none) is.1 el_tag (text_low 0 is.0 (plain_shown e.value is.0 is.2)) (values_flat es is.1 is.3))
