-- The text of a written instance is a document.
use Rattle.osil_grammar.proofs.Words.{◌≡◌, ℕ, zero, suc, ◌+◌, ◌^◌, ◌<◌, ◌≤◌, Bool, nat_lt, cond, true, false, List, [], ◌∷◌, length, map, refl, sym, subst, arith, inl, inr, lit<, lit≤, codes, decimal, All, All-nil, All-cons, All-map, All-weaker, IsXmlText, Attribute, Nodes, none, element, Element, IsWritable, local_element, IsDocument, document_limit, Frac, Entry, Goal, Sense, Min, Max, Parts, IsValid, counted_element, with_attribute, CountsCosts, WriteGoals, WriteLists, WritesInstance, IsWrittenText, counts_nodes, entries_below, row_starts, sense_text}
use Rattle.tree_writing.proofs.Documents.{written_doc}
use Rattle.tree_grammar.specs.Document.{Doc}
use Rattle.document_tags.proofs.XmlNodes.{IsTag, is_tag, tag_by}
use Rattle.document_tags.proofs.PrintableTexts.{fixed_text, number_text}
use Rattle.osil_grammar.proofs.PrintableTexts.{plain_shown}
use Rattle.osil_grammar.proofs.XmlNodes.{AreLow, none_low, element_low, still_low, shown_text, vars_flat, rows_flat, costs_flat, counts_flat, values_flat}

-- what an instance counts is far below the most that a text can say
pub few : (n : ℕ) → n ≤ 100000 → n < 10 ^ 64
few n small = let top : 100000 < 10 ^ 64 = lit< tt in omega (arith, top, small)

-- no more costs than there are aren't 0
pub counts_few : (cs : List Frac) (n : ℕ) → CountsCosts cs n → n ≤ length cs
counts_few [] n is = omega (arith, is)
counts_few (c ∷ cs) n (inl is) = let rest = counts_few cs n is.1 in omega (arith, rest)
counts_few (c ∷ cs) n (inr is) = let rest = counts_few cs is.1 is.2 in let one = is.3 in omega (arith, rest, one)

-- no more entries than there are stand before a row
pub one_below : (b : Bool) (n m : ℕ) → n ≤ m → cond b (n + 1) n ≤ m + 1
one_below true n m less = omega (arith, less)
one_below false n m less = omega (arith, less)

pub below_few : (i : ℕ) (es : List Entry) → entries_below i es ≤ length es
below_few i [] = omega arith
below_few i (e ∷ es) = let rest = one_below (nat_lt e.row i) (entries_below i es) (length es) (below_few i es) in omega (arith, rest)

pub starts_small : (es : List Entry) (i m : ℕ) → length es ≤ 100000 → All (λ n. n ≤ 100000) (row_starts es i m)
starts_small es i zero small = let below = below_few i es in All-cons (λ (n : ℕ). n ≤ 100000) (entries_below i es) [] (omega (arith, below, small)) (All-nil (λ (n : ℕ). n ≤ 100000))
starts_small es i (suc m) small = let below = below_few i es in All-cons (λ (n : ℕ). n ≤ 100000) (entries_below i es) (row_starts es (i + 1) m) (omega (arith, below, small)) (starts_small es (i + 1) m small)

lists_low : (m : ℕ) (es : List Entry) (nodes : Nodes) → length es ≤ 100000 → All (λ e. e.col < 10 ^ 64) es → WriteLists m es nodes → AreLow 2 nodes
lists_low m [] nodes small columns is = subst (AreLow 2) (sym is) (none_low 2)
lists_low m (e ∷ es) nodes small columns is =
    let starts = counts_flat (row_starts (e ∷ es) 0 m) (All-weaker (λ (n : ℕ). n ≤ 100000) (λ (n : ℕ). n < 10 ^ 64) few (row_starts (e ∷ es) 0 m) (starts_small (e ∷ es) 0 m small)) in
    let cols = counts_flat (map (λ (x : Entry). x.col) (e ∷ es)) (All-map (λ (n : ℕ). n < 10 ^ 64) (λ (x : Entry). x.col) (e ∷ es) columns) in
    let values = values_flat (e ∷ es) is.0 is.1 in
    let third = element_low 1 (codes "value") [] is.0 none (tag_by (codes "value") [] refl tt) values (none_low 2) in
    let second = element_low 1 (codes "colIdx") [] (counts_nodes (map (λ (x : Entry). x.col) (e ∷ es))) (element (codes "value") [] is.0 none) (tag_by (codes "colIdx") [] refl tt) cols third in
    subst (AreLow 2) (sym is.2) (element_low 1 (codes "start") [] (counts_nodes (row_starts (e ∷ es) 0 m)) (element (codes "colIdx") [] (counts_nodes (map (λ (x : Entry). x.col) (e ∷ es))) (element (codes "value") [] is.0 none)) (tag_by (codes "start") [] refl tt) starts second)

sense_xml : (s : Sense) → IsXmlText (sense_text s)
sense_xml Min = fixed_text (codes "min") refl
sense_xml Max = fixed_text (codes "max") refl

goals_low : (gs : List Goal) (nodes : Nodes) → WriteGoals gs nodes → AreLow 2 nodes
goals_low [] nodes is = subst (AreLow 2) (sym is) (none_low 2)
goals_low (g ∷ gs) nodes (more, rest, is) =
    let attributes : List Attribute = with_attribute (codes "maxOrMin") (sense_text g.sense) (with_attribute (codes "constant") is.constant (with_attribute (codes "numberOfObjCoef") (decimal is.count) [])) in
    let tag : IsTag (codes "obj") attributes = tag_by (codes "obj") attributes refl (sense_xml g.sense, (shown_text is.constant (plain_shown g.constant is.constant is.is_constant), (number_text is.count, tt))) in
    subst (AreLow 2) (sym is.says) (element_low 1 (codes "obj") attributes is.costs more tag (costs_flat 0 g.costs is.costs is.are_costs) (goals_low gs more rest))

-- a part of `instanceData`, and then more
part_low : (name key : List ℕ) (n : ℕ) (inner more : Nodes) → is_tag name (with_attribute key (decimal n) []) ≡ true → AreLow 2 inner → AreLow 3 more → AreLow 3 (counted_element name key n inner more)
part_low name key n inner more is inside rest = element_low 2 name (with_attribute key (decimal n) []) inner more (tag_by name (with_attribute key (decimal n) []) is (number_text n, tt)) inside rest

abbrev place : List ℕ
place = codes "os.optimizationservices.org"

root_low : (p : Parts) (root : Element) → IsValid p → WritesInstance p root → IsTag root.name root.attributes × AreLow 4 root.children
root_low p root valid is =
    let columns : All (λ (e : Entry). e.col < 10 ^ 64) p.entries = λ k d inside. let col = (valid.inside k d inside).col in let most = valid.few_vars in few _ (omega (arith, col, most)) in
    let lists = part_low (codes "linearConstraintCoefficients") (codes "numberOfValues") (length p.entries) is.lists none refl (lists_low (length p.rows) p.entries is.lists valid.few_entries columns is.are_lists) (none_low 3) in
    let rows = part_low (codes "constraints") (codes "numberOfConstraints") (length p.rows) is.rows _ refl (still_low 1 2 is.rows (lit≤ tt) (rows_flat p.rows is.rows is.are_rows)) lists in
    let goals = part_low (codes "objectives") (codes "numberOfObjectives") (length p.goals) is.goals _ refl (goals_low p.goals is.goals is.are_goals) rows in
    let vars = part_low (codes "variables") (codes "numberOfVariables") (length p.vars) is.vars _ refl (still_low 1 2 is.vars (lit≤ tt) (vars_flat p.vars is.vars is.are_vars)) goals in
    let content = element_low 3 (codes "instanceHeader") [] none _ (tag_by (codes "instanceHeader") [] refl tt) (none_low 3) (element_low 3 (codes "instanceData") [] _ none (tag_by (codes "instanceData") [] refl tt) vars (none_low 4)) in
    let tag : IsTag (codes "osil") (with_attribute (codes "xmlns") place []) = tag_by (codes "osil") (with_attribute (codes "xmlns") place []) refl (fixed_text place refl, tt) in
    subst (λ (e : Element). IsTag e.name e.attributes × AreLow 4 e.children) (sym is.says) (tag, content)

pub written_document : (p : Parts) (text : List ℕ) → IsValid p → IsWrittenText p text → length text ≤ document_limit → (root : Element) × WritesInstance p root × IsDocument text (local_element root)
written_document p text valid is short =
    let root : Element = is.root in
    let low = root_low p root valid is.writes in
    let writable : IsWritable root = (low.0, low.1.writable) in
    let doc : Doc text (local_element root) = subst (λ (t : List ℕ). Doc t (local_element root)) (sym is.says) (written_doc root writable) in
    (root, is.writes, record { document = doc; short = short; shallow = let l = low.1.low in omega (arith, l) })
