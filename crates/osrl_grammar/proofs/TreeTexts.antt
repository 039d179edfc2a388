-- The items of written trees, each read behind those before it.
use Rattle.osrl_grammar.proofs.Names.{◌≡◌, ◌∙◌, ℕ, ◌+◌, ◌^◌, ◌<◌, ◌≤◌, ◌&&◌, ◌⊎◌, inl, inr, pos, Bool, true, false, Option, Ok, List, [], ◌∷◌, ◌++◌, map, length, refl, ap, sym, subst, arith, append_assoc, append-nil, bytes_eq, codes, decimal, false≢true, All, All-head, All-tail, Cert, Node, Held, Part, ratio_once, whole, pieces, node_word, item_fields, node_head, SaysTree, tree_head, BeginsWithWord, IsOutOfOrder, IsItemRead, AddsItem, cert, certs, next_level, node_text, level_text, level_texts, NodeComesBack, LevelComesBack, Round}
use Rattle.std.proofs.lemmas.List.{length-append}
use Rattle.std.proofs.lemmas.Slice.Eq.{bytes_eq-Decides}
use Rattle.certificate.specs.declared.nodes.Node.TheVariants as nodes
use Rattle.osrl_writing.specs.declared.parts.Part.TheVariants as parts
use Rattle.osrl_grammar.specs.declared.parts.TreeItem.TheVariants as trees
use Rattle.osrl_grammar.specs.Values.{IsLevelBut}
use Rattle.osrl_grammar.specs.Items.{begins_level, is_level}
use Rattle.osrl_grammar.specs.Saying.{has_one_level, with_rounds}
use Rattle.osrl_grammar.proofs.ItemTests.{added_readable, added_read}
use Rattle.osrl_grammar.proofs.PieceTexts.{pieces_free}
use Rattle.osrl_grammar.proofs.BackNumbers.{index_back, decimal_spaceless}
use Rattle.osrl_grammar.proofs.BackItems.{node_back, level_back}

-- an item that was added is read, where it begins no level out of order
pub item_added : (p : Part) (text : List ℕ) (h k : Held) → (IsOutOfOrder (next_level h) p text → ⊥) → AddsItem p text h k → IsItemRead p text h (Ok k)
item_added p text h k order adds = inr (order, added_read (item_fields p text) k (λ (g : Held). AddsItem p text h g) (added_readable p text h k adds) adds)

-- of an item with such a status: nothing is kept in mind
abbrev pub IsSilent : Option (List ℕ) → Part → List ℕ → Type 0
IsSilent type p text = has_one_level true true type && is_level p text ≡ false

pub never_noted : (b : Bool) → b && false ≡ false
never_noted true = refl
never_noted false = refl

-- ITEMS of these texts are added, one after another
abbrev pub Adds : Option (List ℕ) → Part → List (List ℕ) → Held → Held → Type 0
Adds type p [] h k = k ≡ h
Adds type p (text ∷ more) h k = (m : Held) × IsItemRead p text h (Ok m) × IsSilent type p text × Adds type p more m k

pub adds_both : (type : Option (List ℕ)) (p : Part) (xs ys : List (List ℕ)) (h m k : Held) → Adds type p xs h m → Adds type p ys m k → Adds type p (xs ++ ys) h k
adds_both type p [] ys h m k first second = subst (λ (g : Held). Adds type p ys g k) first second
adds_both type p (x ∷ xs) ys h m k (g, read, silent, rest) second = (g, read, silent, adds_both type p xs ys g m k rest second)

-- a node begins no level
node_other : (n : Node) → bytes_eq (node_word (node_head n)) (codes "level") ≡ false
node_other (nodes.Split j k) = refl
node_other (nodes.Zero j) = refl
node_other (nodes.Clash c) = refl
node_other (nodes.Farkas ms) = refl
node_other (nodes.Bound ms) = refl
node_other (nodes.Grid g ms) = refl
node_other (nodes.FarkasRows ms) = refl
node_other (nodes.BoundRows ms) = refl
node_other (nodes.GridRows g ms) = refl

node_apart : (l : ℕ) (ps : List (List ℕ)) (n : Node) → BeginsWithWord node_word tree_head SaysTree ps (trees.Node n) → (begins_level ps ≡ false) × (IsLevelBut l ps → ⊥)
node_apart l [] n h = absurd h
node_apart l (p ∷ []) n h = (ap (λ (w : List ℕ). bytes_eq w (codes "level")) h.0 ∙ node_other n, (λ other. other))
node_apart l (p ∷ k ∷ []) n h = (ap (λ (w : List ℕ). bytes_eq w (codes "level")) h.0 ∙ node_other n, (λ other. false≢true (sym (node_other n) ∙ (bytes_eq-Decides (node_word (node_head n)) (codes "level")).1 (sym h.0 ∙ other.0))))
node_apart l (p ∷ k ∷ q ∷ ps) n h = (ap (λ (w : List ℕ). bytes_eq w (codes "level")) h.0 ∙ node_other n, (λ other. other))

-- the parts with these trees of levels before, and these nodes of the latest
abbrev pub holding : Held → List Cert → List Node → Held
holding h ls ns = record h { has_tree = true; levels = ls; tree = ns }

nodes_add : (type : Option (List ℕ)) (h : Held) (ls : List Cert) (ns before : List Node) → All NodeComesBack ns → Adds type parts.Tree (map node_text ns) (holding h ls before) (holding h ls (before ++ ns))
nodes_add type h ls [] before back = ap (holding h ls) (append-nil before)
nodes_add type h ls (n ∷ ns) before back =
    let is = node_back n (All-head NodeComesBack n ns back) in
    let apart = node_apart (length ls + 2) (pieces (node_text n)) n is in
    let silent = ap (λ (b : Bool). has_one_level true true type && b) apart.0 ∙ never_noted (has_one_level true true type) in
    let rest = nodes_add type h ls ns (before ++ n ∷ []) (All-tail NodeComesBack n ns back) in (
      holding h ls (before ++ n ∷ []),
      item_added parts.Tree (node_text n) (holding h ls before) (holding h ls (before ++ n ∷ [])) apart.1 (trees.Node n, is, refl),
      silent,
      subst (λ (l : List Node). Adds type parts.Tree (map node_text ns) (holding h ls (before ++ n ∷ [])) (holding h ls l)) (append_assoc before (n ∷ []) ns) rest,
    )

-- a level in order
in_order : (k l : ℕ) → k < 2 ^ 32 → k ≡ l → IsLevelBut l (codes "level" ∷ decimal k ∷ []) → ⊥
in_order k l small is other = other.3 (ratio_once (decimal k) other.1 (whole (pos k)) other.2.form (index_back k small).0.form ∙ ap (λ (n : ℕ). whole (pos n)) is)

level_pieces : (k : ℕ) → pieces (level_text k) ≡ codes "level" ∷ decimal k ∷ []
level_pieces k = ap (λ (l : List (List ℕ)). codes "level" ∷ l) (pieces_free (decimal k) (decimal_spaceless k))

-- the levels behind the latest one, and what the parts hold in the end
abbrev pub before_last : List Cert → List Node → List Cert → List Cert
before_last ls ns [] = ls
before_last ls ns (c ∷ cs) = before_last (ls ++ cert [] ns ∷ []) c.nodes cs

abbrev pub last_nodes : List Node → List Cert → List Node
last_nodes ns [] = ns
last_nodes ns (c ∷ cs) = last_nodes c.nodes cs

levels_add : (type : Option (List ℕ)) (h : Held) (ls : List Cert) (ns : List Node) (cs : List Cert) (k : ℕ) → has_one_level true true type ≡ false → k ≡ length ls + 2 → k + length cs ≤ 2 ^ 32 → All LevelComesBack cs → Adds type parts.Tree (level_texts k cs) (holding h ls ns) (holding h (before_last ls ns cs) (last_nodes ns cs))
levels_add type h ls ns [] k quiet is few back = refl
levels_add type h ls ns (c ∷ cs) k quiet is few back =
    let small : k < 2 ^ 32 = omega (arith, few) in
    let longer = length-append ls (cert [] ns ∷ []) in
    let begun = holding h (ls ++ cert [] ns ∷ []) [] in
    let order = λ (other : IsOutOfOrder (length ls + 2) parts.Tree (level_text k)). in_order k (length ls + 2) small is (subst (IsLevelBut (length ls + 2)) (level_pieces k) other) in
    let silent = ap (λ (b : Bool). b && is_level parts.Tree (level_text k)) quiet in (
      begun,
      item_added parts.Tree (level_text k) (holding h ls ns) begun order (trees.Level k, level_back k small, refl),
      silent,
      adds_both type parts.Tree (map node_text c.nodes) (level_texts (k + 1) cs) begun (holding h (ls ++ cert [] ns ∷ []) c.nodes) (holding h (before_last ls ns (c ∷ cs)) (last_nodes ns (c ∷ cs)))
          (nodes_add type h (ls ++ cert [] ns ∷ []) c.nodes [] (All-head LevelComesBack c cs back).1)
          (levels_add type h (ls ++ cert [] ns ∷ []) c.nodes cs (k + 1) quiet (omega (arith, is, longer)) (omega (arith, few)) (All-tail LevelComesBack c cs back)),
    )

-- ALL TREES
pub trees_add : (type : Option (List ℕ)) (h : Held) (c : Cert) (cs : List Cert) → (has_one_level true true type ≡ false) ⊎ (cs ≡ []) → 2 + length cs ≤ 2 ^ 32 → All NodeComesBack c.nodes → All LevelComesBack cs → Adds type parts.Tree (map node_text c.nodes ++ level_texts 2 cs) (holding h [] []) (holding h (before_last [] c.nodes cs) (last_nodes c.nodes cs))
trees_add type h c cs (inl quiet) few first back = adds_both type parts.Tree (map node_text c.nodes) (level_texts 2 cs) (holding h [] []) (holding h [] c.nodes) (holding h (before_last [] c.nodes cs) (last_nodes c.nodes cs)) (nodes_add type h [] c.nodes [] first) (levels_add type h [] c.nodes cs 2 quiet refl few back)
trees_add type h c [] (inr none) few first back = adds_both type parts.Tree (map node_text c.nodes) [] (holding h [] []) (holding h [] c.nodes) (holding h [] c.nodes) (nodes_add type h [] c.nodes [] first) refl
trees_add type h c (d ∷ cs) (inr none) few first back = absurd (cc)

-- and they are those that were written
cert_is : (c : Cert) → c.rounds ≡ [] → cert [] c.nodes ≡ c
cert_is c none = ap (λ (rs : List Round). cert rs c.nodes) (sym none)

levels_are : (ls : List Cert) (ns : List Node) (cs : List Cert) → All LevelComesBack cs → before_last ls ns cs ++ cert [] (last_nodes ns cs) ∷ [] ≡ ls ++ cert [] ns ∷ cs
levels_are ls ns [] back = refl
levels_are ls ns (c ∷ cs) back =
    levels_are (ls ++ cert [] ns ∷ []) c.nodes cs (All-tail LevelComesBack c cs back) ∙ append_assoc ls (cert [] ns ∷ []) (cert [] c.nodes ∷ cs) ∙ ap (λ (d : Cert). ls ++ cert [] ns ∷ d ∷ cs) (cert_is c (All-head LevelComesBack c cs back).0)

pub trees_are : (c : Cert) (cs : List Cert) → All LevelComesBack cs → certs c.rounds (before_last [] c.nodes cs) (last_nodes c.nodes cs) ≡ c ∷ cs
trees_are c cs back = ap (with_rounds c.rounds) (levels_are [] c.nodes cs back)
