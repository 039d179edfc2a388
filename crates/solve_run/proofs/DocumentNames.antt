-- The names of a document's elements are of characters that are seen, one at least.
use Rattle.std.proofs.Common.{◌≡◌, ℕ, inl, inr, ◌==◌, Bool, true, false, cond, List, [], ◌∷◌, ◌++◌, map, refl, sym, subst, arith}
use Rattle.std.proofs.lemmas.Bool.{eqb-true, eq-eqb}
use Rattle.tree_grammar.specs.Characters.{Each, Some1, IsNameStart, IsNameChar, IsName, IsQName, IsQNameRest, behind_colon, local_part, reference_chars}
use Rattle.tree_grammar.specs.Tags.{Tag}
use Rattle.tree_grammar.specs.Elements.{Nodes, none, element, chars, Element, Event, Close, nodes_events}
use Rattle.tree_grammar.specs.Content.{Content, nothing, char, reference, section, comment, instruction, empty, nested, content_nodes, put_char, put_chars, Body, closed, opened, body_nodes}
use Rattle.tree_grammar.specs.Document.{Doc}
use Rattle.doc_tree.specs.Marks.{Mark, Start, Char, spread}
use Rattle.tag_tests.specs.Readers.{marks}
use Rattle.solve_run.proofs.InkedTexts.{IsInk}

-- ---- names

start_ink : (c : ℕ) → IsNameStart c → IsInk c
start_ink c (inl (inl h)) = let low = h.0 in let high = h.1 in (omega (arith, low), omega (arith, high))
start_ink c (inl (inr h)) = let low = h.0 in let high = h.1 in (omega (arith, low), omega (arith, high))
start_ink c (inr h) = (omega (arith, h), omega (arith, h))

name_ink : (c : ℕ) → IsNameChar c → IsInk c
name_ink c (inl h) = start_ink c h
name_ink c (inr (inl h)) = let low = h.0 in let high = h.1 in (omega (arith, low), omega (arith, high))
name_ink c (inr (inr (inl h))) = (omega (arith, h), omega (arith, h))
name_ink c (inr (inr (inr h))) = (omega (arith, h), omega (arith, h))

-- no character of a name is `:`
no_start : (c : ℕ) → IsNameStart c → c ≡ 58 → ⊥
no_start c (inl (inl h)) is = let low = h.0 in omega (arith, low, is)
no_start c (inl (inr h)) is = let low = h.0 in omega (arith, low, is)
no_start c (inr h) is = omega (arith, h, is)

no_colon : (c : ℕ) → IsNameChar c → c ≡ 58 → ⊥
no_colon c (inl h) is = no_start c h is
no_colon c (inr (inl h)) is = let high = h.1 in omega (arith, high, is)
no_colon c (inr (inr (inl h))) is = omega (arith, h, is)
no_colon c (inr (inr (inr h))) is = omega (arith, h, is)

chars_ink : (cs : List ℕ) → Each IsNameChar cs → Each IsInk cs
chars_ink [] are = tt
chars_ink (c ∷ cs) are = (name_ink c are.0, chars_ink cs are.1)

inked_name : (cs : List ℕ) → IsName cs → Some1 IsInk cs
inked_name [] is = absurd is
inked_name (c ∷ cs) is = (start_ink c is.0, chars_ink cs is.1)

behind : (whole cs : List ℕ) → IsQNameRest cs → (Each IsNameChar cs → IsName whole) → IsName (behind_colon whole cs)
behind whole [] rest all = all tt
behind whole (c ∷ cs) (inl (is, rest)) all = by (c == 58) refl (behind whole cs rest (λ are. all (is, are)))
  where
    by : (b : Bool) → (c == 58) ≡ b → IsName (behind_colon whole cs) → IsName (cond b cs (behind_colon whole cs))
    by true e later = absurd (no_colon c is (eqb-true c 58 e))
    by false e later = later
behind whole (c ∷ cs) (inr (colon, name)) all = subst (λ (b : Bool). IsName (cond b cs (behind_colon whole cs))) (sym (eq-eqb c 58 colon)) name

local_name : (name : List ℕ) → IsQName name → IsName (local_part name)
local_name [] is = absurd is
local_name (c ∷ cs) is = by (c == 58) refl
  where
    by : (b : Bool) → (c == 58) ≡ b → IsName (cond b cs (behind_colon (c ∷ cs) cs))
    by true e = absurd (no_start c is.0 (eqb-true c 58 e))
    by false e = behind (c ∷ cs) cs is.1 (λ are. (is.0, are))

-- ---- nodes

-- each element's name is one
abbrev AreNamed : Nodes → Type 0
AreNamed none = Unit {0}
AreNamed (element name attributes children more) = Some1 IsInk name × AreNamed children × AreNamed more
AreNamed (chars text more) = AreNamed more

tag_named : (t : Tag) → Some1 IsInk (local_part t.name)
tag_named t = inked_name (local_part t.name) (local_name t.name t.named)

one_put : (c : ℕ) (nodes : Nodes) → AreNamed nodes → AreNamed (put_char c nodes)
one_put c none are = tt
one_put c (element name attributes children more) are = are
one_put c (chars text more) are = are

all_put : (cs : List ℕ) (nodes : Nodes) → AreNamed nodes → AreNamed (put_chars cs nodes)
all_put [] nodes are = are
all_put (c ∷ cs) nodes are = one_put c (put_chars cs nodes) (all_put cs nodes are)

content_named : (inner : Content) → AreNamed (content_nodes inner)
content_named nothing = tt
content_named (char c l a more) = one_put c (content_nodes more) (content_named more)
content_named (reference r more) = all_put (reference_chars r) (content_nodes more) (content_named more)
content_named (section text t more) = all_put text (content_nodes more) (content_named more)
content_named (comment t more) = content_named more
content_named (instruction i more) = content_named more
content_named (empty t more) = (tag_named t, tt, content_named more)
content_named (nested t inner space s more) = (tag_named t, content_named inner, content_named more)

body_named : (b : Body) → AreNamed (body_nodes b)
body_named closed = tt
body_named (opened inner space s) = content_named inner

-- ---- marks

-- the name of a start tag is one
abbrev pub IsNamed : Mark → Type 0
IsNamed (Start name attributes) = Some1 IsInk name
IsNamed m = Unit {0}

abbrev pub AllNamed : List Mark → Type 0
AllNamed [] = Unit {0}
AllNamed (m ∷ ms) = IsNamed m × AllNamed ms

chars_named : (text : List ℕ) (ms : List Mark) → AllNamed ms → AllNamed (map Char text ++ ms)
chars_named [] ms are = are
chars_named (c ∷ cs) ms are = (tt, chars_named cs ms are)

nodes_named : (nodes : Nodes) (k : List Event) → AreNamed nodes → AllNamed (spread k) → AllNamed (spread (nodes_events nodes k))
nodes_named none k are rest = rest
nodes_named (element name attributes children more) k are rest = (are.0, nodes_named children (Close name ∷ nodes_events more k) are.1 (tt, nodes_named more k are.2 rest))
nodes_named (chars text more) k are rest = chars_named text (spread (nodes_events more k)) (nodes_named more k are rest)

-- so are those of all marks of a document
pub marks_named : (bytes : List ℕ) (root : Element) → Doc bytes root → AllNamed (marks root)
marks_named bytes root doc = subst (λ (e : Element). AllNamed (marks e)) (sym doc.says) (tag_named tag, nodes_named (body_nodes doc.document.body) (Close (local_part tag.name) ∷ []) (body_named doc.document.body) (tt, tt))
  where
    tag : Tag
    tag = doc.document.tag
