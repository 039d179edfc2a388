-- An item's text says one number, one node or one cause.
use Rattle.osrl_grammar.proofs.Names.{◌≡◌, ◌∙◌, ap, ap₂, sym, refl, ℕ, ℤ, pos, Option, None, Some, List, [], ◌∷◌, AllZip, Ratio, whole, ratio, Frac, ratio_once, Mult, Node, Step, Index, Turn, Whole, IsNumberText, pieces, Pair, parted, node_word, all_node_words, node_behind, cause_word, all_cause_words, cause_behind, IsFraction, IsMultOf, IsMult, IsOne, IsOneFraction, IsPlace, node_head, SaysNode, TreeItem, tree_head, SaysTree, IsTreeItem, Round, round_word, all_round_words, round_behind, round_head, SaysRound, IsRound, cause_head, SaysCause, IsCause}
use Rattle.fraction.proofs.Equality.{one_fraction}
use Rattle.certificate.specs.declared.nodes.Node.TheVariants as nodes
use Rattle.certificate.specs.declared.nodes.Round.TheVariants as rounds
use Rattle.certificate.specs.declared.causes.Place.{Place}
use Rattle.osrl_grammar.specs.declared.parts.NodeWord.TheVariants as heads
use Rattle.osrl_grammar.specs.declared.parts.TreeItem.TheVariants as trees
use Rattle.certificate.specs.declared.causes.Cause as why
use Rattle.certificate.specs.declared.causes.Cause.TheVariants as causes
use Rattle.osrl_grammar.specs.Numbers.{NumberKind}
use Rattle.osrl_grammar.proofs.WordValues.{one_step, each_node_word, each_round_word, each_cause_word}
use Rattle.osrl_grammar.proofs.Heads.{begun_once}

pub fraction_once : (text : List ℕ) (x y : Frac) → IsFraction text x → IsFraction text y → x ≡ y
fraction_once text x y h k = one_fraction x y (ratio_once text (ratio x) (ratio y) h.0.form k.0.form)

each_once : {X Y : Type 0} (Is : X → Y → Type 0) → ((x : X) (y z : Y) → Is x y → Is x z → y ≡ z) → (xs : List X) (ys zs : List Y) → AllZip Is xs ys → AllZip Is xs zs → ys ≡ zs
each_once Is once [] [] [] h k = refl
each_once Is once [] [] (z ∷ zs) h k = absurd k
each_once Is once [] (y ∷ ys) zs h k = absurd h
each_once Is once (x ∷ xs) [] zs h k = absurd h
each_once Is once (x ∷ xs) (y ∷ ys) [] h k = absurd k
each_once Is once (x ∷ xs) (y ∷ ys) (z ∷ zs) h k =
    let first = once x y z h.0 k.0 in
    let more = each_once Is once xs ys zs h.1 k.1 in
    cc

-- a text is one whole number
whole_once : (k : NumberKind) (t : List ℕ) (a b : ℤ) → IsNumberText k t (whole a) → IsNumberText k t (whole b) → a ≡ b
whole_once k t a b h g = ap (λ (r : Ratio). r.num) (ratio_once t (whole a) (whole b) h.0.form g.0.form)

count_once : (k : NumberKind) (t : List ℕ) (n m : ℕ) → IsNumberText k t (whole (pos n)) → IsNumberText k t (whole (pos m)) → n ≡ m
count_once k t n m h g = let e : pos n ≡ pos m = whole_once k t (pos n) (pos m) h g in cc

pair_once : (o : Option Pair) (m n : Mult) → IsMultOf o m → IsMultOf o n → m ≡ n
pair_once None m n h k = absurd h
pair_once (Some p) m n h k = ap₂ (λ (c : ℕ) (v : Frac). let x : Mult = record { col = c; value = v } in x) (count_once Index p.column m.col n.col h.0 k.0) (fraction_once p.factor m.value n.value h.1 k.1)

mults_once : (ps : List (List ℕ)) (ms ns : List Mult) → AllZip IsMult ps ms → AllZip IsMult ps ns → ms ≡ ns
mults_once ps ms ns h k = each_once IsMult (λ p. pair_once (parted p)) ps ms ns h k

index_once : (ps : List (List ℕ)) (n m : ℕ) → IsOne ps n → IsOne ps m → n ≡ m
index_once [] n m h k = absurd h
index_once (t ∷ []) n m h k = count_once Index t n m h k
index_once (t ∷ s ∷ ps) n m h k = absurd h

-- no node has the word of a level
no_level : (n : Node) → node_head n ≡ heads.Level → ⊥
no_level (nodes.Split j k) e = cc
no_level (nodes.Zero j) e = cc
no_level (nodes.Clash c) e = cc
no_level (nodes.Farkas ms) e = cc
no_level (nodes.Bound ms) e = cc
no_level (nodes.Grid g ms) e = cc
no_level (nodes.FarkasRows ms) e = cc
no_level (nodes.BoundRows ms) e = cc
no_level (nodes.GridRows g ms) e = cc

node_once : (a b : Node) (ps : List (List ℕ)) → node_head a ≡ node_head b → SaysNode a ps → SaysNode b ps → a ≡ b
node_once (nodes.Split j k) (nodes.Split i l) [] e h g = absurd h
node_once (nodes.Split j k) (nodes.Split i l) (c ∷ []) e h g = absurd h
node_once (nodes.Split j k) (nodes.Split i l) (c ∷ b ∷ []) e h g = ap₂ (λ (x : ℕ) (y : ℤ). nodes.Split x y) (count_once Index c j i h.0 g.0) (whole_once Whole b k l h.1 g.1)
node_once (nodes.Split j k) (nodes.Split i l) (c ∷ b ∷ d ∷ ps) e h g = absurd h
node_once (nodes.Zero j) (nodes.Zero i) ps e h g = ap (λ (x : ℕ). nodes.Zero x) (index_once ps j i h g)
node_once (nodes.Clash c) (nodes.Clash d) ps e h g = ap (λ (x : ℕ). nodes.Clash x) (index_once ps c d h g)
node_once (nodes.Farkas ms) (nodes.Farkas ns) ps e h g = ap (λ (x : List Mult). nodes.Farkas x) (mults_once ps ms ns h g)
node_once (nodes.Bound ms) (nodes.Bound ns) ps e h g = ap (λ (x : List Mult). nodes.Bound x) (mults_once ps ms ns h g)
node_once (nodes.Grid x ms) (nodes.Grid y ns) [] e h g = absurd h
node_once (nodes.Grid x ms) (nodes.Grid y ns) (s ∷ ps) e h g = ap₂ (λ (z : Frac) (ls : List Mult). nodes.Grid z ls) (fraction_once s x y h.0 g.0) (mults_once ps ms ns h.1 g.1)
node_once (nodes.FarkasRows ms) (nodes.FarkasRows ns) ps e h g = ap (λ (x : List Mult). nodes.FarkasRows x) (mults_once ps ms ns h g)
node_once (nodes.BoundRows ms) (nodes.BoundRows ns) ps e h g = ap (λ (x : List Mult). nodes.BoundRows x) (mults_once ps ms ns h g)
node_once (nodes.GridRows x ms) (nodes.GridRows y ns) [] e h g = absurd h
node_once (nodes.GridRows x ms) (nodes.GridRows y ns) (s ∷ ps) e h g = ap₂ (λ (z : Frac) (ls : List Mult). nodes.GridRows z ls) (fraction_once s x y h.0 g.0) (mults_once ps ms ns h.1 g.1)
node_once a b ps e h g = absurd (cc)

tree_once : (a b : TreeItem) (ps : List (List ℕ)) → tree_head a ≡ tree_head b → SaysTree a ps → SaysTree b ps → a ≡ b
tree_once (trees.Node n) (trees.Node m) ps e h g = ap (λ (x : Node). trees.Node x) (node_once n m ps e h g)
tree_once (trees.Level l) (trees.Level k) ps e h g = ap (λ (x : ℕ). trees.Level x) (index_once ps l k h g)
tree_once (trees.Node n) (trees.Level k) ps e h g = absurd (no_level n e)
tree_once (trees.Level l) (trees.Node m) ps e h g = absurd (no_level m (sym e))

pub tree_said_once : (text : List ℕ) (a b : TreeItem) → IsTreeItem text a → IsTreeItem text b → a ≡ b
tree_said_once text a b h g = begun_once node_word all_node_words node_behind tree_head SaysTree each_node_word tree_once (pieces text) a b h g

round_once : (a b : Round) (ps : List (List ℕ)) → round_head a ≡ round_head b → SaysRound a ps → SaysRound b ps → a ≡ b
round_once (rounds.Whole ms) (rounds.Whole ns) ps e h g = ap (λ (x : List Mult). rounds.Whole x) (mults_once ps ms ns h g)
round_once (rounds.OfRows ms) (rounds.OfRows ns) ps e h g = ap (λ (x : List Mult). rounds.OfRows x) (mults_once ps ms ns h g)
round_once a b ps e h g = absurd (cc)

pub round_said_once : (text : List ℕ) (a b : Round) → IsRound text a → IsRound text b → a ≡ b
round_said_once text a b h g = begun_once round_word all_round_words round_behind round_head SaysRound each_round_word round_once (pieces text) a b h g

same_place : (p q : Place) → p.node ≡ q.node → p.turn ≡ q.turn → p.step ≡ q.step → p ≡ q
same_place p q node turn step =
    ap₂ (λ (n t : ℕ). let x : Place = record { node = n; turn = t; step = p.step } in x) node turn ∙ ap (λ (s : Step). let x : Place = record { node = q.node; turn = q.turn; step = s } in x) step

place_once : (ps : List (List ℕ)) (p q : Place) → IsPlace ps p → IsPlace ps q → p ≡ q
place_once [] p q h g = absurd h
place_once (n ∷ []) p q h g = absurd h
place_once (n ∷ t ∷ []) p q h g = absurd h
place_once (n ∷ t ∷ s ∷ []) p q h g = same_place p q (count_once Index n p.node q.node h.0 g.0) (count_once Turn t p.turn q.turn h.1 g.1) (one_step p.step q.step (sym h.2 ∙ g.2))
place_once (n ∷ t ∷ s ∷ r ∷ ps) p q h g = absurd h

one_fraction_once : (ps : List (List ℕ)) (x y : Frac) → IsOneFraction ps x → IsOneFraction ps y → x ≡ y
one_fraction_once [] x y h g = absurd h
one_fraction_once (t ∷ []) x y h g = fraction_once t x y h g
one_fraction_once (t ∷ s ∷ ps) x y h g = absurd h

cause_once : (a b : why.Cause) (ps : List (List ℕ)) → cause_head a ≡ cause_head b → SaysCause a ps → SaysCause b ps → a ≡ b
cause_once causes.Killed causes.Killed ps e h g = refl
cause_once (causes.NodeLimit n) (causes.NodeLimit m) ps e h g = ap (λ (x : ℕ). causes.NodeLimit x) (index_once ps n m h g)
cause_once (causes.TurnLimit n) (causes.TurnLimit m) ps e h g = ap (λ (x : ℕ). causes.TurnLimit x) (index_once ps n m h g)
cause_once causes.Gap causes.Gap ps e h g = refl
cause_once (causes.TimeLimit x) (causes.TimeLimit y) ps e h g = ap (λ (z : Frac). causes.TimeLimit z) (one_fraction_once ps x y h g)
cause_once (causes.Wide p) (causes.Wide q) ps e h g = ap (λ (x : Place). causes.Wide x) (place_once ps p q h g)
cause_once causes.Length causes.Length ps e h g = refl
cause_once causes.Memory causes.Memory ps e h g = refl
cause_once a b ps e h g = absurd (cc)

pub cause_said_once : (text : List ℕ) (a b : why.Cause) → IsCause text a → IsCause text b → a ≡ b
cause_said_once text a b h g = begun_once cause_word all_cause_words cause_behind cause_head SaysCause each_cause_word cause_once (pieces text) a b h g
