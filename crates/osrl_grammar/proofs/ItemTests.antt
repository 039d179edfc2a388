-- What is read of an item, and when it is one.
use Rattle.osrl_grammar.proofs.Names.{◌≡◌, ◌∙◌, inr, ℕ, ◌+◌, Bool, false, length, pos, Option, None, Some, Result, Ok, Err, List, [], ◌∷◌, ◌++◌, refl, ap, sym, subst, AllZip, option_map, whole, ratio, Frac, Mult, Node, Step, Held, Part, Point, Value, Ray, Misread, NoShape, NoNumber, TooGreat, Index, Turn, Whole, Exact, Field, pieces, Pair, parted, worded, field, step_text, all_steps, node_word, all_node_words, cause_word, all_cause_words, pair_fields, mult_fields, mults_fields, no_field, one_field, place_fields, node_behind, cause_behind, item_fields, ReadsTexts, IsFraction, IsMult, IsMultOf, IsOne, IsOneFraction, IsPlace, node_head, SaysNode, cause_head, SaysCause, Round, round_head, SaysRound, TreeItem, tree_head, SaysTree, IsOutOfOrder, next_level, round_word, all_round_words, round_behind, IsItemRead, AddsItem, IfOk-weaker}
use Rattle.certificate.specs.declared.nodes.Node.TheVariants as nodes
use Rattle.certificate.specs.declared.nodes.Round.TheVariants as rounds
use Rattle.osrl_grammar.specs.declared.parts.TreeItem.TheVariants as trees
use Rattle.certificate.specs.declared.causes.Place.{Place}
use Rattle.certificate.specs.declared.causes.Cause as why
use Rattle.certificate.specs.declared.causes.Cause.TheVariants as causes
use Rattle.osrl_writing.specs.declared.parts.Part.TheVariants.{Cause, Bound, Rounds, Tree}
use Rattle.osrl_grammar.proofs.WordValues.{each_step, each_node_word, each_round_word, each_cause_word}
use Rattle.osrl_grammar.specs.Stepping.{ReadsNumber, as_held, ReadsItem}
use Rattle.osrl_grammar.proofs.Fields.{Pass, number_pass, both_pass, reads_made, still_unread}
use Rattle.osrl_grammar.proofs.Heads.{begun_pass}
use Rattle.std.proofs.Common.{◌↔◌, IsTrue}
use Rattle.osrl_grammar.specs.Values.{IsLevelBut}
use Rattle.document_tags.proofs.OneAnswer.{refused}

-- the texts of what is said are numbers
mult_pass : (o : Option Pair) (m : Mult) → IsMultOf o m → Pass (option_map pair_fields o)
mult_pass None m h = absurd h
mult_pass (Some p) m h = both_pass (Some (field Index p.column ∷ [])) (Some (field Exact p.factor ∷ [])) (number_pass Index p.column (whole (pos m.col)) h.0) (number_pass Exact p.factor (ratio m.value) h.1)

mults_pass : (ps : List (List ℕ)) (ms : List Mult) → AllZip IsMult ps ms → Pass (mults_fields ps)
mults_pass [] [] h = (tt, tt)
mults_pass [] (m ∷ ms) h = absurd h
mults_pass (p ∷ ps) [] h = absurd h
mults_pass (p ∷ ps) (m ∷ ms) h = both_pass (mult_fields p) (mults_fields ps) (mult_pass (parted p) m h.0) (mults_pass ps ms h.1)

one_pass : (ps : List (List ℕ)) (n : ℕ) → IsOne ps n → Pass (one_field Index ps)
one_pass [] n h = absurd h
one_pass (t ∷ []) n h = number_pass Index t (whole (pos n)) h
one_pass (t ∷ s ∷ ps) n h = absurd h

fraction_pass : (ps : List (List ℕ)) (x : Frac) → IsOneFraction ps x → Pass (one_field Exact ps)
fraction_pass [] x h = absurd h
fraction_pass (t ∷ []) x h = number_pass Exact t (ratio x) h
fraction_pass (t ∷ s ∷ ps) x h = absurd h

place_pass : (ps : List (List ℕ)) (p : Place) → IsPlace ps p → Pass (place_fields ps)
place_pass [] p h = absurd h
place_pass (n ∷ []) p h = absurd h
place_pass (n ∷ t ∷ []) p h = absurd h
place_pass (n ∷ t ∷ s ∷ []) p h =
    let found = ap (worded step_text all_steps) h.2 ∙ each_step p.step in
    subst (λ (o : Option Step). Pass (option_map (λ step. field Index n ∷ field Turn t ∷ []) o)) (sym found)
    (both_pass (Some (field Index n ∷ [])) (Some (field Turn t ∷ [])) (number_pass Index n (whole (pos p.node)) h.0) (number_pass Turn t (whole (pos p.turn)) h.1))
place_pass (n ∷ t ∷ s ∷ r ∷ ps) p h = absurd h

node_pass : (n : Node) (ps : List (List ℕ)) → SaysNode n ps → Pass (node_behind (node_head n) ps)
node_pass (nodes.Split j k) [] h = absurd h
node_pass (nodes.Split j k) (c ∷ []) h = absurd h
node_pass (nodes.Split j k) (c ∷ b ∷ []) h = both_pass (Some (field Index c ∷ [])) (Some (field Whole b ∷ [])) (number_pass Index c (whole (pos j)) h.0) (number_pass Whole b (whole k) h.1)
node_pass (nodes.Split j k) (c ∷ b ∷ d ∷ ps) h = absurd h
node_pass (nodes.Zero j) ps h = one_pass ps j h
node_pass (nodes.Clash c) ps h = one_pass ps c h
node_pass (nodes.Farkas ms) ps h = mults_pass ps ms h
node_pass (nodes.Bound ms) ps h = mults_pass ps ms h
node_pass (nodes.Grid g ms) [] h = absurd h
node_pass (nodes.Grid g ms) (s ∷ ps) h = both_pass (Some (field Exact s ∷ [])) (mults_fields ps) (number_pass Exact s (ratio g) h.0) (mults_pass ps ms h.1)
node_pass (nodes.FarkasRows ms) ps h = mults_pass ps ms h
node_pass (nodes.BoundRows ms) ps h = mults_pass ps ms h
node_pass (nodes.GridRows g ms) [] h = absurd h
node_pass (nodes.GridRows g ms) (s ∷ ps) h = both_pass (Some (field Exact s ∷ [])) (mults_fields ps) (number_pass Exact s (ratio g) h.0) (mults_pass ps ms h.1)

tree_pass : (i : TreeItem) (ps : List (List ℕ)) → SaysTree i ps → Pass (node_behind (tree_head i) ps)
tree_pass (trees.Node n) ps h = node_pass n ps h
tree_pass (trees.Level l) ps h = one_pass ps l h

round_pass : (r : Round) (ps : List (List ℕ)) → SaysRound r ps → Pass (round_behind (round_head r) ps)
round_pass (rounds.Whole ms) ps h = mults_pass ps ms h
round_pass (rounds.OfRows ms) ps h = mults_pass ps ms h

none_pass : (ps : List (List ℕ)) → ps ≡ [] → Pass (no_field ps)
none_pass ps none = subst (λ (l : List (List ℕ)). Pass (no_field l)) (sym none) (tt, tt)

cause_pass : (c : why.Cause) (ps : List (List ℕ)) → SaysCause c ps → Pass (cause_behind (cause_head c) ps)
cause_pass causes.Killed ps h = none_pass ps h
cause_pass (causes.NodeLimit n) ps h = one_pass ps n h
cause_pass (causes.TurnLimit n) ps h = one_pass ps n h
cause_pass causes.Gap ps h = none_pass ps h
cause_pass (causes.TimeLimit x) ps h = fraction_pass ps x h
cause_pass (causes.Wide p) ps h = place_pass ps p h
cause_pass causes.Length ps h = none_pass ps h
cause_pass causes.Memory ps h = none_pass ps h

-- an item that was added is one
pub added_readable : (p : Part) (said : List ℕ) (h k : Held) → AddsItem p said h k → Pass (item_fields p said)
added_readable Point said h k a = number_pass Exact said (ratio a.0) a.1
added_readable Value said h k a = number_pass Exact said (ratio a.0) a.1
added_readable Ray said h k a = number_pass Exact said (ratio a.0) a.1
added_readable Bound said h k a = number_pass Exact said (ratio a.0) a.1
added_readable Rounds said h k a = begun_pass round_word all_round_words round_behind round_head SaysRound each_round_word round_pass (pieces said) a.0 a.1
added_readable Tree said h k a = begun_pass node_word all_node_words node_behind tree_head SaysTree each_node_word tree_pass (pieces said) a.0 a.1
added_readable Cause said h k a = begun_pass cause_word all_cause_words cause_behind cause_head SaysCause each_cause_word cause_pass (pieces said) a.0 a.1

-- an item that was added was read
pub added_read : (o : Option (List Field)) (k : Held) (P : Held → Type 0) → Pass o → P k → ReadsTexts o (Ok k) P
added_read None k P pass is = absurd pass
added_read (Some fs) k P pass is = (pass.0, pass.1, is)

-- what was read of its text is read of the item, where it begins no level out of order
pub reads_held : {X : Type 0} (o : Option (List Field)) (r : Result X Misread) (k : Held) (P : X → Type 0) (Q : Held → Type 0) → ((x : X) → P x → Q k) → ReadsTexts o r P → ReadsTexts o (as_held k r) Q
reads_held None r k P Q says h = ap (as_held k) h
reads_held (Some fs) (Ok x) k P Q says h = (h.0, h.1, says x h.2)
reads_held (Some fs) (Err NoShape) k P Q says h = h
reads_held (Some fs) (Err NoNumber) k P Q says h = h
reads_held (Some fs) (Err TooGreat) k P Q says h = h

pub item_is_read : {X : Type 0} (p : Part) (said : List ℕ) (h k : Held) (r : Result X Misread) (P : X → Type 0) → (IsOutOfOrder (next_level h) p said → ⊥) → ((x : X) → P x → AddsItem p said h k) → ReadsTexts (item_fields p said) r P → IsItemRead p said h (as_held k r)
item_is_read p said h k r P order says is = inr (order, reads_held (item_fields p said) r k P (λ (g : Held). AddsItem p said h g) says is)

-- one that was read, or not
pub item_made : {X : Type 0} (p : Part) (said : List ℕ) (h k : Held) (x : X) (P : X → Type 0) → (IsOutOfOrder (next_level h) p said → ⊥) → (P x → AddsItem p said h k) → ReadsTexts (item_fields p said) (Ok x) P → IsItemRead p said h (Ok k)
item_made p said h k x P order says reads = inr (order, reads_made (item_fields p said) (Ok x) x k P (λ (g : Held). AddsItem p said h g) refl says reads)

pub item_unmade : {X : Type 0} (p : Part) (said : List ℕ) (h : Held) (u : Misread) (P : X → Type 0) → (IsOutOfOrder (next_level h) p said → ⊥) → ReadsTexts (item_fields p said) (Err u) P → IsItemRead p said h (Err u)
item_unmade p said h u P order reads = inr (order, still_unread (item_fields p said) u P (λ (g : Held). AddsItem p said h g) reads)

-- an item of a tree that was tested for the level that comes next
pub in_order : (h : Held) (n : ℕ) (said : List ℕ) (b : Bool) → n ≡ length h.levels → (IsTrue b ↔ IsLevelBut (n + 2) (pieces said)) → b ≡ false → IsOutOfOrder (next_level h) Tree said → ⊥
in_order h n said b is tests not out = refused b (IsLevelBut (n + 2) (pieces said)) tests not (subst (λ (m : ℕ). IsLevelBut (m + 2) (pieces said)) (sym is) out)

-- a number that was read and added, or not
number_added : {X E : Type 0} (r : Result (Result X Misread) E) (p q : Part) (said : List ℕ) (old new : List Frac) (h k : Held) → p ≡ q → (IsOutOfOrder (next_level h) q said → ⊥) → item_fields q said ≡ Some (field Exact said ∷ []) → ((y : Frac) → IsFraction said y → new ≡ old ++ y ∷ [] → AddsItem q said h k) → ReadsNumber said old new r → ReadsItem p said h k r
number_added {X} r p q said old new h k at order are adds reads =
    subst (λ (t : Part). ReadsItem t said h k r) (sym at)
    (IfOk-weaker r _ _ (λ (x : Result X Misread) is. item_is_read q said h k x _ order (λ y n. adds n.0 n.1 n.2) (subst (λ (o : Option (List Field)). ReadsTexts o x (λ y. (n : Frac) × IsFraction said n × (new ≡ old ++ n ∷ []))) (sym are) is)) reads)

pub point_added : {X E : Type 0} (r : Result (Result X Misread) E) (p : Part) (said : List ℕ) (h : Held) (new : List Frac) → p ≡ Point → ReadsNumber said h.point new r → ReadsItem p said h (record h { point = new }) r
point_added r p said h new at = number_added r p Point said h.point new h (record h { point = new }) at (λ none. none) refl (λ y n is. (y, n, ap (λ (l : List Frac). let z : Held = record h { point = l } in z) is))

pub value_added : {X E : Type 0} (r : Result (Result X Misread) E) (p : Part) (said : List ℕ) (h : Held) (new : List Frac) → p ≡ Value → ReadsNumber said h.values new r → ReadsItem p said h (record h { values = new }) r
value_added r p said h new at = number_added r p Value said h.values new h (record h { values = new }) at (λ none. none) refl (λ y n is. (y, n, ap (λ (l : List Frac). let z : Held = record h { values = l } in z) is))

pub ray_added : {X E : Type 0} (r : Result (Result X Misread) E) (p : Part) (said : List ℕ) (h : Held) (new : List Frac) → p ≡ Ray → ReadsNumber said h.ray new r → ReadsItem p said h (record h { ray = new }) r
ray_added r p said h new at = number_added r p Ray said h.ray new h (record h { ray = new }) at (λ none. none) refl (λ y n is. (y, n, ap (λ (l : List Frac). let z : Held = record h { ray = l } in z) is))

pub bound_added : {X E : Type 0} (r : Result (Result X Misread) E) (p : Part) (said : List ℕ) (h : Held) (new : List Frac) → p ≡ Bound → ReadsNumber said h.bounds new r → ReadsItem p said h (record h { bounds = new }) r
bound_added r p said h new at = number_added r p Bound said h.bounds new h (record h { bounds = new }) at (λ none. none) refl (λ y n is. (y, n, ap (λ (l : List Frac). let z : Held = record h { bounds = l } in z) is))
