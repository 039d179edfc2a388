-- What is written one thing after another.
use Rattle.osil_grammar.proofs.Words.{◌≡◌, ◌∙◌, ℕ, ◌+◌, ◌<◌, ◌≤◌, Bool, true, false, List, [], ◌∷◌, ◌++◌, length, take, drop, get_or, ap, sym, subst, append-nil, All, drop_more, drop_all, take_all, All-more, Attribute, Nodes, none, element, Event, Close, nodes_events, opening, LacksDecimal, Wrote}
use Rattle.osil_grammar.specs.declared.fault.EncodeFault.{EncodeFault}
use Rattle.osil_grammar.specs.declared.fault.EncodeFault.TheVariants.{NotDecimal, Long, Memory}
use Rattle.tree_grammar.specs.WrittenText.{written_events}
use Rattle.tree_writing.specs.Awaiting.{IsFront, IsInTag, Awaits, AwaitsInTag, WritesEvent, BeginsTag, AddsAttributes}
use Rattle.tree_writing.specs.declared.text_writer.TextWriter.{TextWriter}

-- a number that has no decimal is one of those that would need one
pub none_of : (P Q : Type 0) (e : EncodeFault) → (Q → P) → LacksDecimal P e → LacksDecimal Q e
none_of P Q NotDecimal needs has_none = λ q. has_none (needs q)
none_of P Q Long needs has_none = has_none
none_of P Q Memory needs has_none = tt

-- A START TAG
-- without more attributes what comes next are events
tag_over : (passed is_open : Bool) (kept text : List ℕ) (events : List Event) → IsInTag passed is_open → IsFront passed kept (written_events true events) text → IsFront passed kept (written_events is_open events) text
tag_over true is_open kept text events in_tag front = front
tag_over false is_open kept text events in_tag front = (front.0 ∙ ap (λ (o : Bool). kept ++ written_events o events) (sym in_tag), front.1)

pub begun : (a b : TextWriter) (name : List ℕ) → BeginsTag a b name → Wrote a b (opening name [])
begun a b name begins behind text awaits =
    let inside : AwaitsInTag b [] behind text = begins [] behind text awaits in
    tag_over b.passed b.is_open b.out.text text behind inside.0 inside.1

-- with these attributes
pub begun_with : (a b c : TextWriter) (name : List ℕ) (attributes : List Attribute) → BeginsTag a b name → AddsAttributes b c attributes → Wrote a c (opening name attributes)
begun_with a b c name attributes begins adds behind text awaits =
    let last : AwaitsInTag b (attributes ++ []) behind text = subst (λ (l : List Attribute). AwaitsInTag b l behind text) (sym (append-nil attributes)) (begins attributes behind text awaits) in
    let inside : AwaitsInTag c [] behind text = adds [] behind text last in
    tag_over c.passed c.is_open c.out.text text behind inside.0 inside.1

-- an attribute before others
pub adds_one : (a b c : TextWriter) (x : Attribute) (more : List Attribute) → AddsAttributes a b (x ∷ []) → AddsAttributes b c more → AddsAttributes a c (x ∷ more)
adds_one a b c x more first second attributes events text awaits = second attributes events text (first (more ++ attributes) events text awaits)

-- AN ELEMENT: its start tag, what stands in it, and its end
pub wrote_around : (a b c d : TextWriter) (name : List ℕ) (attributes : List Attribute) (inner : Nodes) → Wrote a b (opening name attributes) → Wrote b c (nodes_events inner) → WritesEvent c d (Close name) → Wrote a d (nodes_events (element name attributes inner none))
wrote_around a b c d name attributes inner begins inside ends behind text awaits =
    ends behind text (inside (Close name ∷ behind) text (begins (nodes_events inner (Close name ∷ behind)) text awaits))

-- A LIST
-- what is still to be written of it, and what that makes of the whole list
pub record Completes {X : Type 0} (W : ℕ → List X → Nodes → Type 0) (start w : TextWriter) (all : List X) (rest : Nodes) : Type 0 where
  pub nodes : Nodes
  pub writes : W 0 all nodes
  pub wrote : (behind : List Event) (text : List ℕ) → Awaits start (nodes_events nodes behind) text → Awaits w (nodes_events rest behind) text

-- its first so many elements were written, for which there are decimals, and any nodes of the rest make the whole
pub record ToldFirst {X : Type 0} (P : X → Type 0) (W : ℕ → List X → Nodes → Type 0) (start w : TextWriter) (all : List X) (i : ℕ) : Type 0 where
  pub decimals : All P (take i all)
  pub completes : (rest : Nodes) → W i (drop i all) rest → Completes W start w all rest

-- the nodes of an element and those of the rest
pub record Joins {X : Type 0} (W : ℕ → List X → Nodes → Type 0) (i : ℕ) (x : X) (xs : List X) (first rest : Nodes) : Type 0 where
  pub nodes : Nodes
  pub writes : W i (x ∷ xs) nodes
  pub same : (k : List Event) → nodes_events nodes k ≡ nodes_events first (nodes_events rest k)

-- an element's nodes may stand before those of the rest
abbrev pub CanJoin : {X : Type 0} → (ℕ → List X → Nodes → Type 0) → Type 0
CanJoin {X} W = (i : ℕ) (x : X) (xs : List X) (first rest : Nodes) → W i (x ∷ []) first → W (i + 1) xs rest → Joins W i x xs first rest

-- one more is written
pub one_told : {X : Type 0} (P : X → Type 0) (W : ℕ → List X → Nodes → Type 0) → CanJoin W → (start a b : TextWriter) (all : List X) (i : ℕ) (x : X) → i < length all → x ≡ get_or all i x → ToldFirst P W start a all i → P x → (first : Nodes) → W i (x ∷ []) first → Wrote a b (nodes_events first) → ToldFirst P W start b all (i + 1)
one_told {X} P W joins start a b all i x inside is before here first writes tells = record {
  decimals = All-more P all i x inside before.decimals (subst P is here);
  completes = λ rest more.
      let joined : Joins W i x (drop (i + 1) all) first rest = joins i x (drop (i + 1) all) first rest writes more in
      let next : x ∷ drop (i + 1) all ≡ drop i all = ap (λ (y : X). y ∷ drop (i + 1) all) is ∙ sym (drop_more all i x inside) in
      let whole : W i (drop i all) joined.nodes = subst (λ (l : List X). W i l joined.nodes) next joined.writes in
      let done : Completes W start a all joined.nodes = before.completes joined.nodes whole in
      record {
        nodes = done.nodes;
        writes = done.writes;
        wrote = λ behind text awaits. tells (nodes_events rest behind) text (subst (λ (l : List Event). Awaits a l text) (joined.same behind) (done.wrote behind text awaits));
      };
}

-- all are written
pub all_told : {X : Type 0} (P : X → Type 0) (W : ℕ → List X → Nodes → Type 0) (start b : TextWriter) (all : List X) (i : ℕ) → length all ≤ i → W i [] none → ToldFirst P W start b all i → All P all × (inner : Nodes) × W 0 all inner × Wrote start b (nodes_events inner)
all_told {X} P W start b all i over empty first =
    let done : Completes W start b all none = first.completes none (subst (λ (l : List X). W i l none) (sym (drop_all i all over)) empty) in
    (subst (λ (l : List X). All P l) (take_all i all over) first.decimals, done.nodes, done.writes, done.wrote)

-- one that has no decimal is one of all
pub none_at : {X : Type 0} (P : X → Type 0) (all : List X) (i : ℕ) (x : X) (e : EncodeFault) → i < length all → x ≡ get_or all i x → LacksDecimal (P x) e → LacksDecimal (All P all) e
none_at {X} P all i x e inside is has_none = none_of (P x) (All P all) e (λ (each : All P all). subst P (sym is) (each i x inside)) has_none
