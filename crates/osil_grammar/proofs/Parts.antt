-- The parts of an instance, each written in its steps.
use Rattle.osil_grammar.proofs.Words.{◌≡◌, ℕ, pos, List, [], ◌∷◌, subst, refl, inr, codes, decimal, Attribute, Nodes, none, element, chars, Chars, Close, nodes_events, ratio, Frac, PlainText, Row, Goal, with_attribute, WriteRows, WriteCosts, CountsCosts, WriteGoals, holding_text, sense_text, opening, EndAttributes, Wrote}
use Rattle.tree_writing.specs.Awaiting.{WritesEvent, BeginsTag, AddsAttributes}
use Rattle.tree_writing.specs.declared.text_writer.TextWriter.{TextWriter}
use Rattle.osil_grammar.proofs.Tellings.{begun_with, adds_one, wrote_around}

-- an attribute was written
abbrev pub AddsOne : (a b : TextWriter) (name value : List ℕ) → Type 0
AddsOne a b name value = AddsAttributes a b (with_attribute name value [])

-- these nodes were written, of which this holds
abbrev pub ToldSome : (Nodes → Type 0) → TextWriter → TextWriter → Type 0
ToldSome Q old new = (nodes : Nodes) × Q nodes × Wrote old new (nodes_events nodes)

-- an element without content, by its attributes
pub empty_wrote : (a b c d : TextWriter) (name : List ℕ) (attributes : List Attribute) → BeginsTag a b name → AddsAttributes b c attributes → WritesEvent c d (Close name) → Wrote a d (nodes_events (element name attributes none none))
empty_wrote a b c d name attributes begins adds ends = wrote_around a c c d name attributes none (begun_with a b c name attributes begins adds) (λ behind text awaits. awaits) ends

-- a row, by its ends
pub row_told : (r : Row) (a b c d : TextWriter) (more : List Attribute) → BeginsTag a b (codes "con") → EndAttributes r.lb r.ub more → AddsAttributes b c more → WritesEvent c d (Close (codes "con")) → ToldSome (WriteRows (r ∷ [])) a d
row_told r a b c d more begins ends adds closes =
    let all : List Attribute = with_attribute (codes "lb") ends.0 (with_attribute (codes "ub") ends.1 []) in
    (element (codes "con") all none none, (ends.0, ends.1, none, ends.2, ends.3, refl, refl), empty_wrote a b c d (codes "con") all begins (subst (AddsAttributes b c) ends.4 adds) closes)

-- a cost that isn't 0, by its index and its text
pub cost_told : (j : ℕ) (x : Frac) (a b c d e : TextWriter) (key text : List ℕ) → key ≡ decimal j → (x.numer ≡ pos 0 → ⊥) → PlainText text (ratio x) → BeginsTag a b (codes "coef") → AddsOne b c (codes "idx") key → WritesEvent c d (Chars text) → WritesEvent d e (Close (codes "coef")) → ToldSome (WriteCosts j (x ∷ [])) a e
cost_told j x a b c d e key text is some plain begins index holds closes =
    let all : List Attribute = with_attribute (codes "idx") (decimal j) [] in
    let tag : Wrote a c (opening (codes "coef") all) = begun_with a b c (codes "coef") all begins (subst (AddsOne b c (codes "idx")) is index) in
    (holding_text (codes "coef") all text none, inr (some, text, none, plain, refl, refl), wrote_around a c d e (codes "coef") all (chars text none) tag holds closes)

-- an objective, by its sense, its constant, its count and its costs
pub objective_told : (g : Goal) (a b c d e f h : TextWriter) (sense constant key : List ℕ) (n : ℕ) (costs : Nodes) → sense ≡ sense_text g.sense → PlainText constant (ratio g.constant) → key ≡ decimal n → CountsCosts g.costs n → BeginsTag a b (codes "obj") → AddsOne b c (codes "maxOrMin") sense → AddsOne c d (codes "constant") constant → AddsOne d e (codes "numberOfObjCoef") key → WriteCosts 0 g.costs costs → Wrote e f (nodes_events costs) → WritesEvent f h (Close (codes "obj")) → ToldSome (WriteGoals (g ∷ [])) a h
objective_told g a b c d e f h sense constant key n costs is plain count counts begins first second third writes inside closes =
    let last : List Attribute = with_attribute (codes "numberOfObjCoef") (decimal n) [] in
    let two : List Attribute = with_attribute (codes "constant") constant last in
    let all : List Attribute = with_attribute (codes "maxOrMin") (sense_text g.sense) two in
    let adds_two : AddsAttributes c e two = adds_one c d e (record { name = codes "constant"; value = constant }) last second (subst (AddsOne d e (codes "numberOfObjCoef")) count third) in
    let adds : AddsAttributes b e all = adds_one b c e (record { name = codes "maxOrMin"; value = sense_text g.sense }) two (subst (AddsOne b c (codes "maxOrMin")) is first) adds_two in (
      element (codes "obj") all costs none,
      (none, refl, record { constant = constant; is_constant = plain; count = n; counts = counts; costs = costs; are_costs = writes; says = refl }),
      wrote_around a e f h (codes "obj") all costs (begun_with a b e (codes "obj") all begins adds) inside closes,
    )
