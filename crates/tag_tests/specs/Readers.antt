-- Readers of marks, whatever they are: some marks are taken, or the first that isn't is refused. And one who is told of the marks of a document that comes in pieces.
use Rattle.std.specs.Prelude.{◌≡◌, ℕ, Option, None, Some, Result, Ok, Err, MatchResult, List}
use Rattle.tree_grammar.specs.Elements.{Element, events}
use Rattle.doc_tree.specs.Marks.{Mark, spread}
use Rattle.doc_tree.specs.Feeding.{Feeding, WasHeard}
use Rattle.document_tags.specs.Texts.{document_limit}
use Rattle.tag_tests.specs.declared.marks.Stop.{Stop}
use Rattle.tag_tests.specs.declared.marks.Stop.TheVariants.{Refused, Memory}
use Rattle.tag_tests.specs.declared.decoder.Course.{Course}
use Rattle.tag_tests.specs.declared.decoder.Course.TheVariants.{Going, Stopped, Lost}
use Rattle.tag_tests.specs.Forms.{Form, TakesMark, Refuses}

-- the marks of a document with this root
abbrev pub marks : Element → List Mark
marks root = spread (events root)

-- these marks are taken, or the first that isn't is refused; or there was no memory
abbrev pub Steps : {S R X : Type 0} → (S → List Mark → S → Type 0) → (S → List Mark → R → Type 0) → S → List Mark → S → Result X (Stop R) → Type 0
Steps {S} {R} {X} Took Refuse s ms z (Ok x) = Took s ms z
Steps {S} {R} {X} Took Refuse s ms z (Err (Refused r)) = Refuse s ms r
Steps {S} {R} {X} Took Refuse s ms z (Err Memory) = Unit {0}

-- the same of one mark, by its tests
abbrev pub StepsBy : {S T C R X : Type 0} → Form S T C R → S → T → S → Result X (Stop R) → Type 0
StepsBy {S} {T} {C} {R} {X} F s t z (Ok x) = TakesMark F s t z
StepsBy {S} {T} {C} {R} {X} F s t z (Err (Refused r)) = Refuses F s t r
StepsBy {S} {T} {C} {R} {X} F s t z (Err Memory) = Unit {0}

-- between the two it was told of these marks; who found no memory is told in vain
abbrev pub HearsBy : {S R : Type 0} → (S → List Mark → S → Type 0) → (S → List Mark → R → Type 0) → Course S R → Course S R → List Mark → Type 0
HearsBy {S} {R} Took Refuse (Going s) (Going z) ms = Took s ms z
HearsBy {S} {R} Took Refuse (Going s) (Stopped r) ms = Refuse s ms r
HearsBy {S} {R} Took Refuse (Going s) Lost ms = ⊥
HearsBy {S} {R} Took Refuse (Stopped r) (Going z) ms = ⊥
HearsBy {S} {R} Took Refuse (Stopped r) (Stopped q) ms = q ≡ r
HearsBy {S} {R} Took Refuse (Stopped r) Lost ms = ⊥
HearsBy {S} {R} Took Refuse Lost (Going z) ms = ⊥
HearsBy {S} {R} Took Refuse Lost (Stopped q) ms = ⊥
HearsBy {S} {R} Took Refuse Lost Lost ms = Unit {0}

-- what marks came to was kept
abbrev pub IsKept : {S R X E : Type 0} → Result X (Stop R) → Course S R → Course S R → Result (Unit {0}) E → Type 0
IsKept {S} {R} {X} {E} (Ok x) old new result = (new ≡ old) × (result ≡ Ok tt)
IsKept {S} {R} {X} {E} (Err (Refused r)) old new result = (new ≡ Stopped r) × (result ≡ Ok tt)
IsKept {S} {R} {X} {E} (Err Memory) old new result = (new ≡ Lost) × (result ≡ Ok tt → ⊥)

-- the reader that goes on, if there is one
abbrev pub IsReader : {S R : Type 0} → Course S R → Option S → Type 0
IsReader {S} {R} (Going s) o = o ≡ Some s
IsReader {S} {R} (Stopped r) o = o ≡ None
IsReader {S} {R} Lost o = o ≡ None

-- a decoder: where it stands in the bytes, and what its reader has come to
pub record Decoding (S R : Type 0) : Type 0 where
  pub reading : Feeding
  pub course : Course S R

-- these bytes were fed to a decoder with this reader
abbrev pub WasFed : {S R : Type 0} → (S → List Mark → S → Type 0) → (S → List Mark → R → Type 0) → S → Decoding S R → List ℕ → Type 0
WasFed {S} {R} Took Refuse s d bytes = (d.reading.limit ≡ document_limit) × WasHeard (λ ms. HearsBy Took Refuse (Going s) d.course ms) d.reading bytes

-- what a reader answers of the marks of a document with this root: all are taken, or the first that isn't is refused
abbrev pub Reads : {S R : Type 0} → (S → List Mark → S → Type 0) → (S → List Mark → R → Type 0) → S → Element → Result S R → Type 0
Reads {S} {R} Took Refuse s root result = MatchResult result (λ z. Took s (marks root) z) (λ r. Refuse s (marks root) r)
