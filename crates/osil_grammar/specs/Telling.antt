-- What is written of an instance, whatever comes behind it, and why an instance isn't written.
use Rattle.std.specs.Prelude.{◌≡◌, ℕ, Result, MatchResult, List, [], codes}
use Rattle.tree_grammar.specs.Elements.{Attribute, Nodes, Element, Event, events, nodes_events}
use Rattle.tree_writing.specs.Awaiting.{Awaits}
use Rattle.tree_writing.specs.declared.text_writer.TextWriter.{TextWriter}
use Rattle.fraction.specs.declared.ends.End.{End}
use Rattle.instance.specs.Parts.{Parts}
use Rattle.osil_grammar.specs.declared.fault.EncodeFault.{EncodeFault}
use Rattle.osil_grammar.specs.declared.fault.EncodeFault.TheVariants.{NotDecimal, Long, Memory}
use Rattle.document_tags.specs.Writing.{with_attribute}
use Rattle.osil_grammar.specs.Saying.{IsEndText}
use Rattle.osil_grammar.specs.Writing.{EndHasText, HasDecimals, IsTooLong}

-- a number has no decimal; or there was no memory
abbrev pub LacksDecimal : Type 0 → EncodeFault → Type 0
LacksDecimal P NotDecimal = P → ⊥
LacksDecimal P Long = ⊥
LacksDecimal P Memory = Unit {0}

-- these events were written before others, whatever these are
abbrev pub Wrote : (old new : TextWriter) → (List Event → List Event) → Type 0
Wrote old new more = (behind : List Event) (text : List ℕ) → Awaits old (more behind) text → Awaits new behind text

-- a whole element was written, and nothing is to come
abbrev pub WroteRoot : (old new : TextWriter) → Element → Type 0
WroteRoot old new root = (text : List ℕ) → Awaits old (events root) text → Awaits new [] text

-- these nodes were written, for which there are decimals; or there are none
abbrev pub WritesNodes : {X : Type 0} → Result X EncodeFault → TextWriter → TextWriter → Type 0 → (Nodes → Type 0) → Type 0
WritesNodes result old new P Q = MatchResult result (λ x. P × (nodes : Nodes) × Q nodes × Wrote old new (nodes_events nodes)) (LacksDecimal P)

-- the ends have texts
abbrev pub EndsHaveTexts : End → End → Type 0
EndsHaveTexts lb ub = EndHasText lb × EndHasText ub

-- two ends as attributes
abbrev pub EndAttributes : End → End → List Attribute → Type 0
EndAttributes lb ub attributes = (low : List ℕ) × (high : List ℕ) × IsEndText lb low × IsEndText ub high × (attributes ≡ with_attribute (codes "lb") low (with_attribute (codes "ub") high []))

-- why an instance has no text: a number without a decimal, or a text that is too long
abbrev pub EncodeFails : Parts → EncodeFault → Type 0
EncodeFails p NotDecimal = HasDecimals p → ⊥
EncodeFails p Long = HasDecimals p × IsTooLong p
EncodeFails p Memory = Unit {0}
