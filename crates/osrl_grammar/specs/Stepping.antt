-- What the reader of marks promises: a mark is taken or refused.
use Rattle.std.specs.Prelude.{◌≡◌, ℕ, true, false, Some, Result, Ok, Err, IfOk, List, [], ◌∷◌, ◌++◌}
use Rattle.std.specs.List.{AllZip}
use Rattle.certificate.specs.declared.lists.Mult.{Mult}
use Rattle.tag_tests.specs.declared.numbers.Unread.{Unread}
use Rattle.tag_tests.specs.Fields.{FieldsRead}
use Rattle.tag_tests.specs.Tests.{AllPass, FirstFails}
use Rattle.tag_tests.specs.declared.marks.Stop.{Stop}
use Rattle.tag_tests.specs.declared.marks.Stop.TheVariants.{Refused, Memory}
use Rattle.fraction.specs.declared.frac.Frac.{Frac}
use Rattle.osrl_grammar.specs.declared.held.Held.{Held}
use Rattle.osrl_grammar.specs.declared.fault.OsrlFault.{OsrlFault}
use Rattle.osrl_grammar.specs.declared.elements.Place.{Place}
use Rattle.osrl_writing.specs.declared.parts.Part.{Part}
use Rattle.osrl_writing.specs.declared.parts.Part.TheVariants.{Value, Tree, Cause, Bound}
use Rattle.osrl_grammar.specs.declared.parts.Misread.{Misread}
use Rattle.osrl_grammar.specs.Numbers.{Exact, Field, IsBad, IsTooGreat}
use Rattle.osrl_grammar.specs.Items.{field, misread_of, wrong_with, ReadsTexts}
use Rattle.osrl_grammar.specs.Values.{IsFraction, IsMult}
use Rattle.osrl_grammar.specs.ParseState.{State}
use Rattle.osrl_grammar.specs.Saying.{has, items}
use Rattle.tag_tests.specs.Places.{ends}
use Rattle.osrl_grammar.specs.Table.{tests, told}
use Rattle.osrl_grammar.specs.Failing.{Fails, MayHoldItems}
use Rattle.osrl_grammar.specs.Adding.{IsItemRead}
use Rattle.osrl_grammar.specs.Leaving.{Ends}

-- a part that has begun has as many items as it may, and so have all, and nothing stands twice
abbrev pub IsCounted : Held → Part → Type 0
IsCounted h p = has h p ≡ true → MayHoldItems p (items h p)

abbrev pub AreCounted : State → Type 0
AreCounted s = (s.twice ≡ false) × IsCounted s.held Value × IsCounted s.held Tree × IsCounted s.held Cause × IsCounted s.held Bound

-- multipliers were read of these pieces, or this is wrong with the texts in them
abbrev pub ReadMults : {X : Type 0} → List (List ℕ) → List Field → List Mult → Result X Unread → Type 0
ReadMults {X} done fs ms r = FieldsRead IsBad IsTooGreat fs r (λ x. AllZip IsMult done ms)

-- a step and multipliers, or what is wrong with them
abbrev pub gridded : Result (List Mult) Misread → Result Frac Unread → Result (Frac × List Mult) Misread
gridded (Err m) step = Err (wrong_with m step)
gridded (Ok ms) (Ok g) = Ok (g, ms)
gridded (Ok ms) (Err u) = Err (misread_of u)

-- a number was read of this text and added to these, or this is wrong with it; the other error is want of memory
abbrev pub ReadsNumber : {X E : Type 0} → List ℕ → List Frac → List Frac → Result (Result X Misread) E → Type 0
ReadsNumber {X} {E} said old new result = IfOk result (λ r. ReadsTexts (Some (field Exact said ∷ [])) r (λ x. (y : Frac) × IsFraction said y × (new ≡ old ++ y ∷ [])))

-- what the parts hold then, where it was read
abbrev pub as_held : {X : Type 0} → Held → Result X Misread → Result Held Misread
as_held {X} k (Ok x) = Ok k
as_held {X} k (Err u) = Err u

-- an item was read of this text and added, or this is wrong with it; the other error is want of memory
abbrev pub ReadsItem : {X E : Type 0} → Part → List ℕ → Held → Held → Result (Result X Misread) E → Type 0
ReadsItem {X} {E} p said h k result = IfOk result (λ r. IsItemRead p said h (as_held k r))

-- the end tag of an element that is read is taken, or refused; or there was no memory
abbrev pub EndsAt : {X : Type 0} → State → Place → State → Result X (Stop OsrlFault) → Type 0
EndsAt {X} s p z (Ok x) = AllPass (Fails s) (tests (ends p)) × Ends s p z
EndsAt {X} s p z (Err Memory) = Unit {0}
EndsAt {X} s p z (Err (Refused f)) = FirstFails {R = OsrlFault} (Fails s) (told s) (tests (ends p)) f
