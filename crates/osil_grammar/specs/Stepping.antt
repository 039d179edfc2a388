-- What the reader of marks promises: a mark is taken or refused.
use Rattle.std.specs.Prelude.{◌≡◌, ℕ, suc, ◌<◌, Result, Ok, Err, MatchResult, List, set, get_or}
use Rattle.tree_grammar.specs.Elements.{Attribute}
use Rattle.doc_tree.specs.Marks.{Mark, Start, Finish}
use Rattle.rational.specs.Ratio.{IsSame, sum, negative}
use Rattle.evidence.specs.Sums as evidence
use Rattle.rational.specs.Width.{SumFits}
use Rattle.fraction.specs.Frac.{ratio, ratios}
use Rattle.fraction.specs.declared.frac.Frac.{Frac}
use Rattle.fraction.specs.declared.ends.End.{End}
use Rattle.fraction.specs.declared.ends.End.TheVariants.{NegInf, At, Inf}
use Rattle.decimal_text.specs.declared.fault.DecimalFault.{DecimalFault}
use Rattle.decimal_text.specs.declared.fault.DecimalFault.TheVariants.{NotNumber, Wide as TooWide, NotDecimal, Memory as NoMemory}
use Rattle.tag_tests.specs.declared.numbers.Unread.{Unread}
use Rattle.tag_tests.specs.declared.numbers.Unread.TheVariants as unread
use Rattle.tag_tests.specs.declared.marks.Stop as marks
use Rattle.tag_tests.specs.declared.marks.Stop.TheVariants.{Refused, Memory}
use Rattle.tag_tests.specs.Tests.{AllPass, FirstFails}
use Rattle.tag_tests.specs.Forms.{TakesMark, Refuses}
use Rattle.osil_grammar.specs.declared.fault.Refusal as code
use Rattle.osil_grammar.specs.declared.stop.Refused as stop
use Rattle.osil_grammar.specs.declared.elements.Led.{Led}
use Rattle.osil_grammar.specs.declared.elements.Place.{Place}
use Rattle.osil_grammar.specs.Refusals as refusals
use Rattle.osil_grammar.specs.Refusals.{Refusal}
use Rattle.osil_grammar.specs.Reading.{told_refusal}
use Rattle.osil_grammar.specs.Runs.{ratio_run, ratio_at, AreSame}
use Rattle.osil_grammar.specs.ParseState.{State}
use Rattle.osil_grammar.specs.Table.{begins, ends, Test, ToldRefusal, tests, refusal, begin_ordinal, end_ordinal}
use Rattle.osil_grammar.specs.Failing.{Fails}
use Rattle.osil_grammar.specs.Leaving.{Ends, Leaves}
use Rattle.osil_grammar.specs.Marked.{osil}

-- why a number's text isn't read
abbrev pub reason : DecimalFault → Unread
reason (NotNumber at) = unread.NotNumber
reason TooWide = unread.Wide
reason NotDecimal = unread.NotNumber
reason NoMemory = unread.NotNumber

abbrev pub number_or_unread : {X : Type 0} → Result X DecimalFault → Result X Unread
number_or_unread {X} (Ok x) = Ok x
number_or_unread {X} (Err f) = Err (reason f)

-- the refusal for it
abbrev pub unread_refusal : Unread → Refusal
unread_refusal unread.NotNumber = refusals.Number
unread_refusal unread.Wide = refusals.Wide

-- a cost is added at this place, or the sum is too great
abbrev pub AddsUp : {X E : Type 0} → Result X E → List Frac → List Frac → ℕ → Frac → Type 0
AddsUp {X} {E} result old new j x = MatchResult result (λ _. (y : Frac) × (new ≡ set old j y) × IsSame (ratio y) (sum (get_or (ratios old) j evidence.none) (ratio x)) × SumFits (get_or (ratios old) j evidence.none) (ratio x)) (λ _. SumFits (get_or (ratios old) j evidence.none) (ratio x) → ⊥)

-- an end less a constant fits, or doesn't
abbrev pub IsNear : End → Frac → Type 0
IsNear (At x) c = SumFits (ratio x) (negative (ratio c))
IsNear NegInf c = Unit {0}
IsNear Inf c = Unit {0}

abbrev pub IsTooFar : End → Frac → Unread → Type 0
IsTooFar (At x) c u = (u ≡ unread.Wide) × (SumFits (ratio x) (negative (ratio c)) → ⊥)
IsTooFar NegInf c u = ⊥
IsTooFar Inf c u = ⊥

-- the numbers of a run of decimals, each the same number as in the definition; all but the last fit with the step
abbrev pub IsStepRun : Frac → Frac → ℕ → List Frac → Type 0
IsStepRun first step m added = AreSame (ratios added) (ratio_run (ratio first) (ratio step) m) × ((k : ℕ) → suc k < m → SumFits (ratio_at (ratio first) (ratio step) k) (ratio step))

-- a start tag with these attributes answers these tests, whatever it is called, in each state of this sort
abbrev pub AnswersTests : {X : Type 0} → (State → Type 0) → List Attribute → List Test → Result X code.Refusal → (X → Type 0) → Type 0
AnswersTests {X} If as' ts result Says = (s : State) (name : List ℕ) → If s
    → MatchResult result (λ x. AllPass (Fails s (Start name as')) ts × Says x) (λ r. FirstFails (Fails s (Start name as')) (refusal s (Start name as')) ts (told_refusal r))

-- all tests of its kind
abbrev pub AnswersTag : {X : Type 0} → (State → Type 0) → List Attribute → Led → Result X code.Refusal → (X → Type 0) → Type 0
AnswersTag {X} If as' l result Says = AnswersTests If as' (tests (begins l)) result Says

abbrev pub Anything : State → Type 0
Anything s = Unit {0}

-- a refusal of an element, as it is told
abbrev pub told_of : code.Refusal → ℕ → ToldRefusal
told_of r n = record { refusal = told_refusal r; at = n }

-- why a mark isn't taken
abbrev pub Stop : Type 0
Stop = marks.Stop stop.Refused

-- it is that refusal, or there was no memory
abbrev pub IsToldAs : Stop → ToldRefusal → Type 0
IsToldAs (Refused r) t = told_of r.refusal r.at ≡ t
IsToldAs Memory t = Unit {0}

-- a mark is taken, or refused; or there was no memory
abbrev pub StepsAt : {X : Type 0} → State → Mark → State → Result X Stop → Type 0
StepsAt {X} s m z (Ok x) = TakesMark osil s m z
StepsAt {X} s m z (Err (Refused r)) = Refuses osil s m (told_of r.refusal r.at)
StepsAt {X} s m z (Err Memory) = Unit {0}

-- the same of a start tag that leads there, and of an end tag of such an element
abbrev pub BeginsAt : {X : Type 0} → State → List ℕ → List Attribute → Led → State → Result X Stop → Type 0
BeginsAt {X} s name as' l z (Ok x) = AllPass (Fails s (Start name as')) (tests (begins l)) × Leaves s (Start name as') (begins l) z
BeginsAt {X} s name as' l z (Err (Refused r)) = FirstFails {R = ToldRefusal} (Fails s (Start name as')) (λ t. record { refusal = refusal s (Start name as') t; at = begin_ordinal s l }) (tests (begins l)) (told_of r.refusal r.at)
BeginsAt {X} s name as' l z (Err Memory) = Unit {0}

-- the tests of the end tag of such an element were answered: all pass, and it is so
abbrev pub EndAnswers : {X : Type 0} → State → Place → Result X Stop → (X → Type 0) → Type 0
EndAnswers {X} s p (Ok x) Says = (name : List ℕ) → AllPass (Fails s (Finish name)) (tests (ends p)) × Says x
EndAnswers {X} s p (Err (Refused r)) Says = (name : List ℕ) → FirstFails {R = ToldRefusal} (Fails s (Finish name)) (λ t. record { refusal = refusal s (Finish name) t; at = end_ordinal s p }) (tests (ends p)) (told_of r.refusal r.at)
EndAnswers {X} s p (Err Memory) Says = Unit {0}

abbrev pub EndsAt : {X : Type 0} → State → Place → State → Result X Stop → Type 0
EndsAt {X} s p z result = EndAnswers s p result (λ _. Ends s p z)
