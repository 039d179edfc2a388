-- THE TABLE of options documents (Optimization Services option language): where elements stand, the kinds of marks, the tests of each kind, when they fail and how they refuse, and what a mark leaves.
use Rattle.std.specs.Prelude.{◌≡◌, ℕ, ◌+◌, ◌-◌, ◌<◌, Bool, true, false, None, Some, List, [], ◌∷◌, length, codes}
use Rattle.tree_grammar.specs.Elements.{Attribute}
use Rattle.doc_tree.specs.Marks.{Mark}
use Rattle.document_tags.specs.Elements.{unless_empty, value_of}
use Rattle.fraction.specs.declared.frac.Frac.{Frac}
use Rattle.decimal_text.specs.Space.{trimmed}
use Rattle.tag_tests.specs.declared.places.Led.{Led}
use Rattle.tag_tests.specs.declared.places.Led.TheVariants.{To, OtherRoot, Over}
use Rattle.tag_tests.specs.Places.{child, Kind, begins, text, ends, ends_over}
use Rattle.tag_tests.specs.Contents.{ChildPlaces, root, reads, leads_by, kind_by, keeps_in}
use Rattle.tag_tests.specs.Characters.{heard}
use Rattle.osol_grammar.specs.declared.fault.Refusal.{Refusal}
use Rattle.osol_grammar.specs.declared.fault.Refusal.TheVariants.{Root, JobTwice, TimeTwice, BadUnit, BadTime, BadIndex, IndexTwice, BadValue, BadLimit, BadGap, LongJob}
use Rattle.osol_grammar.specs.declared.gaps.Gap.{Gap}
use Rattle.osol_grammar.specs.declared.limit.Limit.{Limit}
use Rattle.osol_grammar.specs.declared.options.Options.{Options}
use Rattle.osol_grammar.specs.declared.place.Place.{Place}
use Rattle.osol_grammar.specs.declared.place.Place.TheVariants.{Outside, Osol, General, JobId, Job, MaxTime, Optimization, Variables, InitialValues, Var, SolverOptions, SolverOption}
use Rattle.osol_grammar.specs.declared.parse_state.ParseState.{ParseState as State}
use Rattle.osol_grammar.specs.declared.parse_state.Refused.{Refused}
use Rattle.osol_grammar.specs.Options.{no_options, with_first, IsOption, IsGapOption, SaysAmount, SaysOption}
use Rattle.osol_grammar.specs.Gaps.{SaysGap}
use Rattle.osol_grammar.specs.FirstValues.{SaysIndex, SaysValue, HasFirst}
use Rattle.osol_grammar.specs.Times.{unit_named, SaysTime}

-- before all marks
abbrev pub start : State
start = record { place = Outside; depth = 0; count = 0; job_at = 0; time_at = 0; unit = 1; text = []; options = no_options }

-- WHAT MAY STAND IN WHAT: the child elements that are read
abbrev pub content : Place → ChildPlaces Place
content Outside = root (codes "osol") Osol
content Osol = reads (child (codes "general") General ∷ child (codes "job") Job ∷ child (codes "optimization") Optimization ∷ [])
content General = reads (child (codes "jobID") JobId ∷ [])
content Job = reads (child (codes "maxTime") MaxTime ∷ [])
content Optimization = reads (child (codes "variables") Variables ∷ child (codes "solverOptions") SolverOptions ∷ [])
content Variables = reads (child (codes "initialVariableValues") InitialValues ∷ [])
content InitialValues = reads (child (codes "var") Var ∷ [])
content SolverOptions = reads (child (codes "solverOption") SolverOption ∷ [])
content JobId = reads []
content MaxTime = reads []
content Var = reads []
content SolverOption = reads []

-- where an end tag leads
abbrev pub around : Place → Place
around Outside = Outside
around Osol = Outside
around General = Osol
around JobId = General
around Job = Osol
around MaxTime = Job
around Optimization = Osol
around Variables = Optimization
around InitialValues = Variables
around Var = InitialValues
around SolverOptions = Optimization
around SolverOption = SolverOptions

-- the kind of a mark
abbrev pub kind : State → Mark → Kind Place
kind s m = kind_by (λ p name as'. leads_by content p name) s.depth s.place m

-- THE TESTS OF EACH KIND, by the refusals that they give
abbrev pub tests : Kind Place → List Refusal
tests (begins OtherRoot as') = Root ∷ []
tests (begins (To JobId) as') = JobTwice ∷ []
tests (begins (To MaxTime) as') = TimeTwice ∷ BadUnit ∷ []
tests (begins (To Var) as') = BadIndex ∷ IndexTwice ∷ BadValue ∷ []
tests (begins (To SolverOption) as') = BadLimit ∷ BadGap ∷ []
tests (ends JobId) = LongJob ∷ []
tests (ends MaxTime) = BadTime ∷ []
tests k = []

abbrev pub attributes : Kind Place → List Attribute
attributes (begins l as') = as'
attributes k = []

-- WHEN EACH TEST FAILS: always; a `jobID` has begun before; a `maxTime` has; its unit isn't one of those that are read; its characters are no time; a first value has no index that a variable may have; another one had it before; it has no value that is a number; an option of a limit has no value that is an amount that the limit may have; one of the gap has no value that is a gap; the job's name, without the white space round it, has more than 256 bytes
abbrev pub Fails : State → Kind Place → Refusal → Type 0
Fails s k Root = Unit {0}
Fails s k JobTwice = 0 < s.job_at
Fails s k TimeTwice = 0 < s.time_at
Fails s k BadUnit = unit_named (value_of (codes "unit") (attributes k)) ≡ None
Fails s k BadTime = (x : Frac) → SaysTime s.unit s.text x → ⊥
Fails s k BadIndex = (n : ℕ) → SaysIndex (attributes k) n → ⊥
Fails s k IndexTwice = (n : ℕ) × SaysIndex (attributes k) n × HasFirst s.options.first n
Fails s k BadValue = (x : Frac) → SaysValue (attributes k) x → ⊥
Fails s k BadLimit = (l : Limit) × IsOption l (attributes k) × ((n : ℕ) → SaysAmount l (attributes k) n → ⊥)
Fails s k BadGap = IsGapOption (attributes k) × ((g : Gap) → SaysGap (attributes k) g → ⊥)
Fails s k LongJob = 256 < length (trimmed s.text)

-- HOW IT REFUSES: with the ordinal of the element whose start tag comes, or that of the `jobID` or the `maxTime` whose end tag comes
abbrev pub ordinal : State → Refusal → ℕ
ordinal s LongJob = s.job_at
ordinal s BadTime = s.time_at
ordinal s r = s.count + 1

abbrev pub told : State → Refusal → Refused
told s r = record { refusal = r; at = ordinal s r }

-- a start tag is gone past, into this element
abbrev pub into : State → Place → State
into s p = record s { place = p; count = s.count + 1 }

-- WHAT A START TAG LEAVES that leads there
abbrev pub Begins : State → List Attribute → Led Place → State → Type 0
Begins s as' (To JobId) z = z ≡ record (into s JobId) { job_at = s.count + 1; text = [] }
Begins s as' (To MaxTime) z = (n : ℕ) × (unit_named (value_of (codes "unit") as') ≡ Some n) × (z ≡ record (into s MaxTime) { time_at = s.count + 1; unit = n; text = [] })
Begins s as' (To Var) z = (n : ℕ) × (x : Frac) × SaysIndex as' n × SaysValue as' x × (z ≡ record (into s Var) { options = with_first s.options n x })
Begins s as' (To SolverOption) z = (o : Options) × SaysOption as' s.options o × (z ≡ record (into s SolverOption) { options = o })
Begins s as' (To p) z = z ≡ into s p
Begins s as' OtherRoot z = ⊥
Begins s as' Over z = z ≡ record s { depth = s.depth + 1; count = s.count + 1 }

-- the characters that stand in a `jobID` or a `maxTime` itself are kept
abbrev pub is_text : Place → Bool
is_text JobId = true
is_text MaxTime = true
is_text p = false

-- what an end tag leaves: that of a `jobID` says the job's name, none where it is empty
abbrev pub left : State → Place → State
left s JobId = record s { place = General; options = record s.options { job = unless_empty (trimmed s.text) } }
left s p = record s { place = around p }

-- and that of a `maxTime` says for how many seconds the job may be searched
abbrev pub Ends : State → Place → State → Type 0
Ends s MaxTime z = (x : Frac) × SaysTime s.unit s.text x × (z ≡ record s { place = Job; options = record s.options { seconds = Some x } })
Ends s p z = z ≡ left s p

-- WHAT A MARK OF A KIND LEAVES where its test passes
abbrev pub Leaves : State → Kind Place → State → Type 0
Leaves s (begins l as') z = Begins s as' l z
Leaves s (text c) z = z ≡ record s { text = heard (keeps_in is_text s.depth s.place) s.text c }
Leaves s (ends p) z = Ends s p z
Leaves s ends_over z = z ≡ record s { depth = s.depth - 1 }
