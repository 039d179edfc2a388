-- THE TABLE of process documents (Optimization Services process language): where elements stand, the kinds of marks, the one test, and what a mark leaves.
use Rattle.std.specs.Prelude.{◌≡◌, ℕ, ◌+◌, ◌-◌, ◌<◌, ◌^◌, Bool, true, false, Option, None, Some, List, [], ◌∷◌, codes}
use Rattle.tree_grammar.specs.Elements.{Attribute}
use Rattle.doc_tree.specs.Marks.{Mark}
use Rattle.document_tags.specs.Elements.{value_of}
use Rattle.document_tags.specs.OneChild.{IsOnly}
use Rattle.decimal_text.specs.Count.{IsCount}
use Rattle.tag_tests.specs.declared.places.Led.{Led}
use Rattle.tag_tests.specs.declared.places.Led.TheVariants.{To, OtherRoot, Over}
use Rattle.tag_tests.specs.Places.{child, Kind, begins, text, ends, ends_over}
use Rattle.tag_tests.specs.Contents.{ChildPlaces, root, reads, leads_by, kind_by, keeps_in}
use Rattle.tag_tests.specs.Characters.{heard}
use Rattle.ospl_grammar.specs.declared.process.JobState.{JobState}
use Rattle.ospl_grammar.specs.declared.place.Place.{Place}
use Rattle.ospl_grammar.specs.declared.place.Place.TheVariants.{Outside, Ospl, Header, Request, Data, Statistics, CurrentState, CurrentCount, Total, Jobs, Job, State}
use Rattle.ospl_grammar.specs.declared.parse_state.ParseState.{ParseState}
use Rattle.ospl_grammar.specs.Words.{busy_text, state_text}
use Rattle.ospl_grammar.specs.Parts.{no_parts, with_busy, with_current, with_total, with_list, with_state, with_job, whole}

-- before all marks
abbrev pub start : ParseState
start = record { place = Outside; depth = 0; text = []; parts = no_parts; asked = None; told = None }

-- WHAT MAY STAND IN WHAT: the child elements that are read
abbrev pub content : Place → ChildPlaces Place
content Outside = root (codes "ospl") Ospl
content Ospl = reads (child (codes "processHeader") Header ∷ child (codes "processData") Data ∷ [])
content Header = reads (child (codes "request") Request ∷ [])
content Data = reads (child (codes "statistics") Statistics ∷ [])
content Statistics = reads (child (codes "currentState") CurrentState ∷ child (codes "currentJobCount") CurrentCount ∷ child (codes "totalJobsSoFar") Total ∷ child (codes "jobs") Jobs ∷ [])
content Jobs = reads (child (codes "job") Job ∷ [])
content Job = reads (child (codes "state") State ∷ [])
content Request = reads []
content CurrentState = reads []
content CurrentCount = reads []
content Total = reads []
content State = reads []

-- where an end tag leads
abbrev pub around : Place → Place
around Outside = Outside
around Ospl = Outside
around Header = Ospl
around Data = Ospl
around Request = Header
around Statistics = Data
around CurrentState = Statistics
around CurrentCount = Statistics
around Total = Statistics
around Jobs = Statistics
around Job = Jobs
around State = Job

-- the kind of a mark
abbrev pub kind : ParseState → Mark → Kind Place
kind s m = kind_by (λ p name as'. leads_by content p name) s.depth s.place m

-- THE TEST: a root of another name
pub data Test : Type 0 where
  other_root : Test

abbrev pub tests : Kind Place → List Test
tests (begins OtherRoot as') = other_root ∷ []
tests k = []

-- what a request asks: its attribute, the empty text where it has none
abbrev pub text_or_none : Option (List ℕ) → List ℕ
text_or_none None = []
text_or_none (Some t) = t

abbrev pub action : List Attribute → List ℕ
action as' = text_or_none (value_of (codes "action") as')

-- what there is already stays
abbrev pub first : {X : Type 0} → Option X → Option X → Option X
first {X} None o = o
first {X} (Some x) o = Some x

abbrev pub into : ParseState → Place → ParseState
into s p = record s { place = p }

-- WHAT A START TAG LEAVES that leads there
abbrev pub Begins : ParseState → List Attribute → Led Place → ParseState → Type 0
Begins s as' (To Request) z = z ≡ record (into s Request) { asked = first s.asked (Some (action as')) }
Begins s as' (To Jobs) z = z ≡ record (into s Jobs) { parts = with_list s.parts }
Begins s as' (To Job) z = z ≡ record (into s Job) { parts = record s.parts { id = value_of (codes "jobID") as' } }
Begins s as' (To p) z = z ≡ into s p
Begins s as' OtherRoot z = ⊥
Begins s as' Over z = z ≡ record s { depth = s.depth + 1 }

-- the characters that stand in these elements themselves are kept to their ends
abbrev pub is_text : Place → Bool
is_text CurrentState = true
is_text CurrentCount = true
is_text Total = true
is_text State = true
is_text p = false

abbrev pub past : ParseState → Place → ParseState
past s p = record s { place = around p; text = [] }

-- WHAT THE END TAG OF SUCH AN ELEMENT LEAVES: what its text says is added, a job, and the first statistics that are whole
abbrev pub Ends : ParseState → Place → ParseState → Type 0
Ends s CurrentState z = (o : Option Bool) × IsOnly (λ b. s.text ≡ busy_text b) o × (z ≡ record (past s CurrentState) { parts = with_busy s.parts o })
Ends s CurrentCount z = (o : Option ℕ) × IsOnly (λ n. IsCount s.text n × (n < 2 ^ 32)) o × (z ≡ record (past s CurrentCount) { parts = with_current s.parts o })
Ends s Total z = (o : Option ℕ) × IsOnly (λ n. IsCount s.text n) o × (z ≡ record (past s Total) { parts = with_total s.parts o })
Ends s State z = (o : Option JobState) × IsOnly (λ j. s.text ≡ state_text j) o × (z ≡ record (past s State) { parts = with_state s.parts o })
Ends s Job z = z ≡ record (into s Jobs) { parts = with_job s.parts }
Ends s Statistics z = z ≡ record (into s Data) { parts = no_parts; told = first s.told (whole s.parts) }
Ends s p z = z ≡ into s (around p)

-- WHAT A MARK OF A KIND LEAVES
abbrev pub Leaves : ParseState → Kind Place → ParseState → Type 0
Leaves s (begins l as') z = Begins s as' l z
Leaves s (text c) z = z ≡ record s { text = heard (keeps_in is_text s.depth s.place) s.text c }
Leaves s (ends p) z = Ends s p z
Leaves s ends_over z = z ≡ record s { depth = s.depth - 1 }
