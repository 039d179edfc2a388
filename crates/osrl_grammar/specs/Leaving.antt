-- What a mark of a result document leaves where all its tests pass.
use Rattle.std.specs.Prelude.{◌≡◌, ℕ, ◌+◌, ◌-◌, Bool, true, false, ◌||◌, Option, None, Some, List, []}
use Rattle.tree_grammar.specs.Elements.{Attribute}
use Rattle.decimal_text.specs.Space.{trimmed}
use Rattle.osrl_grammar.specs.declared.elements.Place.{Place}
use Rattle.osrl_grammar.specs.declared.elements.Place.TheVariants.{Osrl, GeneralStatus, JobId, Message, JobStatus, Solution, SolutionStatus, Result, Item}
use Rattle.tag_tests.specs.declared.places.Led.TheVariants.{To, Over, OtherRoot}
use Rattle.tag_tests.specs.Places.{Kind, begins, text, ends, ends_over}
use Rattle.tag_tests.specs.Characters.{heard}
use Rattle.tag_tests.specs.Contents.{keeps_in}
use Rattle.osrl_writing.specs.declared.report.Report.{Report}
use Rattle.osrl_grammar.specs.declared.held.Held.{Held}
use Rattle.osrl_writing.specs.declared.parts.Part.{Part}
use Rattle.osrl_writing.specs.declared.parts.Part.TheVariants.{Point, Value, Ray, Cause, Bound, Rounds, Tree}
use Rattle.osrl_grammar.specs.ParseState.{State, start}
use Rattle.osrl_grammar.specs.Saying.{type_of, has, report_of}
use Rattle.osrl_grammar.specs.Adding.{AfterItem}
use Rattle.osrl_grammar.specs.Table.{around}

-- the first text stays
abbrev pub first : Option (List ℕ) → List ℕ → Option (List ℕ)
first None new = Some new
first (Some old) new = Some old

-- a start tag is gone past, into this element
abbrev pub into : State → Place → State
into s p = record s { place = p; text = [] }

-- and an end tag, out of this element
abbrev pub out_of : State → Place → State
out_of s p = record s { place = around p }

-- a part has begun
abbrev pub with_part : Part → Held → Held
with_part Point h = record h { has_point = true }
with_part Value h = record h { has_value = true }
with_part Ray h = record h { has_ray = true }
with_part Cause h = record h { has_cause = true }
with_part Bound h = record h { has_bound = true }
with_part Rounds h = record h { has_rounds = true }
with_part Tree h = record h { has_tree = true }

-- WHAT A START TAG LEAVES that leads there
abbrev pub begun : State → List Attribute → Place → State
begun s as' GeneralStatus = record (into s GeneralStatus) { general = first s.general (type_of as') }
begun s as' SolutionStatus = record (into s SolutionStatus) { claiming = first s.claiming (type_of as') }
begun s as' Solution = record (into s Solution) { twice = s.has_solution || s.twice; has_solution = true }
begun s as' (Result p) = record (into s (Result p)) { twice = has s.held p || s.twice; held = with_part p s.held }
begun s as' (Item p) = record (into s (Item p)) { count = s.count + 1 }
begun s as' p = into s p

-- the characters that stand in these elements themselves are kept
abbrev pub is_text : Place → Bool
is_text JobId = true
is_text Message = true
is_text JobStatus = true
is_text (Item p) = true
is_text p = false

abbrev pub keeps : ℕ → Place → Bool
keeps d p = keeps_in is_text d p

-- WHAT THE END TAG OF SUCH AN ELEMENT LEAVES; behind the root its report alone
abbrev pub Ends : State → Place → State → Type 0
Ends s (Item p) z = AfterItem s.bad (out_of s (Item p)) p z
Ends s Osrl z = (r : Report) × (report_of s ≡ Some r) × (z ≡ record start { report = r })
Ends s JobId z = z ≡ record (out_of s JobId) { job = first s.job (trimmed s.text) }
Ends s Message z = z ≡ record (out_of s Message) { message = first s.message (trimmed s.text) }
Ends s JobStatus z = z ≡ record (out_of s JobStatus) { status = first s.status s.text }
Ends s p z = z ≡ out_of s p

-- WHAT A MARK OF A KIND LEAVES
abbrev pub Leaves : State → Kind Place → State → Type 0
Leaves s (begins (To p) as') z = z ≡ begun s as' p
Leaves s (begins Over as') z = z ≡ record s { depth = s.depth + 1 }
Leaves s (begins OtherRoot as') z = ⊥
Leaves s (text c) z = z ≡ record s { text = heard (keeps s.depth s.place) s.text c }
Leaves s (ends p) z = Ends s p z
Leaves s ends_over z = z ≡ record s { depth = s.depth - 1 }
