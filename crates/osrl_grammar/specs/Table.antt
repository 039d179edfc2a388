-- THE TABLE of result documents (Optimization Services result language, in this project's profile): where elements stand that are read, the kind of each mark, the tests of each kind in their order, and how a test refuses.
use Rattle.std.specs.Prelude.{ℕ, Option, None, Some, cond, bytes_eq, List, [], ◌∷◌, codes}
use Rattle.tree_grammar.specs.Elements.{Attribute}
use Rattle.doc_tree.specs.Marks.{Mark}
use Rattle.document_tags.specs.Elements.{value_of}
use Rattle.osrl_grammar.specs.declared.elements.Place.{Place}
use Rattle.osrl_grammar.specs.declared.elements.Place.TheVariants.{Outside, Osrl, General, GeneralStatus, JobId, Message, Job, JobStatus, Optimization, Solution, SolutionStatus, Results, Result, Item}
use Rattle.tag_tests.specs.declared.places.Led.{Led}
use Rattle.tag_tests.specs.declared.places.Led.TheVariants.{To, Over, OtherRoot}
use Rattle.tag_tests.specs.Places.{Child, child, among, Kind, begins, ends}
use Rattle.tag_tests.specs.Contents.{ChildPlaces, root, reads, leads_by, kind_by}
use Rattle.osrl_writing.specs.declared.parts.Part.{Part}
use Rattle.osrl_writing.specs.declared.parts.Part.TheVariants.{Point, Value, Ray, Cause, Bound, Rounds, Tree}
use Rattle.osrl_grammar.specs.declared.parts.BadItem.{BadItem}
use Rattle.osrl_grammar.specs.declared.parts.Misread.{Misread}
use Rattle.osrl_grammar.specs.declared.parts.Misread.TheVariants.{NoShape, NoNumber, TooGreat}
use Rattle.osrl_grammar.specs.declared.fault.OsrlFault.{OsrlFault}
use Rattle.osrl_grammar.specs.declared.fault.OsrlFault.TheVariants as refusals
use Rattle.osrl_writing.specs.Words.{part_name}
use Rattle.osrl_grammar.specs.ParseState.{State}
use Rattle.osrl_grammar.specs.Saying.{bad_item}

-- WHAT IS READ IN WHAT: the child elements of these names
abbrev pub content : Place → ChildPlaces Place
content Outside = root (codes "osrl") Osrl
content Osrl = reads (child (codes "general") General ∷ child (codes "job") Job ∷ child (codes "optimization") Optimization ∷ [])
content General = reads (child (codes "generalStatus") GeneralStatus ∷ child (codes "jobID") JobId ∷ child (codes "message") Message ∷ [])
content Job = reads (child (codes "status") JobStatus ∷ [])
content Optimization = reads (child (codes "solution") Solution ∷ [])
content Solution = reads (child (codes "status") SolutionStatus ∷ child (codes "otherSolutionResults") Results ∷ [])
content (Result p) = reads (child (codes "item") (Item p) ∷ [])
content p = reads []

-- the results that are read, by what their attribute `name` says
abbrev pub parts : List (Child Place)
parts = child (part_name Point) (Result Point) ∷ child (part_name Value) (Result Value) ∷ child (part_name Ray) (Result Ray) ∷ child (part_name Cause) (Result Cause) ∷ child (part_name Bound) (Result Bound) ∷ child (part_name Rounds) (Result Rounds) ∷ child (part_name Tree) (Result Tree) ∷ []

-- where the start tag of an element of this name leads
abbrev pub named_led : Place → List ℕ → Led Place
named_led p name = leads_by content p name

abbrev pub part_led : List ℕ → Led Place
part_led name = among (λ q. To q) name parts Over

abbrev pub named_part_led : Option (List ℕ) → Led Place
named_part_led None = Over
named_part_led (Some name) = part_led name

-- where the start tag of an element in `otherSolutionResults` leads
abbrev pub result_led : List ℕ → List Attribute → Led Place
result_led name as' = cond (bytes_eq name (codes "otherSolutionResult")) (named_part_led (value_of (codes "name") as')) Over

abbrev pub leads : Place → List ℕ → List Attribute → Led Place
leads Results name as' = result_led name as'
leads p name as' = named_led p name

-- where an end tag leads
abbrev pub around : Place → Place
around Outside = Outside
around Osrl = Outside
around General = Osrl
around GeneralStatus = General
around JobId = General
around Message = General
around Job = Osrl
around JobStatus = Job
around Optimization = Osrl
around Solution = Optimization
around SolutionStatus = Solution
around Results = Solution
around (Result p) = Results
around (Item p) = Result p

-- the kind of a mark
abbrev pub kind : State → Mark → Kind Place
kind s m = kind_by leads s.depth s.place m

pub data Test : Type 0 where
  other_root : Test
  unread : Test
  twice : Test
  miscounted : Part → Test
  incomplete : Test

-- THE TESTS OF EACH KIND, in the order in which they refuse. Root, at the start tag of the root. At its end tag, by which the solution's status is known: Item, Number, Wide, for an item that isn't read. Count: a second solution, or a part of one name twice; a cause or a bound has not just one item, a value or a tree none. Then Missing: there is no general status, no job's status of the six, no solution's status of the five, or not each part that its claim has.
abbrev pub tests : Kind Place → List Test
tests (begins OtherRoot as') = other_root ∷ []
tests (ends Osrl) = unread ∷ twice ∷ miscounted Value ∷ miscounted Tree ∷ miscounted Cause ∷ miscounted Bound ∷ incomplete ∷ []
tests k = []

-- the refusal of the n-th item: it isn't of its shape, a text in it is no number, a number is too great
abbrev pub item_refusal : Misread → ℕ → OsrlFault
item_refusal NoShape n = refusals.Item n
item_refusal NoNumber n = refusals.Number n
item_refusal TooGreat n = refusals.Wide n

-- where no item is refused, any
abbrev pub refusal_of : Option BadItem → OsrlFault
refusal_of None = refusals.Item 0
refusal_of (Some b) = item_refusal b.misread b.number

-- HOW A TEST REFUSES
abbrev pub told : State → Test → OsrlFault
told s other_root = refusals.Root
told s unread = refusal_of (bad_item s)
told s twice = refusals.Count
told s (miscounted p) = refusals.Count
told s incomplete = refusals.Missing
