-- What the reader of OSiL documents holds, how many items, and a decoder that was fed bytes.
use Rattle.std.specs.Prelude.{◌≡◌, ℕ, ◌+◌, ◌<◌, Bool, true, false, List, [], ◌∷◌, length}
use Rattle.doc_tree.specs.Marks.{Mark}
use Rattle.doc_tree.specs.declared.fault.TreeFault.{TreeFault}
use Rattle.doc_tree.specs.declared.fault.TreeFault.TheVariants as tree
use Rattle.tag_tests.specs.declared.decoder.Course.{Course}
use Rattle.tag_tests.specs.declared.decoder.Course.TheVariants.{Going, Stopped, Lost}
use Rattle.tag_tests.specs.Forms.{AreTaken, AreRefused}
use Rattle.tag_tests.specs.Readers as readers
use Rattle.tag_tests.specs.Readers.{Decoding}
use Rattle.fraction.specs.declared.frac.Frac.{Frac}
use Rattle.fraction.specs.declared.ends.Entry.{Entry}
use Rattle.instance.specs.declared.parts.Goal.{Goal}
use Rattle.osil_grammar.specs.declared.fault.OsilFault.{OsilFault}
use Rattle.osil_grammar.specs.declared.fault.OsilFault.TheVariants as faults
use Rattle.osil_grammar.specs.declared.elements.Place.{Place}
use Rattle.osil_grammar.specs.declared.elements.Place.TheVariants as places
use Rattle.osil_grammar.specs.declared.elements.Part.TheVariants as parts
use Rattle.osil_grammar.specs.declared.stop.Refused.{Refused}
use Rattle.osil_grammar.specs.ParseState.{State, start}
use Rattle.osil_grammar.specs.Marked.{osil}
use Rattle.osil_grammar.specs.Stepping.{told_of}
use Rattle.osil_grammar.specs.Sound.{IsSound, HasGoals}

-- how many items goals have: each is one, and has its costs
abbrev pub goals_held : List Goal → ℕ
goals_held [] = 0
goals_held (g ∷ gs) = length g.costs + 1 + goals_held gs

-- how many items are held: the variables, the rows, the goals with their costs, the costs of an `obj` that is open, and the entries and the lists of the matrix
abbrev pub held : State → ℕ
held s = length s.vars + length s.rows + goals_held s.goals + length s.costs + length s.starts + length s.indices + length s.values + length s.entries

abbrev pub numbers : Course State Refused → ℕ
numbers (Going s) = held s
numbers (Stopped r) = 0
numbers Lost = 0

-- the element is the matrix, or stands in it
abbrev pub is_in_matrix : Place → Bool
is_in_matrix (places.Part parts.Coefficients) = true
is_in_matrix (places.Listed l) = true
is_in_matrix (places.El l) = true
is_in_matrix p = false

-- the lists of the matrix stand in it, and its entries behind it, so that only one of the two is held
abbrev pub AreHeldApart : Bool → (part : ℕ) → List Entry → (starts indices : List ℕ) → (values : List Frac) → Type 0
AreHeldApart true part entries starts indices values = (part ≡ 4) × (entries ≡ [])
AreHeldApart false part entries starts indices values = (starts ≡ []) × (indices ≡ []) × (values ≡ []) × (part < 4 → entries ≡ [])

abbrev pub HoldsApart : State → Type 0
HoldsApart s = AreHeldApart (is_in_matrix s.place) s.part s.entries s.starts s.indices s.values

-- the marks so far leave a state that makes an instance as far as it goes
abbrev pub MakesSoFar : State → Type 0
MakesSoFar s = IsSound s × HoldsApart s × HasGoals s

-- the first of these marks that isn't taken is refused so, as the code tells it
abbrev pub Refuse : State → List Mark → Refused → Type 0
Refuse s ms r = AreRefused osil s ms (told_of r.refusal r.at)

-- these bytes were fed
abbrev pub WasFed : Decoding State Refused → List ℕ → Type 0
WasFed d bytes = readers.WasFed (AreTaken osil) Refuse start d bytes

-- a tree's refusal as it is told
abbrev pub tree_fault : TreeFault → OsilFault
tree_fault tree.Memory = faults.Memory
tree_fault f = faults.Tree f
