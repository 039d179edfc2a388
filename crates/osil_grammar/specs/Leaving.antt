-- What a mark of an OSiL document leaves where all its tests pass.
use Rattle.std.specs.Prelude.{◌≡◌, ◌⊎◌, ℕ, ◌+◌, ◌-◌, ◌<◌, ◌≤◌, ℤ, pos, Bool, true, false, ◌||◌, Option, List, [], ◌++◌, map, length, get_or, replicate, set, codes}
use Rattle.tree_grammar.specs.Elements.{Attribute}
use Rattle.doc_tree.specs.Marks.{Mark, Char}
use Rattle.document_tags.specs.Faults.{told_name}
use Rattle.tag_tests.specs.Characters.{heard}
use Rattle.rational.specs.Ratio.{IsSame, sum}
use Rattle.evidence.specs.Sums as evidence
use Rattle.fraction.specs.Frac.{ratio, ratios}
use Rattle.fraction.specs.declared.frac.Frac.{Frac}
use Rattle.fraction.specs.declared.ends.Entry.{Entry}
use Rattle.decimal_text.specs.Whole.{IsWholeText}
use Rattle.decimal_text.specs.Decimal.{IsDecimal}
use Rattle.instance.specs.declared.parts.Var.{Var as Variable}
use Rattle.instance.specs.declared.parts.Row.{Row}
use Rattle.instance.specs.declared.parts.Goal.{Goal}
use Rattle.instance.specs.declared.parts.Sense.{Sense}
use Rattle.osil_grammar.specs.declared.elements.Part.{Part}
use Rattle.osil_grammar.specs.declared.elements.Part.TheVariants.{Variables, Coefficients}
use Rattle.osil_grammar.specs.declared.elements.Listing.{Listing}
use Rattle.osil_grammar.specs.declared.elements.Listing.TheVariants.{Starts, RowIndices, ColumnIndices, Values}
use Rattle.osil_grammar.specs.declared.elements.Place.{Place}
use Rattle.osil_grammar.specs.declared.elements.Place.TheVariants.{Outside, Osil, Passed, Data, Further, Var, Obj, Coef, Con, Listed, El}
use Rattle.osil_grammar.specs.declared.elements.Place.TheVariants as places
use Rattle.osil_grammar.specs.declared.elements.Led.TheVariants.{To}
use Rattle.osil_grammar.specs.Runs.{whole_run, ratio_run, AreSame}
use Rattle.osil_grammar.specs.Matrix.{stored}
use Rattle.osil_grammar.specs.Meaning.{AreEntriesOf}
use Rattle.osil_grammar.specs.Grammars.{SaysCount, nought}
use Rattle.osil_grammar.specs.Saying.{SaysTimes, SaysConstant, SaysStep, SaysWholeStep, SaysRow, SaysSense, SaysIndex}
use Rattle.osil_grammar.specs.VarTags.{SaysVar}
use Rattle.osil_grammar.specs.ParseState.{State}
use Rattle.osil_grammar.specs.Table.{Kind, begins, text, ends, attributes, mark_name, part_row, list_rank, count_name, around}
use Rattle.osil_grammar.specs.Failing.{lists_so_far}

-- a start tag is gone past, into this element; an end tag out of it
abbrev pub into : State → Place → State
into s p = record s { place = p; count = s.count + 1 }

abbrev pub out_of : State → Place → State
out_of s p = record s { place = around p }

abbrev pub is_variables : Part → Bool
is_variables Variables = true
is_variables part = false

-- a list of the matrix begins empty, and the index list says which lines are stored
abbrev pub with_list : State → Listing → State
with_list s Starts = record s { starts = [] }
with_list s RowIndices = record s { by_columns = true; indices = [] }
with_list s ColumnIndices = record s { by_columns = false; indices = [] }
with_list s Values = record s { values = [] }

-- what a start tag `el` says of its numbers
abbrev pub SaysRun : Listing → List Attribute → State → State → Type 0
SaysRun Values as' s z = (m : ℕ) × (d : Frac) × SaysTimes as' m × SaysStep as' d × (z ≡ record s { times = m; step = d; text = [] })
SaysRun l as' s z = (m : ℕ) × (d : ℤ) × SaysTimes as' m × SaysWholeStep as' d × (z ≡ record s { times = m; whole_step = d; text = [] })

-- WHAT A START TAG LEAVES that leads there
abbrev pub Begins : State → Mark → Place → State → Type 0
Begins s m Passed z = z ≡ record (into s Passed) { depth = s.depth + 1 }
Begins s m Data z = z ≡ record (into s Data) { data_at = s.count + 1 }
Begins s m Further z = z ≡ record (into s Further) { part_at = s.count + 1; further = told_name (mark_name m) }
Begins s m (places.Part part) z = (d : Option ℕ) × SaysCount (attributes m) (count_name part) d
    × (z ≡ record (into s (places.Part part)) { part_at = s.count + 1; part = part_row part; has_variables = is_variables part || s.has_variables; declared = d })
Begins s m Var z = (v : Variable) × (n : ℕ) × SaysVar (attributes m) v × SaysTimes (attributes m) n
    × (z ≡ record (into s Var) { vars = s.vars ++ replicate n v })
Begins s m Obj z = (sense : Sense) × (constant : Frac) × (d : Option ℕ) × (n : ℕ) × SaysSense (attributes m) sense × SaysConstant (attributes m) constant × SaysCount (attributes m) (codes "numberOfObjCoef") d × SaysTimes (attributes m) n
    × (z ≡ record (into s Obj) { obj_at = s.count + 1; times = n; coefs = 0; declared_coefs = d; sense = sense; constant = constant; costs = replicate (length s.vars) nought })
Begins s m Coef z = (j : ℕ) × SaysIndex (attributes m) j × (z ≡ record (into s Coef) { coefs = s.coefs + 1; variable = j; text = [] })
Begins s m Con z = (r : Row) × (n : ℕ) × SaysRow (attributes m) r × SaysTimes (attributes m) n × (z ≡ record (into s Con) { rows = s.rows ++ replicate n r })
Begins s m (Listed l) z = z ≡ record (with_list (into s (Listed l)) l) { list = list_rank l; lists = s.lists + 1 }
Begins s m (El l) z = SaysRun l (attributes m) (into s (El l)) z
Begins s m p z = z ≡ into s p

-- the characters in a `coef` or an `el` are kept
abbrev pub keeps_text : Place → Bool
keeps_text Coef = true
keeps_text (El l) = true
keeps_text p = false

-- one element fewer is open in one that is passed over, or none is
abbrev pub PassesOn : State → State → Type 0
PassesOn s z = ((1 < s.depth) × (z ≡ record s { depth = s.depth - 1 })) ⊎ ((s.depth ≤ 1) × (z ≡ record (out_of s Passed) { depth = 0 }))

-- a list of whole numbers with a run of them behind it
abbrev pub AddsWholes : List ℕ → State → List ℕ → Type 0
AddsWholes old s new = (first : ℤ) × IsWholeText s.text first × (map pos new ≡ map pos old ++ whole_run first s.whole_step s.times)

-- what the end tag of an `el` adds to its list
abbrev pub AddsRun : Listing → State → State → Type 0
AddsRun Starts s z = (new : List ℕ) × AddsWholes s.starts s new × (z ≡ record s { starts = new })
AddsRun Values s z = (first : Frac) × (added : List Frac) × IsDecimal s.text (ratio first) × AreSame (ratios added) (ratio_run (ratio first) (ratio s.step) s.times) × (z ≡ record s { values = s.values ++ added })
AddsRun l s z = (new : List ℕ) × AddsWholes s.indices s new × (z ≡ record s { indices = new })

-- the cost of its variable in the latest `obj` is the sum of those so far and this one
abbrev pub AddsCost : State → State → Type 0
AddsCost s z = (x : Frac) × (y : Frac) × IsDecimal s.text (ratio x) × IsSame (ratio y) (sum (get_or (ratios s.costs) s.variable evidence.none) (ratio x)) × (z ≡ record s { costs = set s.costs s.variable y })

-- the goal of the latest `obj`, and as many such goals behind the others as it stands for
abbrev pub goal_so_far : State → Goal
goal_so_far s = record { sense = s.sense; constant = s.constant; costs = s.costs }

abbrev pub with_goals : State → State
with_goals s = record s { goals = s.goals ++ replicate s.times (goal_so_far s); costs = [] }

-- the entries of the three lists, or none where no list has begun; the lists are done with
abbrev pub IsMatrixOf : State → List Entry → Type 0
IsMatrixOf s es = ((s.lists ≡ 0) × (es ≡ [])) ⊎ ((s.lists ≡ 0 → ⊥) × AreEntriesOf (stored (lists_so_far s)) es)

abbrev pub HasMatrix : State → State → Type 0
HasMatrix s z = (es : List Entry) × IsMatrixOf s es × (z ≡ record s { starts = []; indices = []; values = []; entries = es })

-- WHAT THE END TAG OF SUCH AN ELEMENT LEAVES
abbrev pub Ends : State → Place → State → Type 0
Ends s Passed z = PassesOn s z
Ends s (places.Part Coefficients) z = HasMatrix (out_of s (places.Part Coefficients)) z
Ends s Obj z = z ≡ with_goals (out_of s Obj)
Ends s Coef z = AddsCost (out_of s Coef) z
Ends s (El l) z = AddsRun l (out_of s (El l)) z
Ends s p z = z ≡ out_of s p

-- WHAT A MARK OF A KIND LEAVES
abbrev pub Leaves : State → Mark → Kind → State → Type 0
Leaves s m (begins (To p)) z = Begins s m p z
Leaves s m (begins l) z = ⊥
Leaves s (Char c) text z = z ≡ record s { text = heard (keeps_text s.place) s.text c }
Leaves s m text z = ⊥
Leaves s m (ends p) z = Ends s p z
