-- THE TABLE of OSiL documents (Optimization Services instance language, its linear and integer part): where elements stand, the kind of each mark, the tests of each kind in their order, and how a test refuses.
use Rattle.std.specs.Prelude.{ℕ, ◌+◌, List, [], ◌∷◌, ◌++◌, codes}
use Rattle.tree_grammar.specs.Elements.{Attribute}
use Rattle.doc_tree.specs.Marks.{Mark, Start, Char, Finish}
use Rattle.document_tags.specs.Faults.{told_name}
use Rattle.tag_tests.specs.Fields.{field_tests}
use Rattle.tag_tests.specs.Places.{Child, child, among}
use Rattle.osil_grammar.specs.declared.elements.Part.{Part}
use Rattle.osil_grammar.specs.declared.elements.Part.TheVariants.{Variables, Objectives, Constraints, Coefficients}
use Rattle.osil_grammar.specs.declared.elements.Listing.{Listing}
use Rattle.osil_grammar.specs.declared.elements.Listing.TheVariants.{Starts, RowIndices, ColumnIndices, Values}
use Rattle.osil_grammar.specs.declared.elements.Place.{Place}
use Rattle.osil_grammar.specs.declared.elements.Place.TheVariants.{Outside, Osil, Passed, Data, Further, Var, Obj, Coef, Con, Listed, El}
use Rattle.osil_grammar.specs.declared.elements.Place.TheVariants as places
use Rattle.osil_grammar.specs.declared.elements.Led.{Led}
use Rattle.osil_grammar.specs.declared.elements.Led.TheVariants.{To, OtherRoot, InFurther, Beyond}
use Rattle.osil_grammar.specs.Refusals as refusals
use Rattle.osil_grammar.specs.Refusals.{Refusal}
use Rattle.osil_grammar.specs.Grammars.{Grammar, count, whole, decimal, Field, field}
pub use Rattle.osil_grammar.specs.Grammars.{lb, ub, mult}
use Rattle.osil_grammar.specs.VarTags.{var_fields}
use Rattle.osil_grammar.specs.ParseState.{State}

-- WHAT MAY STAND IN WHAT: the child elements that are read
abbrev pub content : Place → List (Child Place)
content Outside = child (codes "osil") Osil ∷ []
content Osil = child (codes "instanceData") Data ∷ []
content Data = child (codes "variables") (places.Part Variables) ∷ child (codes "objectives") (places.Part Objectives) ∷ child (codes "constraints") (places.Part Constraints) ∷ child (codes "linearConstraintCoefficients") (places.Part Coefficients) ∷ []
content (places.Part Variables) = child (codes "var") Var ∷ []
content (places.Part Objectives) = child (codes "obj") Obj ∷ []
content (places.Part Constraints) = child (codes "con") Con ∷ []
content (places.Part Coefficients) = child (codes "start") (Listed Starts) ∷ child (codes "rowIdx") (Listed RowIndices) ∷ child (codes "colIdx") (Listed ColumnIndices) ∷ child (codes "value") (Listed Values) ∷ []
content Obj = child (codes "coef") Coef ∷ []
content (Listed l) = child (codes "el") (El l) ∷ []
content Passed = []
content Further = []
content Var = []
content Coef = []
content Con = []
content (El l) = []

-- and of other names: `osil` passes them over, `instanceData` has further parts, the others have none
abbrev pub otherwise : Place → Led
otherwise Outside = OtherRoot
otherwise Osil = To Passed
otherwise Passed = To Passed
otherwise Data = To Further
otherwise Further = InFurther
otherwise p = Beyond

-- where the start tag of an element of this name leads
abbrev pub leads : Place → List ℕ → Led
leads p name = among (λ q. To q) name (content p) (otherwise p)

-- where an end tag leads, but in an element that is passed over
abbrev pub around : Place → Place
around Outside = Outside
around Osil = Outside
around Passed = Osil
around Data = Osil
around Further = Data
around (places.Part part) = Data
around Var = places.Part Variables
around Obj = places.Part Objectives
around Con = places.Part Constraints
around Coef = Obj
around (Listed l) = places.Part Coefficients
around (El l) = Listed l

-- the kinds of marks: a start tag that leads there, characters, the end tag of such an element
pub data Kind : Type 0 where
  begins : Led → Kind
  text : Kind
  ends : Place → Kind

abbrev pub kind : State → Mark → Kind
kind s (Start name attributes) = begins (leads s.place name)
kind s (Char c) = text
kind s (Finish name) = ends s.place

-- the order of the parts, and of the lists of the matrix
abbrev pub part_row : Part → ℕ
part_row Variables = 1
part_row Objectives = 2
part_row Constraints = 3
part_row Coefficients = 4

abbrev pub list_rank : Listing → ℕ
list_rank Starts = 1
list_rank RowIndices = 2
list_rank ColumnIndices = 2
list_rank Values = 3

-- the attribute in which a part declares how many items it has
abbrev pub count_name : Part → List ℕ
count_name Variables = codes "numberOfVariables"
count_name Objectives = codes "numberOfObjectives"
count_name Constraints = codes "numberOfConstraints"
count_name Coefficients = codes "numberOfValues"

-- the grammar of a list's numbers
abbrev pub list_grammar : Listing → Grammar
list_grammar Values = decimal
list_grammar l = whole

-- THE ATTRIBUTES THAT ARE NUMBERS
abbrev pub fields : Place → List Field
fields (places.Part part) = field (count_name part) count ∷ []
fields Var = var_fields
fields Obj = field (codes "constant") decimal ∷ field (codes "numberOfObjCoef") count ∷ mult ∷ []
fields Coef = field (codes "idx") count ∷ []
fields Con = lb ∷ ub ∷ field (codes "constant") decimal ∷ mult ∷ []
fields (El l) = mult ∷ field (codes "incr") (list_grammar l) ∷ []
fields p = []

pub data Test : Type 0 where
  other_root : Test
  no_data : Test
  no_variables : Test
  some_lists : Test
  beyond : Test
  in_further : Test
  second_data : Test
  late : ℕ → Test
  late_list : ℕ → Test
  no_index : Test
  has : List ℕ → Test
  no_sense : Test
  bad : Field → Test
  bad_text : Grammar → Test
  too_great : Field → Test
  great_text : Grammar → Test
  great_end : List ℕ → Test
  great_run : Test
  great_cost : Test
  great_entry : Test
  other_count : Part → Test
  other_coefs : Test
  other_indices : Test
  no_variable : Test
  out_of_range : Listing → Test
  undivided : Test
  no_type : Test
  low_infinite : Test
  high_infinite : Test
  too_many : Place → Test

-- the tests of the numbers of a start tag
abbrev pub numbers : Place → List Test
numbers p = field_tests bad too_great (fields p)

-- THE TESTS OF EACH KIND, in the order in which they refuse
abbrev pub tests : Kind → List Test
tests (begins OtherRoot) = other_root ∷ []
tests (begins Beyond) = beyond ∷ []
tests (begins InFurther) = in_further ∷ []
tests (begins (To Data)) = second_data ∷ []
tests (begins (To (places.Part part))) = late (part_row part) ∷ numbers (places.Part part)
tests (begins (To Var)) = numbers Var ++ (no_type ∷ low_infinite ∷ high_infinite ∷ too_many Var ∷ [])
tests (begins (To Obj)) = no_sense ∷ (numbers Obj ++ (too_many Obj ∷ []))
tests (begins (To Coef)) = no_index ∷ has (codes "mult") ∷ has (codes "incr") ∷ (numbers Coef ++ (no_variable ∷ []))
tests (begins (To Con)) = numbers Con ++ (great_end (codes "lb") ∷ great_end (codes "ub") ∷ low_infinite ∷ high_infinite ∷ too_many Con ∷ [])
tests (begins (To (Listed l))) = late_list (list_rank l) ∷ []
tests (begins (To (El l))) = numbers (El l) ++ (too_many (El l) ∷ [])
tests (begins (To p)) = []
tests text = []
tests (ends Osil) = no_data ∷ []
tests (ends Data) = no_variables ∷ []
tests (ends (places.Part Coefficients)) = some_lists ∷ great_entry ∷ other_count Coefficients ∷ other_indices ∷ undivided ∷ []
tests (ends (places.Part part)) = other_count part ∷ []
tests (ends Obj) = other_coefs ∷ []
tests (ends Coef) = bad_text decimal ∷ great_text decimal ∷ great_cost ∷ []
tests (ends (El Values)) = bad_text decimal ∷ great_text decimal ∷ great_run ∷ []
tests (ends (El l)) = bad_text whole ∷ great_text whole ∷ out_of_range l ∷ []
tests (ends p) = []

-- the name of the element of a start tag, and its attributes
abbrev pub mark_name : Mark → List ℕ
mark_name (Start name as') = name
mark_name m = []

abbrev pub attributes : Mark → List Attribute
attributes (Start name as') = as'
attributes m = []

-- HOW A TEST REFUSES
abbrev pub refusal : State → Mark → Test → Refusal
refusal s m other_root = refusals.Root
refusal s m no_data = refusals.Missing
refusal s m no_variables = refusals.Missing
refusal s m some_lists = refusals.Missing
refusal s m beyond = refusals.Beyond (told_name (mark_name m))
refusal s m in_further = refusals.Beyond s.further
refusal s m second_data = refusals.Beyond (told_name (mark_name m))
refusal s m (late n) = refusals.Beyond (told_name (mark_name m))
refusal s m (late_list n) = refusals.Beyond (told_name (mark_name m))
refusal s m no_index = refusals.Attribute (codes "idx")
refusal s m (has name) = refusals.Attribute name
refusal s m no_sense = refusals.Attribute (codes "maxOrMin")
refusal s m (bad f) = refusals.Number
refusal s m (bad_text g) = refusals.Number
refusal s m (too_great f) = refusals.Wide
refusal s m (great_text g) = refusals.Wide
refusal s m (great_end name) = refusals.Wide
refusal s m great_run = refusals.Wide
refusal s m great_cost = refusals.Wide
refusal s m great_entry = refusals.Wide
refusal s m (other_count part) = refusals.Count
refusal s m other_coefs = refusals.Count
refusal s m other_indices = refusals.Count
refusal s m no_variable = refusals.Index
refusal s m (out_of_range l) = refusals.Index
refusal s m undivided = refusals.Start
refusal s m no_type = refusals.VarType
refusal s m low_infinite = refusals.Bound
refusal s m high_infinite = refusals.Bound
refusal s m (too_many Obj) = refusals.ManyObjectives
refusal s m (too_many p) = refusals.TooBig

-- the ordinal of the element whose end tag comes: of one without child elements the latest
abbrev pub end_ordinal : State → Place → ℕ
end_ordinal s Osil = 1
end_ordinal s Data = s.data_at
end_ordinal s (places.Part part) = s.part_at
end_ordinal s Obj = s.obj_at
end_ordinal s p = s.count

-- that of the element whose start tag comes; in a further part that of the part
abbrev pub begin_ordinal : State → Led → ℕ
begin_ordinal s InFurther = s.part_at
begin_ordinal s l = s.count + 1

-- the ordinal that is told of a mark of this kind
abbrev pub ordinal : State → Kind → ℕ
ordinal s (begins l) = begin_ordinal s l
ordinal s text = s.count
ordinal s (ends p) = end_ordinal s p

-- a refusal, and the ordinal of its element
pub record ToldRefusal : Type 0 where
  pub refusal : Refusal
  pub at : ℕ

abbrev pub told : State → Mark → Test → ToldRefusal
told s m t = record { refusal = refusal s m t; at = ordinal s (kind s m) }
