-- What each mark of an instance's document leaves, and the names behind all marks.
use Rattle.std.specs.Prelude.{ℕ, zero, suc, ◌+◌, ◌-◌, Bool, true, false, cond, bytes_eq, List, [], ◌∷◌, ◌++◌, codes}
use Rattle.tree_grammar.specs.Elements.{Attribute}
use Rattle.doc_tree.specs.Marks.{Mark, Start, Char, Finish}
use Rattle.document_tags.specs.Elements.{value_of}
use Rattle.mark_folds.specs.Folds.{folded}
use Rattle.osrl_writing.specs.declared.told_names.NameLists.{NameLists}
use Rattle.osrl_writing.specs.Labels.{Labels}
use Rattle.instance_names.specs.declared.parse_state.PartNames.{PartNames}
use Rattle.instance_names.specs.declared.parse_state.PartNames.TheVariants.{Nothing, Plainly, Badly}
use Rattle.instance_names.specs.declared.parse_state.Place.{Place}
use Rattle.instance_names.specs.declared.parse_state.Place.TheVariants.{Outside, InRoot, InData, InVariables, InRows}
use Rattle.instance_names.specs.declared.parse_state.ParseState.{ParseState}
use Rattle.instance_names.specs.Reading.{is_one}

-- a part begins once more
abbrev pub begun : PartNames → PartNames
begun Nothing = Plainly []
begun (Plainly names) = Badly
begun Badly = Badly

-- an item with these attributes begins in it
abbrev pub with_item : List Attribute → PartNames → PartNames
with_item as' Nothing = Nothing
with_item as' (Plainly names) = cond (is_one (value_of (codes "mult") as')) (Plainly (names ++ value_of (codes "name") as' ∷ [])) Badly
with_item as' Badly = Badly

-- the names of its items in the end
abbrev pub labels : PartNames → Labels
labels Nothing = []
labels (Plainly names) = names
labels Badly = []

-- before all marks
abbrev pub start : ParseState
start = record { place = Outside; over = 0; has_data = false; variables = Nothing; rows = Nothing }

-- what a start tag leaves that is passed over
abbrev pub passed : ParseState → ParseState
passed s = record s { over = s.over + 1 }

-- that of data: where there were data before, no part has names
abbrev pub again : Bool → PartNames → PartNames
again had part = cond had Badly part

abbrev pub data_begun : ParseState → ParseState
data_begun s = record { place = InData; over = s.over; has_data = true; variables = again s.has_data s.variables; rows = again s.has_data s.rows }

-- one in the root: all but data are passed over
abbrev pub child_begun : ParseState → List ℕ → ParseState
child_begun s name = cond (bytes_eq name (codes "instanceData")) (data_begun s) (passed s)

-- one in data: all but the two parts are passed over
abbrev pub part_begun : ParseState → List ℕ → ParseState
part_begun s name =
    cond (bytes_eq name (codes "variables"))
    (record s { place = InVariables; variables = begun s.variables })
    (cond (bytes_eq name (codes "constraints")) (record s { place = InRows; rows = begun s.rows }) (passed s))

-- one in a part
abbrev pub item_begun : (item : List ℕ) → List ℕ → List Attribute → PartNames → PartNames
item_begun item name as' part = cond (bytes_eq name item) (with_item as' part) part

-- one in an element that is read
abbrev pub begins_in : Place → ParseState → List ℕ → List Attribute → ParseState
begins_in Outside s name as' = record s { place = InRoot }
begins_in InRoot s name as' = child_begun s name
begins_in InData s name as' = part_begun s name
begins_in InVariables s name as' = passed (record s { variables = item_begun (codes "var") name as' s.variables })
begins_in InRows s name as' = passed (record s { rows = item_begun (codes "con") name as' s.rows })

-- one where so many elements are open that are passed over
abbrev pub begins_over : ℕ → ParseState → List ℕ → List Attribute → ParseState
begins_over zero s name as' = begins_in s.place s name as'
begins_over (suc d) s name as' = passed s

-- what an end tag leaves
abbrev pub around : Place → Place
around Outside = Outside
around InRoot = Outside
around InData = InRoot
around InVariables = InData
around InRows = InData

abbrev pub ends_over : ℕ → ParseState → ParseState
ends_over zero s = record s { place = around s.place }
ends_over (suc d) s = record s { over = s.over - 1 }

-- what marks leave; characters say nothing of names
abbrev pub left_by : ParseState → Mark → ParseState
left_by s (Start name as') = begins_over s.over s name as'
left_by s (Char c) = s
left_by s (Finish name) = ends_over s.over s

abbrev pub left : ParseState → List Mark → ParseState
left s marks = folded left_by s marks

-- the names that were found
abbrev pub found : ParseState → NameLists
found s = record { variables = labels s.variables; rows = labels s.rows }
