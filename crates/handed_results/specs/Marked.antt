-- What each mark of an options document leaves, and what is handed in behind all marks.
use Rattle.std.specs.Prelude.{ℕ, zero, suc, ◌+◌, ◌-◌, Bool, false, cond, bytes_eq, Option, None, Some, List, [], ◌∷◌, ◌++◌, codes}
use Rattle.tree_grammar.specs.Elements.{Attribute}
use Rattle.doc_tree.specs.Marks.{Mark, Start, Char, Finish}
use Rattle.document_tags.specs.Elements.{value_of}
use Rattle.mark_folds.specs.Folds.{folded}
use Rattle.decimal_text.specs.Space.{trimmed}
use Rattle.handed_results.specs.declared.handed.Handed.{Handed}
use Rattle.handed_results.specs.declared.handed.Handed.TheVariants.{Nothing, Once, Twice}
use Rattle.handed_results.specs.declared.parse_state.Place.{Place}
use Rattle.handed_results.specs.declared.parse_state.Place.TheVariants.{Outside, InRoot, InGeneral, InOthers, InResult}
use Rattle.handed_results.specs.declared.parse_state.ParseState.{ParseState}

-- a result begins
abbrev pub begun : Handed → Handed
begun Nothing = Once []
begun (Once text) = Twice
begun Twice = Twice

-- characters of one
abbrev pub with_text : Handed → List ℕ → Handed
with_text Nothing more = Nothing
with_text (Once text) more = Once (text ++ more)
with_text Twice more = Twice

-- without white space round its text
abbrev pub bare : Handed → Handed
bare Nothing = Nothing
bare (Once text) = Once (trimmed text)
bare Twice = Twice

-- before all marks
abbrev pub start : ParseState
start = record { place = Outside; over = 0; handed = Nothing }

-- what a start tag leaves that is passed over
abbrev pub passed : ParseState → ParseState
passed s = record s { over = s.over + 1 }

-- one that leads there where it has the name that is wanted
abbrev pub into_or_over : (wanted : List ℕ) → Place → ParseState → (name : List ℕ) → ParseState
into_or_over wanted p s name = cond (bytes_eq name wanted) (record s { place = p }) (passed s)

-- an `other` of this name holds a result
abbrev pub is_result_name : Option (List ℕ) → Bool
is_result_name None = false
is_result_name (Some name) = bytes_eq name (codes "os_cert.result")

-- one in the further options
abbrev pub other_begun : ParseState → List ℕ → List Attribute → ParseState
other_begun s name as' =
    cond (bytes_eq name (codes "other"))
    (cond (is_result_name (value_of (codes "name") as')) (record s { place = InResult; handed = begun s.handed }) (passed s))
    (passed s)

-- one in an element that is read; the root's name is for the reader of options
abbrev pub begins_in : Place → ParseState → List ℕ → List Attribute → ParseState
begins_in Outside s name as' = record s { place = InRoot }
begins_in InRoot s name as' = into_or_over (codes "general") InGeneral s name
begins_in InGeneral s name as' = into_or_over (codes "otherOptions") InOthers s name
begins_in InOthers s name as' = other_begun s name as'
begins_in InResult s name as' = passed s

-- one where so many elements are open that are passed over
abbrev pub begins_over : ℕ → ParseState → List ℕ → List Attribute → ParseState
begins_over zero s name as' = begins_in s.place s name as'
begins_over (suc d) s name as' = passed s

-- what characters leave: those of a result are kept
abbrev pub heard_in : Place → ParseState → List ℕ → ParseState
heard_in Outside s text = s
heard_in InRoot s text = s
heard_in InGeneral s text = s
heard_in InOthers s text = s
heard_in InResult s text = record s { handed = with_text s.handed text }

abbrev pub heard_over : ℕ → ParseState → List ℕ → ParseState
heard_over zero s text = heard_in s.place s text
heard_over (suc d) s text = s

-- what an end tag leaves
abbrev pub around : Place → Place
around Outside = Outside
around InRoot = Outside
around InGeneral = InRoot
around InOthers = InGeneral
around InResult = InOthers

abbrev pub ends_over : ℕ → ParseState → ParseState
ends_over zero s = record s { place = around s.place }
ends_over (suc d) s = record s { over = s.over - 1 }

-- what marks leave
abbrev pub left_by : ParseState → Mark → ParseState
left_by s (Start name as') = begins_over s.over s name as'
left_by s (Char c) = heard_over s.over s (c ∷ [])
left_by s (Finish name) = ends_over s.over s

abbrev pub left : ParseState → List Mark → ParseState
left s marks = folded left_by s marks
