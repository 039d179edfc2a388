-- What each mark of a call's envelope leaves, and the call that is found behind all marks, or why there is none.
use Rattle.std.specs.Prelude.{ℕ, zero, suc, ◌+◌, ◌-◌, Bool, ◌&&◌, cond, bytes_eq, Option, None, Some, Result, Ok, Err, List, [], ◌∷◌, ◌++◌, codes, find}
use Rattle.doc_tree.specs.Marks.{Mark, Start, Char, Finish}
use Rattle.document_tags.specs.Faults.{told_name}
use Rattle.mark_folds.specs.Folds.{folded}
use Rattle.six_calls.specs.declared.call.CallKind.{CallKind}
use Rattle.six_calls.specs.declared.part.Part as given
use Rattle.six_calls.specs.declared.part.Part.TheVariants.{Osil, Osol, Ospl}
use Rattle.six_calls.specs.Names.{kind_named, part_text, is_needed, has}
use Rattle.soap_calls.specs.declared.call.Parts.{Parts}
use Rattle.soap_calls.specs.declared.call.SoapCall.{SoapCall}
use Rattle.soap_calls.specs.declared.fault.SoapFault.{SoapFault}
use Rattle.soap_calls.specs.declared.fault.SoapFault.TheVariants as faults
use Rattle.soap_calls.specs.declared.parse_state.Told.{Told}
use Rattle.soap_calls.specs.declared.parse_state.Told.TheVariants.{Nothing, Plainly, Badly}
use Rattle.soap_calls.specs.declared.parse_state.PartsTold.{PartsTold}
use Rattle.soap_calls.specs.declared.parse_state.Found.{Found}
use Rattle.soap_calls.specs.declared.parse_state.Found.TheVariants.{NoBody, NoElement, Other, Call, NoEnvelope}
use Rattle.soap_calls.specs.declared.parse_state.Place.{Place}
use Rattle.soap_calls.specs.declared.parse_state.Place.TheVariants.{Outside, InEnvelope, InBody, InElement, InPart}
use Rattle.soap_calls.specs.declared.parse_state.ParseState.{ParseState}

-- a part begins once more
abbrev pub begun : Told → Told
begun Nothing = Plainly []
begun (Plainly text) = Badly
begun Badly = Badly

-- there are these characters in it
abbrev pub longer : List ℕ → Told → Told
longer text Nothing = Nothing
longer text (Plainly before) = Plainly (before ++ text)
longer text Badly = Badly

-- there is an element in it
abbrev pub spoilt : Told → Told
spoilt told = Badly

-- what is told of a part, and of that part alone in another way
abbrev pub told_of : given.Part → PartsTold → Told
told_of Osil t = t.osil
told_of Osol t = t.osol
told_of Ospl t = t.ospl

abbrev pub changed : given.Part → (Told → Told) → PartsTold → PartsTold
changed Osil f t = record { osil = f t.osil; osol = t.osol; ospl = t.ospl }
changed Osol f t = record { osil = t.osil; osol = f t.osol; ospl = t.ospl }
changed Ospl f t = record { osil = t.osil; osol = t.osol; ospl = f t.ospl }

abbrev pub nothing_told : PartsTold
nothing_told = record { osil = Nothing; osol = Nothing; ospl = Nothing }

-- an element of this name is this part of a call
abbrev pub is_part : CallKind → List ℕ → given.Part → Bool
is_part kind name p = has kind p && bytes_eq name (part_text p)

abbrev pub all_parts : List given.Part
all_parts = Osil ∷ Osol ∷ Ospl ∷ []

-- the part that it is, if it is one
abbrev pub part_named : CallKind → List ℕ → Option given.Part
part_named kind name = find (is_part kind name) all_parts

-- what an element in a body is by its name
abbrev pub element_of : List ℕ → Option CallKind → Found
element_of name None = Other (told_name name)
element_of name (Some kind) = Call kind nothing_told

abbrev pub element_named : List ℕ → Found
element_named name = element_of name (kind_named name)

-- a body begins
abbrev pub body_begun : Found → Found
body_begun NoBody = NoElement
body_begun found = NoEnvelope

-- this element begins in a body
abbrev pub element_begun : Found → Found → Found
element_begun e NoElement = e
element_begun e found = NoEnvelope

-- the part that an element of this name is in what was found
abbrev pub part_in : Found → List ℕ → Option given.Part
part_in (Call kind told) name = part_named kind name
part_in found name = None

-- a part of it is told of in another way
abbrev pub with_part : given.Part → (Told → Told) → Found → Found
with_part p f (Call kind told) = Call kind (changed p f told)
with_part p f found = found

-- before all marks
abbrev pub start : ParseState
start = record { place = Outside; over = 0; found = NoBody }

-- what a start tag leaves that is passed over
abbrev pub passed : ParseState → ParseState
passed s = record s { over = s.over + 1 }

-- that of the root: another one than `Envelope` is no envelope
abbrev pub root_begun : ParseState → List ℕ → ParseState
root_begun s name = record { place = InEnvelope; over = s.over; found = cond (bytes_eq name (codes "Envelope")) s.found NoEnvelope }

-- one in the envelope: all but a body are passed over
abbrev pub child_begun : ParseState → List ℕ → ParseState
child_begun s name = cond (bytes_eq name (codes "Body")) (record { place = InBody; over = s.over; found = body_begun s.found }) (passed s)

-- one in a body
abbrev pub held_begun : ParseState → List ℕ → ParseState
held_begun s name = record { place = InElement; over = s.over; found = element_begun (element_named name) s.found }

-- one in the element there: all but the call's parts are passed over
abbrev pub part_begun : ParseState → Option given.Part → ParseState
part_begun s None = passed s
part_begun s (Some p) = record { place = InPart p; over = s.over; found = with_part p begun s.found }

-- one in a part
abbrev pub part_spoilt : ParseState → given.Part → ParseState
part_spoilt s p = passed (record s { found = with_part p spoilt s.found })

-- one in an element that is read
abbrev pub begins_in : Place → ParseState → List ℕ → ParseState
begins_in Outside s name = root_begun s name
begins_in InEnvelope s name = child_begun s name
begins_in InBody s name = held_begun s name
begins_in InElement s name = part_begun s (part_in s.found name)
begins_in (InPart p) s name = part_spoilt s p

-- one where so many elements are open that are passed over
abbrev pub begins_over : ℕ → ParseState → List ℕ → ParseState
begins_over zero s name = begins_in s.place s name
begins_over (suc d) s name = passed s

-- what characters leave: those of a part are kept, where no element is passed over in it
abbrev pub said_in : Place → List ℕ → Found → Found
said_in (InPart p) text found = with_part p (longer text) found
said_in place text found = found

abbrev pub said_over : ℕ → Place → List ℕ → Found → Found
said_over zero place text found = said_in place text found
said_over (suc d) place text found = found

abbrev pub said : ParseState → List ℕ → ParseState
said s text = record s { found = said_over s.over s.place text s.found }

-- what an end tag leaves
abbrev pub around : Place → Place
around Outside = Outside
around InEnvelope = Outside
around InBody = InEnvelope
around InElement = InBody
around (InPart p) = InElement

abbrev pub ends_over : ℕ → ParseState → ParseState
ends_over zero s = record s { place = around s.place }
ends_over (suc d) s = record s { over = s.over - 1 }

-- what marks leave
abbrev pub left_by : ParseState → Mark → ParseState
left_by s (Start name attributes) = begins_over s.over s name
left_by s (Char c) = said s (c ∷ [])
left_by s (Finish name) = ends_over s.over s

abbrev pub left : ParseState → List Mark → ParseState
left s marks = folded left_by s marks

-- a part's text, if it stands as it may: the empty one where it doesn't stand there and isn't needed
abbrev pub text_told : Bool → Told → Option (List ℕ)
text_told is_needed Nothing = cond is_needed None (Some [])
text_told is_needed (Plainly text) = Some text
text_told is_needed Badly = None

abbrev pub part_told : CallKind → given.Part → Told → Option (List ℕ)
part_told kind p told = cond (has kind p) (text_told (is_needed p) told) (Some [])

-- the texts of all parts, or the first part that doesn't stand as it may
abbrev pub parts_of : Option (List ℕ) → Option (List ℕ) → Option (List ℕ) → Result Parts given.Part
parts_of None osol ospl = Err Osil
parts_of (Some osil) None ospl = Err Osol
parts_of (Some osil) (Some osol) None = Err Ospl
parts_of (Some osil) (Some osol) (Some ospl) = Ok (record { osil = osil; osol = osol; ospl = ospl })

abbrev pub parts_told : CallKind → PartsTold → Result Parts given.Part
parts_told kind t = parts_of (part_told kind Osil t.osil) (part_told kind Osol t.osol) (part_told kind Ospl t.ospl)

-- a call of these parts, or why there is none
abbrev pub call_of_parts : CallKind → Result Parts given.Part → Result SoapCall SoapFault
call_of_parts kind (Ok parts) = Ok (record { kind = kind; parts = parts })
call_of_parts kind (Err p) = Err (faults.Part p)

-- the call that was found, or why there is none
abbrev pub call_found : Found → Result SoapCall SoapFault
call_found (Call kind told) = call_of_parts kind (parts_told kind told)
call_found (Other name) = Err (faults.Call name)
call_found NoBody = Err faults.Envelope
call_found NoElement = Err faults.Envelope
call_found NoEnvelope = Err faults.Envelope
