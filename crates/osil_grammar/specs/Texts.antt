-- The texts of refusals, as a reply tells them.
use Rattle.std.specs.Prelude.{ℕ, List, [], ◌∷◌, ◌++◌, codes, encode_utf8_all}
use Rattle.bstr.specs.Utf8.{lossy_chars}
use Rattle.document_tags.specs.Faults.{refusal_at}
use Rattle.osil_grammar.specs.Refusals.{Refusal, Root, Missing, Beyond, Attribute, Number, Wide, Count, Index, Start, VarType, Bound, ManyObjectives, TooBig}

-- what the text ends with: the name of an element or an attribute behind a space, where there is one
abbrev pub subject : Refusal → List ℕ
subject (Beyond name) = 32 ∷ name
subject (Attribute name) = 32 ∷ name
subject r = []

-- that name as characters, with U+FFFD for bytes that are none
abbrev pub shown_subject : Refusal → List ℕ
shown_subject (Beyond name) = 32 ∷ encode_utf8_all (lossy_chars name)
shown_subject (Attribute name) = 32 ∷ encode_utf8_all (lossy_chars name)
shown_subject r = []

abbrev pub refusal_name : Refusal → List ℕ
refusal_name Root = codes "Root"
refusal_name Missing = codes "Missing"
refusal_name (Beyond name) = codes "Beyond"
refusal_name (Attribute name) = codes "Attribute"
refusal_name Number = codes "Number"
refusal_name Wide = codes "Wide"
refusal_name Count = codes "Count"
refusal_name Index = codes "Index"
refusal_name Start = codes "Start"
refusal_name VarType = codes "VarType"
refusal_name Bound = codes "Bound"
refusal_name ManyObjectives = codes "ManyObjectives"
refusal_name TooBig = codes "TooBig"

-- the refusal of the element with this ordinal
abbrev pub refusal_text : Refusal → ℕ → List ℕ
refusal_text r n = refusal_at (codes "osil") (refusal_name r) n ++ subject r
