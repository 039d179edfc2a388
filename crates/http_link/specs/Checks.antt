-- What a server asks of a request's head, in the order in which it asks (RFC 9112, sections 2.3, 3, 3.2, 6.1, 6.3 and 9.3; RFC 9110, sections 5.6.1, 7.6.1, 8.6, 9.1, 15.5 and 15.6.2; RFC 6585, section 5).
use Rattle.std.specs.Prelude.{◌≡◌, ℕ, ◌<◌, ◌≤◌, ◌^◌, ◌⊎◌, Bool, ◌&&◌, ◌||◌, not, ◌==◌, nat_lt, List, [], ◌∷◌, length, map, filter, count_by, if◌then◌else◌, codes, take, drop, ◌-◌, Result, Ok, Err, bytes_eq}
use Rattle.std.specs.List.{list_all, list_any, slice_split, prefix_len, suffix_len}
use Rattle.std.specs.Char.{is_ascii_digit, is_ascii_whitespace}
use Rattle.http_link.specs.declared.checks.Accepted.{Accepted}
use Rattle.std.specs.Str.{str_eq_ignore_ascii_case}
use Rattle.std.specs.Str.Parse.{digits_value}
use Rattle.httparse.specs.Grammar.{RequestHead, ReadsRequest}
use Rattle.httparse.specs.Spans.{name_and_value}
use Rattle.http_link.specs.declared.refusal.Refusal.{Refusal}
use Rattle.http_link.specs.declared.refusal.Refusal.TheVariants.{BadRequest, MethodNotAllowed, LengthRequired, ContentTooLarge, HeadTooLarge, NotImplemented}
use Rattle.os_io.specs.Limits.{most_bytes}
use Rattle.http_link.specs.Lines.{HeadLines, AreHeadLines, print_head, HasNoHead}

-- most bytes of a head, the empty lines before it among them
abbrev pub most_head : ℕ
most_head = 16384

-- most lines between the request line and the empty one
abbrev pub most_fields : ℕ
most_fields = 64

-- most bytes of a body
abbrev pub most_body : ℕ
most_body = most_bytes

-- the greatest limit of a body that a length is held against
abbrev pub most_counted : ℕ
most_counted = 2 ^ 32

-- a field has that name, whatever the case
abbrev pub is_named : List ℕ → List ℕ × List ℕ → Bool
is_named name field = str_eq_ignore_ascii_case field.0 name

-- the values of the fields of that name, without the white space round them
abbrev pub field_values : List ℕ → List (List ℕ × List ℕ) → List (List ℕ)
field_values name fields = map (λ field. field.1) (filter (is_named name) fields)

-- Content-Length = 1*DIGIT
abbrev pub is_number : List ℕ → Bool
is_number value = not (length value == 0) && list_all is_ascii_digit value

-- the digits without the zeros at their front
abbrev pub without_zeros : List ℕ → List ℕ
without_zeros [] = []
without_zeros (digit ∷ digits) = if digit == 48 then without_zeros digits else digit ∷ digits

-- the value is a number, and it is that number
abbrev pub writes_number : ℕ → List ℕ → Bool
writes_number n value = is_number value && (digits_value 10 value == n)

-- HTTP/1.1 asks for a Host field, and no version for two
abbrev pub has_bad_host : ℕ → List (List ℕ × List ℕ) → Bool
has_bad_host minor fields =
    let hosts = count_by (is_named (codes "host")) fields in
    nat_lt 1 hosts || ((minor == 1) && (hosts == 0))

-- the length of a body of at most so many bytes, by the values of Content-Length
abbrev pub length_by : ℕ → List (List ℕ) → Result ℕ Refusal
length_by most [] = Err LengthRequired
length_by most (value ∷ values) =
    if list_all (writes_number (digits_value 10 value)) (value ∷ values)
    then (if nat_lt most (digits_value 10 value) then Err ContentTooLarge else Ok (digits_value 10 value))
    else Err BadRequest

-- without the white space round it, which in a head's values is of spaces and tabs alone
abbrev pub trimmed_value : List ℕ → List ℕ
trimmed_value item =
    let behind = drop (prefix_len is_ascii_whitespace item) item in
    take (length behind - suffix_len is_ascii_whitespace behind) behind

-- an item without the white space round it is `close`, whatever the case
abbrev pub is_close : List ℕ → Bool
is_close item = str_eq_ignore_ascii_case (trimmed_value item) (codes "close")

-- a list of items, which commas part, has `close` among them
abbrev pub lists_close : List ℕ → Bool
lists_close value = list_any is_close (slice_split (λ b. b == 44) value)

-- the connection is to close behind the request: HTTP/1.0 asks so, and a Connection field that lists `close`
abbrev pub asks_to_close : ℕ → List (List ℕ × List ℕ) → Bool
asks_to_close minor fields = (minor == 0) || list_any lists_close (field_values (codes "connection") fields)

-- what a head that is accepted says: the body's length, and whether the connection is to close behind it
abbrev pub accepted : ℕ → Bool → Accepted
accepted len close = record { len = len; close = close }

-- the same, where the body's length isn't refused
abbrev pub accepted_if : Result ℕ Refusal → Bool → Result Accepted Refusal
accepted_if (Ok len) close = Ok (accepted len close)
accepted_if (Err refusal) close = Err refusal

-- what is accepted, or the first refusal, of a head with these parts
abbrev pub outcome_of_parts : List ℕ → ℕ → List (List ℕ × List ℕ) → Result Accepted Refusal
outcome_of_parts method minor fields =
    if has_bad_host minor fields then Err BadRequest
    else (if bytes_eq method (codes "POST")
    then (if nat_lt 0 (count_by (is_named (codes "transfer-encoding")) fields) then Err NotImplemented
    else accepted_if (length_by most_body (field_values (codes "content-length") fields)) (asks_to_close minor fields))
    else Err MethodNotAllowed)

-- the same of a head of the grammar
abbrev pub outcome_of : RequestHead → Result Accepted Refusal
outcome_of h = outcome_of_parts h.method h.minor (map name_and_value h.fields)

-- the bytes are no request head of so many fields or fewer
abbrev pub HasMoreFields : ℕ → List ℕ → Type 0
HasMoreFields most bytes = (h : RequestHead) → ReadsRequest bytes h [] → most < length h.fields

-- what comes of the bytes of a head, if no head has more than so many fields
abbrev pub ReadsWithin : ℕ → List ℕ → Result Accepted Refusal → Type 0
ReadsWithin most bytes outcome =
    (HasMoreFields most bytes × (outcome ≡ Err BadRequest))
    ⊎ ((h : RequestHead) × ReadsRequest bytes h [] × (length h.fields ≤ most) × (outcome ≡ outcome_of h))

-- what comes of the bytes of a head that isn't too large
abbrev pub ReadsHead : List ℕ → Result Accepted Refusal → Type 0
ReadsHead bytes outcome =
    (((h : RequestHead) → ¬ (ReadsRequest bytes h [])) × (outcome ≡ Err BadRequest))
    ⊎ ((h : RequestHead) × ReadsRequest bytes h [] × (outcome ≡ outcome_of h))

-- what comes of the bytes of a head that has so many lines between its request line and its end
abbrev pub ReadsLines : ℕ → List ℕ → Result Accepted Refusal → Type 0
ReadsLines lines bytes outcome =
    ((most_fields < lines) × (outcome ≡ Err HeadTooLarge))
    ⊎ ((lines ≤ most_fields) × ReadsHead bytes outcome)

-- what comes of a head: what it says, or a refusal. Where its end isn't among as many bytes as a head may have, those bytes are taken for it
abbrev pub Head : List ℕ → Result Accepted Refusal → Type 0
Head bytes outcome =
    ((length bytes ≡ most_head) × HasNoHead bytes × (outcome ≡ Err HeadTooLarge))
    ⊎ ((h : HeadLines) × AreHeadLines h × (bytes ≡ print_head h) × (length bytes ≤ most_head)
    × ReadsLines (length h.fields) bytes outcome)
