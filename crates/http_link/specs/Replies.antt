-- What comes back to a client: a response's head, its body, and where the reading ends (RFC 9112, sections 2, 4, 6 and 8).
use Rattle.std.specs.Prelude.{◌≡◌, ℕ, ◌+◌, ◌<◌, ◌≤◌, ◌⊎◌, Bool, ◌==◌, ◌||◌, nat_lt, nat_le, IsTrue, List, [], ◌++◌, length, map, count_by, if◌then◌else◌, codes, Option, None, Some, Result, Ok, Err}
use Rattle.httparse.specs.Grammar.{ResponseHead, ReadsResponse, status_code}
use Rattle.httparse.specs.Spans.{name_and_value}
use Rattle.os_io.specs.Limits.{most_reply}
use Rattle.os_io.specs.Streams.{BothTold}
use Rattle.http_link.specs.declared.refusal.Refusal.{Refusal}
use Rattle.http_link.specs.declared.refusal.Refusal.TheVariants.{BadRequest, MethodNotAllowed, LengthRequired, ContentTooLarge, HeadTooLarge, NotImplemented, ServiceUnavailable}
use Rattle.http_link.specs.declared.requests.LinkFault.{LinkFault}
use Rattle.http_link.specs.declared.requests.LinkFault.TheVariants.{ReadFault, Memory}
use Rattle.http_link.specs.declared.replies.ReplyHead.{ReplyHead}
use Rattle.http_link.specs.declared.replies.Response.{Response}
use Rattle.http_link.specs.declared.replies.Came.{Came}
use Rattle.http_link.specs.Lines.{HeadLines, AreHeadLines, print_head, HasNoHead}
use Rattle.http_link.specs.Checks.{most_head, most_fields, is_named, field_values, length_by}
use Rattle.http_link.specs.Requests.{IsHeadBegun, IsHeadPart}

-- by the length that Content-Length gives: without one the body goes to the end of the link
abbrev pub says_by : ℕ → Result ℕ Refusal → Option ReplyHead
says_by status (Ok len) = Some (record { status = status; len = Some len })
says_by status (Err LengthRequired) = Some (record { status = status; len = None })
says_by status (Err refusal) = None

-- what a response's head with these parts says; with a transfer coding it is refused
abbrev pub says_of_parts : ℕ → List (List ℕ × List ℕ) → Option ReplyHead
says_of_parts status fields =
    if nat_lt 0 (count_by (is_named (codes "transfer-encoding")) fields) then None
    else says_by status (length_by most_reply (field_values (codes "content-length") fields))

-- the same of a head of the grammar
abbrev pub says_of : ResponseHead → Option ReplyHead
says_of h = says_of_parts (status_code h) (map name_and_value h.fields)

-- the bytes are no response's head of so few fields
abbrev pub HasNoReplyHead : List ℕ → Type 0
HasNoReplyHead bytes = (h : ResponseHead) → ReadsResponse bytes h [] → most_fields < length h.fields

-- what the bytes of a whole head say
abbrev pub ReadsReply : List ℕ → Option ReplyHead → Type 0
ReadsReply bytes says =
    (HasNoReplyHead bytes × (says ≡ None))
    ⊎ ((h : ResponseHead) × ReadsResponse bytes h [] × (length h.fields ≤ most_fields) × (says ≡ says_of h))

-- what a head says: its status and its body's length, or that it is refused. Where its end isn't among as many bytes as a head may have, those bytes are taken for it
abbrev pub HeadSays : List ℕ → Option ReplyHead → Type 0
HeadSays bytes says =
    ((length bytes ≡ most_head) × HasNoHead bytes × (says ≡ None))
    ⊎ ((h : HeadLines) × AreHeadLines h × (bytes ≡ print_head h) × (length bytes ≤ most_head) × ReadsReply bytes says)

-- responses of these statuses have a body here; no other needs one
abbrev pub has_body : ℕ → Bool
has_body status = status == 200 || status == 500

-- of a body that goes to the end of the link one byte more than it may have is read
abbrev pub most_to_end : Option ℕ → ℕ
most_to_end (Some len) = len
most_to_end None = most_reply + 1

-- how many bytes behind the head are read at most
abbrev pub most_of : ReplyHead → ℕ
most_of says = if has_body says.status then most_to_end says.len else 0

-- so many bytes are a whole body, where it has this length or goes to the end of the link
abbrev pub fills : Option ℕ → ℕ → Bool
fills (Some len) count = count == len
fills None count = nat_le count most_reply

-- so many bytes behind the head are what it says
abbrev pub is_whole : ReplyHead → ℕ → Bool
is_whole says count = if has_body says.status then fills says.len count else (count == 0)

-- a head that isn't refused, and bytes behind it, so many as stands to the most that are read
abbrev pub HeadAndMore : (ℕ → ℕ → Type 0) → List ℕ → Type 0
HeadAndMore Stands bytes =
    (head : List ℕ) × (body : List ℕ) × (says : ReplyHead) × HeadSays head (Some says) × (bytes ≡ head ++ body)
    × Stands (length body) (most_of says)

-- a reply with this status and this body, which is empty where the status has none
abbrev pub IsReply : List ℕ → ℕ → List ℕ → Type 0
IsReply bytes status body =
    (head : List ℕ) × (says : ReplyHead) × HeadSays head (Some says) × (bytes ≡ head ++ body)
    × (status ≡ says.status) × IsTrue (is_whole says (length body))

-- bytes after which nothing is read, whatever follows: a head that is refused, or one with as much behind it as is read
abbrev pub IsReadWhole : List ℕ → Type 0
IsReadWhole bytes = HeadSays bytes None ⊎ HeadAndMore (λ count most. count ≡ most) bytes

-- bytes after which more is read
abbrev pub IsReplyBegun : List ℕ → Type 0
IsReplyBegun bytes = IsHeadBegun bytes ⊎ HeadAndMore (λ count most. count < most) bytes

-- a first part of the bytes that are read, or all of them
abbrev pub IsReplyPart : List ℕ → Type 0
IsReplyPart bytes = IsHeadPart bytes ⊎ HeadAndMore (λ count most. count ≤ most) bytes

-- these bytes are read of all that come: nothing is read behind them, or nothing comes
abbrev pub EndsReading : List ℕ → Type 0 → Type 0
EndsReading bytes Ended = IsReadWhole bytes ⊎ (IsReplyBegun bytes × Ended)

-- these bytes came, by the bytes to come before and after them, where they are told
pub record BytesCome (bytes : List ℕ) (left left' : Option (List ℕ)) : Type 0 where
  pub taken : BothTold left left' (λ before after. before ≡ bytes ++ after)
  pub ends : EndsReading bytes (BothTold left left' (λ before after. after ≡ []))

-- a part of these came, where the reading failed
abbrev pub ComesPart : (List ℕ → Type 0) → Option (List ℕ) → Option (List ℕ) → Type 0
ComesPart IsPart left left' =
    (taken : List ℕ) × IsPart taken × BothTold left left' (λ before after. before ≡ taken ++ after)

-- what came, or what of it was lost
abbrev pub Brings : Result Came LinkFault → Option (List ℕ) → Option (List ℕ) → Type 0
Brings (Ok came) left left' = BytesCome came.bytes left left'
Brings (Err ReadFault) left left' = ComesPart IsReplyBegun left left'
Brings (Err Memory) left left' = ComesPart IsReplyPart left left'

-- the reply that the bytes are, if they are one
abbrev pub Replies : List ℕ → Option Response → Type 0
Replies bytes (Some r) = IsReply bytes r.status r.body
Replies bytes None = (status : ℕ) (body : List ℕ) → IsReply bytes status body → ⊥

-- the status of a refusal
abbrev pub code_of : Refusal → ℕ
code_of BadRequest = 400
code_of MethodNotAllowed = 405
code_of LengthRequired = 411
code_of ContentTooLarge = 413
code_of HeadTooLarge = 431
code_of NotImplemented = 501
code_of ServiceUnavailable = 503
