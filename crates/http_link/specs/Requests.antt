-- Requests in a stream of bytes (RFC 9112, sections 2 and 6).
use Rattle.std.specs.Prelude.{◌≡◌, ℕ, ◌<◌, ◌≤◌, ◌⊎◌, Bool, List, [], ◌∷◌, ◌++◌, length, Option, None, Some, Result, Ok, Err, ⊤}
use Rattle.os_io.specs.Streams.{BothTold, HasRisen}
use Rattle.os_io.specs.declared.streams.Failed.{Failed}
use Rattle.http_link.specs.declared.refusal.Refusal.{Refusal}
use Rattle.http_link.specs.declared.requests.Head as request_heads
use Rattle.http_link.specs.declared.requests.Incoming.{Incoming}
use Rattle.http_link.specs.declared.requests.Incoming.TheVariants.{Whole, Refused, Cut, Ended}
use Rattle.http_link.specs.declared.requests.LinkFault.{LinkFault}
use Rattle.http_link.specs.declared.requests.LinkFault.TheVariants.{ReadFault, Memory}
use Rattle.http_link.specs.declared.requests.HeadRead.{HeadRead}
use Rattle.http_link.specs.declared.requests.HeadRead.TheVariants.{Whole as WholeHead, TooLarge, Cut as CutHead, Ended as NoHead}
use Rattle.http_link.specs.Lines.{HeadLines, AreHeadLines, print_head, AreEmptyLines, HasNoHead, IsWholeHead}
use Rattle.http_link.specs.Checks.{most_head, accepted, Head}
use Rattle.http_link.specs.Pieces.{most_piece}

-- a head that was accepted, which asks to close the connection behind it or not, and a body of its length
abbrev pub IsRequest : List ℕ → Bool → List ℕ → Type 0
IsRequest bytes close body =
    (head : List ℕ) × Head head (Ok (accepted (length body) close)) × (bytes ≡ head ++ body)

-- a head that hasn't come to its end, nor to the most that a head may have
pub record IsHeadBegun (bytes : List ℕ) : Type 0 where
  pub fits : length bytes < most_head
  pub no_head : HasNoHead bytes

-- a head that was accepted, and behind it less than its body: this
abbrev pub IsBodyBegunBy : List ℕ → List ℕ → Type 0
IsBodyBegunBy bytes body =
    (head : List ℕ) × (most : ℕ) × (close : Bool) × Head head (Ok (accepted most close)) × (bytes ≡ head ++ body) × (length body < most)

-- a request that isn't whole, and that nothing refuses yet
abbrev pub IsBegun : List ℕ → Type 0
IsBegun bytes = IsHeadBegun bytes ⊎ ((body : List ℕ) × IsBodyBegunBy bytes body)

-- and what came of its body went where bodies go
abbrev pub IsBegunInto : (List ℕ → Type 0) → List ℕ → Type 0
IsBegunInto Took bytes = (IsHeadBegun bytes × Took []) ⊎ ((body : List ℕ) × IsBodyBegunBy bytes body × Took body)

-- a first part of a head, or all of it, and not a byte more. Nothing has judged it
pub record IsHeadPart (bytes : List ℕ) : Type 0 where
  pub fits : length bytes ≤ most_head
  pub nothing_past : (h : HeadLines) (rest : List ℕ) → AreHeadLines h → bytes ≡ print_head h ++ rest → rest ≡ []

-- the input ended inside a request
abbrev pub IsCut : List ℕ → Type 0
IsCut bytes = (¬ (AreEmptyLines bytes)) × IsBegun bytes

-- the input ended between two requests
pub record EndedBetween (bytes : List ℕ) : Type 0 where
  pub empty : AreEmptyLines bytes
  pub fits : length bytes < most_head

-- the bytes are a request with this head, and its body, which has the length that the head says, went where bodies go
abbrev pub IsRequestInto : (List ℕ → Type 0) → List ℕ → request_heads.Head → Type 0
IsRequestInto Took bytes head =
    (body : List ℕ) × IsRequest bytes head.close body × (length body ≡ head.length) × Took body

-- what the bytes that an answer took from the input are, and which of them went where bodies go
abbrev pub ShowsTaken : (List ℕ → Type 0) → Result Incoming LinkFault → List ℕ → Type 0
ShowsTaken Took (Ok (Whole head)) taken = IsRequestInto Took taken head
ShowsTaken Took (Ok (Refused refusal)) taken = Head taken (Err refusal) × Took []
ShowsTaken Took (Ok Cut) taken = (¬ (AreEmptyLines taken)) × IsBegunInto Took taken
ShowsTaken Took (Ok Ended) taken = EndedBetween taken × Took []
ShowsTaken Took (Err ReadFault) taken = IsBegunInto Took taken
ShowsTaken Took (Err Memory) taken = IsHeadPart taken × Took []

-- the input ended, where the answer says so
abbrev pub EndsWith : Result Incoming LinkFault → List ℕ → Type 0
EndsWith (Ok (Whole head)) rest = ⊤
EndsWith (Ok (Refused refusal)) rest = ⊤
EndsWith (Ok Cut) rest = rest ≡ []
EndsWith (Ok Ended) rest = rest ≡ []
EndsWith (Err fault) rest = ⊤

-- an answer, by the bytes to come before and after it, where they are told
abbrev pub AnswersTaken : (List ℕ → Type 0) → Result Incoming LinkFault → Option (List ℕ) → Option (List ℕ) → Type 0
AnswersTaken Took answer left left' =
    (taken : List ℕ) × ShowsTaken Took answer taken
    × BothTold left left' (λ before after. (before ≡ taken ++ after) × EndsWith answer after)

-- a fault in reading is counted, and nothing else is
abbrev pub CountsFault : {X : Type 0} → Result X LinkFault → ℕ → ℕ → Type 0
CountsFault (Ok x) before after = after ≡ before
CountsFault (Err ReadFault) before after = HasRisen before after
CountsFault (Err Memory) before after = after ≡ before

-- what the bytes are that the reading of a head took
abbrev pub ShowsHead : Result HeadRead LinkFault → List ℕ → Type 0
ShowsHead (Ok (WholeHead text lines)) taken =
    (text ≡ taken) × IsWholeHead taken lines × (length taken ≤ most_head)
ShowsHead (Ok (TooLarge text)) taken = (text ≡ taken) × (length taken ≡ most_head) × HasNoHead taken
ShowsHead (Ok (CutHead text)) taken = (text ≡ taken) × (¬ (AreEmptyLines taken)) × IsHeadBegun taken
ShowsHead (Ok (NoHead text)) taken = (text ≡ taken) × EndedBetween taken
ShowsHead (Err ReadFault) taken = IsHeadBegun taken
ShowsHead (Err Memory) taken = IsHeadPart taken

-- the input ended, where that is the answer
abbrev pub HeadEnds : Result HeadRead LinkFault → List ℕ → Type 0
HeadEnds (Ok (WholeHead text lines)) rest = ⊤
HeadEnds (Ok (TooLarge text)) rest = ⊤
HeadEnds (Ok (CutHead text)) rest = rest ≡ []
HeadEnds (Ok (NoHead text)) rest = rest ≡ []
HeadEnds (Err fault) rest = ⊤

-- the reading of a head, by the bytes to come before and after it, where they are told
abbrev pub AnswersHead : Result HeadRead LinkFault → Option (List ℕ) → Option (List ℕ) → Type 0
AnswersHead answer left left' =
    (taken : List ℕ) × ShowsHead answer taken
    × BothTold left left' (λ before after. (before ≡ taken ++ after) × HeadEnds answer after)

-- the next byte is taken, or the input has ended
abbrev pub TakesByte : Option ℕ → List ℕ → List ℕ → Type 0
TakesByte None before after = (before ≡ []) × (after ≡ [])
TakesByte (Some byte) before after = before ≡ byte ∷ after

-- so many bytes were taken, no more than one piece may have, and went where bodies go. With none, the input has ended
abbrev pub GivesPiece : (List ℕ → Type 0) → Option (List ℕ) → Option (List ℕ) → ℕ → ℕ → Type 0
GivesPiece Took left left' most count =
    (piece : List ℕ) × Took piece × (length piece ≡ count) × (count ≤ most) × (count ≤ most_piece)
    × BothTold left left' (λ before after. (before ≡ piece ++ after) × (count ≡ 0 → after ≡ []))

-- what the bytes are that the reading of a body took
abbrev pub ShowsBody : (List ℕ → Type 0) → ℕ → Result ℕ Failed → List ℕ → Type 0
ShowsBody Took len (Ok count) taken = Took taken × (length taken ≡ count) × (count ≤ len)
ShowsBody Took len (Err failed) taken = Took taken × (length taken < len)

-- the input ended, where fewer came than were asked for
abbrev pub BodyEnds : ℕ → Result ℕ Failed → List ℕ → Type 0
BodyEnds len (Ok count) rest = count < len → rest ≡ []
BodyEnds len (Err failed) rest = ⊤

-- the reading of a body, by the bytes to come before and after it, where they are told
abbrev pub AnswersBody : (List ℕ → Type 0) → ℕ → Result ℕ Failed → Option (List ℕ) → Option (List ℕ) → Type 0
AnswersBody Took len answer left left' =
    (taken : List ℕ) × ShowsBody Took len answer taken
    × BothTold left left' (λ before after. (before ≡ taken ++ after) × BodyEnds len answer after)

-- the bytes begin with a request
abbrev pub BeginsWithRequest : List ℕ → Type 0
BeginsWithRequest bytes =
    (request : List ℕ) × (close : Bool) × (body : List ℕ) × (rest : List ℕ) × IsRequest request close body × (bytes ≡ request ++ rest)

-- the bytes begin with a head that is refused
abbrev pub BeginsRefused : List ℕ → Type 0
BeginsRefused bytes =
    (head : List ℕ) × (refusal : Refusal) × (rest : List ℕ) × Head head (Err refusal) × (bytes ≡ head ++ rest)
