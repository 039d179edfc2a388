-- What the steps of a call do to its link.
use Rattle.std.proofs.Common.{◌≡◌, ℕ, ◌⊎◌, inl, inr, List, [], Option, Ok, Err, sym, ◌∙◌, subst}
use Rattle.std.specs.Prelude.{Result}
use Rattle.os_io.specs.Streams.{Tells, BothTold, Appends, HasRisen, Sends, SameInput, SameOutput}
use Rattle.http_link.specs.Outgoing.{request_text}
use Rattle.http_link.specs.Replies.{BytesCome, ComesPart, IsReadWhole, IsReplyBegun, IsReplyPart, EndsReading}
use Rattle.soap_calls.specs.declared.call.SoapCall.{SoapCall}
use Rattle.os_client.specs.declared.fault.CallFault.{CallFault}
use Rattle.os_client.specs.declared.fault.CallFault.TheVariants.{ReadFault, WriteFault, Memory, Refused, Http, NoReply}
use Rattle.os_client.specs.Answers.{SaysToCall}
use Rattle.os_client.specs.LinkCalls.{SendsRequest, FailsToAsk, Hears, FailsToHear, Loses, Listens, CallsWith, Calls}

abbrev Outcome : Type 0
Outcome = Result (List ℕ) CallFault

-- ---- listening

-- what came is a part of what is read
abbrev pub DoneIsPart : Type 0
DoneIsPart = (bytes : List ℕ) → IsReadWhole bytes → IsReplyPart bytes

abbrev pub BegunIsPart : Type 0
BegunIsPart = (bytes : List ℕ) → IsReplyBegun bytes → IsReplyPart bytes

came_part : DoneIsPart → BegunIsPart → (bytes : List ℕ) (Ended : Type 0) → EndsReading bytes Ended → IsReplyPart bytes
came_part done begun bytes Ended (inl d) = done bytes d
came_part done begun bytes Ended (inr (b, ended)) = begun bytes b

-- bytes came, and say this, or there was no memory to read them
pub listened : DoneIsPart → BegunIsPart → (name bytes : List ℕ) (r : Outcome) (old new : Tells) → (r ≡ Err Memory) ⊎ SaysToCall name bytes r
    → BytesCome bytes old.left new.left → new.read_faults ≡ old.read_faults → Listens name r old new
listened d b name bytes (Ok text) old new (inl e) came count = absurd (cc)
listened d b name bytes (Ok text) old new (inr says) came count =
    record { bytes = bytes; came = came; says = says; read_faults = count }
listened d b name bytes (Err (Refused code text)) old new (inl e) came count = absurd (cc)
listened d b name bytes (Err (Refused code text)) old new (inr says) came count =
    record { bytes = bytes; came = came; says = says; read_faults = count }
listened d b name bytes (Err (Http status)) old new (inl e) came count = absurd (cc)
listened d b name bytes (Err (Http status)) old new (inr says) came count =
    record { bytes = bytes; came = came; says = says; read_faults = count }
listened d b name bytes (Err (NoReply kept)) old new (inl e) came count = absurd (cc)
listened d b name bytes (Err (NoReply kept)) old new (inr says) came count =
    record { bytes = bytes; came = came; says = says; read_faults = count }
listened d b name bytes (Err ReadFault) old new (inl e) came count = absurd (cc)
listened d b name bytes (Err ReadFault) old new (inr says) came count = absurd says
listened d b name bytes (Err WriteFault) old new (inl e) came count = absurd (cc)
listened d b name bytes (Err WriteFault) old new (inr says) came count = absurd says
listened d b name bytes (Err Memory) old new either came count = record {
  came = (bytes, came_part d b bytes (BothTold old.left new.left (λ before after. after ≡ [])) came.ends, came.taken);
  read_faults = count;
}

-- ---- asking, and then listening

hears_on : (name : List ℕ) (r : Outcome) (old mid new : Tells) → SameInput old mid → Hears name r mid new → Hears name r old new
hears_on name r old mid new same h = record {
  bytes = h.bytes;
  came = subst (λ (left : Option (List ℕ)). BytesCome h.bytes left new.left) same.left h.came;
  says = h.says;
  read_faults = h.read_faults ∙ same.read_faults;
}

fails_on : (old mid new : Tells) → SameInput old mid → FailsToHear mid new → FailsToHear old new
fails_on old mid new same h = record {
  came = subst (λ (left : Option (List ℕ)). ComesPart IsReplyBegun left new.left) same.left h.came;
  read_faults = subst (λ (n : ℕ). HasRisen n new.read_faults) same.read_faults h.read_faults;
}

loses_on : (old mid new : Tells) → SameInput old mid → Loses mid new → Loses old new
loses_on old mid new same h = record {
  came = subst (λ (left : Option (List ℕ)). ComesPart IsReplyPart left new.left) same.left h.came;
  read_faults = h.read_faults ∙ same.read_faults;
}

asks_on : {X E : Type 0} (x : X) (body : List ℕ) (old mid new : Tells) → Sends {X = X} {E = E} (Ok x) (request_text body) old mid → SameOutput mid new → SendsRequest body old new
asks_on x body old mid new sent same = record {
  written = subst (λ (w : Option (List ℕ)). BothTold old.written w (Appends (request_text body))) (sym same.written) sent.writes.written;
  handed_on = same.handed_on ∙ sent.handed_on ∙ sym same.written;
  write_faults = same.write_faults ∙ sent.writes.counted;
}

pub fails_to_ask : {X E : Type 0} (e : E) (body : List ℕ) (old new : Tells) → Sends {X = X} {E = E} (Err e) (request_text body) old new → FailsToAsk body old new
fails_to_ask e body old new sent = record {
  written = sent.writes.written;
  handed_on = sent.writes.handed_on;
  write_faults = sent.writes.counted;
  input = sent.writes.input;
}

pub asked_listened : {X E : Type 0} (x : X) (name body : List ℕ) (r : Outcome) (old mid new : Tells) → Sends {X = X} {E = E} (Ok x) (request_text body) old mid
    → Listens name r mid new → SameOutput mid new → CallsWith name body r old new
asked_listened x name body (Ok text) old mid new sent l same = (asks_on x body old mid new sent same, hears_on name (Ok text) old mid new sent.writes.input l)
asked_listened x name body (Err (Refused code text)) old mid new sent l same =
    (asks_on x body old mid new sent same, hears_on name (Err (Refused code text)) old mid new sent.writes.input l)
asked_listened x name body (Err (Http status)) old mid new sent l same =
    (asks_on x body old mid new sent same, hears_on name (Err (Http status)) old mid new sent.writes.input l)
asked_listened x name body (Err (NoReply kept)) old mid new sent l same =
    (asks_on x body old mid new sent same, hears_on name (Err (NoReply kept)) old mid new sent.writes.input l)
asked_listened x name body (Err ReadFault) old mid new sent l same =
    (asks_on x body old mid new sent same, fails_on old mid new sent.writes.input l)
asked_listened x name body (Err WriteFault) old mid new sent l same = absurd l.says
asked_listened x name body (Err Memory) old mid new sent l same =
    inr (asks_on x body old mid new sent same, loses_on old mid new sent.writes.input l)

-- a call by another name
pub calls_as : (a b : SoapCall) (r : Outcome) (old new : Tells) → a ≡ b → Calls a r old new → Calls b r old new
calls_as a b r old new e called = subst (λ (c : SoapCall). Calls c r old new) e called

-- ---- yes and no

-- a call of another name for the same name and body
pub calls_of : (name body named text : List ℕ) (r : Outcome) (old new : Tells) → name ≡ named → body ≡ text → CallsWith name body r old new → CallsWith named text r old new
calls_of name body named text r old new e f called =
    subst (λ (b : List ℕ). CallsWith named b r old new) f (subst (λ (n : List ℕ). CallsWith n body r old new) e called)
