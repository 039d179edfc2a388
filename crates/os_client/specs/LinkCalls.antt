-- What a call does to its link.
use Rattle.std.specs.Prelude.{◌≡◌, ◌⊎◌, ℕ, Bool, List, Result, Ok, Err}
use Rattle.os_io.specs.Streams.{Tells, BothTold, Appends, AppendsPart, Grows, HasRisen, SameInput, SameOutput}
use Rattle.http_link.specs.Outgoing.{request_text}
use Rattle.http_link.specs.Replies.{BytesCome, ComesPart, IsReplyBegun, IsReplyPart}
use Rattle.six_calls.specs.declared.call.CallKind.{CallKind}
use Rattle.soap_calls.specs.declared.call.SoapCall.{SoapCall}
use Rattle.six_calls.specs.Names.{kind_text}
use Rattle.soap_calls.specs.Replies.{bool_text}
use Rattle.soap_calls.specs.Writing.{call_text}
use Rattle.os_client.specs.declared.fault.CallFault.{CallFault}
use Rattle.os_client.specs.declared.fault.CallFault.TheVariants.{ReadFault, WriteFault, Memory}
use Rattle.os_client.specs.Answers.{SaysToCall}

-- the request with this body was written and handed on
pub record SendsRequest (body : List ℕ) (old new : Tells) : Type 0 where
  pub written : BothTold old.written new.written (Appends (request_text body))
  pub handed_on : new.handed_on ≡ new.written
  pub write_faults : new.write_faults ≡ old.write_faults

-- a first part of it was written, or all of it, where a write or a flush failed, and nothing was read
pub record FailsToAsk (body : List ℕ) (old new : Tells) : Type 0 where
  pub written : BothTold old.written new.written (AppendsPart (request_text body))
  pub handed_on : Grows old.handed_on new.handed_on
  pub write_faults : HasRisen old.write_faults new.write_faults
  pub input : SameInput old new

-- bytes came, which say this to the call of this name
pub record Hears (name : List ℕ) (result : Result (List ℕ) CallFault) (old new : Tells) : Type 0 where
  pub bytes : List ℕ
  pub came : BytesCome bytes old.left new.left
  pub says : SaysToCall name bytes result
  pub read_faults : new.read_faults ≡ old.read_faults

-- a read failed, and a first part of what a client reads was taken
pub record FailsToHear (old new : Tells) : Type 0 where
  pub came : ComesPart IsReplyBegun old.left new.left
  pub read_faults : HasRisen old.read_faults new.read_faults

-- there was no memory, and a first part of what a client reads was taken, or all of it
pub record Loses (old new : Tells) : Type 0 where
  pub came : ComesPart IsReplyPart old.left new.left
  pub read_faults : new.read_faults ≡ old.read_faults

-- nothing was written and nothing read
pub record KeepsLink (old new : Tells) : Type 0 where
  pub input : SameInput old new
  pub output : SameOutput old new

-- what comes of listening for the answer to the call of this name
abbrev pub Listens : List ℕ → Result (List ℕ) CallFault → Tells → Tells → Type 0
Listens name (Err ReadFault) old new = FailsToHear old new
Listens name (Err Memory) old new = Loses old new
Listens name result old new = Hears name result old new

-- what comes of a call with this name and this body
abbrev pub CallsWith : List ℕ → List ℕ → Result (List ℕ) CallFault → Tells → Tells → Type 0
CallsWith name body (Err WriteFault) old new = FailsToAsk body old new
CallsWith name body (Err Memory) old new = KeepsLink old new ⊎ (SendsRequest body old new × Loses old new)
CallsWith name body result old new = SendsRequest body old new × Listens name result old new

-- the call with these texts of its instance, its options and its process
abbrev pub calling : CallKind → (osil osol ospl : List ℕ) → SoapCall
calling kind osil osol ospl = record { kind = kind; parts = record { osil = osil; osol = osol; ospl = ospl } }

-- what comes of a call
abbrev pub Calls : SoapCall → Result (List ℕ) CallFault → Tells → Tells → Type 0
Calls call result old new = CallsWith (kind_text call.kind) (call_text call) result old new

-- what comes of a call that says yes or no
abbrev pub CallsBool : SoapCall → Result Bool CallFault → Tells → Tells → Type 0
CallsBool call (Ok said) old new = Calls call (Ok (bool_text said)) old new
CallsBool call (Err fault) old new = Calls call (Err fault) old new
