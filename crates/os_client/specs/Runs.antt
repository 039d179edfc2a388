-- A run of `call`: how it ends, by its files, its net and its output.
use Rattle.std.specs.Prelude.{◌≡◌, ◌⊎◌, ℕ, Option, None, List, Result, Ok, Err, option_map}
use Rattle.os_io.specs.declared.streams.Failed.{Failed}
use Rattle.os_io.specs.Files.{Held}
use Rattle.os_io.specs.Links.{NetTells, ConnectedTo, Comes, IsGivenBack, IsReached}
use Rattle.os_io.specs.Streams.{Tells, HasRisen}
use Rattle.command_answers.specs.FileNames.{ReadsNamed}
use Rattle.command_answers.specs.Outputs.{IsSent, BreaksOff}
use Rattle.command_line.specs.declared.words.CallWords.{CallWords}
use Rattle.six_calls.specs.declared.call.CallKind.{CallKind}
use Rattle.soap_calls.specs.declared.call.SoapCall.{SoapCall}
use Rattle.soap_calls.specs.Calls.{call_of}
use Rattle.six_calls.specs.Names.{kind_text}
use Rattle.soap_calls.specs.Writing.{call_text}
use Rattle.os_client.specs.declared.fault.CallFault.{CallFault}
use Rattle.os_client.specs.declared.fault.CallFault.TheVariants.{ReadFault, WriteFault, Memory, Refused, Http, NoReply}
use Rattle.os_client.specs.LinkCalls.{SendsRequest, Hears, Calls}
use Rattle.os_client.specs.Outputs.{IsOutputDue}

-- the names of the files with a call's parts, each if there is one
pub record FileNames : Type 0 where
  pub osil : Option (List ℕ)
  pub osol : Option (List ℕ)
  pub ospl : Option (List ℕ)

-- the files that the words of a call name
abbrev pub named_by : CallWords → FileNames
named_by words = record {
  osil = option_map (λ name. name.now) words.osil;
  osol = option_map (λ name. name.now) words.osol;
  ospl = option_map (λ name. name.now) words.ospl;
}

-- a run: which call is made, of which host and port, the files that are named, what names hold, and what its files, its net and its output tell before
-- and after it
pub record CallRun : Type 0 where
  pub kind : CallKind
  pub host : List ℕ
  pub port : ℕ
  pub names : FileNames
  pub held : List ℕ → Held
  pub file_faults : ℕ
  pub file_faults_after : ℕ
  pub net : NetTells
  pub net_after : NetTells
  pub output : Tells
  pub output_after : Tells

-- no file is named
pub record NamesNone (names : FileNames) : Type 0 where
  pub osil : names.osil ≡ None
  pub osol : names.osol ≡ None
  pub ospl : names.ospl ≡ None

-- the texts of all parts, of which the call has some: each the first bytes of its file, and empty where none is named
pub record ArePartsRead (held : List ℕ → Held) (names : FileNames) (osil osol ospl : List ℕ) : Type 0 where
  pub osil_read : ReadsNamed (option_map held names.osil) osil
  pub osol_read : ReadsNamed (option_map held names.osol) osol
  pub ospl_read : ReadsNamed (option_map held names.ospl) ospl

-- the call with the texts that the files of its parts hold
pub record IsCallInFiles (kind : CallKind) (held : List ℕ → Held) (names : FileNames) (call : SoapCall) : Type 0 where
  pub osil : List ℕ
  pub osol : List ℕ
  pub ospl : List ℕ
  pub read : ArePartsRead held names osil osol ospl
  pub is : call ≡ call_of kind (record { osil = osil; osol = osol; ospl = ospl })

-- all files were read, and this is the call with their texts
pub record ReadsCall (run : CallRun) (call : SoapCall) : Type 0 where
  pub call_of : IsCallInFiles run.kind run.held run.names call
  pub all_read : run.file_faults_after ≡ run.file_faults

-- this host and port were connected to, this link came from the net, and so it was given back
pub record Links (host : List ℕ) (port : ℕ) (old new : NetTells) (link link_after : Tells) : Type 0 where
  pub reached : IsReached old.reached new.reached (ConnectedTo host port)
  pub came : Comes old.coming new.coming link
  pub given_back : IsGivenBack old.given_back new.given_back link_after
  pub faults : new.faults ≡ old.faults

-- nothing was reached and no link came, and nothing else happened to the net
pub record LacksLink (old new : NetTells) : Type 0 where
  pub reached : new.reached ≡ old.reached
  pub coming : new.coming ≡ old.coming
  pub given_back : new.given_back ≡ old.given_back
  pub failed : HasRisen old.faults new.faults

-- the call's request was written on a link that came and was given back, and the bytes that came on it answer the call so
pub record Hearing (outcome : Result (List ℕ) CallFault) (run : CallRun) : Type 0 where
  pub call : SoapCall
  pub brought : ReadsCall run call
  pub link : Tells
  pub link_after : Tells
  pub links : Links run.host run.port run.net run.net_after link link_after
  pub asks : SendsRequest (call_text call) link link_after
  pub hears : Hears (kind_text run.kind) outcome link link_after

-- the call was made over a link that came and was given back, and it ended so
pub record Making (outcome : Result (List ℕ) CallFault) (run : CallRun) : Type 0 where
  pub call : SoapCall
  pub brought : ReadsCall run call
  pub link : Tells
  pub link_after : Tells
  pub links : Links run.host run.port run.net run.net_after link link_after
  pub calls : Calls call outcome link link_after

-- nothing was written on the output
abbrev pub WritesNothing : CallRun → Type 0
WritesNothing run = run.output_after ≡ run.output

-- a file that is named wasn't read, and the net wasn't touched
pub record LacksFile (run : CallRun) : Type 0 where
  pub named : NamesNone run.names → ⊥
  pub failed : HasRisen run.file_faults run.file_faults_after
  pub net : run.net_after ≡ run.net
  pub silent : WritesNothing run

-- no link came
pub record IsLinkless (run : CallRun) : Type 0 where
  pub call : SoapCall
  pub brought : ReadsCall run call
  pub net : LacksLink run.net run.net_after
  pub silent : WritesNothing run

-- a call that ends so may find no memory: for itself, or for the line that would tell it
abbrev pub MayLackMemory : Result (List ℕ) CallFault → Type 0
MayLackMemory (Ok text) = ⊥
MayLackMemory (Err (Refused code text)) = Unit {0}
MayLackMemory (Err (Http status)) = Unit {0}
MayLackMemory (Err (NoReply bytes)) = ⊥
MayLackMemory (Err ReadFault) = ⊥
MayLackMemory (Err WriteFault) = ⊥
MayLackMemory (Err Memory) = Unit {0}

-- there was no memory: to read the files, so that the net wasn't touched, or for the call that was made, or for a line
pub record CallLacksMemory (run : CallRun) : Type 0 where
  pub no_file_fault : run.file_faults_after ≡ run.file_faults
  pub made : (run.net_after ≡ run.net) ⊎ ((outcome : Result (List ℕ) CallFault) × MayLackMemory outcome × Making outcome run)
  pub silent : WritesNothing run

-- how a run of `call` ends, by its status
pub data CallEnds (status : ℕ) (run : CallRun) : Type 0 where
  -- 0, 1 or 7: what the answer of the bytes that came is due was sent
  answered : (outcome : Result (List ℕ) CallFault) (due : List ℕ) → Hearing outcome run → IsOutputDue run.kind outcome status due → IsSent due run.output run.output_after → CallEnds status run
  -- a write of the output failed, and a first part of what is due was written
  unsent : (outcome : Result (List ℕ) CallFault) (would : ℕ) (due : List ℕ) → status ≡ 4 → Hearing outcome run → IsOutputDue run.kind outcome would due → BreaksOff due run.output run.output_after → CallEnds status run
  -- a read of the link failed
  unheard : status ≡ 3 → Making (Err ReadFault) run → WritesNothing run → CallEnds status run
  -- a write of the link failed
  unasked : status ≡ 4 → Making (Err WriteFault) run → WritesNothing run → CallEnds status run
  no_file : status ≡ 3 → LacksFile run → CallEnds status run
  no_link : status ≡ 6 → IsLinkless run → CallEnds status run
  no_memory : status ≡ 5 → CallLacksMemory run → CallEnds status run

-- the call was made over a link to this host and port that came and was given back, and ended so; or no link came
abbrev pub CallsOver : (host : List ℕ) → (port : ℕ) → SoapCall → Result (Result (List ℕ) CallFault) Failed → (old new : NetTells) → Type 0
CallsOver host port call (Ok outcome) old new = (link : Tells) × (link_after : Tells) × Links host port old new link link_after × Calls call outcome link link_after
CallsOver host port call (Err e) old new = LacksLink old new
