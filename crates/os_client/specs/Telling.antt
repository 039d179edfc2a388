-- How the telling of a call's answer ends.
use Rattle.std.specs.Prelude.{◌≡◌, ◌⊎◌, ℕ, List, Result, Ok, Err}
use Rattle.std.specs.declared.alloc.AllocError.{AllocError}
use Rattle.os_io.specs.Streams.{Tells}
use Rattle.command_answers.specs.Outputs.{IsTold}
use Rattle.six_calls.specs.declared.call.CallKind.{CallKind}
use Rattle.os_client.specs.declared.fault.CallFault.{CallFault}
use Rattle.os_client.specs.declared.fault.CallFault.TheVariants.{ReadFault, WriteFault, Memory, Refused, Http, NoReply}
use Rattle.os_client.specs.Outputs.{returned_status, fault_line, http_line}

-- nothing is written, and the run ends with this status
abbrev pub EndsSilent : (due status : ℕ) → (old new : Tells) → Type 0
EndsSilent due status old new = (status ≡ due) × (new ≡ old)

-- a line that says no is told, if there was memory for it
abbrev pub TellsLine : Result (List ℕ) AllocError → (status : ℕ) → (old new : Tells) → Type 0
TellsLine (Ok line) status old new = IsTold 1 line status old new
TellsLine (Err e) status old new = EndsSilent 5 status old new

-- what is due to what a call answered is told; a line may find no memory; where there is no answer nothing is written
abbrev pub TellsOf : CallKind → Result (List ℕ) CallFault → (status : ℕ) → (old new : Tells) → Type 0
TellsOf kind (Ok text) status old new = IsTold (returned_status kind text) text status old new
TellsOf kind (Err (Refused code text)) status old new = IsTold 1 (fault_line code text) status old new ⊎ EndsSilent 5 status old new
TellsOf kind (Err (Http came)) status old new = IsTold 1 (http_line came) status old new ⊎ EndsSilent 5 status old new
TellsOf kind (Err (NoReply bytes)) status old new = IsTold 7 bytes status old new
TellsOf kind (Err ReadFault) status old new = EndsSilent 3 status old new
TellsOf kind (Err WriteFault) status old new = EndsSilent 4 status old new
TellsOf kind (Err Memory) status old new = EndsSilent 5 status old new
