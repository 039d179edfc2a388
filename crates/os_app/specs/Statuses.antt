-- The statuses of a session, of a check, of a result document, and of a server.
use Rattle.std.specs.Prelude.{ℕ, Bool, true, false}
use Rattle.os_server.specs.declared.serve.Served.{Served}
use Rattle.os_server.specs.declared.serve.Served.TheVariants.{Ended, CutShort, ReadFault, WriteFault, Memory}
use Rattle.serving.specs.declared.ending.Ending.{Ending}
use Rattle.serving.specs.declared.ending.Ending.TheVariants as endings

-- by how the conversation ended
abbrev pub session_status : Served → ℕ
session_status Ended = 0
session_status CutShort = 8
session_status ReadFault = 3
session_status WriteFault = 4
session_status Memory = 5

-- by whether the claim is accepted
abbrev pub check_status : Bool → ℕ
check_status true = 0
check_status false = 1

-- by whether the report is an error's
abbrev pub solve_status : Bool → ℕ
solve_status true = 1
solve_status false = 0

-- by how serving ended: 6 where the listener failed, 4 where a line wasn't written, 5 where there was no memory
abbrev pub serve_status : Ending → ℕ
serve_status endings.Done = 0
serve_status endings.LinkMemory = 5
serve_status endings.ListenFault = 6
serve_status endings.AnnounceFault = 4
serve_status endings.NoMemory = 5
serve_status endings.AcceptFault = 6
serve_status endings.ReportFault = 4
