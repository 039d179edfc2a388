-- How a run ends that makes a call.
use Rattle.std.proofs.Common.{◌≡◌, ℕ, inl, false, List, Option, Some, None, refl}
use Rattle.std.specs.Prelude.{◌||◌, is_some}
use Rattle.six_calls.specs.declared.call.CallKind.{CallKind}
use Rattle.command_line.specs.Words.{Call, asks}
use Rattle.os_client.specs.Runs.{CallEnds, NamesNone}
use Rattle.os_client.proofs.Runs.{never_misused, none_failed}
use Rattle.os_app.specs.Runs.{ProgramRun, LeavesInput, EndsSo, call_run, called}
use Rattle.os_app.proofs.Words.{command_runs, no_check, true_or_false}

-- a call that names no file
pub none_named : (osil osol ospl : Option (List ℕ)) → (is_some osil || (is_some osol || is_some ospl)) ≡ false → NamesNone (record { osil = osil; osol = osol; ospl = ospl })
none_named None None None none = record { osil = refl; osol = refl; ospl = refl }
none_named None None (Some ospl) none = absurd (true_or_false none)
none_named None (Some osol) ospl none = absurd (true_or_false none)
none_named (Some osil) osol ospl none = absurd (true_or_false none)

pub call_runs : {Untouched Stored : Type 0} (same : Untouched) (status : ℕ) (run : ProgramRun) (kind : CallKind) (host : List ℕ) (port : ℕ) (osil osol ospl : Option (List ℕ)) → asks run.words ≡ Some (Call kind host port osil osol ospl)
    → CallEnds status (call_run run kind host port osil osol ospl) → LeavesInput run → EndsSo Untouched Stored status run
call_runs same status run kind host port osil osol ospl asked ends input =
    command_runs status run (Call kind host port osil osol ospl) asked
    (inl (called (record { kind = kind; host = host; port = port; osil = osil; osol = osol; ospl = ospl; asked = asked; ends = ends; input = input }), same))
    (never_misused status _ ends)
    (λ none. none_failed status _ ends (none_named osil osol ospl (none _ asked)))
    (no_check status run _ asked tt)
