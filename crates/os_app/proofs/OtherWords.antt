-- How a run ends whose words are no command's.
use Rattle.std.proofs.Common.{ℕ, inl, inr, refl}
use Rattle.command_answers.specs.Outputs.{IsTold}
use Rattle.command_line.specs.Words.{IsNoCommand, usage}
use Rattle.os_app.specs.Runs.{ProgramRun, AllFilesRead, IsUntaken, EndsSo, misused, unsent}
use Rattle.os_app.proofs.Words.{other_runs}

pub other_told : {Untouched Stored : Type 0} (same : Untouched) (run : ProgramRun) (status : ℕ) → IsNoCommand run.words → IsUntaken run → AllFilesRead run → IsTold 2 usage status run.output run.output_after → EndsSo Untouched Stored status run
other_told same run status other untaken files (inl (is, sent)) = other_runs same run status other (misused is (record { other = other; sent = sent; untaken = untaken })) (inl is) files
other_told same run status other untaken files (inr (is, off)) =
    other_runs same run status other (unsent is (record { text = usage; due = inl (record { other = other; usage_is = refl }); breaks_off = off; untaken = untaken })) (inr is) files
