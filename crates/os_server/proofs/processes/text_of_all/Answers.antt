use Rattle.std.proofs.Common.{◌≡◌, ◌∙◌, List, map, ap, subst}
use Rattle.std.specs.Prelude.{IfOk}
use Rattle.ospl_grammar.specs.declared.process.StatedJob.{StatedJob}
use Rattle.ospl_grammar.specs.declared.process.Process.TheVariants.{Statistics}
use Rattle.ospl_grammar.specs.Writing.{process_text}
use Rattle.os_server.specs.Answers.{stated}
use Rattle.os_server.proofs.processes.text_of_all.Goals as goal

pub returns : goal.returns
returns c =
    let told = c.args.told.now in
    subst (λ (jobs : List StatedJob). IfOk c.encode.result (λ text. text ≡ process_text (Statistics told.busy told.current told.total jobs)))
    (c.in_ok-jobs.ensures ∙ ap (map stated) c.as_slice.ensures) c.encode.ensures
