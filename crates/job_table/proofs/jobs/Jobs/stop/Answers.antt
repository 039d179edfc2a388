use Rattle.std.proofs.Common.{◌∙◌, ap, sym, Option, Some}
use Rattle.std.specs.Option.{option_copied}
use Rattle.job_table.specs.declared.job.Phase.{Phase}
use Rattle.job_table.specs.Steps.{kills}
use Rattle.job_table.proofs.jobs.Jobs.stop.Goals as goal

pub returns-in-Some-Running : goal.returns-in-Some-Running
returns-in-Some-Running c =
    let at = sym c.phase.ensures ∙ ap option_copied c.in-Some-Running.is ∙ ap (λ (x : Phase). Some x) c.in-Some-Running.field-0-is in
    c.mark.ensures _ at ∙ sym (ap (λ (q : Option Phase). kills c.args.number q c.args.self.now) at)
