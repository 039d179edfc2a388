use Rattle.std.proofs.Common.{◌∙◌, Some, nat_eq, rules}
use Rattle.indexmap.proofs.CallerLemmas.{insert_entry-new}
use Rattle.job_table.proofs.phases.append.Goals as goal

pub returns-in-Ok-clause-ok : goal.returns-in-Ok-clause-ok
returns-in-Ok-clause-ok g c =
    let update = c.in-Ok-Vacant.ensures.update in
    search rules ∙ update.1 (Some c.args.phase) ∙ insert_entry-new nat_eq c.args.places.now c.args.number (Some c.args.phase) c.requires.new
