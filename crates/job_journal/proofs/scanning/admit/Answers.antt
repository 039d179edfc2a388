use Rattle.std.proofs.Common.{◌≡◌, true, false, sym, ◌∙◌}
use Rattle.effects.specs.Records.{deed_of}
use Rattle.job_journal.proofs.Scans.{admitted}
use Rattle.job_journal.proofs.scanning.admit.Goals as goal

pub returns-in-Ok-true : goal.returns-in-Ok-true
returns-in-Ok-true g c =
    admitted g.S.Sieve.accepted (deed_of c.args.effect.now) (g.R.Replay.holds c.args.table.now) (g.R.Replay.holds c.apply.new.self) c.apply.result
    (c.in-Ok-true.ensures.0 c.in-Ok-true.field-0-test) c.apply.ensures

pub returns-in-Ok-false : goal.returns-in-Ok-false
returns-in-Ok-false g c = λ admits. let wrong : true ≡ false = sym (c.in-Ok-false.ensures.1 admits) ∙ c.in-Ok-false.field-0-test in cc
