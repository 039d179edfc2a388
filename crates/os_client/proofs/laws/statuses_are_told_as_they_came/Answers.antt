use Rattle.os_client.proofs.Digits.{as_they_came}
use Rattle.os_client.proofs.laws.statuses_are_told_as_they_came.Goals as goal

pub returns : goal.returns
returns c h is = as_they_came h.digits is.digits.0 is.digits.1
