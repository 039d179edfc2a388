use Rattle.cert_checker.proofs.OneReason.{reason_once}
use Rattle.cert_checker.proofs.laws.claims_have_one_refusal.Goals as goal

pub returns : goal.returns
returns c = reason_once
