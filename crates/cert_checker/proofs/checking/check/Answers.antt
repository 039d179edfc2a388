use Rattle.certificate.specs.Nodes.{certs_of}
use Rattle.cert_checker.proofs.EachCert.{each_range}
use Rattle.cert_checker.proofs.checking.check.Goals as goal

pub check_claim-requires-clause-range : goal.check_claim-requires-clause-range
check_claim-requires-clause-range c = each_range (certs_of c.args.claim.now) c.requires.range
