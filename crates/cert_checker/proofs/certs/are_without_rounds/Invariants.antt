use Rattle.std.proofs.Common.{◌≡◌, ◌<◌, ℕ, [], slice_index_or}
use Rattle.certificate.specs.declared.nodes.Cert.{Cert}
use Rattle.cert_checker.proofs.certs.are_without_rounds.Given as goal

abbrev pub invariant-loop-k : goal.invariant-loop-k
invariant-loop-k l = (i : ℕ) (d : Cert) → i < l.k → (slice_index_or l.certs i d).rounds ≡ []
