use Rattle.std.proofs.Common.{◌<◌, ◌≤◌, ℕ, length, slice_index_or}
use Rattle.certificate.specs.declared.nodes.Cert.{Cert}
use Rattle.cert_checker.proofs.scratch.most_of.Given as goal

abbrev pub invariant-loop-k : goal.invariant-loop-k
invariant-loop-k l = record {
  nodes : (i : ℕ) (d : Cert) → i < l.k → length (slice_index_or l.certs i d).nodes ≤ l.nodes;
  rounds : (i : ℕ) (d : Cert) → i < l.k → length (slice_index_or l.certs i d).rounds ≤ l.rounds;
}
