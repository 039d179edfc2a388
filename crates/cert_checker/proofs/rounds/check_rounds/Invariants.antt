use Rattle.std.proofs.Common.{◌+◌, ℕ, take, drop}
use Rattle.instance.specs.Program.{program}
use Rattle.certificate.specs.Meanings as Means
use Rattle.cert_checker.specs.Programs.{with_rows, AreWide}
use Rattle.cert_checker.specs.RoundRefusals.{LeadsThroughRounds}
use Rattle.cert_checker.proofs.rounds.check_rounds.Given as goal

abbrev pub invariant-loop-i : goal.invariant-loop-i
invariant-loop-i l = record {
  wide : (n : ℕ) → AreWide n l.initial.added → AreWide n l.added;
  leads : LeadsThroughRounds (program l.instance) (Means.rounds l.rounds) 1 (with_rows (program l.instance) (take l.i l.added)) (drop l.i (Means.rounds l.rounds)) (l.i + 1);
}
