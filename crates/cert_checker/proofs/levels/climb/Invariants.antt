use Rattle.std.proofs.Common.{◌+◌, ℕ, take, drop}
use Rattle.fraction.specs.Frac.{ratios}
use Rattle.instance.specs.Program.{program, goals}
use Rattle.certificate.specs.Meanings as Means
use Rattle.cert_checker.specs.Programs.{AreWide}
use Rattle.cert_checker.specs.Reached.{at_level}
use Rattle.cert_checker.specs.LevelRefusals.{Ending, LeadsUp}
use Rattle.cert_checker.proofs.levels.climb.Given as goal

abbrev pub invariant-loop-level : goal.invariant-loop-level
invariant-loop-level l = record {
  wide : (n : ℕ) → AreWide n l.initial.added → AreWide n l.added;
  leads : (end : Ending) → LeadsUp end (program l.instance) (drop 1 (goals l.instance.goals)) (ratios l.values) (Means.certificates l.certs) 1 (at_level l.instance (take l.level l.added) l.level) (drop (l.level + 1) (goals l.instance.goals)) (drop l.level (ratios l.values)) (drop l.level (Means.certificates l.certs)) (l.level + 1);
}
