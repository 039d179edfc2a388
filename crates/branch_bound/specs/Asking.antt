-- The goal that is asked after a level's own.
use Rattle.std.specs.Prelude.{◌≡◌, ◌⊎◌, ◌++◌, [], ◌∷◌}
use Rattle.rational.specs.Ratio.{Ratio}
use Rattle.fraction.specs.Frac.{ratio}
use Rattle.fraction.specs.declared.frac.Frac.{Frac}
use Rattle.evidence.specs.Instance.{Instance, Problem, minimising_by}
use Rattle.instance.specs.Parts.{Parts}
use Rattle.instance.specs.Program.{sense}
use Rattle.instance.specs.declared.parts.Sense.{Sense}
use Rattle.certificate.specs.Meanings as Means
use Rattle.certificate.specs.declared.causes.Step.TheVariants.{Values}
use Rattle.certificate.specs.declared.causes.Cause.TheVariants.{Wide}
use Rattle.simplex_rules.specs.Ends.{Terms, Clock}
use Rattle.simplex_rules.specs.Runs.{looked_once}
use Rattle.search_rules.specs.Search.{SearchMoment, NextOfSearch, Out, begun_at, early, StopsBefore, BeginsCase}
use Rattle.branch_bound.specs.declared.level.Level.{Level}
use Rattle.branch_bound.specs.declared.walk.Walk.{Walk}
use Rattle.branch_bound.specs.declared.relaxation.Relaxation.{Relaxation}
use Rattle.branch_bound.specs.Walks.{best}
use Rattle.branch_bound.specs.Levels.{level, moment, IsAtLevel}

-- a cost, turned so that less is better
abbrev pub turned_by : Sense → Frac → Ratio
turned_by s x = minimising_by (sense s) (ratio x)

-- where the end of the next level's row doesn't fit: no node is begun, or that is told at its first one
abbrev pub EndsWide : Problem → Terms → SearchMoment → NextOfSearch → Type 0
EndsWide P t m next =
    StopsBefore P t m next ⊎ (BeginsCase P t m × (next ≡ Out (early m.best (Wide (record { node = 1; turn = m.clock.turns; step = Values }))) (looked_once m.clock)))

-- after level v, whose walk was w, the one of program K has begun, and shows what was shown and what showed level v
pub record HasBegunLevel {M : _} {G : _} (p : Parts) (v : Level) (w : Walk) (K : Instance) (r : Relaxation M G) (u : Level) (x : Walk) : Type 0 where
  pub at : IsAtLevel p r u K K
  pub shown : Means.certificates u.certs ≡ Means.certificates v.certs ++ record { rounds = Means.rounds v.rounds; nodes = Means.nodes w.nodes } ∷ []
  pub begins : (c : Clock) → moment p K K u x c ≡ begun_at (level p K u) c (best w.best)
