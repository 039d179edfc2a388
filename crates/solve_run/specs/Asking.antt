-- What a job's options ask of its search beside its limits: that it tells its bound where it is given up, and the gap at which it stops, if any.
use Rattle.std.specs.Prelude.{cond, nat_eq, Option, None, Some, List}
use Rattle.fraction.specs.Frac.{ratio}
use Rattle.rational.specs.Ratio.{Ratio, IsAtMost}
use Rattle.evidence.specs.Sums.{none}
use Rattle.evidence.specs.Instance.{Problem}
use Rattle.evidence.specs.Point.{objective, IsFeasible}
use Rattle.evidence.specs.ProvedBounds.{IsWithinGap}
use Rattle.search_rules.specs.Search.{SearchMoment, reached}
use Rattle.search_rules.specs.Gaps as gaps
use Rattle.search_rules.specs.Gaps.{IsNearBy}
use Rattle.search_rules.specs.Asked.{Asked}
use Rattle.osol_grammar.specs.declared.gaps.Gap.{Gap}
use Rattle.osol_grammar.specs.declared.options.Options.{Options}

-- a gap of options, as searches have it: so many hundredths of the best point's value, or a number
abbrev pub gap_as : Gap → gaps.Gap
gap_as g = cond g.is_percent (gaps.Percent (ratio g.number)) (gaps.Number (ratio g.number))

abbrev pub search_gap : Option Gap → Option gaps.Gap
search_gap None = None
search_gap (Some g) = Some (gap_as g)

-- the bound is asked for by 1
abbrev pub job_asked : Options → Asked
job_asked o = record { bound = nat_eq o.bound 1; gap = search_gap o.gap }

-- at this moment the best point is near enough for the gap, and no feasible point is better than it by more than that allows
pub record GapHolds (P : Problem) (g : Gap) (m : SearchMoment) (xs : List (Option Ratio)) : Type 0 where
  pub near : IsNearBy P (gap_as g) m xs
  pub holds : IsAtMost none near.allowed → (y : List Ratio) → IsFeasible P.program y → IsWithinGap P.program (reached m.level near.found) (objective P.program y) near.allowed
