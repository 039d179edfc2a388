-- A rounding cut that the code tries, as the rules of a search say it.
use Rattle.std.specs.Prelude.{◌≡◌, ℕ, ◌≤ℤ◌, pos, neg_ℤ, false, Option, Some, List, []}
use Rattle.rational.specs.Ratio.{Ratio, whole}
use Rattle.rational.specs.Width.{most}
use Rattle.fraction.specs.declared.frac.Frac.{Frac}
use Rattle.evidence.specs.Instance.{Instance}
use Rattle.evidence.specs.OneDenominator.{number_at}
use Rattle.bases.specs.Dictionary.{Entries}
use Rattle.certificate.specs.Meanings as Means
use Rattle.instance.specs.Parts.{Parts}
use Rattle.instance.specs.Program.{program, problem}
use Rattle.cert_checker.specs.Programs.{AreUncut, HoldsRow, numerators}
use Rattle.simplex_rules.specs.declared.columns.Status.{Status}
use Rattle.simplex_rules.specs.declared.columns.Status.TheVariants.{Lower, Upper, Zero}
use Rattle.simplex_rules.specs.Ends.{Terms, Clock, End}
use Rattle.simplex_rules.specs.Statuses.{HasDictionary}
use Rattle.simplex_rules.specs.Runs.{EndsAtBasis}
use Rattle.simplex.specs.declared.answer.Side.{Side}
use Rattle.simplex.specs.declared.answer.Side.TheVariants as Sides
use Rattle.simplex.specs.declared.work.Work.{Work}
use Rattle.simplex.specs.Memory.{statuses_in, entries_in}
use Rattle.case_tree.specs.Cuts.{cut}
use Rattle.search_rules.specs.Cuts as Rules
use Rattle.search_rules.specs.Cuts.{AreLeftWithin, NoneIsLeftAtZero, AreCutMultipliers, TriesBasis}
use Rattle.search_rules.specs.Search.{NextOfSearch, GoesFromTrial}
use Rattle.branch_bound.specs.declared.cutting.Left.{Left}
use Rattle.branch_bound.specs.declared.cutting.Left.TheVariants as Lefts
use Rattle.branch_bound.specs.declared.cutting.Trial.{Trial}
use Rattle.branch_bound.specs.declared.cutting.Trial.TheVariants.{NoCut, WideCut, Cut}
use Rattle.branch_bound.specs.declared.level.Level.{Level}
use Rattle.branch_bound.specs.declared.walk.Walk.{Walk}
use Rattle.branch_bound.specs.Walks.{case, rest}
use Rattle.branch_bound.specs.Levels.{moment}

-- the status of a column that isn't basic
abbrev pub status_of : Side → Status
status_of Sides.Lower = Lower
status_of Sides.Upper = Upper
status_of Sides.Zero = Zero

-- what is left of the entries of variable j's equation, at a basis with this dictionary
abbrev pub LeavesOf : Instance → List Status → Entries → ℕ → Left → Type 0
LeavesOf I ss u j Lefts.Wide = AreLeftWithin I ss u j → ⊥
LeavesOf I ss u j Lefts.AtZero = AreLeftWithin I ss u j × (NoneIsLeftAtZero I ss u j → ⊥)
LeavesOf I ss u j (Lefts.Mults ms) = AreLeftWithin I ss u j × NoneIsLeftAtZero I ss u j × AreCutMultipliers I ss u j (Means.multipliers ms)

-- the trial as the rules have it: the slots have the coefficients of its cut
abbrev pub tried : Trial → List (Option Frac) → Rules.Trial
tried NoCut slots = Rules.NoCut
tried WideCut slots = Rules.WideCut
tried (Cut ms k) slots = Rules.Cut (Means.multipliers ms) (numerators slots) k

-- whole numbers in the slots, one for each of n variables, and an end that fits
abbrev pub HoldsCut : ℕ → Trial → List (Option Frac) → Type 0
HoldsCut n NoCut slots = Unit {0}
HoldsCut n WideCut slots = Unit {0}
HoldsCut n (Cut ms k) slots = HoldsRow n (λ j. whole (number_at (numerators slots) j)) slots × (neg_ℤ (pos most) ≤ℤ k)

-- a run of program J ended so, at the basis that stands in memory, with its dictionary
pub record RanTo {L : _} {G : _} (J : Instance) (e : End) (w : Work L G) : Type 0 where
  pub terms : Terms
  pub before : Clock
  pub after : Clock
  pub ended : EndsAtBasis J false terms before e after (statuses_in w)
  pub dictionary : HasDictionary J false (statuses_in w) (entries_in w)

-- a level none of whose nodes was begun: the case at hand is the first one
pub record IsFreshWalk (p : Parts) (w : Walk) : Type 0 where
  pub nodes : w.nodes ≡ []
  pub uncut : AreUncut (program p) w.cuts.items
  pub next : w.next ≡ Some 0

-- from the trial of a cut on, where the level has program L and the cases come of D
abbrev pub TriesAt : Parts → Instance → Instance → Level → Walk → ℕ → Terms → Clock → List Ratio → List Status → NextOfSearch → Type 0
TriesAt p L D v w d t c x ss next =
    (trial : Rules.Trial) × TriesBasis (cut D w.cuts.items) x ss trial × GoesFromTrial (problem p) t (case D w d) (rest D w d) (moment p L D v w c) x trial next
