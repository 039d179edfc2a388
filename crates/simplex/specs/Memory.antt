-- What the memory for runs has.
use Rattle.std.specs.Prelude.{◌≡◌, ℕ, ◌+◌, ◌<◌, true, false, List}
use Rattle.rational.specs.Ratio.{Ratio}
use Rattle.evidence.specs.Cases.{Multiplier}
use Rattle.bases.specs.Dictionary.{Entries, Values}
use Rattle.simplex_rules.specs.declared.columns.Status.{Status}
use Rattle.simplex_rules.specs.Statuses.{basic_in}
use Rattle.simplex_rules.specs.Ends.{End}
use Rattle.simplex_rules.specs.Reports.{collected}
use Rattle.simplex.specs.declared.answer.LpEnd.{LpEnd}
use Rattle.simplex.specs.declared.work.Work.{Work}
use Rattle.dictionary.specs.Dict.{width_of, height_of, entry_of}
use Rattle.simplex.specs.Tables.{AreHeld, values_in}
use Rattle.simplex.specs.Answers.{listed, ended}

-- the variables and the rows that there is room for
abbrev pub width_in : {L : _} {G : _} → Work L G → ℕ
width_in w = width_of w.dict

abbrev pub height_in : {L : _} {G : _} → Work L G → ℕ
height_in w = height_of w.dict

-- the value, the multiplier and the movement of each column
abbrev pub point_in : {L : _} {G : _} → Work L G → Values
point_in w = values_in w.values.items

abbrev pub factor_in : {L : _} {G : _} → Work L G → Values
factor_in w = values_in w.factors.items

abbrev pub movement_in : {L : _} {G : _} → Work L G → Values
movement_in w = values_in w.movements.items

-- the point, the multipliers that aren't 0, and the direction
abbrev pub point_of : {L : _} {G : _} → Work L G → List Ratio
point_of w = listed (width_in w) (point_in w)

abbrev pub mults_of : {L : _} {G : _} → Work L G → List Multiplier
mults_of w = collected (factor_in w) (width_in w + height_in w)

abbrev pub ray_of : {L : _} {G : _} → Work L G → List Ratio
ray_of w = listed (width_in w) (movement_in w)

-- the end of the run that answered so and left this memory
abbrev pub ended_with : {L : _} {G : _} → LpEnd → Work L G → End
ended_with e w = ended e (point_of w) (mults_of w) (ray_of w)

-- the basis by which the last run ended, with the places of the other columns, and its dictionary
abbrev pub statuses_in : {L : _} {G : _} → Work L G → List Status
statuses_in w = w.statuses.items

abbrev pub entries_in : {L : _} {G : _} → Work L G → Entries
entries_in w = entry_of w.dict

-- that basis stands in memory, with its dictionary
pub record IsAtBasis {L : _} {G : _} (w : Work L G) : Type 0 where
  pub held : AreHeld w.dict (statuses_in w)

-- the first column is basic, and the second isn't
pub record IsEntryOf {L : _} {G : _} (w : Work L G) (b c : ℕ) : Type 0 where
  pub row : b < width_in w + height_in w
  pub column : c < width_in w + height_in w
  pub basic : basic_in (statuses_in w) b ≡ true
  pub other : basic_in (statuses_in w) c ≡ false
