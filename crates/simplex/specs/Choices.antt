-- What a choice at a moment says of what comes next.
use Rattle.std.specs.Prelude.{◌≡◌, ◌≢◌, ◌<◌, true, false, pos, List, length, slice_set}
use Rattle.evidence.specs.Instance.{Instance}
use Rattle.bases.specs.Dictionary.{Entries, Values}
use Rattle.bases.specs.Pivot.{IsPivoted, PivotFits}
use Rattle.simplex_rules.specs.declared.columns.Status.{Status}
use Rattle.simplex_rules.specs.Statuses.{is_basic, basic_in}
use Rattle.simplex_rules.specs.Turns.{pivoted}
use Rattle.simplex_rules.specs.Ends.{Terms, Clock}
use Rattle.simplex_rules.specs.Runs.{Next, BeginsTurn, Out}
use Rattle.dictionary.specs.declared.dict.Dict.{Dict}
use Rattle.dictionary.specs.Dict.{HaveOneSize, entry_of}
use Rattle.simplex.specs.declared.choosing.Swap.{Swap}
use Rattle.simplex.specs.declared.choosing.Flip.{Flip}
use Rattle.simplex.specs.declared.choosing.Choice.{Choice}
use Rattle.simplex.specs.declared.choosing.Choice.TheVariants as Has
use Rattle.simplex.specs.Tables.{AreStatuses}
use Rattle.simplex.specs.Finishes.{end_at, is_stop, IsFinishReady}

-- R holds of what comes next, whatever the turn that was chosen makes of it, or else of the end
abbrev pub ChoiceLeadsTo : Instance → List Status → Entries → Values → Terms → Clock → (Next → Type 0) → Choice → Type 0
ChoiceLeadsTo I ss u w t c R (Has.Swap s) = (next : Next) → BeginsTurn t c (PivotFits u s.basic s.nonbasic) (pivoted ss s.basic s.nonbasic s.status) next → R next
ChoiceLeadsTo I ss u w t c R (Has.Flip f) = (next : Next) → BeginsTurn t c (Unit {0}) (slice_set ss f.col f.status) next → R next
ChoiceLeadsTo I ss u w t c R (Has.Done f) = R (Out (end_at I ss u w f) c)

-- a basic column that another one, with an entry that isn't 0, can take the place of
pub record IsSwap (ss : List Status) (u : Entries) (s : Swap) : Type 0 where
  pub basic_inside : s.basic < length ss
  pub basic : basic_in ss s.basic ≡ true
  pub nonbasic_inside : s.nonbasic < length ss
  pub nonbasic : basic_in ss s.nonbasic ≡ false
  pub status : is_basic s.status ≡ false
  pub nonzero : (u s.basic s.nonbasic).num ≢ pos 0

-- from the one dictionary and its statuses the swap makes the others
pub record IsSwapped {L : _} {G : _} (d e : Dict L G) (ss zs : List Status) (s : Swap) : Type 0 where
  pub size : HaveOneSize d e
  pub entries : IsPivoted (entry_of d) s.basic s.nonbasic (entry_of e)
  pub statuses : zs ≡ pivoted ss s.basic s.nonbasic s.status
  pub basic : AreStatuses e zs

-- a column that isn't basic can stand elsewhere
pub record IsFlip (ss : List Status) (f : Flip) : Type 0 where
  pub inside : f.col < length ss
  pub nonbasic : basic_in ss f.col ≡ false
  pub status : is_basic f.status ≡ false

-- the turn can be made; a finish that is chosen isn't a stop
abbrev pub IsChoiceAllowed : List Status → Entries → Choice → Type 0
IsChoiceAllowed ss u (Has.Swap s) = IsSwap ss u s
IsChoiceAllowed ss u (Has.Flip f) = IsFlip ss f
IsChoiceAllowed ss u (Has.Done f) = (is_stop f ≡ false) × IsFinishReady ss f
