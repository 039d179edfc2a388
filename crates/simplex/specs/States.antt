-- The state of a run: what holds of it between two turns, and what turns change.
use Rattle.std.specs.Prelude.{◌≡◌, ℕ, ◌≤◌, Bool, None, Some, Option, List}
use Rattle.fraction.specs.declared.frac.Frac.{Frac}
use Rattle.evidence.specs.Instance.{Instance, minimising}
use Rattle.bases.specs.Dictionary.{Entries, Values}
use Rattle.bases.specs.Program.{rows_with_goal}
use Rattle.simplex_rules.specs.declared.columns.Status.{Status}
use Rattle.simplex_rules.specs.Ends.{Terms, Clock}
use Rattle.simplex_rules.specs.Runs.{ComesInRun}
use Rattle.simplex_rules.specs.Looks.{answers, AgreesWith, looks_after}
use Rattle.dictionary.specs.Dict.{Holds, HaveOneSize, place_values}
use Rattle.simplex.specs.declared.answer.Turns.{Turns}
use Rattle.simplex.specs.declared.finish.Finish.{Finish}
use Rattle.simplex.specs.declared.work.Work.{Work}
use Rattle.simplex.specs.Cuts.{AreEndsOf, ranges_in}
use Rattle.simplex.specs.Tables.{AreHeld, HasSizeOf}
use Rattle.simplex.specs.Loads.{IsStart}
use Rattle.simplex.specs.Values.{AreResting, AreKnown}
use Rattle.simplex.specs.Memory.{statuses_in, entries_in, point_in}
use Rattle.simplex.specs.Finishes.{end_at, stops_at, KeepsAt, ComesTo}

-- the dictionary is that of its basis, the columns that aren't basic rest at their ends, and each value is its column's but for the unknown ones
pub record IsUnderWay {L : _} {G : _} (s : Work L G) : Type 0 where
  pub held : AreHeld s.dict (statuses_in s)
  pub resting : AreResting (ranges_in s.ends.items) (statuses_in s) (place_values s.rest)
  pub known : AreKnown s.dict s.rest (statuses_in s) s.values.items s.unknown

-- it is that of a run of this program, whose goal starts so
pub record IsOf {L : _} {G : _} (I : Instance) (zeroed : Bool) (start : Option Frac) (s : Work L G) : Type 0 where
  pub ends : AreEndsOf I s.ends.items
  pub size : HasSizeOf I s.dict
  pub begun : IsStart zeroed (minimising I I.goal.constant) start
  pub rows : Holds (rows_with_goal zeroed I) s.dict

-- what comes then of the run that began at clock c: one more moment, with these statuses, or an end
abbrev pub ComesThrough : Instance → Bool → Terms → Clock → List Status → Entries → Values → Clock → Option Finish → Type 0
ComesThrough I zeroed t c ss u w d None = ComesInRun I zeroed t c (record { statuses = ss; clock = d })
ComesThrough I zeroed t c ss u w d (Some f) = ComesTo I zeroed t c (end_at I ss u w f) d f ss

-- the turns that were done grew, at most to as many as may be
pub record HasCounted (a b : Turns) : Type 0 where
  pub most : b.most ≡ a.most
  pub more : a.done ≤ b.done
  pub within : a.done ≤ a.most → b.done ≤ a.most

-- from state s to u, the turns done being a and b: looks came, of which so many went on and one more may have stopped; and wherever a run of a program stood at s, it stands at u after these looks, or has come to its end
pub record Changes {L : _} {G : _} (start : Option Frac) (Came : List Bool → Type 0) (s u : Work L G) (a b : Turns) (result : Option Finish) : Type 0 where
  pub size : HaveOneSize s.dict u.dict
  pub turns : HasCounted a b
  pub of : (I : Instance) (zeroed : Bool) → IsOf I zeroed start s → KeepsAt result (IsOf I zeroed start u)
  pub looks : ℕ
  pub came : Came (answers looks (stops_at result))
  pub carries : (I : Instance) (zeroed : Bool) (t : Terms) (c : Clock) (l : ℕ) → IsOf I zeroed start s → t.turns ≡ a.most → AgreesWith t.stop l looks (stops_at result) → ComesInRun I zeroed t c (record { statuses = statuses_in s; clock = record { turns = a.done; looks = l } }) → ComesThrough I zeroed t c (statuses_in u) (entries_in u) (point_in u) (record { turns = b.done; looks = looks_after l looks (stops_at result) }) result
