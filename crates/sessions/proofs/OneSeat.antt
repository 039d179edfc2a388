-- A session's desk, of which one seat alone made moves.
use Rattle.std.proofs.Common.{◌≡◌, ℕ, Bool, List, [], ◌++◌, refl, sym, ◌∙◌, ap, subst, arith}
use mathlib.Core.Option.{some-ne-none}
use Rattle.os_io.specs.Streams.{Tells}
use Rattle.job_table.specs.Jobs.{Register, Rises, NobodyRuns, beginning}
use Rattle.job_table.specs.History.{MoveEntry, LeadsStepwise, LeadsOn, LeadsTo, on_stepwise}
use Rattle.job_table.proofs.Histories.{first_led}
use Rattle.job_runs.specs.Laws.{AreKeptIfStored}
use Rattle.job_runs.proofs.Histories.{kept_stepwise}
use Rattle.desk.specs.declared.view.View.{View}
use Rattle.desk.specs.declared.view.SeatEntry.{SeatEntry}
use Rattle.desk.specs.History.{entries_by, by}
use Rattle.desk.specs.Rule.{first_view, HasMet}
use Rattle.desk.specs.SeatMoves.{Closes, ClosesBy}
use Rattle.desk.specs.SeatHistory.{Asked, AskedBy}
use Rattle.desk.proofs.StoreHistories.{closes_nothing}
use Rattle.desk.proofs.WholeHistory.{moves_by_one, whole_history}
use Rattle.job_journal.specs.declared.journal.Journal.{Journal}
use Rattle.job_journal.specs.Stores.{keeps_these, passes_between, too_long_behind}
use Rattle.os_server.specs.declared.serve.Served.{Served}
use Rattle.os_server.specs.Laws.{ConversationsAreKept}
use Rattle.os_server.specs.Talk.{Serves}
use Rattle.os_server.proofs.Rounds.{serves_so}
use Rattle.solve_run.specs.JobAnswers.{Right}
use Rattle.job_solver.specs.Runs.{MakesDocument, WakesNobody}
use Rattle.job_solver.specs.ProvedDocuments.{ShownAreProved}
use Rattle.job_solver.specs.StoredDocuments.{ShownAreProvedFrom}
use Rattle.sessions.specs.Sessions.{ServesAlone, IsSession}
use Rattle.sessions.specs.StoredSessions.{ServesStored, IsStoredSession}

-- ---- a new desk

-- the history of one that a single seat made moves of is these moves, whatever lies in its slot
pub closed_with_all : {is_legal makes : List SeatEntry → Type 0} (first v : View) → first ≡ first_view → (said : List MoveEntry) → AskedBy is_legal first v said → ClosesBy makes v → makes (by 0 said)
closed_with_all {is_legal} {makes} first v fresh said asked c =
    let stand : entries_by first.number first.seen ≡ first.mine = subst (λ (f : View). entries_by f.number f.seen ≡ f.mine) (sym fresh) refl in
    let known : HasMet first.seen first.met = subst (λ (f : View). HasMet f.seen f.met) (sym fresh) (λ i m there. absurd (some-ne-none m (sym there))) in
    subst makes (whole_history first v said asked (ap (λ (f : View). f.number) fresh) stand known c ∙ ap (λ (f : View). f.seen ++ by 0 said) fresh) c.leads

-- so its table is the one after these moves, where a table alone lies there
pub closed_runs : (first v : View) → first ≡ first_view → (said : List MoveEntry) → Asked Right first v said → (table : Register) → Closes Right v table → table.first ≡ 1
    → LeadsStepwise Right (beginning 1) said table
closed_runs first v fresh said asked table c begins =
    subst (λ (z : ℕ × List MoveEntry). LeadsStepwise Right (beginning z.0) z.1 table) (λ i. (begins i, moves_by_one 0 said i)) (closed_with_all first v fresh said asked c)

-- a conversation by moves of a new desk, which was closed
pub served_alone : (did : List MoveEntry → Type 0) (end : Served) (old new : Tells) (table : Register) → (s : Serves MakesDocument WakesNobody did end old new)
    → LeadsStepwise Right (beginning 1) s.part.entries table → ServesAlone end old new
served_alone did end old new table s runs = (table, serves_so MakesDocument WakesNobody did (λ made. LeadsStepwise Right (beginning 1) made table) end old new s runs)

-- a conversation without a move
pub served_without : (end : Served) (old new : Tells) → Serves MakesDocument WakesNobody (λ made. made ≡ []) end old new → ServesAlone end old new
served_without end old new s =
    served_alone (λ made. made ≡ []) end old new (beginning 1) s (subst (λ (es : List MoveEntry). LeadsStepwise Right (beginning 1) es (beginning 1)) (sym s.moves) refl)

-- a conversation whose moves were all that were made is a session
pub session_of : ConversationsAreKept MakesDocument WakesNobody Right → ShownAreProved → (end : Served) (old new : Tells) → ServesAlone end old new → IsSession end old new
session_of kept shown end old new (table, s) =
    let runs : LeadsTo Right s.part.entries table = subst (λ (k : ℕ). LeadsStepwise Right (beginning k) s.part.entries table) (sym (first_led Right 1 s.part.entries table s.moves)) s.moves in record {
      entries = s.part.entries;
      table = table;
      runs = s.moves;
      serves = serves_so MakesDocument WakesNobody (λ made. LeadsStepwise Right (beginning 1) made table) (λ made. made ≡ s.part.entries) end old new s refl;
      kept = kept_stepwise Right (beginning 1) table s.part.entries s.moves
          (kept end old.left new.left s.part (beginning 1) [] table (omega arith) s.talk (on_stepwise Right (beginning 1) table s.part.entries s.moves));
      proved = shown s.part.entries table runs;
    }

-- a conversation without a move, over a journal
pub stored_without : {D : Type 0} {g : _} (told : D → Bool) (seen : D → List ℕ) (may_leave : D → List ℕ → Type 0) (moment : D → ℕ) (left_since : D → ℕ → List ℕ → Type 0) (faults : D → ℕ) (first : Register) (journal : Journal D g) (end : Served) (disk : D) (old new : Tells)
    → disk ≡ journal.disk → Serves MakesDocument WakesNobody (λ made. made ≡ []) end old new → ServesStored told seen may_leave moment left_since faults first journal end disk old new
stored_without told seen may_leave moment left_since faults first journal end disk old new left serves =
    ([], first, journal, left, closes_nothing Right (keeps_these told seen may_leave) (passes_between told moment left_since) too_long_behind (λ j. j.broken) (λ j. faults j.disk) first journal, serves)

-- a conversation over a journal whose moves were all that were made is a session, by what was told to the desk
pub stored_session_of : {D : Type 0} {g : _} (told : D → Bool) (seen : D → List ℕ) (may_leave : D → List ℕ → Type 0) (moment : D → ℕ) (left_since : D → ℕ → List ℕ → Type 0) (faults : D → ℕ) (first held : Register) (journal store : Journal D g) (end : Served) (disk : D) (old new : Tells)
    → held ≡ first → store ≡ journal → Rises first → NobodyRuns first → ConversationsAreKept MakesDocument WakesNobody Right → ShownAreProvedFrom
    → ServesStored told seen may_leave moment left_since faults held store end disk old new → IsStoredSession told seen may_leave moment left_since faults first journal end disk old new
stored_session_of {D} {g} told seen may_leave moment left_since faults first held journal store end disk old new same kept_in rises nobody kept shown serves =
    let (own, table, after, left, closes, s) = subst (λ (z : Register × Journal D g). ServesStored told seen may_leave moment left_since faults z.0 z.1 end disk old new) (λ i. (same i, kept_in i)) serves in
    let moves : LeadsOn Right first own table = subst (λ (es : List MoveEntry). LeadsOn Right first es table) (moves_by_one 0 own) closes.moves in record {
      own = own;
      table = table;
      after = after;
      left_is = left;
      closes = closes;
      serves = s;
      kept = subst (λ (es : List MoveEntry). AreKeptIfStored es) s.moves
          (kept end old.left new.left s.part first [] table rises s.talk (subst (λ (es : List MoveEntry). LeadsOn Right first es table) (sym s.moves) moves));
      shown = shown first own table rises nobody moves;
    }
