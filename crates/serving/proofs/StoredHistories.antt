-- What a history of a desk over a journal is behind the serving of links.
use Rattle.std.proofs.Common.{◌≡◌, ℕ, ◌+◌, nat_eq, Bool, true, false, List, [], ◌++◌, Some, Result, Ok, Err, refl, sym, ◌∙◌, ap, subst, inl, inr}
use Rattle.std.proofs.lemmas.List.Elements.{All-nil}
use Rattle.os_io.specs.Streams.{Tells}
use Rattle.os_io.specs.Links.{NetTells}
use Rattle.job_table.specs.declared.entries.TableMove.TheVariants.{Retrieve}
use Rattle.job_table.specs.declared.entries.Retrieved.TheVariants as shows
use Rattle.job_table.specs.declared.entries.Reply.TheVariants as reply
use Rattle.job_table.specs.Jobs.{Register, Rises, NobodyRuns, waiting_jobs}
use Rattle.job_table.specs.History.{MoveEntry as Said, entry_of_move}
use Rattle.job_table.specs.Laws.{FirstFinishIsKept, NumbersAreGivenOnce}
use Rattle.job_journal.specs.declared.journal.Journal.{Journal}
use Rattle.job_journal.specs.Stores.{keeps_these, passes_between, too_long_behind}
use Rattle.job_runs.specs.Laws.{IsKeptIfStored}
use Rattle.desk.specs.declared.view.SeatEntry.{SeatEntry}
use Rattle.desk.specs.declared.view.View.{View}
use Rattle.desk.specs.History.{moves_in, entries_by, by}
use Rattle.desk.specs.Rule.{first_view, HasMet}
use Rattle.desk.specs.SeatMoves.{ClosesBy}
use Rattle.desk.specs.SeatHistory.{AskedBy}
use Rattle.desk.proofs.StoreHistories.{closes_nothing}
use Rattle.workers.specs.Shifts.{WorksThrough}
use Rattle.workers.specs.Bells.{Untold}
use Rattle.server_threads.specs.declared.means.ServeFault.{ServeFault}
use Rattle.server_threads.specs.declared.means.ServeFault.TheVariants.{Failed, Memory}
use Rattle.server_threads.specs.Talks.{LinkTalk, Shift}
use Rattle.server_threads.specs.Serving as threads
use Rattle.solve_run.specs.JobAnswers.{Right}
use Rattle.job_solver.specs.Runs.{MakesDocument}
use Rattle.job_solver.specs.StoredDocuments.{ShownAreProvedFrom}
use Rattle.serving.specs.declared.setup.Setup.{Setup}
use Rattle.serving.specs.declared.ending.Ending.{Ending}
use Rattle.serving.specs.declared.ending.Ending.TheVariants.{ListenFault, AnnounceFault, NoMemory}
use Rattle.serving.specs.Serving.{Converses, IsShared, HasBegun, Unbegun, TellsEnd, IsRunOf, done_if, ending_of, given_in}
use Rattle.serving.specs.StoredServing.{ClosesJournal, EndsIdle, IsStoredHistory, IsStoredServerRun, ServesOver}
use Rattle.serving.proofs.Endings.{unbegun, unopened, ended}
use Rattle.serving.proofs.Histories.{stood, not_nil, no_closer, none_shared, none_waits_behind, shared_kept, hosts_of}
use Rattle.serving.proofs.NumberCounts.{runs_counted}

-- ---- how a server ends that had a desk, and one that had none

abbrev had_desk : Ending → Bool
had_desk ListenFault = false
had_desk AnnounceFault = false
had_desk how = true

done_had : (all : Bool) → had_desk (done_if all) ≡ true
done_had true = refl
done_had false = refl

fault_had : (fault : ServeFault) → had_desk (ending_of fault) ≡ true
fault_had Failed = refl
fault_had Memory = refl

told_had : (served : Result ℕ ServeFault) (given : ℕ) (how : Ending) (output output' : Tells) → TellsEnd served given how output output' → had_desk how ≡ true
told_had (Ok k) given how output output' (inl (is, sent)) = ap had_desk is ∙ done_had (nat_eq k 0)
told_had (Ok k) given how output output' (inr (is, breaks)) = ap had_desk is
told_had (Err fault) given how output output' (is, stays) = ap had_desk is ∙ fault_had fault

idle_behind : (how : Ending) (log : List SeatEntry) (waiting : ℕ) → had_desk how ≡ true → waiting ≡ 0 → EndsIdle how log waiting
idle_behind ListenFault log waiting had none = let wrong : false ≡ true = had in absurd cc
idle_behind AnnounceFault log waiting had none = let wrong : false ≡ true = had in absurd cc
idle_behind NoMemory log waiting had none = inr none
idle_behind how log waiting had none = none

idle_before : (how : Ending) (waiting : ℕ) (host : List ℕ) (port patience : ℕ) (old new : NetTells) (output output' : Tells) → Unbegun how host port patience old new output output' → EndsIdle how [] waiting
idle_before how waiting host port patience old new output output' (inl fault) = subst (λ (e : Ending). EndsIdle e [] waiting) (sym fault.0) refl
idle_before how waiting host port patience old new output output' (inr fault) = subst (λ (e : Ending). EndsIdle e [] waiting) (sym fault.0) refl

module _ {D : Type 0} {g : _} (told : D → Bool) (seen : D → List ℕ) (may_leave : D → List ℕ → Type 0) (moment : D → ℕ) (left_since : D → ℕ → List ℕ → Type 0) (faults : D → ℕ) (first : Register) (journal : Journal D g) (left : D) (how : Ending) where
  abbrev StoredBy : (servers : ℕ) → List LinkTalk → List Shift → Shift → List SeatEntry → Type 0
  StoredBy servers links staff closer log = IsStoredHistory told seen may_leave moment left_since faults first journal left how servers links staff closer log

  abbrev given_before : List SeatEntry → ℕ
  given_before log = first.issued + given_in log

  abbrev Run : (host : List ℕ) (port : ℕ) (setup : Setup) (old new : NetTells) (output output' : Tells) → Type 0
  Run host port setup old new output output' = IsStoredServerRun told seen may_leave moment left_since faults first journal left how host port setup old new output output'

  -- nobody made a move: the table and the journal are as they were
  none_stored : (servers : ℕ) → left ≡ journal.disk → EndsIdle how [] (waiting_jobs first.jobs) → StoredBy servers [] [] no_closer []
  none_stored servers home idle = record {
    table = first;
    after = journal;
    left_is = home;
    closes_with = closes_nothing Right (keeps_these told seen may_leave) (passes_between told moment left_since) too_long_behind (λ j. j.broken) (λ j. faults j.disk) first journal;
    shared = none_shared servers;
    kept = All-nil IsKeptIfStored;
    shown = λ n document before after are. absurd (not_nil before after (entry_of_move (Retrieve n) (reply.Retrieved (shows.Finished (Some document)))) are);
    idle = idle;
  }

  -- a server that didn't begin
  pub stored_unbegun : (host : List ℕ) (port : ℕ) (setup : Setup) (old new : NetTells) (output output' : Tells) → left ≡ journal.disk → Unbegun how host port setup.patience old new output output'
      → Run host port setup old new output output'
  stored_unbegun host port setup old new output output' home is =
      unbegun given_before (StoredBy setup.limits.servers) host port setup
      (none_stored setup.limits.servers home (idle_before how (waiting_jobs first.jobs) host port setup.patience old new output output' is)) how old new output output' is

  -- one for whose desk there was no memory
  pub stored_unopened : (host : List ℕ) (port : ℕ) (setup : Setup) (old new : NetTells) (output output' : Tells) → how ≡ NoMemory → left ≡ journal.disk → HasBegun host port setup.patience old new output output'
      → Run host port setup old new output output'
  stored_unopened host port setup old new output output' is home (reached, same, counted, listens) =
      let none = none_stored setup.limits.servers home (subst (λ (e : Ending). EndsIdle e [] (waiting_jobs first.jobs)) (sym is) (inl refl)) in
      subst (λ (e : Ending). IsRunOf given_before (StoredBy setup.limits.servers) e host port setup old new output output') (sym is)
      (unopened given_before (StoredBy setup.limits.servers) host port setup old new reached same counted output output' none listens)

  -- and one that had a desk, which was told this table and this journal
  pub stored_run : (told_first : Register) (told_journal : Journal D g) → told_first ≡ first → told_journal ≡ journal → (host : List ℕ) (port : ℕ) (setup : Setup) (before old new : NetTells) (output said output' : Tells)
      → HasBegun host port setup.patience before old output said → ServesOver told seen may_leave moment left_since faults told_first told_journal left how setup old new said output' → Run host port setup before new output output'
  stored_run told_first told_journal same_first same_journal host port setup before old new output said output' (reached, same, counted, listens) over =
      let (served, given, hosts, stayed, tells) = subst (λ (z : Register × Journal D g). ServesOver told seen may_leave moment left_since faults z.0 z.1 left how setup old new said output') (λ i. (same_first i, same_journal i)) over in
      ended given_before (StoredBy setup.limits.servers) host port setup before old reached same counted output said listens new stayed how served given output' tells hosts

  module _ (rises : Rises first) (nobody : NobodyRuns first) (kept : FirstFinishIsKept Right) (numbers : NumbersAreGivenOnce Right) (shown_proved : ShownAreProvedFrom) where
    stored_story : (servers : ℕ) (table : Register) (after : Journal D g) → left ≡ after.disk → had_desk how ≡ true → (links : List LinkTalk) (staff : List Shift) (own : List Said) (had log : List SeatEntry)
        → ClosesJournal told seen may_leave moment left_since faults first journal log table after → log ≡ had ++ by 0 own → WorksThrough MakesDocument own
        → IsShared servers links staff (record { seat = 0; said = own }) log → StoredBy servers links staff (record { seat = 0; said = own }) log
    stored_story servers table after home desk links staff own had log closes whole works shared = record {
      table = table;
      after = after;
      left_is = home;
      closes_with = closes;
      shared = shared;
      kept = shared_kept kept numbers first rises servers links staff (record { seat = 0; said = own }) log table closes.moves shared;
      shown = shown_proved first (moves_in log) table rises nobody closes.moves;
      idle = idle_behind how log (waiting_jobs table.jobs) desk (none_waits_behind first table had log own whole works closes.moves);
    }

    -- links that were served by moves of a desk over a journal, whose first seat worked off what waited then and closed it, and the end that was told
    pub served_over : {is_legal : List SeatEntry → Type 0} (setup : Setup) (given : ℕ) (served : Result ℕ ServeFault) (old new : NetTells) (output output' : Tells) (v w last : View) (own : List Said) (table : Register) (after : Journal D g)
        → (o : (links : List LinkTalk) × threads.ServesLinks MakesDocument (Converses Untold) setup.limits.servers setup.limits.workers (stood v old) (stood w new) links × threads.EndsServing served setup.limits.connections links old.faults new.faults)
        → v ≡ first_view → entries_by w.number w.seen ≡ w.mine → HasMet w.seen w.met → AskedBy is_legal w last own → WorksThrough MakesDocument own
        → ClosesBy (λ log. ClosesJournal told seen may_leave moment left_since faults first journal log table after) last → given ≡ table.issued → left ≡ after.disk → TellsEnd served given how output output'
        → ServesOver told seen may_leave moment left_since faults first journal left how setup old new output output'
    served_over setup given served old new output output' v w last own table after o fresh stand known asked works c is home tells = (
      served,
      given,
      hosts_of (StoredBy setup.limits.servers) (λ links log. (given ≡ given_before log) × threads.EndsServing served setup.limits.connections links old.faults new.faults) setup old new
          (stored_story setup.limits.servers table after home (told_had served given how output output' tells)) v w last o.0 own o.1
          fresh stand known asked works c (is ∙ runs_counted Right first table (moves_in c.log) c.leads.moves, o.2),
      o.1.reached,
      tells,
    )
