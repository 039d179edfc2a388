-- How a run over a journal ends.
use Rattle.std.proofs.Common.{◌≡◌, ◌∙◌, ℕ, inl, inr, List, [], ◌∷◌, Option, Some, Err, arith, sym, ap, subst}
use Rattle.std.specs.Prelude.{option_map}
use Rattle.std.specs.Borrow.{Bor}
use Rattle.os_io.specs.declared.files.FileFault.{FileFault}
use Rattle.os_io.specs.Files.{CountsFiles}
use Rattle.os_io.specs.Streams.{Tells}
use Rattle.disks.specs.declared.disk.Disk.{Ghosts}
use Rattle.disks.specs.Stores.{AreOpened, IsBack}
use Rattle.job_table.specs.Jobs.{Register}
use Rattle.job_journal.specs.declared.journal.Journal.{Journal}
use Rattle.job_journal.specs.declared.scanning.OpenFault.{OpenFault}
use Rattle.job_journal.specs.declared.scanning.OpenFault.TheVariants.{ReadFault, WriteFault, Damaged, Memory}
use Rattle.job_journal.specs.Opening.{CountsBack, CountsOpening}
use Rattle.serving.specs.declared.setup.Setup.{Setup}
use Rattle.command_line.specs.Words.{Command, Session, asks, meant}
use Rattle.command_line.specs.declared.words.Asked.TheVariants.{Serve}
use Rattle.command_line.specs.declared.words.ServeWords.{ServeWords}
use Rattle.command_answers.specs.Outputs.{IsTold}
use Rattle.os_app.specs.ProgramRuns.{ProgramRun, StoresRun, LeavesInput, NamesNoJournal, asks_to_serve, journal_of, setup_of, stores_run}
use Rattle.os_app.specs.Runs.{AllFilesRead, Runs}
use Rattle.os_app.specs.JournalFaults.{damaged_line, IsSaidOf}
use Rattle.os_app.specs.StoredRuns.{IsOpen, GivesBack, IsOverJournal, EndsOver, KeepsSession, KeepsServer, done, unopened, kept, hosted}
use Rattle.os_app.specs.Statuses.{session_status, serve_status}
use Rattle.os_app.proofs.Words.{command_runs, no_check, serve_never, session_never}

-- the journal that is named, if one is
pub session_named : (asked : Option Command) (journal named : Option (Bor (List ℕ))) → journal ≡ named → asked ≡ Some (Session (option_map (λ n. n.now) journal)) → asked ≡ Some (Session (option_map (λ n. n.now) named))
session_named asked journal named is asks = asks ∙ ap (λ (j : Option (Bor (List ℕ))). Some (Session (option_map (λ n. n.now) j))) is

module _ (to : ServeWords) (setup : Setup) (set : setup ≡ setup_of to) where
  pub serve_named : (asked : Option Command) (named : Option (Bor (List ℕ))) → to.journal ≡ named → asked ≡ Some (meant (Serve to)) → asked ≡ Some (asks_to_serve to.host.now to.port setup (option_map (λ n. n.now) named))
  serve_named asked named is asks =
      asks ∙ ap (λ (j : Option (Bor (List ℕ))). Some (asks_to_serve to.host.now to.port (setup_of to) (option_map (λ n. n.now) j))) is ∙ ap (λ (s : Setup). Some (asks_to_serve to.host.now to.port s (option_map (λ n. n.now) named))) (sym set)

  -- its numbers are within their ends
  pub set_within : (Within : Setup → Type 0) → Within (setup_of to) → Within setup
  set_within Within within = subst Within (sym set) within

-- words that name a journal don't name none
pub journal_none : (words : List (List ℕ)) (it : Command) (name : List ℕ) → asks words ≡ Some it → journal_of it ≡ Some name → NamesNoJournal words → ⊥
journal_none words it name asked named none = let e = none it asked in absurd (cc)

-- a disk that is given back was counted, whatever its journal would have been
pub counts_left : {D : Type 0} (faults : D → ℕ) (fault : OpenFault) (left : D) (n : ℕ) → CountsBack {J = ℕ} (λ k. k) faults (Err (fault, left)) n → CountsOpening {X = Unit {0}} (Err fault) n (faults left)
counts_left faults ReadFault left n h = h
counts_left faults WriteFault left n h = h
counts_left faults (Damaged place) left n h = h
counts_left faults Memory left n h = h

-- and a disk that wasn't opened
pub counts_none : (fault known : FileFault) (a b : ℕ) → fault ≡ known → CountsFiles {X = ℕ} (Err fault) a b → CountsFiles {X = ℕ} (Err known) a b
counts_none fault known a b is h = subst (λ (f : FileFault). CountsFiles {X = ℕ} (Err f) a b) is h

-- where a journal is damaged was said
pub said_damaged : (fault : OpenFault) (place status : ℕ) (old new : Tells) → fault ≡ Damaged place → IsTold 9 (damaged_line place) status old new → IsSaidOf fault status old new
said_damaged fault place status old new is told = subst (λ (f : OpenFault). IsSaidOf f status old new) (sym is) told

-- what is said of a journal that isn't opened has a status that isn't 2
pub said_never : (fault : OpenFault) (status : ℕ) (old new : Tells) → IsSaidOf fault status old new → status ≡ 2 → ⊥
said_never ReadFault status old new said two = omega (arith, said.0, two)
said_never WriteFault status old new said two = omega (arith, said.0, two)
said_never (Damaged place) status old new (inl told) two = omega (arith, told.0, two)
said_never (Damaged place) status old new (inr off) two = omega (arith, off.0, two)
said_never Memory status old new said two = omega (arith, said.0, two)

module _ {D : Type 0} (g : Ghosts D) where
  over_never : {How : Type 0} (status_of : How → ℕ) (never : (how : How) → status_of how ≡ 2 → ⊥) (Does : How → Register → Journal D g → D → Type 0) (Untouched : Type 0) (name : List ℕ) (first status : ℕ) (stores : StoresRun) (old new : Tells)
      → EndsOver g status_of Does Untouched name first status stores old new → status ≡ 2 → ⊥
  over_never status_of never Does Untouched name first status stores old new (done how is over) two = never how (sym is ∙ two)
  over_never status_of never Does Untouched name first status stores old new (unopened fault none said untouched) two = said_never fault status old new said two

  -- ---- the stores

  module _ {K : Type 0} (held : K → List ℕ → Option (List ℕ)) (back names : K → Option (List (List ℕ))) (failed : K → ℕ) (a b c : K) (left : D) (put : IsBack (back b) (back c) (g.seen left)) (kept : names c ≡ names b) (still : failed c ≡ failed b) where
    -- a disk that was opened and is given back
    pub gives_back : (name : List ℕ) → back b ≡ back a → AreOpened (names a) (names b) (name ∷ []) → failed b ≡ failed a → GivesBack g name (stores_run held back names failed a c) left
    gives_back name same named whole = record { named = subst (λ (after : Option (List (List ℕ))). AreOpened (names a) after (name ∷ [])) (sym kept) named; back = subst (λ (before : Option (List (List ℕ))). IsBack before (back c) (g.seen left)) same put; all_opened = still ∙ whole }

    -- what was done over a journal that was open, and whose disk is given back
    pub over_of : (name : List ℕ) (first : ℕ) (table : Register) (journal : Journal D g) (Does : Register → Journal D g → D → Type 0) → IsOpen g name first table journal (stores_run held back names failed a b)
        → Does table journal left → IsOverJournal g Does name first (stores_run held back names failed a c)
    over_of name first table journal Does opened does = record {
      disk = opened.disk;
      table = table;
      journal = journal;
      opens = opened.opens;
      left = left;
      does = does;
      given_back = gives_back name opened.back opened.named opened.all_opened;
    }

  -- ---- a run

  module _ {Untouched : Type 0} (run : ProgramRun) (status : ℕ) (stores : StoresRun) (name : List ℕ) (files : AllFilesRead run) where
    pub kept_runs : asks run.words ≡ Some (Session (Some name)) → KeepsSession g name status stores run.input run.input_after run.output run.output_after → Runs g Untouched status run stores
    kept_runs asked ends =
        command_runs status run (Session (Some name)) asked (inr (kept name asked ends)) (over_never session_status session_never _ _ name 1 status stores run.output run.output_after ends) (λ none. files) (no_check status run (Session (Some name)) asked tt)

    pub hosted_runs : (host : List ℕ) (port : ℕ) (setup : Setup) → asks run.words ≡ Some (asks_to_serve host port setup (Some name)) → KeepsServer g host port setup name status stores run.net run.net_after run.output run.output_after
        → LeavesInput run → Runs g Untouched status run stores
    hosted_runs host port setup asked ends input =
        command_runs status run (asks_to_serve host port setup (Some name)) asked (inr (hosted host port setup name asked ends input)) (over_never serve_status serve_never _ _ name setup.first status stores run.output run.output_after ends) (λ none. files)
        (no_check status run (asks_to_serve host port setup (Some name)) asked tt)
