-- How a run that writes a journal again ends.
use Rattle.std.proofs.Common.{◌≡◌, ◌∙◌, ℕ, inr, List, [], ◌∷◌, ◌++◌, Option, Some, None, Result, Ok, Err, arith, sym, ap, subst}
use Rattle.std.proofs.lemmas.List.{append_assoc}
use Rattle.os_io.specs.declared.files.FileFault.{FileFault}
use Rattle.os_io.specs.declared.files.FileFault.TheVariants as files
use Rattle.os_io.specs.Files.{CountsFiles}
use Rattle.os_io.specs.Streams.{Tells}
use Rattle.disks.specs.declared.disk.Disk.{Ghosts}
use Rattle.disks.specs.Stores.{AreOpened, IsBack, IsHeld}
use Rattle.job_journal.specs.declared.faults.CompactFault.{CompactFault}
use Rattle.job_journal.specs.declared.faults.CompactFault.TheVariants.{Old, NewFault, Taken, Long}
use Rattle.job_solver.specs.Compactions.{Compacts}
use Rattle.command_line.specs.Words.{Compact, asks}
use Rattle.os_app.specs.CompactRuns.{AreBack, IsCompaction, IsNotBegun, EndsCompact, both, no_old, no_new}
use Rattle.os_app.specs.JournalFaults.{IsSaidOfCopy, unopened_status}
use Rattle.os_app.specs.ProgramRuns.{ProgramRun, StoresRun, IsUntaken, stores_run}
use Rattle.os_app.specs.Runs.{AllFilesRead, Runs}
use Rattle.os_app.specs.StoredRuns.{compacted}
use Rattle.os_app.proofs.JournalRuns.{said_never}
use Rattle.os_app.proofs.Words.{command_runs, no_check}

-- ---- no status is 2

unopened_never : (failed : ℕ) (fault : FileFault) (status : ℕ) → (failed ≡ 2 → ⊥) → status ≡ unopened_status failed fault → status ≡ 2 → ⊥
unopened_never failed files.Failed status other is two = other (sym is ∙ two)
unopened_never failed files.Memory status other is two = omega (arith, is, two)

copy_never : (how : Result (Unit {0}) CompactFault) (status : ℕ) (old new : Tells) → IsSaidOfCopy how status old new → status ≡ 2 → ⊥
copy_never (Ok done) status old new said two = omega (arith, said.0, two)
copy_never (Err (Old fault)) status old new said two = said_never fault status old new said two
copy_never (Err NewFault) status old new said two = omega (arith, said.0, two)
copy_never (Err Taken) status old new said two = omega (arith, said.0, two)
copy_never (Err Long) status old new said two = omega (arith, said.0, two)

-- ---- what was given back

both_back : (a b c : Option (List (List ℕ))) (first second : List ℕ) → IsBack a b first → IsBack b c second → AreBack a c first second
both_back None b c first second one two = tt
both_back (Some before) None c first second one two = absurd one
both_back (Some before) (Some mid) None first second one two = absurd two
both_back (Some before) (Some mid) (Some after) first second one two = two ∙ ap (λ (l : List (List ℕ)). l ++ second ∷ []) one ∙ append_assoc before (first ∷ []) (second ∷ [])

module _ {D : Type 0} (g : Ghosts D) where
  -- ---- the stores: before, with the first one found, with the second one opened or not, and with the first one given back

  module _ {K : Type 0} (held : K → List ℕ → Option (List ℕ)) (back names : K → Option (List (List ℕ))) (failed : K → ℕ) (a b c d : K) (from : List ℕ) (left : D) (found : back b ≡ back a) (opened : back c ≡ back b) (put : IsBack (back c) (back d) (g.seen left)) (first_named : AreOpened (names a) (names b) (from ∷ [])) (kept : names d ≡ names c) (all_found : failed b ≡ failed a) (still : failed d ≡ failed c) where
    put_first : IsBack (back a) (back d) (g.seen left)
    put_first = subst (λ (before : Option (List (List ℕ))). IsBack before (back d) (g.seen left)) (opened ∙ found) put

    pub not_begun : (fault : FileFault) → IsHeld (held a from) (g.told left) (g.seen left) → CountsFiles {X = Unit {0}} (Err fault) (failed b) (failed c) → names c ≡ names b → IsNotBegun g from fault (stores_run held back names failed a d)
    not_begun fault file counted none = record {
      old = left;
      old_file = file;
      back = put_first;
      named = subst (λ (after : Option (List (List ℕ))). AreOpened (names a) after (from ∷ [])) (sym (kept ∙ none)) first_named;
      counted = subst (λ (n : ℕ). CountsFiles {X = Unit {0}} (Err fault) n (failed d)) all_found (subst (λ (n : ℕ). CountsFiles {X = Unit {0}} (Err fault) (failed b) n) (sym still) counted);
    }

    pub compaction : (e : K) (to : List ℕ) (how : Result (Unit {0}) CompactFault) (old new new_left : D) → IsHeld (held a from) (g.told old) (g.seen old) → ((other : List ℕ) → (other ≡ from → ⊥) → held b other ≡ held a other) → IsHeld (held b to) (g.told new) (g.seen new)
        → Compacts g g how old new left new_left → failed c ≡ failed b → IsBack (back d) (back e) (g.seen new_left) → failed e ≡ failed d → AreOpened (names b) (names c) (to ∷ []) → names e ≡ names d → IsCompaction g from to how (stores_run held back names failed a e)
    compaction e to how old new new_left file others new_file compacts all_opened put_new still_new second_named kept_new = record {
      old = old;
      new = new;
      old_left = left;
      new_left = new_left;
      old_file = file;
      new_file = λ other. subst (λ (h : Option (List ℕ)). IsHeld h (g.told new) (g.seen new)) (others to other) new_file;
      compacts = compacts;
      back = both_back (back a) (back d) (back e) (g.seen left) (g.seen new_left) put_first put_new;
      named = subst (λ (after : Option (List (List ℕ))). AreOpened (names a) after (from ∷ to ∷ [])) (sym (kept_new ∙ kept)) (both_back (names a) (names b) (names c) from to first_named second_named);
      all_opened = still_new ∙ still ∙ all_opened ∙ all_found;
    }

  -- ---- a run

  ends_never : (from to : List ℕ) (status : ℕ) (stores : StoresRun) (old new : Tells) → EndsCompact g from to status stores old new → status ≡ 2 → ⊥
  ends_never from to status stores old new (both how compaction said) two = copy_never how status old new said two
  ends_never from to status stores old new (no_old fault is counted back none same) two = unopened_never 3 fault status (λ three. omega (arith, three)) is two
  ends_never from to status stores old new (no_new fault is left same) two = unopened_never 4 fault status (λ four. omega (arith, four)) is two

  pub compact_runs : {Untouched : Type 0} (run : ProgramRun) (status : ℕ) (stores : StoresRun) (from to : List ℕ) → AllFilesRead run → asks run.words ≡ Some (Compact from to) → EndsCompact g from to status stores run.output run.output_after → IsUntaken run → Runs g Untouched status run stores
  compact_runs run status stores from to files asked ends untaken =
      command_runs status run (Compact from to) asked (inr (compacted from to asked ends untaken)) (ends_never from to status stores run.output run.output_after ends) (λ none. files) (no_check status run (Compact from to) asked tt)
