-- What moves of solved jobs put behind sound effects is sound.
use Rattle.std.proofs.Common.{◌≡◌, ◌∙◌, inl, inr, ℕ, ◌≤◌, Bool, true, false, not, ◌&&◌, if◌then◌else◌, List, [], ◌∷◌, ◌++◌, length, Option, Some, None, refl, ap, sym, subst, bytes_eq, append_assoc, append-nil}
use Rattle.std.proofs.lemmas.Slice.Eq.{bytes_eq-Decides}
use Rattle.effects.specs.Records.{Deed, AllFit, most_text}
use Rattle.effects.specs.Records as deed
use Rattle.effects.specs.Fold.{Stage, Ledger, nothing, osil_in, stage_of}
use Rattle.job_table.specs.declared.job.Phase.{Phase}
use Rattle.job_table.specs.declared.job.Phase.TheVariants.{Issued, Waiting, Running, Finished, Killed}
use Rattle.job_table.specs.declared.job.Job.{Job}
use Rattle.job_table.specs.declared.entries.TableMove.{TableMove}
use Rattle.job_table.specs.declared.entries.TableMove.TheVariants.{Issue, Send, Enter, Finish, Kill}
use Rattle.job_table.specs.Jobs.{Register, Rises, phase_of}
use Rattle.job_table.specs.Steps.{MoveOutcome, row_of_move, May, Step}
use Rattle.job_table.specs.Plans.{stage, ledger_of, has_room, takes_texts, ended, finished_of, killed_of, planned, Effected, PlansSo}
use Rattle.job_table.specs.History.{MoveEntry, entry_of_move, LeadsStepwise}
use Rattle.job_table.proofs.MoveEffects.{stage_is}
use Rattle.job_table.proofs.Histories.{rises_on}
use Rattle.job_journal.specs.Opening.{IsAcceptedFor, IsAdmitted, FoldsTo}
use Rattle.job_journal.proofs.Scans.{all_fit_push, folds_push}
use Rattle.solve_run.specs.JobAnswers.{Right}
use Rattle.job_solver.specs.Sieves.{Sifts}
use Rattle.job_solver.specs.Openings.{TableGoesOn}
use Rattle.job_solver.specs.StoredEffects.{with_effect, effects_of, BringsShort, AllBringShort, AreSoundDeeds, StaySound}
use Rattle.job_solver.proofs.AlikeLedgers.{IsLikeIn, GoesAlike, follows, stage_alike, goes_alike}
use Rattle.job_solver.proofs.HeldNumbers.{AreNumbered, HasShortTexts, fits_so, numbered_after}

-- the text that a job has that takes a document is the same in both
osil_alike : (a b : List ℕ) (marked : Bool) (o : Option Stage) → IsLikeIn o (Some (stage (Running a b marked))) → osil_in o ≡ Some a
osil_alike a b true (Some x) (inl same) = ap (λ (s : Stage). osil_in (Some s)) same
osil_alike a b false (Some x) (inl same) = ap (λ (s : Stage). osil_in (Some s)) same
osil_alike a b true (Some x) (inr (asked, wrong)) = absurd (cc)
osil_alike a b false (Some x) (inr (asked, wrong)) = absurd (cc)
osil_alike a b true None like = absurd like
osil_alike a b false None like = absurd like

first_of : (x y : Bool) → (x && y) ≡ true → x ≡ true
first_of true y is = refl
first_of false y is = cc

module _ (accepted : (osil osol : List ℕ) (asked : Bool) (document : List ℕ) → Right osil osol asked (Some document) → Sifts osil document)
    (short : (osil osol : List ℕ) (asked : Bool) (document : List ℕ) → Right osil osol asked (Some document) → length document ≤ most_text)
    (plans : PlansSo) where
  -- ---- the effect of a move

  module _ (l : Ledger) (r : Register) (alike : GoesAlike l (ledger_of r)) (d : Deed) where
    abbrev IsGood : Deed → Type 0
    IsGood e = IsAdmitted Sifts l e × HasShortTexts e

    good_as : (e : Deed) → IsGood e → ◌≡◌ {A = Option Deed} (Some e) (Some d) → IsGood d
    good_as e good is = let same : e ≡ d = cc in subst IsGood same good

    good_if : (b : Bool) (e : Deed) → IsGood e → (if b then Some e else None) ≡ Some d → IsGood d
    good_if true e good is = good_as e good is
    good_if false e good is = absurd (cc)

    brought : (j : Job) (asked : Bool) (document : Option (List ℕ)) (a b : List ℕ) (marked : Bool) → Right j.osil j.osol asked document → phase_of j.number r.jobs ≡ Some (Running a b marked) → j.osil ≡ a
        → IsGood (deed.Finish j.number document)
    brought j asked None a b marked right runs same = (tt, tt)
    brought j asked (Some document) a b marked right runs same =
        let seen = stage_is j.number r (Some (Running a b marked)) runs in
        let like = subst (λ (o : Option Stage). IsLikeIn (stage_of j.number l) o) seen (stage_alike l (ledger_of r) j.number alike) in
        let text : osil_in (stage_of j.number l) ≡ Some j.osil = osil_alike a b marked (stage_of j.number l) like ∙ ap (λ (t : List ℕ). Some t) (sym same) in
        (subst (λ (o : Option (List ℕ)). IsAcceptedFor Sifts o document) (sym text) (accepted j.osil j.osol asked document right), short j.osil j.osol asked document right)

    good_end : (j : Job) (asked : Bool) (document : Option (List ℕ)) (a b : List ℕ) (marked : Bool) → Right j.osil j.osol asked document → phase_of j.number r.jobs ≡ Some (Running a b marked)
        → ended a b marked j asked (deed.Finish j.number document) ≡ Some d → IsGood d
    good_end j asked document a b marked right runs is = by (bytes_eq j.osil a && bytes_eq j.osol b) refl (asked && not marked) is
      where
        by : (x : Bool) → (bytes_eq j.osil a && bytes_eq j.osol b) ≡ x → (y : Bool) → (if x then (if y then None else Some (deed.Finish j.number document)) else None) ≡ Some d → IsGood d
        by true e false is = good_as (deed.Finish j.number document) (brought j asked document a b marked right runs ((bytes_eq-Decides j.osil a).0 (first_of (bytes_eq j.osil a) (bytes_eq j.osol b) e))) is
        by true e true is = absurd (cc)
        by false e y is = absurd (cc)

    good_finish : (j : Job) (asked : Bool) (document : Option (List ℕ)) (q : Option Phase) → Right j.osil j.osol asked document → phase_of j.number r.jobs ≡ q
        → finished_of j asked q (deed.Finish j.number document) ≡ Some d → IsGood d
    good_finish j asked document (Some (Running a b marked)) right runs is = good_end j asked document a b marked right runs is
    good_finish j asked document _ right runs is = absurd (cc)

    good_kill : (n : ℕ) (q : Option Phase) → killed_of n q ≡ Some d → IsGood d
    good_kill n (Some Issued) is = good_as (deed.Killed n) (tt, tt) is
    good_kill n (Some (Waiting a b)) is = good_as (deed.Killed n) (tt, tt) is
    good_kill n (Some (Running a b false)) is = good_as (deed.Marked n) (tt, tt) is
    good_kill n (Some (Running a b true)) is = absurd (cc)
    good_kill n (Some (Finished document)) is = good_as (deed.GivenUp n) (tt, tt) is
    good_kill n (Some Killed) is = good_as (deed.GivenUp n) (tt, tt) is
    good_kill n None is = absurd (cc)

    good_move : (move : TableMove) → May Right move → BringsShort move → planned move r ≡ Some d → IsGood d
    good_move Issue may texts is = good_if (has_room r) deed.Issue (tt, tt) is
    good_move (Send n a b) may texts is = good_if (takes_texts (phase_of n r.jobs)) (deed.Send n a b) (tt, texts) is
    good_move (Enter a b) may texts is = good_if (has_room r) (deed.Enter a b) (tt, texts) is
    good_move (Finish j asked document) may texts is = good_finish j asked document (phase_of j.number r.jobs) may refl is
    good_move (Kill n) may texts is = good_kill n (phase_of n r.jobs) is
    good_move _ may texts is = absurd (cc)

  -- ---- moves, one after another

  -- the effects are sound, and what effects see of the table is like what they leave
  record Holds (deeds : List Deed) (r : Register) : Type 0 where
    pub fit : AllFit deeds
    pub ledger : Ledger
    pub folds : FoldsTo Sifts nothing deeds ledger
    pub numbered : AreNumbered ledger.jobs
    pub alike : GoesAlike ledger (ledger_of r)
    pub rises : Rises r

  row_after : (r next : Register) (e : MoveEntry) → Step Right r e.table_move e.reply next → (row_of_move e.table_move r).after ≡ next
  row_after r next e step = ap (λ (o : MoveOutcome). o.after) step.is

  holds_on : (deeds : List Deed) (r next : Register) (e : MoveEntry) → Holds deeds r → Step Right r e.table_move e.reply next → BringsShort e.table_move
      → Holds (deeds ++ with_effect (planned e.table_move r) []) next
  holds_on deeds r next e h step texts =
      by (planned e.table_move r) refl (subst (λ (s : Register). Effected (planned e.table_move r) (ledger_of r) (ledger_of s)) (row_after r next e step) (plans e.table_move r h.rises))
    where
      rises : Rises next
      rises = rises_on Right r next (e ∷ []) h.rises (next, inl step, refl)

      by : (o : Option Deed) → planned e.table_move r ≡ o → Effected o (ledger_of r) (ledger_of next) → Holds (deeds ++ with_effect o []) next
      by None is same =
          subst (λ (ds : List Deed). Holds ds next) (sym (append-nil deeds))
          (record { fit = h.fit; ledger = h.ledger; folds = h.folds; numbered = h.numbered; alike = subst (GoesAlike h.ledger) (sym same) h.alike; rises = rises })
      by (Some d) is leads =
          let behind = follows h.ledger (ledger_of r) h.alike (ledger_of next) d leads in
          let good = good_move h.ledger r h.alike d e.table_move step.may texts is in
          let numbered = numbered_after h.ledger behind.0 h.numbered d behind.1 in
          record {
            fit = all_fit_push deeds d h.fit (fits_so d numbered.0 good.1);
            ledger = behind.0;
            folds = folds_push Sifts nothing deeds h.ledger d behind.0 h.folds (good.0, behind.1);
            numbered = numbered.1;
            alike = behind.2;
            rises = rises;
          }

  effect_first : (o : Option Deed) (more : List Deed) → with_effect o [] ++ more ≡ with_effect o more
  effect_first None more = refl
  effect_first (Some d) more = refl

  all_hold : (deeds : List Deed) (r now : Register) (entries : List MoveEntry) → Holds deeds r → LeadsStepwise Right r entries now → AllBringShort entries → Holds (deeds ++ effects_of r entries) now
  all_hold deeds r now [] h same texts = subst (λ (ds : List Deed). Holds ds now) (sym (append-nil deeds)) (subst (Holds deeds) (sym same) h)
  all_hold deeds r now (e ∷ es) h (next, step, rest) texts =
      let one = planned e.table_move r in
      subst (λ (ds : List Deed). Holds ds now)
      (append_assoc deeds (with_effect one []) (effects_of next es)
      ∙ ap (λ (ds : List Deed). deeds ++ ds) (effect_first one (effects_of next es) ∙ ap (λ (s : Register). with_effect one (effects_of s es)) (sym (row_after r next e step))))
      (all_hold (deeds ++ with_effect one []) next now es (holds_on deeds r next e h step texts.0) rest texts.1)

  sound_of : (deeds : List Deed) (r : Register) → Holds deeds r → AreSoundDeeds deeds
  sound_of deeds r h = record { fit = h.fit; ledger = h.ledger; folds = h.folds }

  stay_sound : (deeds : List Deed) (r : Register) → Holds deeds r → StaySound deeds r
  stay_sound deeds r h = record { sound = sound_of deeds r h; next = next }
    where
      next : (move : TableMove) (d : Deed) → May Right move → BringsShort move → planned move r ≡ Some d → AreSoundDeeds (deeds ++ d ∷ [])
      next move d may texts is =
          let row = row_of_move move r in
          subst (λ (o : Option Deed). AreSoundDeeds (deeds ++ with_effect o [])) is
          (sound_of (deeds ++ with_effect (planned move r) []) row.after (holds_on deeds r row.after (entry_of_move move row.reply) h (record { may = may; is = refl }) texts))

  -- ---- from an opening on

  numbered_on : (old new : Ledger) (deeds : List Deed) → AreNumbered old.jobs → FoldsTo Sifts old deeds new → AreNumbered new.jobs
  numbered_on old new [] all same = subst (λ (l : Ledger). AreNumbered l.jobs) (sym same) all
  numbered_on old new (d ∷ deeds) all (mid, step, rest) = numbered_on mid new deeds (numbered_after old mid all d step.1).1 rest

  pub puts_sound : (deeds : List Deed) (start : Register) (entries : List MoveEntry) (now : Register) → AllFit deeds → TableGoesOn deeds start → Rises start → LeadsStepwise Right start entries now → AllBringShort entries
      → StaySound (deeds ++ effects_of start entries) now
  puts_sound deeds start entries now fit on rises leads texts =
      stay_sound (deeds ++ effects_of start entries) now (all_hold deeds start now entries
      (record {
        fit = fit;
        ledger = on.ledger;
        folds = on.folds;
        numbered = numbered_on nothing on.ledger deeds tt on.folds;
        alike = subst (λ (r : Register). GoesAlike on.ledger (ledger_of r)) (sym on.table_is) (goes_alike on.ledger);
        rises = rises;
      }) leads texts)
