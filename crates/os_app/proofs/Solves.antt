-- How a run ends that solves the job of files.
use Rattle.std.proofs.Common.{◌≡◌, ◌∙◌, ℕ, zero, suc, ◌⊎◌, inl, inr, Bool, true, false, Option, None, Some, List, refl, ap, subst, arith}
use Rattle.std.specs.Prelude.{option_map}
use Rattle.std.specs.Borrow.{Bor}
use Rattle.os_io.specs.Files.{Held, ReadsFirst}
use Rattle.os_io.specs.Halts.{CameHalted}
use Rattle.certificate.specs.declared.causes.Cause.TheVariants.{Memory}
use Rattle.certificate.specs.declared.claims.Claim.TheVariants.{Unsure}
use Rattle.osrl_writing.specs.declared.report.Report.{Report}
use Rattle.osrl_writing.specs.Labels.{no_names}
use Rattle.instance_names.specs.Reading.{GivesNames}
use Rattle.solve_run.specs.declared.document.Document.{Document}
use Rattle.solve_run.specs.JobAnswers.{AreJobTexts, IsBestOfSearch, IsNoteOfJob, AnswersBeside, AskForNames, TellsReport, no_options, no_instance, handed, solved, gave_up}
use Rattle.command_answers.specs.FileNames.{ReadsNamed}
use Rattle.command_answers.proofs.Outputs.{held_by}
use Rattle.os_app.specs.Besides.{TakesResult}
use Rattle.os_app.specs.Halts.{MayHalt}
use Rattle.os_app.specs.Safe.{IsSafeText, HasNoSafeText, TakesOptions}
use Rattle.os_app.specs.Safe as safe
use Rattle.os_app.specs.Solves.{IsDocumentAbout, IsRightWithin}
use Rattle.os_app.specs.Statuses.{solve_status}
use Rattle.os_app.specs.Runs.{ProgramRun, IsUntaken, EndsSo}
use Rattle.command_line.specs.Words.{IsSolve, Solve}
use Rattle.os_app.proofs.FirstBytes.{Shows, file_of}
use Rattle.os_app.proofs.Words.{no_check}
use Rattle.os_app.proofs.Ends.{EndsText, text_runs}

-- ---- what answers the first bytes of an instance's file answers the file

module _ (a osil osol : List ℕ) (shows : Shows a osil) where
  abbrev given_file : AreJobTexts a osol → AreJobTexts osil osol
  given_file g = record { options = g.options; options_text = g.options_text; parts = g.parts; valid = g.valid; instance_text = shows.instance g.parts g.instance_text }

  answers_file : (beside : Option (List ℕ)) (asked : Bool) (r : Report) → AnswersBeside beside a osol asked r → AnswersBeside beside osil osol asked r
  answers_file beside asked r (no_options h) = no_options h
  answers_file beside asked r (no_instance h) = no_instance (record {
    options = h.options;
    options_text = h.options_text;
    fault = h.fault;
    fails = shows.no_instance h.fault h.fails;
    message = h.message;
    says = h.says;
    is = h.is;
  })
  answers_file beside asked r (handed h) = handed (record { given = given_file h.given; claim = h.claim; handed = h.handed; told = h.told; fitted = h.fitted; is = h.is })
  answers_file beside asked r (solved stop looks timed may s) = solved stop looks timed may (record {
    given = given_file s.given;
    turns = s.turns;
    start = s.start;
    first = s.first;
    outcome = s.outcome;
    bound = s.bound;
    ends = s.ends;
    found = s.found;
    tells = s.tells;
    told = s.told;
    closed = s.closed;
    numbers = s.numbers;
    note = s.note;
    noting = s.noting;
    is = s.is;
  })
  answers_file beside asked r (gave_up g) = gave_up (record { job = g.job; whose = g.whose; claim = g.claim; claims = by g.claims; note = g.note; noting = noted g.noting; is = g.is })
    where
      by : (g.claim ≡ Unsure Memory None) ⊎ IsBestOfSearch a osol g.claim → (g.claim ≡ Unsure Memory None) ⊎ IsBestOfSearch osil osol g.claim
      by (inl unsure) = inl unsure
      by (inr b) = inr (record { given = given_file b.given; start = b.start; first = b.first; stop = b.stop; moment = b.moment; carried = b.carried; numbers = b.numbers; comes = b.comes; tells = b.tells })

      noted : IsNoteOfJob beside a osol g.note → IsNoteOfJob beside osil osol g.note
      noted (inl none) = inl none
      noted (inr n) = inr (record { given = given_file n.given; start = n.start; first = n.first; noting = n.noting })

  -- with its names
  tells_file : (r : Report) (text : List ℕ) → TellsReport a osol r text → TellsReport osil osol r text
  tells_file r text t = record { names = t.names; is = t.is; own = by t.own; asked = λ asks ns gives. t.asked asks ns (shows.names_first ns gives) }
    where
      by : (t.names ≡ no_names) ⊎ (AskForNames osol × GivesNames a t.names) → (t.names ≡ no_names) ⊎ (AskForNames osol × GivesNames osil t.names)
      by (inl none) = inl none
      by (inr own) = inr (own.0, shows.names t.names own.1)

-- and what is taken for what was read
safe_file : (a osil osol : List ℕ) (shows : Shows a osil) (text : List ℕ) → IsSafeText a osol text → IsSafeText osil osol text
safe_file a osil osol shows text s = record { options = s.options; said = s.said; parts = s.parts; instance = shows.instance s.parts s.instance; limit = s.limit; enough = s.enough; is = s.is }

no_safe_file : (a osil osol : List ℕ) (shows : Shows a osil) → HasNoSafeText a osol → HasNoSafeText osil osol
no_safe_file a osil osol shows (safe.no_options f other fails) = safe.no_options f other fails
no_safe_file a osil osol shows (safe.no_instance f other fails) = safe.no_instance f other (shows.no_instance f fails)
no_safe_file a osil osol shows (safe.no_limit p text none) = safe.no_limit p (shows.instance p text) none

takes_file : (a osil osol : List ℕ) (shows : Shows a osil) (safe : Bool) (taken : List ℕ) → TakesOptions safe a osol taken → TakesOptions safe osil osol taken
takes_file a osil osol shows false taken is = is
takes_file a osil osol shows true taken (inl s) = inl (safe_file a osil osol shows taken s)
takes_file a osil osol shows true taken (inr (none, is)) = inr (no_safe_file a osil osol shows none, is)

-- the document that answers what was read is one about the files
pub document_about : (instance : Held) (options results halt : Option Held) (seconds : Option ℕ) (safe : Bool) (a osol : List ℕ) (beside : Option (List ℕ)) (status : ℕ) (doc : Document) → ReadsFirst 4194305 instance a → ReadsNamed options osol → TakesResult results osol beside → status ≡ solve_status doc.is_error
    → IsRightWithin beside halt seconds safe a osol doc → IsDocumentAbout instance options results halt seconds safe status doc.text
document_about instance options results halt seconds safe a osol beside status doc first second third is (timed, in_time, (taken, takes, (asked, halted, (r, answers, written)))) =
    let file = file_of instance a first in
    record {
      osil = file.0;
      osol = osol;
      instance_file = file.1;
      options_file = second;
      beside = beside;
      result_file = third;
      report = r;
      timed = timed;
      in_time = in_time;
      taken = taken;
      takes = takes_file a file.0 timed file.2 safe taken takes;
      asked = asked;
      halted = halted;
      answers = answers_file a file.0 taken file.2 beside asked r answers;
      written = tells_file a file.0 taken file.2 r doc.text written.text;
      status_is = is ∙ ap solve_status written.error;
    }

-- the same texts by other names
pub right_of_texts : (beside : Option (List ℕ)) (halt : Option Held) (seconds : Option ℕ) (safe : Bool) (a b x y : List ℕ) (doc : Document) → x ≡ a → y ≡ b → IsRightWithin beside halt seconds safe x y doc → IsRightWithin beside halt seconds safe a b doc
right_of_texts beside halt seconds safe a b x y doc first second right =
    subst (λ (t : List ℕ). IsRightWithin beside halt seconds safe t b doc) first (subst (λ (t : List ℕ). IsRightWithin beside halt seconds safe x t doc) second right)

-- of files that hold the same
pub right_still : (before after : List ℕ → Held) (name : Option (Bor (List ℕ))) (beside : Option (List ℕ)) (seconds : Option ℕ) (safe : Bool) (osil osol : List ℕ) (doc : Document) → after ≡ before
    → IsRightWithin beside (option_map (λ n. after n.now) name) seconds safe osil osol doc → IsRightWithin beside (option_map (λ n. before n.now) name) seconds safe osil osol doc
right_still before after name beside seconds safe osil osol doc same right =
    subst (λ (held : List ℕ → Held). IsRightWithin beside (option_map (λ n. held n.now) name) seconds safe osil osol doc) same right

-- ---- a job that a file ends

-- it was asked to stop where a look said so
abbrev pub was_asked : (stops : ℕ) → Bool
was_asked zero = false
was_asked (suc n) = true

-- which saw one
pub halted_so : (held : Held) (stops : ℕ) (answers : List Bool) → CameHalted held 0 stops answers → MayHalt (Some held) (was_asked stops)
halted_so held zero answers came = tt
halted_so held (suc n) answers came = λ none.
    let quiet = came.seen none in
    let counted = came.counted in
    omega (arith, quiet, counted)

-- and wasn't where none did
pub unasked : (stops : ℕ) → was_asked stops ≡ false → stops ≡ 0
unasked zero none = refl
unasked (suc n) none = let x : true ≡ false = none in absurd (cc)

-- what names that may be given hold
pub about_named : (held : List ℕ → Held) (instance : Held) (name other third : Option (Bor (List ℕ))) (seconds : Option ℕ) (safe : Bool) (status : ℕ) (text : List ℕ)
    → IsDocumentAbout instance (option_map (λ n. held n.now) name) (option_map (λ n. held n.now) other) (option_map (λ n. held n.now) third) seconds safe status text
    → IsDocumentAbout instance (option_map held (option_map (λ n. n.now) name)) (option_map held (option_map (λ n. n.now) other)) (option_map held (option_map (λ n. n.now) third)) seconds safe status text
about_named held instance name other third seconds safe status text about =
    subst (λ (o : Option Held). IsDocumentAbout instance (option_map held (option_map (λ n. n.now) name)) (option_map held (option_map (λ n. n.now) other)) o seconds safe status text) (held_by held third)
    (subst (λ (o : Option Held). IsDocumentAbout instance (option_map held (option_map (λ n. n.now) name)) o (option_map (λ n. held n.now) third) seconds safe status text) (held_by held other)
    (subst (λ (o : Option Held). IsDocumentAbout instance o (option_map (λ n. held n.now) other) (option_map (λ n. held n.now) third) seconds safe status text) (held_by held name) about))

-- the same files hold the same
pub result_still : (before after : List ℕ → Held) (name : Option (Bor (List ℕ))) (osol : List ℕ) (beside : Option (List ℕ)) → after ≡ before → TakesResult (option_map (λ n. after n.now) name) osol beside
    → TakesResult (option_map (λ n. before n.now) name) osol beside
result_still before after name osol beside same is = subst (λ (held : List ℕ → Held). TakesResult (option_map (λ n. held n.now) name) osol beside) same is

-- of the same text
pub result_of_text : (results : Option Held) (read osol : List ℕ) (beside : Option (List ℕ)) → read ≡ osol → TakesResult results read beside → TakesResult results osol beside
result_of_text results read osol beside same is = subst (λ (t : List ℕ). TakesResult results t beside) same is

-- ---- a run

pub solve_runs : {Untouched Stored : Type 0} (same : Untouched) (status : ℕ) (run : ProgramRun) (osil_name : List ℕ) (options_name result_name halt_name : Option (List ℕ)) (seconds : Option ℕ) (safe : Bool) → IsSolve run.words osil_name options_name result_name halt_name seconds safe
    → EndsText status run (Solve osil_name options_name result_name halt_name seconds safe) → IsUntaken run → EndsSo Untouched Stored status run
solve_runs same status run osil_name options_name result_name halt_name seconds safe solve ends untaken =
    text_runs same status run (Solve osil_name options_name result_name halt_name seconds safe) solve ends untaken (no_check status run (Solve osil_name options_name result_name halt_name seconds safe) solve tt)
