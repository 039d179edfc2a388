-- What the words of a run decide of it.
use Rattle.std.proofs.Common.{◌≡◌, ◌∙◌, ℕ, ◌<◌, ◌⊎◌, inl, inr, true, List, length, map, Option, Some, None, arith, refl, sym, subst}
use Rattle.std.proofs.lemmas.List.{length-map}
use Rattle.std.proofs.lemmas.Option.{none-some, same_Some}
use Rattle.evidence.proofs.Columns.{by_lt}
use Rattle.os_server.specs.declared.serve.Served.{Served}
use Rattle.os_server.specs.declared.serve.Served.TheVariants.{Ended, CutShort, ReadFault, WriteFault, Memory}
use Rattle.serving.specs.declared.ending.Ending.{Ending}
use Rattle.serving.specs.declared.ending.Ending.TheVariants as endings
use Rattle.os_app.specs.Statuses.{serve_status}
use Rattle.serving.specs.Serving as serving
use Rattle.os_app.specs.Statuses.{session_status}
pub use Rattle.command_line.proofs.Texts.{true_or_false}
use Rattle.command_line.proofs.Commands.{name_asks_nothing}
use Rattle.command_line.specs.Words.{Command, Session, Check, Solve, Generate, Call, Compact, Serve, asks, asks_for_links, names_files, AsksForNoLink, IsCheck, IsNoCommand, NamesNoFile}
use Rattle.os_app.specs.Runs.{ProgramRun, ServesSession, IsUnheard, LeavesInput, RunEnds, served, hosted, unheard, AllFilesRead, Checks, EndsSo, asks_to_serve}
use Rattle.serving.specs.declared.setup.Setup.{Setup}
use Rattle.os_app.specs.Runs as runs

-- words that ask for something aren't words that ask for nothing
pub some_or_none : (asked : Option Command) (it : Command) → asked ≡ Some it → asked ≡ None → ⊥
some_or_none asked it some none = none-some it (sym none ∙ some)

-- words ask for one thing
pub one_command : (asked : Option Command) (a b : Command) → asked ≡ Some a → asked ≡ Some b → a ≡ b
one_command asked a b first second = same_Some a b (sym first ∙ second)

-- words that ask for something are more than the program's name
pub more_words : {A : Type 0} (f : A → List ℕ) (words : List A) (it : Command) → asks (map f words) ≡ Some it → 1 < length words
more_words f words it asked = by_lt 1 (length words) (λ more. more) (λ few. absurd (none-some it (sym (name_asks_nothing (map f words) (omega (arith, length-map words f, few))) ∙ asked)))

-- a check is no other command
abbrev pub IsOther : Command → Type 0
IsOther (Check osil osrl) = ⊥
IsOther (Session journal) = Unit {0}
IsOther (Solve osil options handed halt seconds safe) = Unit {0}
IsOther (Generate variables) = Unit {0}
IsOther (Call kind host port osil osol ospl) = Unit {0}
IsOther (Compact old new) = Unit {0}
IsOther (Serve host port workers servers connections patience first journal) = Unit {0}

pub no_check : (status : ℕ) (run : ProgramRun) (it : Command) → asks run.words ≡ Some it → IsOther it → (a b : List ℕ) → IsCheck run.words a b → Checks status run a b
no_check status run it asked other a b check = absurd (subst IsOther (one_command _ it (Check a b) asked check) other)

-- words that ask for something name files where that does
pub names_none : (words : List (List ℕ)) (it : Command) → asks words ≡ Some it → names_files it ≡ true → NamesNoFile words → ⊥
names_none words it asked names none = true_or_false (sym names ∙ none it asked)

-- and for links where that does
pub links_none : (words : List (List ℕ)) (it : Command) → asks words ≡ Some it → asks_for_links it ≡ true → AsksForNoLink words → ⊥
links_none words it asked links none = true_or_false (sym links ∙ none it asked)

-- a run of a command that doesn't end with 2
pub command_runs : {Untouched Stored : Type 0} (status : ℕ) (run : ProgramRun) (it : Command) → asks run.words ≡ Some it → (RunEnds status run × Untouched) ⊎ Stored → (status ≡ 2 → ⊥) → (NamesNoFile run.words → AllFilesRead run)
    → ((a b : List ℕ) → IsCheck run.words a b → Checks status run a b) → EndsSo Untouched Stored status run
command_runs status run it asked ends never files checks = record {
  ends = ends;
  files = files;
  misused = (λ two. absurd (never two), λ all. absurd (some_or_none _ it asked all.0));
  checks = checks;
}

-- ---- statuses that aren't 2

pub session_never : (how : Served) → session_status how ≡ 2 → ⊥
session_never Ended two = absurd (omega (arith, two))
session_never CutShort two = absurd (omega (arith, two))
session_never ReadFault two = absurd (omega (arith, two))
session_never WriteFault two = absurd (omega (arith, two))
session_never Memory two = absurd (omega (arith, two))

pub serve_never : (how : Ending) → serve_status how ≡ 2 → ⊥
serve_never endings.Done two = absurd (omega (arith, two))
serve_never endings.LinkMemory two = absurd (omega (arith, two))
serve_never endings.ListenFault two = absurd (omega (arith, two))
serve_never endings.AnnounceFault two = absurd (omega (arith, two))
serve_never endings.NoMemory two = absurd (omega (arith, two))
serve_never endings.AcceptFault two = absurd (omega (arith, two))
serve_never endings.ReportFault two = absurd (omega (arith, two))

-- ---- the commands over links

pub session_runs : {Untouched Stored : Type 0} (same : Untouched) (run : ProgramRun) (how : Served) (status : ℕ) → status ≡ session_status how → ServesSession how run → AllFilesRead run → EndsSo Untouched Stored status run
session_runs same run how status is one files = command_runs status run (Session None) one.session (inl (served how is one, same)) (λ two. session_never how (sym is ∙ two)) (λ none. files) (no_check status run (Session None) one.session tt)

pub serve_runs : {Untouched Stored : Type 0} (same : Untouched) (run : ProgramRun) (how : Ending) (status : ℕ) (host : List ℕ) (port : ℕ) (setup : Setup) → status ≡ serve_status how → asks run.words ≡ Some (asks_to_serve host port setup None)
    → serving.IsServerRun how host port setup run.net run.net_after run.output run.output_after → LeavesInput run → AllFilesRead run → EndsSo Untouched Stored status run
serve_runs same run how status host port setup is asked serves input files =
    command_runs status run (asks_to_serve host port setup None) asked
    (inl (hosted how is (record { host = host; port = port; setup = setup; asked = asked; serves = serves; input = input; all_files_read = files }), same))
    (λ two. serve_never how (sym is ∙ two))
    (λ none. files)
    (no_check status run _ asked tt)

-- ---- no command, and none that is heard

-- words that are no command's, whose usage was sent, or not whole
pub other_runs : {Untouched Stored : Type 0} (same : Untouched) (run : ProgramRun) (status : ℕ) → IsNoCommand run.words → RunEnds status run
    → (status ≡ 2) ⊎ (status ≡ 4) → AllFilesRead run → EndsSo Untouched Stored status run
other_runs same run status other ends which files = record {
  ends = inl (ends, same);
  files = λ none. files;
  misused = (
    λ two. (other, λ four. omega (arith, two, four), λ five. omega (arith, two, five)),
    λ all. elim which [
      | inl two ↦ two
      | inr four ↦ absurd (all.1 four)
    ],
  );
  checks = λ a b check. absurd (some_or_none _ _ check other);
}

-- no memory to read the words
pub unheard_runs : {Untouched Stored : Type 0} (same : Untouched) (run : ProgramRun) → IsUnheard run → EndsSo Untouched Stored 5 run
unheard_runs same run none = record {
  ends = inl (unheard refl none, same);
  files = λ no. none.all_files_read;
  misused = (λ two. absurd (omega (arith, two)), λ all. absurd (all.2 refl));
  checks = λ a b check. record {
    judged = λ osil osrl first second. record {
      accepted = λ k shown. runs.no_memory refl none;
      accepted_only = λ zero. absurd (omega (arith, zero));
      refused = λ r text why says. runs.no_memory refl none;
      refused_only = λ one. absurd (omega (arith, one));
    };
    there = λ which. elim which [
      | inl zero ↦ absurd (omega (arith, zero))
      | inr one ↦ absurd (omega (arith, one))
    ];
  };
}
