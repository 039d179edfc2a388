-- How a run ends that checks two files, and what their bytes decide of it.
use Rattle.std.proofs.Common.{◌≡◌, ◌∙◌, ℕ, ◌⊎◌, List, [], ◌∷◌, ◌++◌, Ok, Err, inl, inr, arith, refl, ap, subst}
use Rattle.os_io.specs.Files.{Held, Holds, NoFile, MayHold}
use Rattle.os_io.specs.Streams.{HasRisen}
use Rattle.document_checker.specs.declared.documents.Kind.{Kind}
use Rattle.document_checker.specs.declared.fault.CheckFault.{CheckFault as Refused}
use Rattle.document_checker.specs.declared.fault.CheckFault.TheVariants as reasons
use Rattle.document_checker.specs.Documents.{IsAcceptedText, DocsRefuse}
use Rattle.document_checker.specs.Texts.{IsAnswerText, IsCheckFaultText}
use Rattle.os_app.specs.Grounds.{AnswersAreOne}
use Rattle.os_app.specs.Checks.{IsAnswerLine, IsAnswerTo, IsAnswerAbout, accepted, refused}
use Rattle.os_app.specs.Ends.{in_full, unread, unwritten, unmade}
use Rattle.command_line.specs.Words.{Command, Session, Check, Solve, Generate, Call, Compact, Serve, IsCheck}
use Rattle.os_app.specs.Runs.{ProgramRun, Checks, IsUntaken, IsFileFault, IsUnheard, MayBeThere, IsPairJudged, EndsSo}
use Rattle.os_app.specs.Runs as runs
use Rattle.os_app.proofs.Words.{one_command}
use Rattle.os_app.proofs.Ends.{EndsText, text_runs}

-- ---- what is said of two files, by what they say together

-- want of memory is said of no files
no_memory_text : (r : Refused) (text : List ℕ) → IsAnswerText (Err r) text → r ≡ reasons.Memory → ⊥
no_memory_text r text says is = subst (λ (s : Refused). IsCheckFaultText s text) is says

never_memory : (r : Refused) (line : List ℕ) → IsAnswerLine (Err r) line → r ≡ reasons.Memory → ⊥
never_memory r line says is = no_memory_text r says.text says.says is

line_of_accepted : AnswersAreOne → (osil osrl : List ℕ) (due : ℕ) (line : List ℕ) (k : Kind) → IsAcceptedText osil osrl k → IsAnswerTo osil osrl due line → (due ≡ 0) × IsAnswerLine (Ok k) line
line_of_accepted one osil osrl due line k shown (accepted j is all says) =
    (is, subst (λ (i : Kind). IsAnswerLine (Ok i) line) (one.kind osil osrl j k all shown) says)
line_of_accepted one osil osrl due line k shown (refused r is why says) = absurd (never_memory r line says (one.apart osil osrl k r shown why))

line_of_refused : AnswersAreOne → (osil osrl : List ℕ) (due : ℕ) (line : List ℕ) (r : Refused) (text : List ℕ) → DocsRefuse osil osrl r → IsAnswerText (Err r) text → IsAnswerTo osil osrl due line → (due ≡ 1) × (line ≡ text ++ (10 ∷ []))
line_of_refused one osil osrl due line r text why told (accepted k is all says) =
    absurd (no_memory_text r text told (one.apart osil osrl k r all why))
line_of_refused one osil osrl due line r text why told (refused s is other says) =
    (is, says.ended ∙ ap (λ t. t ++ (10 ∷ [])) (one.told osil osrl (Err s) (Err r) says.text text other why says.says told))

says_accepted : (osil osrl : List ℕ) (due : ℕ) (line : List ℕ) → IsAnswerTo osil osrl due line → due ≡ 0 → (k : Kind) × IsAcceptedText osil osrl k
says_accepted osil osrl due line (accepted k is all says) zero = (k, all)
says_accepted osil osrl due line (refused r is why says) zero = absurd (omega (arith, is, zero))

says_refused : (osil osrl : List ℕ) (due : ℕ) (line : List ℕ) → IsAnswerTo osil osrl due line → due ≡ 1 → (r : Refused) × DocsRefuse osil osrl r × (r ≡ reasons.Memory → ⊥)
says_refused osil osrl due line (accepted k is all says) one = absurd (omega (arith, is, one))
says_refused osil osrl due line (refused r is why says) one = (r, why, never_memory r line says)

-- ---- the files, where they are told

same_bytes : (held : Held) (bytes read : List ℕ) → held ≡ Holds bytes → MayHold held read → read ≡ bytes
same_bytes held bytes read told is = subst (λ (h : Held). MayHold h read) told is

about_told : (instance result : Held) (due : ℕ) (line osil osrl : List ℕ) → IsAnswerAbout instance result due line → instance ≡ Holds osil → result ≡ Holds osrl
    → IsAnswerTo osil osrl due line
about_told instance result due line osil osrl about first second =
    subst (λ (b : List ℕ). IsAnswerTo osil b due line) (same_bytes result osrl about.osrl second about.result_file)
    (subst (λ (a : List ℕ). IsAnswerTo a about.osrl due line) (same_bytes instance osil about.osil first about.instance_file) about.answers)

-- what may hold these bytes isn't absent
may_be_there : (held : Held) (read : List ℕ) → MayHold held read → held ≡ NoFile → ⊥
may_be_there held read is none = subst (λ (h : Held). MayHold h read) none is

-- ---- a run

-- how the check of a run ends
abbrev EndsCheck : ℕ → ProgramRun → List ℕ → List ℕ → Type 0
EndsCheck status run osil_name osrl_name = EndsText status run (Check osil_name osrl_name)

-- what a run and its check say of it
record Checking (status : ℕ) (run : ProgramRun) (osil_name osrl_name : List ℕ) : Type 0 where
  pub check : IsCheck run.words osil_name osrl_name
  pub ends : EndsCheck status run osil_name osrl_name
  pub untaken : IsUntaken run

fault_of_file : (status : ℕ) (run : ProgramRun) (osil_name osrl_name : List ℕ) → Checking status run osil_name osrl_name → HasRisen run.file_faults run.file_faults_after
    → run.output_after ≡ run.output → IsFileFault run
fault_of_file status run osil_name osrl_name c risen same =
    record { named = (Check osil_name osrl_name, c.check, refl); failed = risen; untaken = c.untaken; unwritten = same }

no_memory : (status : ℕ) (run : ProgramRun) (osil_name osrl_name : List ℕ) → Checking status run osil_name osrl_name
    → run.file_faults_after ≡ run.file_faults → run.output_after ≡ run.output → IsUnheard run
no_memory status run osil_name osrl_name c files same = record { untaken = c.untaken; unwritten = same; all_files_read = files }

-- what the bytes decide
judged_by : AnswersAreOne → (status : ℕ) (run : ProgramRun) (osil_name osrl_name osil osrl : List ℕ) → Checking status run osil_name osrl_name
    → run.held osil_name ≡ Holds osil → run.held osrl_name ≡ Holds osrl → IsPairJudged status run osil osrl
judged_by one status run osil_name osrl_name osil osrl c first second = go c.ends
  where
    go : EndsCheck status run osil_name osrl_name → IsPairJudged status run osil osrl
    go (in_full line about files sent) =
        let answers = about_told (run.held osil_name) (run.held osrl_name) status line osil osrl about first second in
        record {
          accepted = λ k shown. let it = line_of_accepted one osil osrl status line k shown answers in runs.in_full line it.0 it.1 sent;
          accepted_only = says_accepted osil osrl status line answers;
          refused = λ r text why says. let it = line_of_refused one osil osrl status line r text why says answers in runs.in_full line it.0 it.1 sent;
          refused_only = says_refused osil osrl status line answers;
        }
    go (unread named is risen same) =
        let fault = fault_of_file status run osil_name osrl_name c risen same in
        record {
          accepted = λ k shown. runs.no_file is fault;
          accepted_only = λ zero. absurd (omega (arith, is, zero));
          refused = λ r text why says. runs.no_file is fault;
          refused_only = λ one. absurd (omega (arith, is, one));
        }
    go (unwritten due line is about files off) =
        let answers = about_told (run.held osil_name) (run.held osrl_name) due line osil osrl about first second in
        record {
          accepted = λ k shown. runs.not_written line is (line_of_accepted one osil osrl due line k shown answers).1 off;
          accepted_only = λ zero. absurd (omega (arith, is, zero));
          refused = λ r text why says. runs.not_written line is (line_of_refused one osil osrl due line r text why says answers).1 off;
          refused_only = λ one. absurd (omega (arith, is, one));
        }
    go (unmade is files same) =
        let lacks = no_memory status run osil_name osrl_name c files same in
        record {
          accepted = λ k shown. runs.no_memory is lacks;
          accepted_only = λ zero. absurd (omega (arith, is, zero));
          refused = λ r text why says. runs.no_memory is lacks;
          refused_only = λ one. absurd (omega (arith, is, one));
        }

-- an answer is given where no file is told to be absent
both_there : (status : ℕ) (run : ProgramRun) (osil_name osrl_name : List ℕ) → EndsCheck status run osil_name osrl_name → (status ≡ 0) ⊎ (status ≡ 1)
    → MayBeThere run osil_name × MayBeThere run osrl_name
both_there status run osil_name osrl_name (in_full line about files sent) which = (
  may_be_there (run.held osil_name) about.osil about.instance_file,
  may_be_there (run.held osrl_name) about.osrl about.result_file,
)
both_there status run osil_name osrl_name (unread named is risen same) (inl zero) = absurd (omega (arith, is, zero))
both_there status run osil_name osrl_name (unread named is risen same) (inr one) = absurd (omega (arith, is, one))
both_there status run osil_name osrl_name (unwritten due line is about files off) (inl zero) = absurd (omega (arith, is, zero))
both_there status run osil_name osrl_name (unwritten due line is about files off) (inr one) = absurd (omega (arith, is, one))
both_there status run osil_name osrl_name (unmade is files same) (inl zero) = absurd (omega (arith, is, zero))
both_there status run osil_name osrl_name (unmade is files same) (inr one) = absurd (omega (arith, is, one))

-- a check of two files
pub check_runs : {Untouched Stored : Type 0} → Untouched → AnswersAreOne → (status : ℕ) (run : ProgramRun) (osil_name osrl_name : List ℕ) → IsCheck run.words osil_name osrl_name
    → EndsCheck status run osil_name osrl_name → IsUntaken run → EndsSo Untouched Stored status run
check_runs same one status run osil_name osrl_name check ends untaken =
    text_runs same status run (Check osil_name osrl_name) check ends untaken
    (λ a b named. subst ChecksOf (one_command _ (Check osil_name osrl_name) (Check a b) check named) (record {
      judged = λ osil osrl first second. judged_by one status run osil_name osrl_name osil osrl (record { check = check; ends = ends; untaken = untaken }) first second;
      there = both_there status run osil_name osrl_name ends;
    }))
  where
    ChecksOf : Command → Type 0
    ChecksOf (Check a b) = Checks status run a b
    ChecksOf (Session journal) = Unit {0}
    ChecksOf (Solve osil options handed halt seconds safe) = Unit {0}
    ChecksOf (Generate variables) = Unit {0}
    ChecksOf (Call kind host port osil osol ospl) = Unit {0}
    ChecksOf (Compact old new) = Unit {0}
    ChecksOf (Serve host port workers servers connections patience first journal) = Unit {0}
