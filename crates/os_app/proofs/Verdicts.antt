-- What is said of two files.
use Rattle.std.proofs.Common.{◌≡◌, ℕ, Bool, List, Result, Ok, Err, inl, inr, sym, ap, subst}
use Rattle.std.specs.Prelude.{IfOk, IfErr, is_ok}
use Rattle.os_io.specs.Files.{Held, ReadsFirst}
use Rattle.document_checker.specs.declared.documents.Kind.{Kind}
use Rattle.document_checker.specs.declared.fault.CheckFault.{CheckFault as Refused}
use Rattle.document_checker.specs.Documents.{IsAcceptedText, DocsRefuse, NoInstance, NoReport}
use Rattle.os_app.specs.Checks.{IsAnswerLine, IsAnswerTo, accepted, refused, IsAnswerAbout}
use Rattle.os_app.specs.Statuses.{check_status}
use Rattle.os_app.proofs.FirstBytes.{Shows, file_of}

-- what two texts say together, the files do that hold what they show
accepted_files : (a b osil osrl : List ℕ) (k : Kind) → Shows a osil → Shows b osrl → IsAcceptedText a b k → IsAcceptedText osil osrl k
accepted_files a b osil osrl k first second is = record {
  parts = is.parts;
  report = is.report;
  instance_text = first.instance is.parts is.instance_text;
  report_text = second.report is.report is.report_text;
  accepts = is.accepts;
}

no_instance_file : (a osil : List ℕ) (r : Refused) → Shows a osil → NoInstance a r → NoInstance osil r
no_instance_file a osil r shows lacks = record { fault = lacks.fault; is = lacks.is; told = lacks.told; fails = shows.no_instance lacks.fault lacks.fails }

no_report_file : (b osrl : List ℕ) (r : Refused) → Shows b osrl → NoReport b r → NoReport osrl r
no_report_file b osrl r shows lacks = record { fault = lacks.fault; is = lacks.is; told = lacks.told; fails = shows.no_report lacks.fault lacks.fails }

refused_files : (a b osil osrl : List ℕ) (r : Refused) → Shows a osil → Shows b osrl → DocsRefuse a b r → DocsRefuse osil osrl r
refused_files a b osil osrl r first second (inl lacks) = inl (no_instance_file a osil r first lacks)
refused_files a b osil osrl r first second (inr (inl lacks)) = inr (inl (record {
  parts = lacks.parts;
  instance_text = first.instance lacks.parts lacks.instance_text;
  no_report = no_report_file b osrl r second lacks.no_report;
}))
refused_files a b osil osrl r first second (inr (inr (inl lacks))) = inr (inr (inl (record {
  parts = lacks.parts;
  report = lacks.report;
  instance_text = first.instance lacks.parts lacks.instance_text;
  report_text = second.report lacks.report lacks.report_text;
  refuses = lacks.refuses;
})))
refused_files a b osil osrl r first second (inr (inr (inr memory))) = inr (inr (inr memory))

answer_to_files : (a b osil osrl : List ℕ) (status : ℕ) (line : List ℕ) → Shows a osil → Shows b osrl → IsAnswerTo a b status line → IsAnswerTo osil osrl status line
answer_to_files a b osil osrl status line first second (accepted k is is_yes says) = accepted k is (accepted_files a b osil osrl k first second is_yes) says
answer_to_files a b osil osrl status line first second (refused r is lacks says) = refused r is (refused_files a b osil osrl r first second lacks) says

-- the answer to what was read is one about the files
pub answer_about_files : (instance result : Held) (a b : List ℕ) (status : ℕ) (line : List ℕ)
    → ReadsFirst 4194305 instance a → ReadsFirst 4194305 result b
    → IsAnswerTo a b status line → IsAnswerAbout instance result status line
answer_about_files instance result a b status line first second answers =
    let osil = file_of instance a first in
    let osrl = file_of result b second in
    record {
      osil = osil.0;
      osrl = osrl.0;
      instance_file = osil.1;
      result_file = osrl.1;
      answers = answer_to_files a b osil.0 osrl.0 status line osil.2 osrl.2 answers;
    }

-- the line of an answer, with its status
pub answer_to : (osil osrl : List ℕ) (answer : Result Kind Refused) (is_yes : Bool) (line : List ℕ)
    → is_yes ≡ is_ok answer → IfOk answer (IsAcceptedText osil osrl) → IfErr answer (DocsRefuse osil osrl)
    → IsAnswerLine answer line → IsAnswerTo osil osrl (check_status is_yes) line
answer_to osil osrl (Ok k) is_yes line is accepts refuses says = accepted k (ap check_status is) accepts says
answer_to osil osrl (Err r) is_yes line is accepts refuses says = refused r (ap check_status is) refuses says

-- the same with another name for what is equal
pub answer_of_texts : (a b x y : List ℕ) (status : ℕ) (line : List ℕ) → x ≡ a → y ≡ b → IsAnswerTo x y status line → IsAnswerTo a b status line
answer_of_texts a b x y status line first second answers =
    subst (λ (t : List ℕ). IsAnswerTo t b status line) first (subst (λ (t : List ℕ). IsAnswerTo x t status line) second answers)

pub held_still : (before after : List ℕ → Held) (name text : List ℕ) → after ≡ before → ReadsFirst 4194305 (after name) text
    → ReadsFirst 4194305 (before name) text
held_still before after name text same is = subst (λ (held : List ℕ → Held). ReadsFirst 4194305 (held name) text) same is

pub status_same : (osil osrl : List ℕ) (status due : ℕ) (line : List ℕ) → status ≡ due → IsAnswerTo osil osrl due line → IsAnswerTo osil osrl status line
status_same osil osrl status due line is answers = subst (λ (s : ℕ). IsAnswerTo osil osrl s line) (sym is) answers
