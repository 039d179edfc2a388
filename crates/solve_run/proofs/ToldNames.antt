-- Answers and the names that they are told with.
use Rattle.std.proofs.Common.{◌≡◌, ◌∙◌, ℕ, inl, inr, ◌⊎◌, Bool, true, false, List, eqb-true, refl, ap, sym, subst}
use Rattle.std.specs.Prelude.{nat_eq}
use Rattle.std.proofs.lemmas.Bool.{false≢true}
use Rattle.osol_grammar.specs.declared.options.Options.{Options}
use Rattle.osol_grammar.specs.Meaning.{IsOptionsText}
use Rattle.osol_grammar.proofs.OneAnswer.{text_once}
use Rattle.instance.specs.Parts.{Parts}
use Rattle.osil_grammar.specs.Reading.{IsInstanceText}
use Rattle.osrl_writing.specs.declared.told_names.NameLists.{NameLists}
use Rattle.osrl_writing.specs.declared.report.Report.{Report}
use Rattle.osrl_writing.specs.Labels.{AreXmlNames, no_names}
use Rattle.osrl_writing.specs.Writing.{report_text, named_text, told_text}
use Rattle.osrl_grammar.specs.Reading.{IsReportText}
use Rattle.instance_names.specs.Reading.{GivesNames}
use Rattle.solve_run.specs.declared.document.Document.{Document}
use Rattle.solve_run.specs.JobAnswers.{AskForNames, TellsReport}
use Rattle.solve_run.specs.Runs.{IsDocumentOf, IsNamedDocument, IsAnswer, AreDueNames}
use Rattle.solve_run.proofs.Texts.{told_plainly}

-- a report that has nothing to be named is told without names
pub nameless : (osil osol : List ℕ) (r : Report) (doc : Document) → ((ns : NameLists) → named_text ns r ≡ report_text r) → IsDocumentOf r doc → IsAnswer osil osol r doc
nameless osil osol r doc plain is = record {
  text = record {
    names = no_names;
    is = is.text ∙ sym (told_plainly no_names r refl);
    own = inl refl;
    asked = λ asks ns gives. is.text ∙ sym (told_plainly ns r (plain ns));
  };
  error = is.error;
}

-- a document with the names that are due answers its texts
module _ (osil osol : List ℕ) (o : Options) (options_text : IsOptionsText osol o) (p : Parts) (instance_text : IsInstanceText osil p) (ns : NameLists) (due : AreDueNames osil o ns) where
  own_names : o.names ≡ 1 → GivesNames osil ns
  own_names one = record { root = instance_text.root; document = instance_text.document; is = due.asked one instance_text.root instance_text.document }

  one_or_other : (b : Bool) → nat_eq o.names 1 ≡ b → (ns ≡ no_names) ⊎ (AskForNames osol × GivesNames osil ns)
  one_or_other true is = let one = eqb-true o.names 1 is in inr ((o, options_text, one), own_names one)
  one_or_other false is = inl (due.unasked (λ one. let same : nat_eq o.names 1 ≡ true = subst (λ (n : ℕ). nat_eq n 1 ≡ true) (sym one) refl in false≢true (sym is ∙ same)))

  same_names : AskForNames osol → (ms : NameLists) → GivesNames osil ms → ns ≡ ms
  same_names (q, text, one) ms gives =
      let same : q ≡ o = text_once osol q o text options_text in
      due.asked (subst (λ (x : Options). x.names ≡ 1) same one) gives.root gives.document ∙ sym gives.is

  pub named_answer : (r : Report) (doc : Document) → IsNamedDocument ns r doc → IsAnswer osil osol r doc
  named_answer r doc is = record {
    text = record {
      names = ns;
      is = is.text;
      own = one_or_other (nat_eq o.names 1) refl;
      asked = λ asks ms gives. is.text ∙ ap (λ (x : NameLists). told_text x r) (same_names asks ms gives);
    };
    error = is.error;
  }

-- a text that tells a report is its document, if the report's own text is
pub told_read : ((bytes : List ℕ) (ns : NameLists) → GivesNames bytes ns → AreXmlNames ns) → ((ns : NameLists) (r : Report) → AreXmlNames ns → IsReportText (report_text r) r → IsReportText (told_text ns r) r)
    → (osil osol : List ℕ) (r : Report) (text : List ℕ) → TellsReport osil osol r text → IsReportText (report_text r) r → IsReportText text r
told_read xml named osil osol r text tells read = by tells.own
  where
    by : (tells.names ≡ no_names) ⊎ (AskForNames osol × GivesNames osil tells.names) → IsReportText text r
    by (inl none) = subst (λ (t : List ℕ). IsReportText t r) (sym (tells.is ∙ told_plainly tells.names r (ap (λ (ns : NameLists). named_text ns r) none))) read
    by (inr own) = subst (λ (t : List ℕ). IsReportText t r) (sym tells.is) (named tells.names r (xml osil tells.names own.1) read)
