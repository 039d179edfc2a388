-- Which documents a sieve takes.
use Rattle.std.proofs.Common.{◌≡◌, inl, inr, ℕ, true, false, List, Some, None, refl, sym, ◌∙◌, ap}
use Rattle.std.specs.Prelude.{◌↔◌}
use Rattle.osrl_writing.specs.declared.report.Report.{Report}
use Rattle.osrl_grammar.specs.Reading.{IsReportText}
use Rattle.document_checker.specs.declared.documents.Kind.{Kind}
use Rattle.document_checker.specs.declared.fault.CheckFault.{CheckFault}
use Rattle.document_checker.specs.declared.fault.CheckFault.TheVariants as faults
use Rattle.document_checker.specs.Documents.{IsAcceptedText, DocsRefuse}
use Rattle.job_solver.specs.Sieves.{claims_something, TellsClaim, Sifts}

module _ (osil document : List ℕ) where
  -- no report
  pub no_report : TellsClaim document None → (false ≡ true) ↔ Sifts osil document
  no_report none = (
    (λ wrong. absurd cc),
    (λ sifts. absurd (told_none sifts)),
  )
    where
      told_none : Sifts osil document → ⊥
      told_none (inl (report, text, nothing)) = none report text
      told_none (inr (k, accepted)) = none accepted.report accepted.report_text

  -- one that claims nothing
  pub claims_none : TellsClaim document (Some false) → (true ≡ true) ↔ Sifts osil document
  claims_none told = ((λ _. inl told), (λ _. refl))

  -- one whose claim the checker accepts
  pub is_accepted : (k : Kind) → IsAcceptedText osil document k → (true ≡ true) ↔ Sifts osil document
  is_accepted k accepted = ((λ _. inr (k, accepted)), (λ _. refl))

  -- or doesn't
  pub not_accepted : ((bytes : List ℕ) (r s : Report) → IsReportText bytes r → IsReportText bytes s → r ≡ s)
      → ((instance result : List ℕ) (k : Kind) (f : CheckFault) → IsAcceptedText instance result k → DocsRefuse instance result f → f ≡ faults.Memory)
      → (fault : CheckFault) → TellsClaim document (Some true) → DocsRefuse osil document fault → (fault ≡ faults.Memory → ⊥) → (false ≡ true) ↔ Sifts osil document
  not_accepted one_report one_answer fault (report, text, claims) refuses found = ((λ wrong. absurd cc), (λ sifts. absurd (refused sifts)))
    where
      refused : Sifts osil document → ⊥
      refused (inl (other, text', nothing)) =
          let wrong : true ≡ false = sym claims ∙ ap (λ (r : Report). claims_something r.claim) (one_report document report other text text') ∙ nothing in cc
      refused (inr (k, accepted)) = found (one_answer osil document k fault accepted refuses)
