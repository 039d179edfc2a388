-- A report that was read can be written and read again.
use Rattle.osrl_grammar.proofs.Names.{◌≡◌, ℕ, ◌≤◌, ◌⊎◌, inl, inr, Result, Ok, Err, List, length, ap, IfOk, IfErr, document_limit, Report, OsrlFault, Memory, TextsAreOfCharacters, IsReportText, DecodeFails, NameLists, AreXmlNames, ComesBack, report_text, told_text}
use Rattle.osrl_grammar.proofs.BackReport.{text_comes_back, told_comes_back}
use Rattle.osrl_grammar.proofs.ReadClaims.{text_fits}
use Rattle.osrl_grammar.proofs.OneDocument.{report_text_once, refusal_apart}

module _ (ground : TextsAreOfCharacters) where
  -- a report that was read can come back
  may_come_back : (bytes : List ℕ) (r : Report) → IsReportText bytes r → length (report_text r) ≤ document_limit → ComesBack r
  may_come_back bytes r text short = let fits = text_fits ground bytes r text in record { short = short; job = fits.job; message = fits.message; claim = fits.claim.2 }

  -- its text is its text, with names too
  read_comes_back : (bytes : List ℕ) (r : Report) → IsReportText bytes r → length (report_text r) ≤ document_limit → IsReportText (report_text r) r
  read_comes_back bytes r text short = text_comes_back r (may_come_back bytes r text short)

  pub named_again : (ns : NameLists) (r : Report) → AreXmlNames ns → IsReportText (report_text r) r → IsReportText (told_text ns r) r
  named_again ns r xml text = told_comes_back ns xml r (may_come_back (report_text r) r text text.document.short)

  pub reads_again : (bytes : List ℕ) (r : Report) (d : Result Report OsrlFault) → IsReportText bytes r → length (report_text r) ≤ document_limit → IfOk d (IsReportText (report_text r)) → IfErr d (DecodeFails (report_text r)) → (d ≡ Ok r) ⊎ (d ≡ Err Memory)
  reads_again bytes r (Ok s) text short is fails = inl (ap Ok (report_text_once (report_text r) s r is (read_comes_back bytes r text short)))
  reads_again bytes r (Err f) text short is fails = inr (ap Err (refusal_apart (report_text r) r f (read_comes_back bytes r text short) fails))
