-- What bytes are as result documents: the document of a report, or refused in one way.
use Rattle.std.specs.Prelude.{◌≡◌, ◌⊎◌, ℕ, List}
use Rattle.document_tags.specs.Documents.{OfDocument, FailsAsDocument}
use Rattle.osrl_writing.specs.declared.report.Report.{Report}
use Rattle.osrl_grammar.specs.declared.fault.OsrlFault.{OsrlFault}
use Rattle.osrl_grammar.specs.declared.fault.OsrlFault.TheVariants.{Tree, Memory}
use Rattle.osrl_grammar.specs.Marked.{IsReport, IsRefused}

-- the bytes are the document of a report
abbrev pub IsReportText : List ℕ → Report → Type 0
IsReportText bytes r = OfDocument IsReport bytes r

-- why bytes aren't read: they are no document, or one that is refused; or there was no memory
abbrev pub DecodeFails : List ℕ → OsrlFault → Type 0
DecodeFails bytes f = (f ≡ Memory) ⊎ FailsAsDocument Tree IsRefused bytes f
