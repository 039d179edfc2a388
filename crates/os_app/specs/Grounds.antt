-- What the laws of the crates below say of all pairs of documents.
use Rattle.std.specs.Prelude.{◌≡◌, ℕ, List, Result, MatchResult}
use Rattle.document_checker.specs.declared.documents.Kind.{Kind}
use Rattle.document_checker.specs.declared.fault.CheckFault.{CheckFault as Refused}
use Rattle.document_checker.specs.declared.fault.CheckFault.TheVariants.{Memory}
use Rattle.document_checker.specs.Documents.{IsAcceptedText, DocsRefuse}
use Rattle.document_checker.specs.Texts.{IsAnswerText}

-- documents are accepted as one kind, or refused in one text
pub record AnswersAreOne : Type 0 where
  pub kind : (osil osrl : List ℕ) (j k : Kind) → IsAcceptedText osil osrl j → IsAcceptedText osil osrl k → j ≡ k
  pub apart : (osil osrl : List ℕ) (k : Kind) (r : Refused) → IsAcceptedText osil osrl k → DocsRefuse osil osrl r → r ≡ Memory
  pub told : (osil osrl : List ℕ) (a b : Result Kind Refused) (s t : List ℕ) → MatchResult a (IsAcceptedText osil osrl) (DocsRefuse osil osrl) → MatchResult b (IsAcceptedText osil osrl) (DocsRefuse osil osrl) → IsAnswerText a s → IsAnswerText b t → s ≡ t
