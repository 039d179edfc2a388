-- What a check of two files writes.
use Rattle.std.specs.Prelude.{◌≡◌, ℕ, Result, Ok, Err, List, [], ◌∷◌, ◌++◌}
use Rattle.os_io.specs.Files.{Held, MayHold}
use Rattle.document_checker.specs.declared.documents.Kind.{Kind}
use Rattle.document_checker.specs.declared.fault.CheckFault.{CheckFault as Refused}
use Rattle.document_checker.specs.Documents.{IsAcceptedText, DocsRefuse}
use Rattle.document_checker.specs.Texts.{IsAnswerText}

-- the answer in words, and a line feed
pub record IsAnswerLine (answer : Result Kind Refused) (line : List ℕ) : Type 0 where
  pub text : List ℕ
  pub says : IsAnswerText answer text
  pub ended : line ≡ text ++ (10 ∷ [])

-- the line that says what these bytes of the two files say together, and its status: that the result's claim is shown of the
-- instance, or why it isn't. Want of memory has no line
pub data IsAnswerTo (osil osrl : List ℕ) (status : ℕ) (line : List ℕ) : Type 0 where
  accepted : (k : Kind) → status ≡ 0 → IsAcceptedText osil osrl k → IsAnswerLine (Ok k) line → IsAnswerTo osil osrl status line
  refused : (r : Refused) → status ≡ 1 → DocsRefuse osil osrl r → IsAnswerLine (Err r) line → IsAnswerTo osil osrl status line

-- the line that says what two files say together, whose bytes are these where they are told; neither is told to be absent
pub record IsAnswerAbout (instance result : Held) (status : ℕ) (line : List ℕ) : Type 0 where
  pub osil : List ℕ
  pub osrl : List ℕ
  pub instance_file : MayHold instance osil
  pub result_file : MayHold result osrl
  pub answers : IsAnswerTo osil osrl status line
