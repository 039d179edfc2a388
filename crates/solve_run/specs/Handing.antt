-- What becomes of a result that the options hand in: where its claim is shown of the instance, that is the answer; else the message says why not.
use Rattle.std.specs.Prelude.{◌≡◌, ℕ, Option, None, Some, List, ◌++◌, codes}
use Rattle.instance.specs.Parts.{Parts}
use Rattle.certificate.specs.declared.claims.Claim.{Claim}
use Rattle.document_checker.specs.declared.fault.CheckFault.{CheckFault}
use Rattle.document_checker.specs.Documents.{IsShownIn, IsUnshownIn}
use Rattle.document_checker.specs.Texts.{reason, IsCheckFaultText}
use Rattle.handed_results.specs.declared.handed.Handed.{Handed}
use Rattle.handed_results.specs.declared.handed.Handed.TheVariants.{Nothing, Once, Twice}
use Rattle.handed_results.specs.Reading.{HandsIn}

-- what is said of the result that is handed in
abbrev pub about_handed : List ℕ → List ℕ
about_handed words = codes "os_cert.result " ++ words

-- what is handed in is one result, with this claim, which is shown of the instance
pub record IsTaken (p : Parts) (h : Handed) (c : Claim) : Type 0 where
  pub text : List ℕ
  pub one : h ≡ Once text
  pub shown : IsShownIn p text c

-- a result of this text isn't shown of the instance, and these words say why
pub record IsRefusedWith (p : Parts) (text words : List ℕ) : Type 0 where
  pub fault : CheckFault
  pub unshown : IsUnshownIn p text fault
  pub says : IsCheckFaultText fault words

-- the message about what is handed in, of which nothing is taken
abbrev pub IsNoteOf : Parts → Handed → Option (List ℕ) → Type 0
IsNoteOf p Nothing note = note ≡ None
IsNoteOf p (Once text) note = (words : List ℕ) × IsRefusedWith p text words × (note ≡ Some (about_handed words))
IsNoteOf p Twice note = note ≡ Some (about_handed (reason (codes "Twice")))

-- what is handed in: the text beside the options, where there is one, and else what they hand in
abbrev pub IsHandedIn : (beside : Option (List ℕ)) → (osol : List ℕ) → Handed → Type 0
IsHandedIn None osol h = HandsIn osol h
IsHandedIn (Some text) osol h = h ≡ Once text

-- a result is handed in with this claim, which is shown of the instance
pub record HandsInClaim (beside : Option (List ℕ)) (osol : List ℕ) (p : Parts) (c : Claim) : Type 0 where
  pub handed : Handed
  pub hands : IsHandedIn beside osol handed
  pub taken : IsTaken p handed c

-- no such result is handed in, and this is the message about what is, if something is
pub record HandsInNone (beside : Option (List ℕ)) (osol : List ℕ) (p : Parts) (note : Option (List ℕ)) : Type 0 where
  pub handed : Handed
  pub hands : IsHandedIn beside osol handed
  pub notes : IsNoteOf p handed note
