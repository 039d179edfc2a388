-- The text that an instance is written as is that of this instance and of no other.
use Rattle.osil_grammar.proofs.Words.{◌≡◌, ◌⊎◌, inl, inr, ℕ, ◌≤◌, List, length, ap, Result, Ok, Err, IfOk, IfErr, document_limit, Parts, IsValid, OsilFault, IsInstanceText, DecodeFails, HasDecimals, IsWrittenText}
use Rattle.osil_grammar.specs.declared.fault.OsilFault.TheVariants.{Memory}
use Rattle.osil_grammar.proofs.Documents.{written_document}
use Rattle.osil_grammar.proofs.OneFault.{never_both}
use Rattle.osil_grammar.proofs.OneDocument.{text_means_once}
use Rattle.osil_grammar.proofs.WrittenRoots.{root_means}

pub text_is_own : (p : Parts) (text : List ℕ) → IsValid p → HasDecimals p → IsWrittenText p text → length text ≤ document_limit → IsInstanceText text p
text_is_own p text valid has is short =
    let at = written_document p text valid is short in
    record { root = _; document = at.2; means = root_means p at.0 valid has at.1 }

pub text_of_no_other : (p q : Parts) (text : List ℕ) → IsValid p → HasDecimals p → IsWrittenText p text → length text ≤ document_limit → IsInstanceText text q → q ≡ p
text_of_no_other p q text valid has is short other = text_means_once text q p other (text_is_own p text valid has is short)

-- and is read as that instance
pub read_back : (p : Parts) (text : List ℕ) (r : Result Parts OsilFault) → IsValid p → HasDecimals p → IsWrittenText p text → length text ≤ document_limit → IfOk r (IsInstanceText text) → IfErr r (DecodeFails text) → (r ≡ Ok p) ⊎ (r ≡ Err Memory)
read_back p text (Ok q) valid has is short ok err = inl (ap (λ (x : Parts). Ok x) (text_of_no_other p q text valid has is short ok))
read_back p text (Err f) valid has is short ok err = inr (ap (λ (e : OsilFault). Err e) (never_both text p f (text_is_own p text valid has is short) err))
