-- What comes of a whole head.
use Rattle.std.proofs.Common.{ℕ, ◌≤◌, inl, inr, List, [], length, subst, arith}
use Rattle.std.specs.Prelude.{Result}
use Rattle.http_link.specs.declared.refusal.Refusal.{Refusal}
use Rattle.http_link.specs.Lines.{IsWholeHead}
use Rattle.http_link.specs.declared.checks.Accepted.{Accepted}
use Rattle.http_link.specs.Checks.{most_head, most_fields, ReadsWithin, ReadsHead, Head}
use Rattle.httparse.specs.Grammar.{ReadsRequest}
use Rattle.http_link.proofs.Fields.{fields_counted}

-- a head with few lines has no more fields than lines
pub reads_head : (bytes : List ℕ) (lines : ℕ) (outcome : Result Accepted Refusal) → IsWholeHead bytes lines → lines ≤ most_fields
    → ReadsWithin most_fields bytes outcome → ReadsHead bytes outcome
reads_head bytes lines outcome whole few (inl (more, is)) = inl (
  λ h reads.
      let counted = fields_counted h whole.0 whole.1 (subst (λ (b : List ℕ). ReadsRequest b h []) whole.2 reads) in
      omega (arith, more h reads, counted, whole.3, few),
  is,
)
reads_head bytes lines outcome whole few (inr (h, reads, few', is)) = inr (h, reads, is)

pub judged : (bytes : List ℕ) (lines : ℕ) (outcome : Result Accepted Refusal) → IsWholeHead bytes lines → length bytes ≤ most_head
    → lines ≤ most_fields → ReadsWithin most_fields bytes outcome → Head bytes outcome
judged bytes lines outcome whole fits few reads = inr (
  whole.0,
  whole.1,
  whole.2,
  fits,
  inr (omega (arith, whole.3, few), reads_head bytes lines outcome whole few reads),
)
