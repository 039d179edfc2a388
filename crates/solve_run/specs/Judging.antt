-- What is checked of a search's claim before it is told.
use Rattle.std.specs.Prelude.{◌≡◌, ℕ, ◌^◌, ◌<◌, ◌≤◌, Bool, true, false, is_some, Option, None, Some, IfSome, length}
use Rattle.std.specs.List.{All}
use Rattle.evidence.specs.ProvedBounds.{ProvedBound}
use Rattle.evidence.specs.Claim.{Accepts}
use Rattle.instance.specs.Parts.{Parts}
use Rattle.instance.specs.Program.{problem}
use Rattle.certificate.specs.GivenUp.{given_up, without_bound}
use Rattle.certificate.specs.Meanings as Means
use Rattle.certificate.specs.Nodes.{certs_of}
use Rattle.certificate.specs.declared.nodes.Cert.{Cert}
use Rattle.certificate.specs.declared.causes.Cause.{Cause}
use Rattle.certificate.specs.declared.causes.Cause.TheVariants as causes
use Rattle.certificate.specs.declared.causes.Step.TheVariants as steps
use Rattle.certificate.specs.declared.claims.Claim.{Claim}
use Rattle.certificate.specs.declared.claims.Claim.TheVariants.{Optimal, Infeasible, Unbounded, BestSoFar, Unsure}
use Rattle.osol_grammar.specs.Limits.{most_rounds}
use Rattle.search_rules.specs.Search.{Outcome}
use Rattle.search_rules.specs.Outcomes.{IsShown}
use Rattle.search_rules.specs.Bounds.{IsShownBound}
use Rattle.branch_bound.specs.Claims.{ClaimTellsWith}
use Rattle.cert_checker.specs.declared.refused.Refused.{Refused}
use Rattle.cert_checker.specs.declared.refused.Refused.TheVariants.{Level}
use Rattle.cert_checker.specs.declared.refused.Unshown.TheVariants as why
use Rattle.cert_checker.specs.Refusals.{IsRefusedFor}
use Rattle.solve_run.specs.declared.closing.Judged.{Judged}
use Rattle.solve_run.specs.declared.closing.Judged.TheVariants.{Width, Bound}

-- the claim tells an outcome that is shown, with a bound that is shown, or with none
pub record IsShownClaim (p : Parts) (c : Claim) : Type 0 where
  pub outcome : Outcome
  pub bound : Option ProvedBound
  pub tells : ClaimTellsWith c outcome bound
  pub shown : IsShown (problem p) outcome
  pub bounded : IfSome bound (λ b. IsShownBound (problem p) b)

-- as many rounds as options may ask for
abbrev pub AreFewRounds : ℕ → Type 0
AreFewRounds n = n ≤ most_rounds

abbrev pub HasFewRounds : Claim → Type 0
HasFewRounds c = All (λ (cert : Cert). AreFewRounds (length cert.rounds)) (certs_of c)

-- the claim says that a point is optimal, that none is feasible, or that points have no best value
abbrev pub IsFinal : Claim → Type 0
IsFinal (Optimal x vs cs) = Unit {0}
IsFinal (Infeasible c) = Unit {0}
IsFinal (Unbounded x vs cs r) = Unit {0}
IsFinal (BestSoFar x vs c b) = ⊥
IsFinal (Unsure c b) = ⊥

-- a sum by which node n is checked doesn't fit, and is formed after so many turns
abbrev pub wide_check : (n turns : ℕ) → Cause
wide_check n turns = causes.Wide (record { node = n; turn = turns; step = steps.Check })

-- a sum doesn't fit at node n of some level
abbrev pub IsWideAt : Refused → ℕ → Type 0
IsWideAt r n = (level : ℕ) × (r ≡ Level level (why.Wide n))

-- the claim is of a search that was given up, and has a bound
abbrev pub is_bounded : Claim → Bool
is_bounded (Optimal x vs cs) = false
is_bounded (Infeasible c) = false
is_bounded (Unbounded x vs cs r) = false
is_bounded (BestSoFar x vs c b) = is_some b
is_bounded (Unsure c b) = is_some b

-- what is checked of a claim: nothing where it isn't final and has no bound; a final one is accepted, or the first sum that doesn't fit is at this node; and one with a bound is accepted, or isn't
abbrev pub IsJudged : Parts → Claim → Judged → Type 0
IsJudged p c (Width None) = (is_bounded c ≡ false) × (IsFinal c → Accepts (problem p) (Means.claim c))
IsJudged p c (Width (Some n)) = IsFinal c × (r : Refused) × IsRefusedFor (problem p) (Means.claim c) r × IsWideAt r n
IsJudged p c (Bound true) = (is_bounded c ≡ true) × Accepts (problem p) (Means.claim c)
IsJudged p c (Bound false) = (is_bounded c ≡ true) × (Accepts (problem p) (Means.claim c) → ⊥)

-- the node, if there is one, has a number of its type
abbrev pub HasSmallNode : Judged → Type 0
HasSmallNode (Width width) = IfSome width (λ n. n < 2 ^ 32)
HasSmallNode (Bound fits) = Unit {0}

-- the claim after its check: a bound that isn't accepted is left out, and the cause stays
abbrev pub checked : Claim → (turns : ℕ) → Judged → Claim
checked c turns (Width None) = c
checked c turns (Width (Some n)) = given_up c (wide_check n turns)
checked c turns (Bound true) = c
checked c turns (Bound false) = without_bound c
