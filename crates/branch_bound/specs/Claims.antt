-- What a claim tells of a search.
use Rattle.std.specs.Prelude.{◌≡◌, ◌⊎◌, Bool, true, false, Option, None, Some}
use Rattle.evidence.specs.Claim as Says
use Rattle.certificate.specs.Meanings as Means
use Rattle.certificate.specs.declared.causes.Cause.{Cause}
use Rattle.certificate.specs.declared.causes.Cause.TheVariants.{Killed, NodeLimit, TurnLimit, Gap, TimeLimit, Wide, Length, Memory}
use Rattle.certificate.specs.declared.claims.Claim.{Claim}
use Rattle.certificate.specs.declared.claims.Claim.TheVariants as Has
use Rattle.no_cycles.specs.Searches.{is_for}
use Rattle.evidence.specs.ProvedBounds.{ProvedBound}
use Rattle.search_rules.specs.Search.{Outcome, Optimal, Infeasible, Unbounded, BestSoFar, Unsure}
use Rattle.search_rules.specs.Bounds.{claimed}

-- what an outcome says of a problem, without a bound
abbrev pub said : Outcome → Says.Claim
said o = claimed o None

-- why the search was given up, if it was
abbrev pub cause_of : Outcome → Option Cause
cause_of (Optimal x vs cs) = None
cause_of (Infeasible cert) = None
cause_of (Unbounded x vs cs r) = None
cause_of (BestSoFar x vs c) = Some c
cause_of (Unsure c) = Some c

-- and why a claim says so
abbrev pub claimed_cause : Claim → Option Cause
claimed_cause (Has.Optimal x vs cs) = None
claimed_cause (Has.Infeasible cert) = None
claimed_cause (Has.Unbounded x vs cs r) = None
claimed_cause (Has.BestSoFar x vs c b) = Some c
claimed_cause (Has.Unsure c b) = Some c

-- a claim has such a cause
abbrev pub claims_for : (Cause → Bool) → Claim → Bool
claims_for such (Has.Optimal x vs cs) = false
claims_for such (Has.Infeasible cert) = false
claims_for such (Has.Unbounded x vs cs r) = false
claims_for such (Has.BestSoFar x vs c b) = such c
claims_for such (Has.Unsure c b) = such c

-- the claim tells the outcome: what it says, and the cause
pub record ClaimTells (claim : Claim) (o : Outcome) : Type 0 where
  pub says : Means.claim claim ≡ said o
  pub cause : claimed_cause claim ≡ cause_of o

-- and with a bound
pub record ClaimTellsWith (claim : Claim) (o : Outcome) (b : Option ProvedBound) : Type 0 where
  pub says : Means.claim claim ≡ claimed o b
  pub cause : claimed_cause claim ≡ cause_of o

abbrev pub is_kill : Cause → Bool
is_kill Killed = true
is_kill (NodeLimit n) = false
is_kill (TurnLimit n) = false
is_kill Gap = false
is_kill (TimeLimit x) = false
is_kill (Wide p) = false
is_kill Length = false
is_kill Memory = false

-- memory was wanting
abbrev pub is_want : Cause → Bool
is_want Killed = false
is_want (NodeLimit n) = false
is_want (TurnLimit n) = false
is_want Gap = false
is_want (TimeLimit x) = false
is_want (Wide p) = false
is_want Length = false
is_want Memory = true

-- a look stopped the search
abbrev pub is_killed : Outcome → Bool
is_killed o = is_for is_kill o

-- where a look stopped the search the outcome has that cause; or memory was wanting for a bound that was asked for
abbrev pub TellsStop : Bool → Bool → Outcome → Type 0
TellsStop asks killed o = (killed ≡ is_killed o) ⊎ ((asks ≡ true) × (killed ≡ true) × (cause_of o ≡ Some Memory))
