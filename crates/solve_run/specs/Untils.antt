-- Searches that a time may stop: what the job's own watch answered at their looks, which look stopped them, and which cause is told.
use Rattle.std.specs.Prelude.{◌≡◌, ℕ, Bool, true, false, Option, None, Some, List}
use Rattle.fraction.specs.declared.frac.Frac.{Frac}
use Rattle.evidence.specs.ProvedBounds.{ProvedBound}
use Rattle.instance.specs.Parts.{Parts}
use Rattle.instance.specs.Program.{problem}
use Rattle.certificate.specs.declared.causes.Cause.{Cause}
use Rattle.certificate.specs.declared.causes.Cause.TheVariants.{Killed, NodeLimit, TurnLimit, Gap, TimeLimit, Wide, Length, Memory}
use Rattle.certificate.specs.declared.claims.Claim.{Claim}
use Rattle.certificate.specs.declared.claims.Claim.TheVariants as Has
use Rattle.simplex_rules.specs.Ends.{Terms}
use Rattle.simplex_rules.specs.Looks.{answers, stop_after, looks_after}
use Rattle.search_rules.specs.Search.{Found, Outcome, Optimal, Infeasible, Unbounded, BestSoFar, Unsure}
use Rattle.search_rules.specs.Asked.{IsAskedAnswer}
use Rattle.branch_bound.specs.Claims.{ClaimTellsWith}
use Rattle.osol_grammar.specs.declared.options.Options.{Options}
use Rattle.solve_run.specs.Asking.{job_asked}

-- a search within the options' limits, stopped by this look, if by one
abbrev pub job_terms : Options → (stop : Option ℕ) → Terms
job_terms o stop = record { nodes = o.nodes; turns = o.turns; rounds = o.rounds; stop = stop }

-- of n looks at which the job's own watch said to go on, and one more where that one said to stop: the look that stopped the search, if one did. Where a time was over it was the last one
abbrev pub stop_by : ℕ → (killed : Bool) → (timed : Option Frac) → Option ℕ
stop_by n killed None = stop_after n killed
stop_by n killed (Some s) = Some n

-- how many they are
abbrev pub looks_by : ℕ → (killed : Bool) → (timed : Option Frac) → ℕ
looks_by n killed None = looks_after 0 n killed
looks_by n killed (Some s) = n

-- a time was over only where the options say that very one, and the job's own watch went on
abbrev pub MayTime : Options → (killed : Bool) → (timed : Option Frac) → Type 0
MayTime o killed None = Unit {0}
MayTime o killed (Some s) = (o.seconds ≡ Some s) × (killed ≡ false)

-- a time that was over is the cause where a look stopped the search; each other cause stays
abbrev pub by_time : Frac → Cause → Cause
by_time s Killed = TimeLimit s
by_time s (NodeLimit n) = NodeLimit n
by_time s (TurnLimit n) = TurnLimit n
by_time s Gap = Gap
by_time s (TimeLimit x) = TimeLimit x
by_time s (Wide p) = Wide p
by_time s Length = Length
by_time s Memory = Memory

-- the outcome, with the time that was over as its cause, where one was
abbrev pub renamed : (timed : Option Frac) → Outcome → Outcome
renamed None o = o
renamed (Some s) (Optimal x vs cs) = Optimal x vs cs
renamed (Some s) (Infeasible cert) = Infeasible cert
renamed (Some s) (Unbounded x vs cs r) = Unbounded x vs cs r
renamed (Some s) (BestSoFar x vs c) = BestSoFar x vs (by_time s c)
renamed (Some s) (Unsure c) = Unsure (by_time s c)

-- and the claim, which keeps its bound
abbrev pub timed_claim : Frac → Claim → Claim
timed_claim s (Has.Optimal x vs cs) = Has.Optimal x vs cs
timed_claim s (Has.Infeasible cert) = Has.Infeasible cert
timed_claim s (Has.Unbounded x vs cs r) = Has.Unbounded x vs cs r
timed_claim s (Has.BestSoFar x vs c b) = Has.BestSoFar x vs (by_time s c) b
timed_claim s (Has.Unsure c b) = Has.Unsure (by_time s c) b

abbrev pub named : (was_time : Bool) → (seconds : Option Frac) → Claim → Claim
named false seconds c = c
named true None c = c
named true (Some s) c = timed_claim s c

-- what a search within the options' limits and their time, of which that is asked that they ask, from this point on, if from one, found after so many turns, with a watch that came by these looks
pub record FindsUntil (p : Parts) (o : Options) (start : Option Found) (Came : List Bool → Type 0) (claim : Claim) (turns : ℕ) : Type 0 where
  pub went_on : ℕ
  pub killed : Bool
  pub timed : Option Frac
  pub may : MayTime o killed timed
  pub came : Came (answers went_on killed)
  pub outcome : Outcome
  pub bound : Option ProvedBound
  pub answer : IsAskedAnswer (problem p) (job_terms o (stop_by went_on killed timed)) (job_asked o) start outcome bound (record { turns = turns; looks = looks_by went_on killed timed })
  pub tells : ClaimTellsWith claim (renamed timed outcome) bound
