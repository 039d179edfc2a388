-- What the marks of a result document have said.
use Rattle.std.specs.Prelude.{ℕ, ◌+◌, Bool, true, false, Option, None, Some, option_map, option_and_then, unwrap_or, cond, bytes_eq, List, [], ◌∷◌, ◌++◌, length, codes}
use Rattle.tree_grammar.specs.Elements.{Attribute}
use Rattle.document_tags.specs.Elements.{value_of, unless_empty}
use Rattle.fraction.specs.declared.frac.Frac.{Frac}
use Rattle.certificate.specs.declared.nodes.Round.{Round}
use Rattle.certificate.specs.declared.nodes.Node.{Node}
use Rattle.certificate.specs.declared.nodes.Cert.{Cert}
use Rattle.certificate.specs.declared.causes.Cause.{Cause}
use Rattle.certificate.specs.declared.claims.ProvedBound.{ProvedBound}
use Rattle.certificate.specs.declared.claims.Claim.{Claim}
use Rattle.certificate.specs.declared.claims.Claim.TheVariants.{Optimal, Infeasible, Unbounded, BestSoFar, Unsure}
use Rattle.osrl_writing.specs.declared.report.JobStatus.{JobStatus}
use Rattle.osrl_writing.specs.declared.report.Report.{Report}
use Rattle.osrl_grammar.specs.declared.held.Held.{Held}
use Rattle.osrl_writing.specs.declared.parts.Part.{Part}
use Rattle.osrl_writing.specs.declared.parts.Part.TheVariants as parts
use Rattle.osrl_grammar.specs.declared.parts.Misread.TheVariants.{NoShape}
use Rattle.osrl_grammar.specs.declared.parts.BadItem.{BadItem}
use Rattle.osrl_writing.specs.declared.parts.Claiming.{Claiming}
use Rattle.osrl_writing.specs.declared.parts.Claiming.TheVariants as claiming
use Rattle.osrl_grammar.specs.Words.{all_statuses, all_claimings, worded}
use Rattle.osrl_writing.specs.Words.{status_text, claiming_text}
use Rattle.osrl_grammar.specs.ParseState.{State}

-- the type that a start tag says, empty where it says none
abbrev pub type_of : List Attribute → List ℕ
type_of as' = unwrap_or (value_of (codes "type") as') []

-- whether a part has begun, and how many items it has; of a tree's those of the latest level, and one for each before it
abbrev pub has : Held → Part → Bool
has h parts.Point = h.has_point
has h parts.Value = h.has_value
has h parts.Ray = h.has_ray
has h parts.Cause = h.has_cause
has h parts.Bound = h.has_bound
has h parts.Rounds = h.has_rounds
has h parts.Tree = h.has_tree

abbrev pub items : Held → Part → ℕ
items h parts.Point = length h.point
items h parts.Value = length h.values
items h parts.Ray = length h.ray
items h parts.Cause = length h.causes
items h parts.Bound = length h.bounds
items h parts.Rounds = length h.rounds
items h parts.Tree = length h.levels + length h.tree

-- how far the job is, if one of the six words says it
abbrev pub status_of : State → Option JobStatus
status_of s = option_and_then (worded status_text all_statuses) s.status

-- what the solution's status claims, if its type is one of the five
abbrev pub claiming_of : State → Option Claiming
claiming_of s = option_and_then (worded claiming_text all_claimings) s.claiming

-- whether what is claimed so speaks of one level: that no point is feasible, or what is left of a search, with a bound
abbrev pub is_of_one_level : (bounded : Bool) → Option Claiming → Bool
is_of_one_level bounded (Some claiming.Infeasible) = true
is_of_one_level bounded (Some claiming.BestSoFar) = bounded
is_of_one_level bounded (Some claiming.Unsure) = bounded
is_of_one_level bounded c = false

-- whether a solution whose status has this type speaks of one level; where there is no status so far, as is said
abbrev pub has_one_level : (unknown bounded : Bool) → Option (List ℕ) → Bool
has_one_level unknown bounded None = unknown
has_one_level unknown bounded (Some type) = is_of_one_level bounded (worded claiming_text all_claimings type)

-- the item of such a number, as one that isn't of its shape; else the other
abbrev pub level_or : Option ℕ → Option BadItem → Option BadItem
level_or None bad = bad
level_or (Some n) bad = Some (record { misread = NoShape; number = n })

-- THE ITEM THAT ISN'T READ, if one isn't: the first that isn't one of its part, or begins a level out of order; but in a solution that speaks of one level the first that begins with the word of a level, unless one before it isn't read
abbrev pub bad_item : State → Option BadItem
bad_item s = cond (has_one_level false s.held.has_bound s.claiming) (level_or s.level s.bad) s.bad

-- the one of these, if there is just one
abbrev pub only : {X : Type 0} → List X → Option X
only {X} (x ∷ []) = Some x
only {X} xs = None

-- this, if it is so
abbrev pub when : {X : Type 0} → Bool → X → Option X
when {X} true x = Some x
when {X} false x = None

-- A TREE FOR EACH LEVEL: those of the levels before the latest, and its nodes; the first has the rounds
abbrev pub cert : List Round → List Node → Cert
cert rs ns = record { rounds = rs; nodes = ns }

abbrev pub with_rounds : List Round → List Cert → List Cert
with_rounds rs [] = []
with_rounds rs (c ∷ cs) = cert rs c.nodes ∷ cs

abbrev pub certs : List Round → List Cert → List Node → List Cert
certs rs before ns = with_rounds rs (before ++ cert [] ns ∷ [])

-- none where there is no tree
abbrev pub trees : Held → List Cert
trees h = cond h.has_tree (certs h.rounds h.levels h.tree) []

-- the number of the level that comes next
abbrev pub next_level : Held → ℕ
next_level h = length h.levels + 2

-- a claim, if all its parts are there
abbrev pub optimal : Option (List Frac) → Option (List Frac) → Option (List Cert) → Option Claim
optimal (Some x) (Some vs) (Some cs) = Some (Optimal x vs cs)
optimal x vs cs = None

abbrev pub unbounded : Option (List Frac) → Option (List Frac) → List Cert → Option (List Frac) → Option Claim
unbounded (Some x) (Some vs) cs (Some r) = Some (Unbounded x vs cs r)
unbounded x vs cs r = None

-- a bound, if its number and its tree are there
abbrev pub bounded : Option Frac → Option Cert → Option (Option ProvedBound)
bounded (Some v) (Some c) = Some (Some (record { number = v; cert = c }))
bounded v c = None

-- the same where one is told; where none is, there is none
abbrev pub bound_of : Held → Option (Option ProvedBound)
bound_of h = cond h.has_bound (bounded (only h.bounds) (when h.has_tree (cert h.rounds h.tree))) (Some None)

abbrev pub best_so_far : Option (List Frac) → Option (List Frac) → Option Cause → Option (Option ProvedBound) → Option Claim
best_so_far (Some x) (Some vs) (Some c) (Some b) = Some (BestSoFar x vs c b)
best_so_far x vs c b = None

abbrev pub unsure : Option Cause → Option (Option ProvedBound) → Option Claim
unsure (Some c) (Some b) = Some (Unsure c b)
unsure c b = None

-- the claim of a solution with such a status, if its parts are there
abbrev pub claim_as : Held → Claiming → Option Claim
claim_as h claiming.Optimal = optimal (when h.has_point h.point) (when h.has_value h.values) (when h.has_tree (trees h))
claim_as h claiming.Infeasible = option_map Infeasible (when h.has_tree (cert h.rounds h.tree))
claim_as h claiming.Unbounded = unbounded (when h.has_point h.point) (when h.has_value h.values) (trees h) (when h.has_ray h.ray)
claim_as h claiming.BestSoFar = best_so_far (when h.has_point h.point) (when h.has_value h.values) (only h.causes) (bound_of h)
claim_as h claiming.Unsure = unsure (only h.causes) (bound_of h)

-- THE CLAIM, if there is one, where it can be told: not where a solution claims nothing, or a part isn't there
abbrev pub told_claim : State → Option (Option Claim)
told_claim s = cond s.has_solution (option_map Some (option_and_then (claim_as s.held) (claiming_of s))) (Some None)

-- THE REPORT, where all parts are there that it needs
abbrev pub report_with : Option (List ℕ) → (job message : Option (List ℕ)) → Option JobStatus → Option (Option Claim) → Option Report
report_with (Some type) job message (Some status) (Some claim) = Some (record { error = bytes_eq type (codes "error"); job = job; message = message; status = status; claim = claim })
report_with type job message status claim = None

-- a text that is there and isn't empty
abbrev pub nonempty : Option (List ℕ) → Option (List ℕ)
nonempty text = option_and_then unless_empty text

abbrev pub report_of : State → Option Report
report_of s = report_with s.general (nonempty s.job) (nonempty s.message) (status_of s) (told_claim s)
