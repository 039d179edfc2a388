-- Claims with multipliers of rows alone: those of variables are left out of each leaf and each round of their certificates.
use Rattle.std.specs.Prelude.{ℕ, Bool, leb, map, filter, List}
use Rattle.certificate.specs.declared.lists.Mult.{Mult}
use Rattle.certificate.specs.declared.nodes.Node.{Node}
use Rattle.certificate.specs.declared.nodes.Node.TheVariants.{Split, Zero, Clash, Farkas, Bound, Grid, FarkasRows, BoundRows, GridRows}
use Rattle.certificate.specs.declared.nodes.Round.{Round}
use Rattle.certificate.specs.declared.nodes.Round.TheVariants.{Whole, OfRows}
use Rattle.certificate.specs.declared.nodes.Cert.{Cert}
use Rattle.certificate.specs.declared.claims.Claim.{Claim}
use Rattle.certificate.specs.declared.claims.Claim.TheVariants.{Optimal, Infeasible, Unbounded, BestSoFar, Unsure}

-- its column isn't one of n variables
abbrev pub is_of_row : ℕ → Mult → Bool
is_of_row n m = leb n m.col

abbrev pub rows_of : ℕ → List Mult → List Mult
rows_of n ms = filter (is_of_row n) ms

abbrev pub node_of_rows : ℕ → Node → Node
node_of_rows n (Split c k) = Split c k
node_of_rows n (Zero j) = Zero j
node_of_rows n (Clash c) = Clash c
node_of_rows n (Farkas ms) = FarkasRows (rows_of n ms)
node_of_rows n (Bound ms) = BoundRows (rows_of n ms)
node_of_rows n (Grid g ms) = GridRows g (rows_of n ms)
node_of_rows n (FarkasRows ms) = FarkasRows ms
node_of_rows n (BoundRows ms) = BoundRows ms
node_of_rows n (GridRows g ms) = GridRows g ms

abbrev pub round_of_rows : ℕ → Round → Round
round_of_rows n (Whole ms) = OfRows (rows_of n ms)
round_of_rows n (OfRows ms) = OfRows ms

abbrev pub cert_of_rows : ℕ → Cert → Cert
cert_of_rows n c = record { rounds = map (round_of_rows n) c.rounds; nodes = map (node_of_rows n) c.nodes }

-- the same claim, but for the leaves and rounds of what shows it; one that isn't final stays as it is
abbrev pub claim_of_rows : ℕ → Claim → Claim
claim_of_rows n (Optimal x vs cs) = Optimal x vs (map (cert_of_rows n) cs)
claim_of_rows n (Infeasible c) = Infeasible (cert_of_rows n c)
claim_of_rows n (Unbounded x vs cs r) = Unbounded x vs (map (cert_of_rows n) cs) r
claim_of_rows n (BestSoFar x vs c b) = BestSoFar x vs c b
claim_of_rows n (Unsure c b) = Unsure c b
