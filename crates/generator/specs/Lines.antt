-- The line that says how a generated instance was solved.
use Rattle.std.specs.Prelude.{ℕ, Bool, true, false, List, [], ◌∷◌, ◌++◌, length, codes, decimal}
use Rattle.fraction.specs.Frac.{ratio}
use Rattle.fraction.specs.declared.frac.Frac.{Frac}
use Rattle.decimal_text.specs.Exact.{ratio_text}
use Rattle.certificate.specs.declared.nodes.Cert.{Cert}
use Rattle.certificate.specs.declared.claims.Claim.{Claim}
use Rattle.certificate.specs.declared.claims.Claim.TheVariants.{Optimal, Infeasible, Unbounded, BestSoFar, Unsure}
use Rattle.certificate.specs.Nodes.{certs_of}

-- the type of a solution's status (Optimization Services result language)
abbrev pub status_word : Claim → List ℕ
status_word (Optimal x vs cs) = codes "optimal"
status_word (Infeasible cert) = codes "infeasible"
status_word (Unbounded x vs cs r) = codes "unbounded"
status_word (BestSoFar x vs c b) = codes "bestSoFar"
status_word (Unsure c b) = codes "unsure"

-- the first value, exactly
abbrev pub first_value : List Frac → List ℕ
first_value [] = codes "none"
first_value (v ∷ vs) = ratio_text (ratio v)

-- the value of the claimed point, where there is one
abbrev pub value_word : Claim → List ℕ
value_word (Optimal x vs cs) = first_value vs
value_word (Infeasible cert) = codes "none"
value_word (Unbounded x vs cs r) = first_value vs
value_word (BestSoFar x vs c b) = first_value vs
value_word (Unsure c b) = codes "none"

-- how many nodes the first certificate has
abbrev pub first_count : List Cert → ℕ
first_count [] = 0
first_count (c ∷ cs) = length c.nodes

-- whether the checker accepts the claim
abbrev pub check_word : Bool → List ℕ
check_word true = codes "accepted"
check_word false = codes "unchecked"

-- the number of variables, the claim's status and value, the number of nodes of its certificate, and what the checker says
abbrev pub summary : ℕ → Claim → Bool → List ℕ
summary n c is_accepted = codes "generate " ++ decimal n ++ codes " " ++ status_word c ++ codes " " ++ value_word c ++ codes " nodes " ++ decimal (first_count (certs_of c)) ++ codes " " ++ check_word is_accepted ++ codes "\n"
