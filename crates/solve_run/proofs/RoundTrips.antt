-- What a search has shown is read back as it is told.
use Rattle.std.proofs.Common.{◌≡◌, ◌∙◌, suc, ◌^◌, ◌<◌, ◌≤◌, ℤ, pos, negsuc, Option, None, Some, List, [], ◌∷◌, map, length, refl, sym, subst, arith}
use Rattle.std.specs.Prelude.{unsigned_abs, neg_ℤ, ◌≤ℤ◌, ◌<ℤ◌}
use Rattle.std.specs.List.{All}
use Rattle.std.proofs.lemmas.Int.{ints}
use Rattle.std.proofs.lemmas.List.{length-map}
use Rattle.std.proofs.lemmas.List.Elements.{All-nil, All-cons, All-head, All-tail}
use Rattle.rational.specs.Ratio.{Ratio}
use Rattle.rational.specs.Width.{most}
use Rattle.fraction.specs.Frac.{ratio}
use Rattle.evidence.specs.Instance.{Problem}
use Rattle.evidence.specs.ProvedBounds.{ProvedBound}
use Rattle.evidence.specs.Claim as Says
use Rattle.instance.specs.Parts.{Parts, IsValid}
use Rattle.instance.specs.Program.{problem}
use Rattle.certificate.specs.declared.lists.Mult.{Mult}
use Rattle.certificate.specs.declared.nodes.Node.{Node}
use Rattle.certificate.specs.declared.nodes.Node.TheVariants.{Split, Zero, Clash, Farkas, Bound, Grid, FarkasRows, BoundRows, GridRows}
use Rattle.certificate.specs.declared.nodes.Round.{Round}
use Rattle.certificate.specs.declared.nodes.Round.TheVariants.{Whole, OfRows}
use Rattle.certificate.specs.declared.nodes.Cert.{Cert}
use Rattle.certificate.specs.declared.causes.Cause.{Cause}
use Rattle.certificate.specs.declared.causes.Cause.TheVariants.{Memory}
use Rattle.certificate.specs.declared.claims.Claim.{Claim}
use Rattle.certificate.specs.declared.claims.Claim.TheVariants as Has
use Rattle.certificate.specs.Meanings.{multiplier, multipliers, node, round, certificate, certificates, claim}
use Rattle.certificate.specs.Nodes.{certs_of}
use Rattle.search_rules.specs.Search.{Found, Outcome, Optimal, Infeasible, Unbounded, BestSoFar, Unsure, early}
use Rattle.search_rules.specs.Outcomes.{IsPoint, IsShown}
use Rattle.cert_checker.specs.LevelRefusals.{Best, Endless}
use Rattle.search_rules.specs.Bounds.{claimed}
use Rattle.branch_bound.specs.Claims.{cause_of, claimed_cause}
use Rattle.osrl_grammar.specs.Back.{HaveColumns, NodeComesBack, RoundComesBack, CauseComesBack, LevelComesBack, TreesComeBack, HasTrees, MayHaveTrees, ClaimComesBack}
use Rattle.solve_run.specs.Judging.{IsShownClaim, HasFewRounds}
use Rattle.solve_run.specs.Runs.{HasCauses}
use Rattle.solve_run.proofs.Numbers.{HasColumn, IsWithin, each_of}
use Rattle.solve_run.proofs.LevelProofs.{at_most_goals, best_levels, endless_levels, HasNoRounds, HaveNoRoundsBehind, none_behind}
use Rattle.solve_run.proofs.ClaimNodes.{said_certificates, bound_certificates, carried, RoundIsWithin, IsCertWithin, shown_within}

-- ---- certificates

columns_back : (ms : List Mult) → All (HasColumn (2 ^ 32)) (multipliers ms) → HaveColumns ms
columns_back [] h = All-nil (λ m. m.col < 2 ^ 32)
columns_back (m ∷ ms) h = All-cons (λ m. m.col < 2 ^ 32) m ms (All-head (HasColumn (2 ^ 32)) (multiplier m) (multipliers ms) h) (columns_back ms (All-tail (HasColumn (2 ^ 32)) (multiplier m) (multipliers ms) h))

size_fits : (k : ℤ) → neg_ℤ (pos most) ≤ℤ k → k <ℤ pos most → unsigned_abs k ≤ most
size_fits (pos n) low high = omega (arith, ints, low, high)
size_fits (negsuc n) low high = omega (arith, ints, low, high)

node_back : (x : Node) → IsWithin (2 ^ 32) (node x) → NodeComesBack x
node_back (Split j k) (inside, low, high) = (inside, size_fits k low high)
node_back (Zero j) h = h
node_back (Clash c) h = h
node_back (Farkas ms) h = columns_back ms h
node_back (Bound ms) h = columns_back ms h
node_back (Grid g ms) h = columns_back ms h
node_back (FarkasRows ms) h = columns_back ms h
node_back (BoundRows ms) h = columns_back ms h
node_back (GridRows g ms) h = columns_back ms h

round_back : (r : Round) → RoundIsWithin (2 ^ 32) (round r) → RoundComesBack r
round_back (Whole ms) h = columns_back ms h
round_back (OfRows ms) h = columns_back ms h

rounds_back : (rs : List Round) → All (RoundIsWithin (2 ^ 32)) (map round rs) → All RoundComesBack rs
rounds_back [] h = All-nil RoundComesBack
rounds_back (r ∷ rs) h =
    All-cons RoundComesBack r rs (round_back r (All-head (RoundIsWithin (2 ^ 32)) (round r) (map round rs) h)) (rounds_back rs (All-tail (RoundIsWithin (2 ^ 32)) (round r) (map round rs) h))

nodes_back : (c : Cert) → IsCertWithin (2 ^ 32) (certificate c) → All NodeComesBack c.nodes
nodes_back c within = each_of NodeComesBack node_back c.nodes within.nodes

no_rounds : (rs : List Round) → map round rs ≡ [] → rs ≡ []
no_rounds [] e = refl
no_rounds (r ∷ rs) e = let clash : round r ∷ map round rs ≡ [] = e in absurd (cc)

abbrev AreWithin : List Cert → Type 0
AreWithin cs = All (IsCertWithin (2 ^ 32)) (certificates cs)

levels_back : (cs : List Cert) → AreWithin cs → All HasNoRounds (certificates cs) → All LevelComesBack cs
levels_back [] within none = All-nil LevelComesBack
levels_back (c ∷ cs) within none =
    let here = All-head (IsCertWithin (2 ^ 32)) (certificate c) (certificates cs) within in
    All-cons LevelComesBack c cs (no_rounds c.rounds (All-head HasNoRounds (certificate c) (certificates cs) none), nodes_back c here)
    (levels_back cs (All-tail (IsCertWithin (2 ^ 32)) (certificate c) (certificates cs) within) (All-tail HasNoRounds (certificate c) (certificates cs) none))

trees_back : (c : Cert) (cs : List Cert) → AreWithin (c ∷ cs) → All HasNoRounds (certificates cs) → TreesComeBack c cs
trees_back c cs within none =
    let here = All-head (IsCertWithin (2 ^ 32)) (certificate c) (certificates cs) within in
    let some = here.some in
    record {
      some = omega (arith, some, length-map c.nodes node);
      rounds = rounds_back c.rounds here.rounds;
      first = nodes_back c here;
      levels = levels_back cs (All-tail (IsCertWithin (2 ^ 32)) (certificate c) (certificates cs) within) none;
    }

some_back : (cs : List Cert) → 0 < length (certificates cs) → AreWithin cs → HaveNoRoundsBehind (certificates cs) → HasTrees cs
some_back [] some within none = absurd (omega (arith, some))
some_back (c ∷ cs) some within none = trees_back c cs within none

all_back : (cs : List Cert) → AreWithin cs → HaveNoRoundsBehind (certificates cs) → MayHaveTrees cs
all_back [] within none = tt
all_back (c ∷ cs) within none = trees_back c cs within none

-- ---- what a search says of its goals

-- a value at least, and where the point is optimal a certificate
abbrev HasValues : Says.Claim → Type 0
HasValues (Says.Optimal x vs cs) = (0 < length vs) × (0 < length cs)
HasValues (Says.Infeasible c) = Unit {0}
HasValues (Says.Unbounded x vs cs r) = 0 < length vs
HasValues (Says.BestSoFar x vs b) = 0 < length vs
HasValues (Says.Unsure b) = Unit {0}

module _ (P : Problem) where
  some_values : (x vs : List Ratio) → IsPoint P x vs → 0 < length vs
  some_values x vs p = let n = p.values.count in omega (arith, n)

  has_values : (o : Outcome) (b : Option ProvedBound) → IsShown P o → HasValues (claimed o b)
  has_values (Optimal x vs cs) b s = let l = best_levels P vs cs s.2 in let n = l.enough in (some_values x vs s.0, omega (arith, n))
  has_values (Infeasible c) b s = tt
  has_values (Unbounded x vs cs r) b s = some_values x vs s.0
  has_values (BestSoFar x vs c) b s = some_values x vs s
  has_values (Unsure c) b s = tt

  none_behind_bound : (b : Option ProvedBound) → HaveNoRoundsBehind (bound_certificates b)
  none_behind_bound None = tt
  none_behind_bound (Some b) = All-nil HasNoRounds

  no_rounds_behind : (o : Outcome) (b : Option ProvedBound) → IsShown P o → HaveNoRoundsBehind (said_certificates (claimed o b))
  no_rounds_behind (Optimal x vs cs) b s = let l = best_levels P vs cs s.2 in none_behind P cs (at_most_goals Best (length cs) (suc (length P.later)) l.enough) s.1
  no_rounds_behind (Infeasible c) b s = All-nil HasNoRounds
  no_rounds_behind (Unbounded x vs cs r) b s = let l = endless_levels P vs x r cs s.2 in none_behind P cs (at_most_goals (Endless x r) (length cs) (suc (length P.later)) l.enough) s.1
  no_rounds_behind (BestSoFar x vs c) b s = none_behind_bound b
  no_rounds_behind (Unsure c) b s = none_behind_bound b

-- ---- claims

claim_back : (c : Claim) → HasValues (claim c) → AreWithin (certs_of c) → HaveNoRoundsBehind (certificates (certs_of c)) → HasCauses c → ClaimComesBack (Some c)
claim_back (Has.Optimal x vs cs) values within none causes = (omega (arith, values.0, length-map vs ratio), some_back cs values.1 within none)
claim_back (Has.Infeasible cert) values within none causes = trees_back cert [] within none
claim_back (Has.Unbounded x vs cs r) values within none causes = (omega (arith, values, length-map vs ratio), all_back cs within none)
claim_back (Has.BestSoFar x vs c None) values within none causes = (omega (arith, values, length-map vs ratio), causes, tt)
claim_back (Has.BestSoFar x vs c (Some b)) values within none causes = (omega (arith, values, length-map vs ratio), causes, trees_back b.cert [] within none)
claim_back (Has.Unsure c None) values within none causes = (causes, tt)
claim_back (Has.Unsure c (Some b)) values within none causes = (causes, trees_back b.cert [] within none)

-- a claim that is shown, of few rounds, whose cause has numbers of its types
pub shown_back : (p : Parts) (c : Claim) → IsValid p → IsShownClaim p c → HasFewRounds c → HasCauses c → ClaimComesBack (Some c)
shown_back p c valid s few causes =
    claim_back c (subst HasValues (sym s.tells.says) (has_values (problem p) s.outcome s.bound s.shown)) (shown_within p c valid s few)
    (subst HaveNoRoundsBehind (carried c s.outcome s.bound s.tells) (no_rounds_behind (problem p) s.outcome s.bound s.shown)) causes

-- ---- want of memory

memory_cause : (best : Option Found) → cause_of (early best Memory) ≡ Some Memory
memory_cause None = refl
memory_cause (Some f) = refl

cause_back : (c : Cause) → Some c ≡ Some Memory → CauseComesBack c
cause_back c e = let is : c ≡ Memory = cc in subst CauseComesBack (sym is) tt

causes_back : (c : Claim) → claimed_cause c ≡ Some Memory → HasCauses c
causes_back (Has.Optimal x vs cs) e = tt
causes_back (Has.Infeasible cert) e = tt
causes_back (Has.Unbounded x vs cs r) e = tt
causes_back (Has.BestSoFar x vs c b) e = cause_back c e
causes_back (Has.Unsure c b) e = cause_back c e

pub wanting_causes : (c : Claim) (best : Option Found) → claimed_cause c ≡ cause_of (early best Memory) → HasCauses c
wanting_causes c best e = causes_back c (e ∙ memory_cause best)
