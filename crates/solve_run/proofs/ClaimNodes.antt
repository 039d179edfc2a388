-- The certificates that a claim of a search carries: their columns are the instance's and those of their own rows.
use Rattle.std.specs.Prelude.{IfSome}
use Rattle.std.proofs.Common.{◌≡◌, ℕ, ◌+◌, ◌^◌, ◌<◌, ◌≤◌, ℤ, Option, None, Some, List, [], ◌∷◌, length, slice_index_or, arith, refl, ap, sym, ◌∙◌, subst}
use Rattle.std.specs.List.{All, flat_map}
use Rattle.std.proofs.lemmas.List.{length-map, length-drop}
use Rattle.std.proofs.lemmas.List.Elements.{All-nil, All-cons, All-head, All-tail, All-append, All-map}
use Rattle.rational.specs.Ratio.{Ratio, whole}
use Rattle.evidence.specs.Instance.{Instance, Problem, width, height, minimising}
use Rattle.evidence.specs.OneDenominator.{number_at}
use Rattle.evidence.specs.Cases.{Multiplier, Node, AreLegal}
use Rattle.evidence.specs.RowRounds.{numbers_of}
use Rattle.cert_checker.proofs.RowLeaves.{parts_left}
use Rattle.evidence.specs.Rounds.{Certificate, Round, RoundBy, RoundByRows, IsRound, derive}
use Rattle.evidence.specs.ProvedBounds as With
use Rattle.evidence.specs.Claim as Says
use Rattle.evidence.proofs.AddedRows.{height_added}
use Rattle.instance.specs.Parts.{Parts, IsValid}
use Rattle.instance.specs.Program.{problem, variable, row, goal, goals}
use Rattle.certificate.specs.Meanings as Means
use Rattle.certificate.specs.Nodes.{certs_of, nodes_of, IsInRange}
use Rattle.certificate.specs.declared.nodes.Cert.{Cert}
use Rattle.certificate.specs.declared.claims.Claim.{Claim}
use Rattle.certificate.specs.declared.claims.Claim.TheVariants as Has
use Rattle.osol_grammar.specs.Limits.{most_rounds}
use Rattle.search_rules.specs.Search.{Outcome, Optimal, Infeasible, Unbounded, BestSoFar, Unsure}
use Rattle.search_rules.specs.Outcomes.{IsShown, ProvesAfter}
use Rattle.search_rules.specs.Bounds.{IsShownBound, claimed}
use Rattle.branch_bound.specs.Claims.{ClaimTellsWith}
use Rattle.solve_run.specs.Judging.{IsShownClaim, HasFewRounds}
use Rattle.solve_run.proofs.Numbers.{HasColumn, IsWithin, nodes_within, some_nodes, in_range}
use Rattle.solve_run.proofs.LevelProofs.{ProvesIn, most_columns, best_levels, endless_levels}

-- that of a bound
abbrev pub bound_certificates : Option With.ProvedBound → List Certificate
bound_certificates None = []
bound_certificates (Some b) = b.certificate ∷ []

-- what is said carries these certificates
abbrev pub said_certificates : Says.Claim → List Certificate
said_certificates (Says.Optimal x vs cs) = cs
said_certificates (Says.Infeasible c) = c ∷ []
said_certificates (Says.Unbounded x vs cs r) = cs
said_certificates (Says.BestSoFar x vs b) = bound_certificates b
said_certificates (Says.Unsure b) = bound_certificates b

meant : (c : Claim) → said_certificates (Means.claim c) ≡ Means.certificates (certs_of c)
meant (Has.Optimal x vs cs) = refl
meant (Has.Infeasible cert) = refl
meant (Has.Unbounded x vs cs r) = refl
meant (Has.BestSoFar x vs c None) = refl
meant (Has.BestSoFar x vs c (Some b)) = refl
meant (Has.Unsure c None) = refl
meant (Has.Unsure c (Some b)) = refl

-- a claim carries those of its outcome and of its bound
pub carried : (c : Claim) (o : Outcome) (b : Option With.ProvedBound) → ClaimTellsWith c o b → said_certificates (claimed o b) ≡ Means.certificates (certs_of c)
carried c o b tells = sym (ap said_certificates tells.says) ∙ meant c

-- its columns are below n
abbrev pub RoundIsWithin : ℕ → Round → Type 0
RoundIsWithin n (RoundBy ms) = All (HasColumn n) ms
RoundIsWithin n (RoundByRows ms) = All (HasColumn n) ms

-- its columns are below n, and its tree has nodes
pub record IsCertWithin (n : ℕ) (c : Certificate) : Type 0 where
  pub rounds : All (RoundIsWithin n) c.rounds
  pub nodes : All (IsWithin n) c.nodes
  pub some : 0 < length c.nodes

legal_within : (n : ℕ) (I : Instance) (ms : List Multiplier) → width I + height I ≤ n → AreLegal I ms → All (HasColumn n) ms
legal_within n I ms few legal i d h = let below = legal.columns i d h in omega (arith, below, few)

round_within : (n : ℕ) (I : Instance) (r : Round) (cs : List ℤ) (k : ℤ) → width I + height I ≤ n → IsRound I r cs k → RoundIsWithin n r
round_within n I (RoundBy ms) cs k few is = legal_within n I ms few is.legal
round_within n I (RoundByRows ms) cs k few is = legal_within n I ms few (parts_left I (numbers_of cs) ms is.legal).0

after_within : (n : ℕ) (rounds : List Round) (I : Instance) (nodes : List Node) (z : Option Ratio) → width I + height I + length rounds ≤ n → ProvesAfter I rounds nodes z → IsCertWithin n (record { rounds = rounds; nodes = nodes })
after_within n [] I nodes z few p = record {
  rounds = All-nil (RoundIsWithin n);
  nodes = nodes_within n I p.tree z nodes (omega (arith, few)) p.listed p.shows;
  some = omega (arith, some_nodes p.tree, ap length p.listed);
}
after_within n (q ∷ rounds) I nodes z few (cs, k, cut, fits, rest) =
    let more = height_added I (record { lb = Some (whole k); ub = None }) (λ j. whole (number_at cs j)) in
    let r = after_within n rounds (derive I cs k) nodes z (omega (arith, few, more)) rest in
    record {
      rounds = All-cons (RoundIsWithin n) q rounds (round_within n I q cs k (omega (arith, few)) cut) r.rounds;
      nodes = r.nodes;
      some = r.some;
    }

certs_within : (n most rounds : ℕ) (cs : List Certificate) → most + rounds ≤ n → All (ProvesIn most) cs → All (λ (c : Certificate). length c.rounds ≤ rounds) cs → All (IsCertWithin n) cs
certs_within n most rounds cs few each fewer i d h =
    let c : Certificate = slice_index_or cs i d in
    let p = each i d h in
    let less = fewer i d h in
    after_within n c.rounds p.0 c.nodes p.1 (omega (arith, few, less, p.2)) p.3

-- ---- what is shown

bound_proves : (P : Problem) (b : Option With.ProvedBound) → IfSome b (λ d. IsShownBound P d) → All (ProvesIn (most_columns P)) (bound_certificates b)
bound_proves P None h = All-nil (ProvesIn (most_columns P))
bound_proves P (Some b) h = All-cons (ProvesIn (most_columns P)) b.certificate [] (P.program, Some (minimising P.program b.number), omega arith, h.proves) (All-nil (ProvesIn (most_columns P)))

each_proves : (P : Problem) (o : Outcome) (b : Option With.ProvedBound) → IsShown P o → IfSome b (λ d. IsShownBound P d) → All (ProvesIn (most_columns P)) (said_certificates (claimed o b))
each_proves P (Optimal x vs cs) b s h = let l = best_levels P vs cs s.2 in l.each
each_proves P (Infeasible c) b s h = All-cons (ProvesIn (most_columns P)) c [] (P.program, None, omega arith, s.1) (All-nil (ProvesIn (most_columns P)))
each_proves P (Unbounded x vs cs r) b s h = let l = endless_levels P vs x r cs s.2 in l.each
each_proves P (BestSoFar x vs c) b s h = bound_proves P b h
each_proves P (Unsure c) b s h = bound_proves P b h

-- a problem's programs have few columns
few_columns : (p : Parts) → IsValid p → most_columns (problem p) + most_rounds ≤ 2 ^ 32
few_columns p valid =
    let vars = valid.few_vars in
    let rows = valid.few_rows in
    let asked = valid.few_goals in
    omega (arith, vars, rows, asked, length-map p.vars variable, length-map p.rows row, length-drop 1 (goals p.goals), length-map p.goals goal)

pub shown_within : (p : Parts) (c : Claim) → IsValid p → IsShownClaim p c → HasFewRounds c → All (IsCertWithin (2 ^ 32)) (Means.certificates (certs_of c))
shown_within p c valid s few =
    certs_within (2 ^ 32) (most_columns (problem p)) most_rounds (Means.certificates (certs_of c)) (few_columns p valid)
    (subst (All (ProvesIn (most_columns (problem p)))) (carried c s.outcome s.bound s.tells) (each_proves (problem p) s.outcome s.bound s.shown s.bounded))
    (All-map (λ (d : Certificate). length d.rounds ≤ most_rounds) Means.certificate (certs_of c)
    (λ i d h. let cert : Cert = slice_index_or (certs_of c) i d in let less = few i d h in omega (arith, less, length-map cert.rounds Means.round)))

-- splits of what is shown are at numbers that fit
nodes_range : (cs : List Cert) → All (IsCertWithin (2 ^ 32)) (Means.certificates cs) → All IsInRange (flat_map (λ (c : Cert). c.nodes) cs)
nodes_range [] h = All-nil IsInRange
nodes_range (c ∷ cs) h =
    let here = All-head (IsCertWithin (2 ^ 32)) (Means.certificate c) (Means.certificates cs) h in
    All-append IsInRange c.nodes (flat_map (λ (d : Cert). d.nodes) cs) (in_range c.nodes here.nodes) (nodes_range cs (All-tail (IsCertWithin (2 ^ 32)) (Means.certificate c) (Means.certificates cs) h))

pub shown_range : (p : Parts) (c : Claim) → IsValid p → IsShownClaim p c → HasFewRounds c → All IsInRange (nodes_of c)
shown_range p c valid s few = nodes_range (certs_of c) (shown_within p c valid s few)
