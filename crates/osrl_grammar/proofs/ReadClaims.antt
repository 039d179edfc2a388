-- The claim of a report that was read has fewer nodes than its document has bytes, each certificate fewer rounds, and each split is at a number that a fraction has.
use Rattle.osrl_grammar.proofs.Names.{◌≡◌, ℕ, zero, suc, ◌<◌, ◌≤◌, ℤ, pos, negsuc, None, Some, List, [], length, subst, arith, neg_ℤ, unsigned_abs, All, All-nil, All-append, All-head, All-tail, flat_map, ◌∷◌, most, elements_in, nodes_of, Cert, Node, Split, Zero, Clash, Farkas, Bound, Grid, FarkasRows, BoundRows, GridRows, Claim, Optimal, Infeasible, Unbounded, BestSoFar, Unsure, Report, TextsAreOfCharacters, IsReportText, NodeComesBack, LevelComesBack, MayHaveTrees, ClaimComesBack}
use Rattle.std.specs.Prelude.{◌≤ℤ◌}
use Rattle.std.proofs.lemmas.Int.{ints}
use Rattle.std.proofs.lemmas.List.Elements.{All-weaker}
use Rattle.document_tags.proofs.Sizes.{fewer_elements}
use Rattle.certificate.specs.Nodes.{certs_of, IsInRange}
use Rattle.osrl_grammar.proofs.SoundStates.{ReportFits, ClaimFits, HasFew, may_have, root_fits}

-- a number whose size fits isn't below the least one that does
low_number : (k : ℤ) (m : ℕ) → unsigned_abs k ≤ m → neg_ℤ (pos m) ≤ℤ k
low_number (pos n) zero few = omega (arith, ints)
low_number (pos n) (suc m) few = omega (arith, ints)
low_number (negsuc n) zero few = absurd (omega (arith, few))
low_number (negsuc n) (suc m) few = omega (arith, ints, few)

node_range : (n : Node) → NodeComesBack n → IsInRange n
node_range (Split j k) back = low_number k most back.1
node_range (Zero j) back = tt
node_range (Clash c) back = tt
node_range (Farkas ms) back = tt
node_range (Bound ms) back = tt
node_range (Grid g ms) back = tt
node_range (FarkasRows ms) back = tt
node_range (BoundRows ms) back = tt
node_range (GridRows g ms) back = tt

nodes_range : (ns : List Node) → All NodeComesBack ns → All IsInRange ns
nodes_range ns back = All-weaker NodeComesBack IsInRange node_range ns back

levels_range : (cs : List Cert) → All LevelComesBack cs → All IsInRange (flat_map (λ (c : Cert). c.nodes) cs)
levels_range [] back = All-nil IsInRange
levels_range (c ∷ cs) back = All-append IsInRange c.nodes (flat_map (λ (d : Cert). d.nodes) cs) (nodes_range c.nodes (All-head LevelComesBack c cs back).1) (levels_range cs (All-tail LevelComesBack c cs back))

trees_range : (cs : List Cert) → MayHaveTrees cs → All IsInRange (flat_map (λ (c : Cert). c.nodes) cs)
trees_range [] back = All-nil IsInRange
trees_range (c ∷ cs) back = All-append IsInRange c.nodes (flat_map (λ (d : Cert). d.nodes) cs) (nodes_range c.nodes back.first) (levels_range cs back.levels)

claim_range : (c : Claim) → ClaimComesBack (Some c) → All IsInRange (nodes_of c)
claim_range (Optimal x vs cs) back = trees_range cs (may_have cs back.1)
claim_range (Infeasible c) back = trees_range (c ∷ []) back
claim_range (Unbounded x vs cs r) back = trees_range cs back.1
claim_range (BestSoFar x v c None) back = All-nil IsInRange
claim_range (BestSoFar x v c (Some b)) back = trees_range (b.cert ∷ []) back.2
claim_range (Unsure c None) back = All-nil IsInRange
claim_range (Unsure c (Some b)) back = trees_range (b.cert ∷ []) back.1

module _ (ground : TextsAreOfCharacters) where
  pub text_fits : (bytes : List ℕ) (r : Report) (text : IsReportText bytes r) → ReportFits (elements_in text.root.children) r
  text_fits bytes r text = root_fits ground text.root r (ground.root bytes text.root text.document.document) text.is

  claim_fits : (bytes : List ℕ) (r : Report) (c : Claim) (text : IsReportText bytes r) → r.claim ≡ Some c → ClaimFits (elements_in text.root.children) (Some c)
  claim_fits bytes r c text is = subst (ClaimFits (elements_in text.root.children)) is (text_fits bytes r text).claim

  pub read_claim_fits : (bytes : List ℕ) (r : Report) (c : Claim) → IsReportText bytes r → r.claim ≡ Some c → (length (nodes_of c) < length bytes) × All IsInRange (nodes_of c)
  read_claim_fits bytes r c text is =
      let fits = claim_fits bytes r c text is in
      let few = fits.0 in
      let more = fewer_elements bytes text.root text.document.document in
      (omega (arith, few, more), claim_range c fits.2)

  pub read_rounds_fit : (bytes : List ℕ) (r : Report) (c : Claim) → IsReportText bytes r → r.claim ≡ Some c → All (λ (d : Cert). length d.rounds < length bytes) (certs_of c)
  read_rounds_fit bytes r c text is =
      let fits = claim_fits bytes r c text is in
      let more = fewer_elements bytes text.root text.document.document in
      All-weaker (HasFew (elements_in text.root.children)) (λ (d : Cert). length d.rounds < length bytes) (λ (d : Cert) few. omega (arith, few, more)) (certs_of c) fits.1

  pub read_claim_back : (bytes : List ℕ) (r : Report) (c : Claim) → IsReportText bytes r → r.claim ≡ Some c → ClaimComesBack (Some c)
  read_claim_back bytes r c text is = (claim_fits bytes r c text is).2
