-- A claim is told by its outcome.
use Rattle.std.proofs.Common.{◌≡◌, ◌∙◌, Option, None, Some, List, [], ◌∷◌, map, refl, ap, sym, subst}
use Rattle.rational.specs.Ratio.{IsSame}
use Rattle.fraction.specs.Frac.{ratio, ratios}
use Rattle.fraction.specs.declared.frac.Frac.{Frac}
use Rattle.evidence.specs.Cases as Of
use Rattle.evidence.specs.Rounds as With
use Rattle.evidence.specs.Rounds.{Certificate}
use Rattle.evidence.specs.ProvedBounds as Early
use Rattle.evidence.specs.Claim as Says
use Rattle.certificate.specs.declared.lists.Mult.{Mult}
use Rattle.certificate.specs.declared.nodes.Node.{Node}
use Rattle.certificate.specs.declared.nodes.Node.TheVariants.{Split, Zero, Clash, Farkas, Bound, Grid, FarkasRows, BoundRows, GridRows}
use Rattle.certificate.specs.declared.nodes.Round.{Round}
use Rattle.certificate.specs.declared.nodes.Round.TheVariants.{Whole, OfRows}
use Rattle.certificate.specs.declared.nodes.Cert.{Cert}
use Rattle.certificate.specs.declared.claims.ProvedBound.{ProvedBound}
use Rattle.certificate.specs.declared.claims.Claim.{Claim}
use Rattle.certificate.specs.declared.claims.Claim.TheVariants as Has
use Rattle.certificate.specs.Meanings.{multiplier, multipliers, node, round, certificate, certificates, proved, bound, claim}
use Rattle.search_rules.specs.Search.{Outcome}
use Rattle.branch_bound.specs.Claims.{ClaimTellsWith, claimed_cause}

-- members that are told by what they mean make lists that are
each_once : {A B : Type 0} (f : A → B) → ((x y : A) → f x ≡ f y → x ≡ y) → (xs ys : List A) → map f xs ≡ map f ys → xs ≡ ys
each_once f once [] [] e = refl
each_once f once [] (y ∷ ys) e = let clash : [] ≡ f y ∷ map f ys = e in absurd (cc)
each_once f once (x ∷ xs) [] e = let clash : f x ∷ map f xs ≡ [] = e in absurd (cc)
each_once f once (x ∷ xs) (y ∷ ys) e =
    let both : f x ∷ map f xs ≡ f y ∷ map f ys = e in
    let first : x ≡ y = once x y (cc) in
    let rest : xs ≡ ys = each_once f once xs ys (cc) in
    cc

module _ (fractions : (x y : Frac) → IsSame (ratio x) (ratio y) → x ≡ y) where
  fraction_once : (x y : Frac) → ratio x ≡ ratio y → x ≡ y
  fraction_once x y e = fractions x y (subst (IsSame (ratio x)) e refl)

  multiplier_once : (m n : Mult) → multiplier m ≡ multiplier n → m ≡ n
  multiplier_once m n e =
      let col = ap (λ (x : Of.Multiplier). x.column) e in
      let value = fraction_once m.value n.value (ap (λ (x : Of.Multiplier). x.by) e) in
      λ i. record { col = col i; value = value i }

  mults_once : (ms ns : List Mult) → multipliers ms ≡ multipliers ns → ms ≡ ns
  mults_once ms ns e = each_once multiplier multiplier_once ms ns e

  node_once : (a b : Node) → node a ≡ node b → a ≡ b
  node_once (Split j k) (Split i l) e = let all : Of.SplitAt j k ≡ Of.SplitAt i l = e in let p : j ≡ i = cc in let q : k ≡ l = cc in cc
  node_once (Zero j) (Zero i) e = let all : Of.ZeroAt j ≡ Of.ZeroAt i = e in let p : j ≡ i = cc in cc
  node_once (Clash c) (Clash d) e = let all : Of.ClashAt c ≡ Of.ClashAt d = e in let p : c ≡ d = cc in cc
  node_once (Farkas ms) (Farkas ns) e = let all : Of.FarkasBy (multipliers ms) ≡ Of.FarkasBy (multipliers ns) = e in ap Farkas (mults_once ms ns (cc))
  node_once (Bound ms) (Bound ns) e = let all : Of.BoundBy (multipliers ms) ≡ Of.BoundBy (multipliers ns) = e in ap Bound (mults_once ms ns (cc))
  node_once (Grid g ms) (Grid h ns) e =
      let all : Of.GridBy (ratio g) (multipliers ms) ≡ Of.GridBy (ratio h) (multipliers ns) = e in
      let step : g ≡ h = fraction_once g h (cc) in
      let list : ms ≡ ns = mults_once ms ns (cc) in
      cc
  node_once (FarkasRows ms) (FarkasRows ns) e = let all : Of.FarkasByRows (multipliers ms) ≡ Of.FarkasByRows (multipliers ns) = e in ap FarkasRows (mults_once ms ns (cc))
  node_once (BoundRows ms) (BoundRows ns) e = let all : Of.BoundByRows (multipliers ms) ≡ Of.BoundByRows (multipliers ns) = e in ap BoundRows (mults_once ms ns (cc))
  node_once (GridRows g ms) (GridRows h ns) e =
      let all : Of.GridByRows (ratio g) (multipliers ms) ≡ Of.GridByRows (ratio h) (multipliers ns) = e in
      let step : g ≡ h = fraction_once g h (cc) in
      let list : ms ≡ ns = mults_once ms ns (cc) in
      cc
  node_once a b e = absurd (cc)

  round_once : (a b : Round) → round a ≡ round b → a ≡ b
  round_once (Whole ms) (Whole ns) e = let all : With.RoundBy (multipliers ms) ≡ With.RoundBy (multipliers ns) = e in ap Whole (mults_once ms ns (cc))
  round_once (OfRows ms) (OfRows ns) e = let all : With.RoundByRows (multipliers ms) ≡ With.RoundByRows (multipliers ns) = e in ap OfRows (mults_once ms ns (cc))
  round_once a b e = absurd (cc)

  points_once : (x y : List Frac) → ratios x ≡ ratios y → x ≡ y
  points_once x y e = each_once ratio fraction_once x y e

  cert_once : (c d : Cert) → certificate c ≡ certificate d → c ≡ d
  cert_once c d e =
      let rounds = each_once round round_once c.rounds d.rounds (ap (λ (x : Certificate). x.rounds) e) in
      let nodes = each_once node node_once c.nodes d.nodes (ap (λ (x : Certificate). x.nodes) e) in
      λ i. record { rounds = rounds i; nodes = nodes i }

  certs_once : (cs ds : List Cert) → certificates cs ≡ certificates ds → cs ≡ ds
  certs_once cs ds e = each_once certificate cert_once cs ds e

  proved_once : (a b : ProvedBound) → proved a ≡ proved b → a ≡ b
  proved_once a b e =
      let number = fraction_once a.number b.number (ap (λ (x : Early.ProvedBound). x.number) e) in
      let cert = cert_once a.cert b.cert (ap (λ (x : Early.ProvedBound). x.certificate) e) in
      λ i. record { number = number i; cert = cert i }

  bound_once : (g h : Option ProvedBound) → bound g ≡ bound h → g ≡ h
  bound_once None None e = refl
  bound_once None (Some b) e = let clash : None ≡ Some (proved b) = e in absurd (cc)
  bound_once (Some a) None e = let clash : Some (proved a) ≡ None = e in absurd (cc)
  bound_once (Some a) (Some b) e = let both : Some (proved a) ≡ Some (proved b) = e in ap (λ (x : ProvedBound). let o : Option ProvedBound = Some x in o) (proved_once a b (cc))

  -- what a claim says and its cause are all of it
  same_claim : (c d : Claim) → claim c ≡ claim d → claimed_cause c ≡ claimed_cause d → c ≡ d
  same_claim (Has.Optimal x vs cs) (Has.Optimal y ws ds) e f =
      let all : Says.Optimal (ratios x) (ratios vs) (certificates cs) ≡ Says.Optimal (ratios y) (ratios ws) (certificates ds) = e in
      let p : x ≡ y = points_once x y (cc) in
      let q : vs ≡ ws = points_once vs ws (cc) in
      let r : cs ≡ ds = certs_once cs ds (cc) in
      cc
  same_claim (Has.Infeasible c) (Has.Infeasible d) e f =
      let all : Says.Infeasible (certificate c) ≡ Says.Infeasible (certificate d) = e in
      ap Has.Infeasible (cert_once c d (cc))
  same_claim (Has.Unbounded x vs cs r) (Has.Unbounded y ws ds s) e f =
      let all : Says.Unbounded (ratios x) (ratios vs) (certificates cs) (ratios r) ≡ Says.Unbounded (ratios y) (ratios ws) (certificates ds) (ratios s) = e in
      let p : x ≡ y = points_once x y (cc) in
      let q : vs ≡ ws = points_once vs ws (cc) in
      let t : cs ≡ ds = certs_once cs ds (cc) in
      let u : r ≡ s = points_once r s (cc) in
      cc
  same_claim (Has.BestSoFar x vs b g) (Has.BestSoFar y ws c h) e f =
      let all : Says.BestSoFar (ratios x) (ratios vs) (bound g) ≡ Says.BestSoFar (ratios y) (ratios ws) (bound h) = e in
      let p : x ≡ y = points_once x y (cc) in
      let q : vs ≡ ws = points_once vs ws (cc) in
      let r : g ≡ h = bound_once g h (cc) in
      let s : b ≡ c = cc in
      cc
  same_claim (Has.Unsure b g) (Has.Unsure c h) e f =
      let all : Says.Unsure (bound g) ≡ Says.Unsure (bound h) = e in
      let r : g ≡ h = bound_once g h (cc) in
      let s : b ≡ c = cc in
      cc
  same_claim c d e f = absurd (cc)

  -- an outcome, with a bound or none, is told by one claim
  pub claim_once : (c d : Claim) (o : Outcome) (h : Option Early.ProvedBound) → ClaimTellsWith c o h → ClaimTellsWith d o h → c ≡ d
  claim_once c d o h a b = same_claim c d (a.says ∙ sym b.says) (a.cause ∙ sym b.cause)
