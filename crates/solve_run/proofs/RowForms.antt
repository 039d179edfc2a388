-- Claims with multipliers of rows alone: their numbers are those of their types, their splits fit, and each has one form.
use Rattle.std.proofs.Common.{◌≡◌, ◌∙◌, ℕ, ◌^◌, ◌<◌, inl, inr, Bool, true, false, cond, Option, None, Some, List, [], ◌∷◌, length, slice_index_or, arith, refl, ap, sym, subst}
use Rattle.std.specs.Prelude.{map}
use Rattle.std.specs.List.{All, flat_map}
use Rattle.std.proofs.lemmas.List.{length-map}
use Rattle.std.proofs.lemmas.List.Elements.{All-nil, All-cons, All-head, All-tail, All-append, All-map}
use Rattle.evidence.specs.Claim.{Accepts}
use Rattle.instance.specs.Parts.{Parts, IsValid}
use Rattle.instance.specs.Program.{problem}
use Rattle.certificate.specs.GivenUp.{given_up}
use Rattle.certificate.specs.Meanings as Means
use Rattle.certificate.specs.Nodes.{nodes_of, IsInRange}
use Rattle.certificate.specs.declared.lists.Mult.{Mult}
use Rattle.certificate.specs.declared.nodes.Node.{Node}
use Rattle.certificate.specs.declared.nodes.Node.TheVariants.{Split, Zero, Clash, Farkas, Bound, Grid, FarkasRows, BoundRows, GridRows}
use Rattle.certificate.specs.declared.nodes.Round.{Round}
use Rattle.certificate.specs.declared.nodes.Round.TheVariants.{Whole, OfRows}
use Rattle.certificate.specs.declared.nodes.Cert.{Cert}
use Rattle.certificate.specs.declared.causes.Cause.{Cause}
use Rattle.certificate.specs.declared.claims.Claim.{Claim}
use Rattle.certificate.specs.declared.claims.Claim.TheVariants.{Optimal, Infeasible, Unbounded, BestSoFar, Unsure}
use Rattle.osrl_grammar.specs.Back.{HaveColumns, NodeComesBack, RoundComesBack, LevelComesBack, TreesComeBack, HasTrees, MayHaveTrees, ClaimComesBack}
use Rattle.solve_run.specs.Judging.{IsShownClaim, HasFewRounds, IsFinal}
use Rattle.solve_run.specs.RowForms.{is_of_row, rows_of, node_of_rows, round_of_rows, cert_of_rows, claim_of_rows}
use Rattle.solve_run.specs.Closings.{IsShort, IsFormed, IsShortOrNone}
use Rattle.solve_run.proofs.Numbers.{in_range}
use Rattle.solve_run.proofs.ClaimNodes.{IsCertWithin, shown_within, shown_range}

-- what is left of it when it is given up is what is left of the whole one
pub rows_given : (n : ℕ) (c : Claim) (cause : Cause) → given_up (claim_of_rows n c) cause ≡ given_up c cause
rows_given n (Optimal x vs cs) cause = refl
rows_given n (Infeasible cert) cause = refl
rows_given n (Unbounded x vs cs r) cause = refl
rows_given n (BestSoFar x vs c b) cause = refl
rows_given n (Unsure c b) cause = refl

pub rows_final : (n : ℕ) (c : Claim) → IsFinal c → IsFinal (claim_of_rows n c)
rows_final n (Optimal x vs cs) f = tt
rows_final n (Infeasible cert) f = tt
rows_final n (Unbounded x vs cs r) f = tt
rows_final n (BestSoFar x vs c b) f = f
rows_final n (Unsure c b) f = f

-- a claim has one form
pub formed_once : (p : Parts) (job : Option (List ℕ)) (form : ℕ) (c a b : Claim) → IsFormed p job form c a → IsFormed p job form c b → a ≡ b
formed_once p job form c a b (inl (one, fine, same)) (inl (one_too, fine_too, same_too)) = same ∙ sym same_too
formed_once p job form c a b (inl (one, fine, same)) (inr (other_form, same_too)) = absurd (other_form one fine)
formed_once p job form c a b (inr (other_form, same)) (inl (one, fine, same_too)) = absurd (other_form one fine)
formed_once p job form c a b (inr (other_form, same)) (inr (other_too, same_too)) = same ∙ sym same_too

-- with rows alone, where it is accepted so and short enough
pub formed_short : (p : Parts) (job : Option (List ℕ)) (form n : ℕ) (c rows formed : Claim) (kept : Option Claim) → form ≡ 1 → IsFinal c → n ≡ length p.vars → rows ≡ claim_of_rows n c → Accepts (problem p) (Means.claim rows) → IsShortOrNone job rows kept → kept ≡ Some formed → IsFormed p job form c formed
formed_short p job form n c rows formed kept one final count are accepted short is =
    let own : rows ≡ claim_of_rows (length p.vars) c = are ∙ ap (λ (m : ℕ). claim_of_rows m c) count in
    let (few, same) = subst (IsShortOrNone job rows) is short in
    inl (one, (final, subst (λ (d : Claim). Accepts (problem p) (Means.claim d)) own accepted, subst (IsShort job) own few), same ∙ own)

-- and whole, where it is too long so
pub formed_whole : (p : Parts) (job : Option (List ℕ)) (form n : ℕ) (c rows : Claim) (kept : Option Claim) → n ≡ length p.vars → rows ≡ claim_of_rows n c → IsShortOrNone job rows kept → kept ≡ None → IsFormed p job form c c
formed_whole p job form n c rows kept count are short is =
    let own : rows ≡ claim_of_rows (length p.vars) c = are ∙ ap (λ (m : ℕ). claim_of_rows m c) count in
    let long = subst (IsShortOrNone job rows) is short in
    inr (λ one fine. long (subst (IsShort job) (sym own) fine.2), refl)

module _ (n : ℕ) where
  -- ---- numbers of their types

  rows_columns : (ms : List Mult) → HaveColumns ms → HaveColumns (rows_of n ms)
  rows_columns [] h = h
  rows_columns (m ∷ ms) h = by (is_of_row n m) (rows_columns ms (All-tail (λ m. m.col < 2 ^ 32) m ms h))
    where
      by : (b : Bool) → HaveColumns (rows_of n ms) → HaveColumns (cond b (m ∷ rows_of n ms) (rows_of n ms))
      by true rest = All-cons (λ m. m.col < 2 ^ 32) m (rows_of n ms) (All-head (λ m. m.col < 2 ^ 32) m ms h) rest
      by false rest = rest

  node_back : (x : Node) → NodeComesBack x → NodeComesBack (node_of_rows n x)
  node_back (Split c k) h = h
  node_back (Zero j) h = h
  node_back (Clash c) h = h
  node_back (Farkas ms) h = rows_columns ms h
  node_back (Bound ms) h = rows_columns ms h
  node_back (Grid g ms) h = rows_columns ms h
  node_back (FarkasRows ms) h = h
  node_back (BoundRows ms) h = h
  node_back (GridRows g ms) h = h

  nodes_back : (ns : List Node) → All NodeComesBack ns → All NodeComesBack (map (node_of_rows n) ns)
  nodes_back ns all = All-map NodeComesBack (node_of_rows n) ns (λ i d h. node_back (slice_index_or ns i d) (all i d h))

  round_back : (r : Round) → RoundComesBack r → RoundComesBack (round_of_rows n r)
  round_back (Whole ms) h = rows_columns ms h
  round_back (OfRows ms) h = h

  level_back : (c : Cert) → LevelComesBack c → LevelComesBack (cert_of_rows n c)
  level_back c (none, nodes) = (ap (λ rs. map (round_of_rows n) rs) none, nodes_back c.nodes nodes)

  trees_back : (c : Cert) (cs : List Cert) → TreesComeBack c cs → TreesComeBack (cert_of_rows n c) (map (cert_of_rows n) cs)
  trees_back c cs t =
      let some = t.some in
      let rounds = t.rounds in
      let levels = t.levels in
      record {
        some = omega (arith, some, length-map c.nodes (node_of_rows n), length-map cs (cert_of_rows n));
        rounds = All-map RoundComesBack (round_of_rows n) c.rounds (λ i d h. round_back (slice_index_or c.rounds i d) (rounds i d h));
        first = nodes_back c.nodes t.first;
        levels = All-map LevelComesBack (cert_of_rows n) cs (λ i d h. level_back (slice_index_or cs i d) (levels i d h));
      }

  has_back : (cs : List Cert) → HasTrees cs → HasTrees (map (cert_of_rows n) cs)
  has_back [] h = h
  has_back (c ∷ cs) h = trees_back c cs h

  may_back : (cs : List Cert) → MayHaveTrees cs → MayHaveTrees (map (cert_of_rows n) cs)
  may_back [] h = tt
  may_back (c ∷ cs) h = trees_back c cs h

  claim_back : (c : Claim) → ClaimComesBack (Some c) → ClaimComesBack (Some (claim_of_rows n c))
  claim_back (Optimal x vs cs) back = (back.0, has_back cs back.1)
  claim_back (Infeasible cert) back = trees_back cert [] back
  claim_back (Unbounded x vs cs r) back = (back.0, may_back cs back.1)
  claim_back (BestSoFar x vs c b) back = back
  claim_back (Unsure c b) back = back

  -- ---- splits that fit

  node_range : (x : Node) → IsInRange x → IsInRange (node_of_rows n x)
  node_range (Split c k) h = h
  node_range (Zero j) h = tt
  node_range (Clash c) h = tt
  node_range (Farkas ms) h = tt
  node_range (Bound ms) h = tt
  node_range (Grid g ms) h = tt
  node_range (FarkasRows ms) h = tt
  node_range (BoundRows ms) h = tt
  node_range (GridRows g ms) h = tt

  certs_range : (cs : List Cert) → All (IsCertWithin (2 ^ 32)) (Means.certificates cs) → All IsInRange (flat_map (λ (c : Cert). c.nodes) (map (cert_of_rows n) cs))
  certs_range [] within = All-nil IsInRange
  certs_range (c ∷ cs) within =
      let here = All-head (IsCertWithin (2 ^ 32)) (Means.certificate c) (Means.certificates cs) within in
      let own = in_range c.nodes here.nodes in
      All-append IsInRange (map (node_of_rows n) c.nodes) (flat_map (λ (d : Cert). d.nodes) (map (cert_of_rows n) cs))
      (All-map IsInRange (node_of_rows n) c.nodes (λ i d h. node_range (slice_index_or c.nodes i d) (own i d h)))
      (certs_range cs (All-tail (IsCertWithin (2 ^ 32)) (Means.certificate c) (Means.certificates cs) within))

  pub rows_range : (p : Parts) (c : Claim) → IsValid p → IsShownClaim p c → HasFewRounds c → All IsInRange (nodes_of (claim_of_rows n c))
  rows_range p (Optimal x vs cs) valid s few = certs_range cs (shown_within p (Optimal x vs cs) valid s few)
  rows_range p (Infeasible cert) valid s few = certs_range (cert ∷ []) (shown_within p (Infeasible cert) valid s few)
  rows_range p (Unbounded x vs cs r) valid s few = certs_range cs (shown_within p (Unbounded x vs cs r) valid s few)
  rows_range p (BestSoFar x vs c b) valid s few = shown_range p (BestSoFar x vs c b) valid s few
  rows_range p (Unsure c b) valid s few = shown_range p (Unsure c b) valid s few

-- the form that is asked for comes back where the claim does
pub formed_back : (p : Parts) (job : Option (List ℕ)) (form : ℕ) (c formed : Claim) → IsFormed p job form c formed → ClaimComesBack (Some c) → ClaimComesBack (Some formed)
formed_back p job form c formed (inl (one, fine, same)) back = subst (λ (d : Claim). ClaimComesBack (Some d)) (sym same) (claim_back (length p.vars) c back)
formed_back p job form c formed (inr (other_form, same)) back = subst (λ (d : Claim). ClaimComesBack (Some d)) (sym same) back
