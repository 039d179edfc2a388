-- The moment of a search at which the code stands, after each of its steps.
use Rattle.std.proofs.Common.{◌≡◌, ℕ, ◌+◌, inl, inr, ℤ, Option, Some, List, [], ◌∷◌, ◌++◌, length, sym, ◌∙◌, ap, ap₂}
use Rattle.std.proofs.lemmas.List.{length-map, length_push}
use Rattle.rational.specs.Ratio.{Ratio}
use Rattle.evidence.specs.Instance.{Instance}
use Rattle.evidence.specs.Cases.{Multiplier, Node}
use Rattle.evidence.specs.Rounds.{Round, RoundBy, derive}
use Rattle.certificate.specs.declared.nodes.Node as Own
use Rattle.certificate.specs.declared.nodes.Cert.{Cert}
use Rattle.certificate.specs.Meanings as Means
use Rattle.instance.specs.Parts.{Parts}
use Rattle.instance.specs.Program.{program}
use Rattle.case_tree.specs.declared.cuts.Division.{Division}
use Rattle.case_tree.specs.declared.cuts.Division.TheVariants.{Split, Zero}
use Rattle.case_tree.specs.Cuts.{cut}
use Rattle.cert_checker.proofs.Widths.{cut_is}
use Rattle.simplex_rules.specs.Ends.{Clock}
use Rattle.search_rules.specs.Branching.{Case}
use Rattle.search_rules.specs.Search.{SearchMoment, To, Branches, closed_by_leaf, with_cut}
use Rattle.branch_bound.specs.declared.found.Found as Best
use Rattle.branch_bound.specs.declared.level.Level.{Level}
use Rattle.branch_bound.specs.declared.walk.RayAt.{RayAt}
use Rattle.branch_bound.specs.declared.walk.Walk.{Walk}
use Rattle.branch_bound.specs.Walks.{best, found, case, rest, rest_by, waiting, node_by, divided_cases_by, IsClosedBy, IsDividedBy}
use Rattle.branch_bound.specs.Divisions.{IsOpenAt}
use Rattle.branch_bound.specs.Levels.{level, moment}
use Rattle.branch_bound.specs.Trials.{IsFreshWalk}

-- one more node
pub node_more : (ns ms : List Own.Node) (n : Node) → Means.nodes ms ≡ Means.nodes ns ++ n ∷ [] → length ms ≡ length ns + 1
node_more ns ms n e = sym (length-map ms Means.node) ∙ ap length e ∙ length_push (Means.nodes ns) n ∙ ap (λ k. k + 1) (length-map ns Means.node)

module _ (p : Parts) (L D : Instance) (v : Level) (c : Clock) (w : Walk) (d : ℕ) where
  abbrev with_cases : List Case → List Node → Option Best.Found → SearchMoment
  with_cases Cs ns b = record (moment p L D v w c) { waiting = Cs; nodes = ns; best = best b }

  -- the walk x stands before these cases, with these nodes and this best point
  moment_by : (x : Walk) (b : Option Best.Found) (Cs : List Case) (ns : List Node) → waiting D x x.next ≡ Cs → Means.nodes x.nodes ≡ ns → moment p L D v (record x { best = b }) c ≡ with_cases Cs ns b
  moment_by x b Cs ns waits nodes = ap₂ (λ (Ds : List Case) (ms : List Node). with_cases Ds ms b) waits nodes

  moment_on : (x : Walk) (Cs : List Case) (ns : List Node) → waiting D x x.next ≡ Cs → Means.nodes x.nodes ≡ ns → x.best ≡ w.best → moment p L D v x c ≡ with_cases Cs ns w.best
  moment_on x Cs ns waits nodes same = moment_by x x.best Cs ns waits nodes ∙ ap (with_cases Cs ns) same

  -- a leaf closed the case
  pub closes : (x : Walk) (n : Node) → IsClosedBy w x d n → moment p L D v x c ≡ closed_by_leaf (moment p L D v w c) (rest D w d) n
  closes x n by = moment_on x (rest D w d) (Means.nodes w.nodes ++ n ∷ []) (by.cases D) by.nodes by.point

  -- and its point was taken, where there was no ray
  pub finds : (x : Walk) (n : Node) (f : Best.Found) (r : Option RayAt) → r ≡ w.ray → IsClosedBy (record w { ray = r }) x d n → moment p L D v (record x { best = Some f }) c ≡ closed_by_leaf (record (moment p L D v w c) { best = Some (found f) }) (rest D w d) n
  finds x n f r same by = moment_by x (Some f) (rest D w d) (Means.nodes w.nodes ++ n ∷ []) (by.cases D ∙ ap (λ (q : Option RayAt). rest_by D w.cuts.items w.branches.items q d) same) by.nodes

  -- the case was divided
  pub divides : (x : Walk) (by : Division) (j : ℕ) → IsDividedBy w x d by j → moment p L D v x c ≡ with_cases (divided_cases_by by (case D w d) j (rest D w d)) (Means.nodes w.nodes ++ node_by by j ∷ []) w.best
  divides x by j at = moment_on x (divided_cases_by by (case D w d) j (rest D w d)) (Means.nodes w.nodes ++ node_by by j ∷ []) (at.cases D) at.nodes at.point

  pub branches : (x : Walk) (by : Division) (j : ℕ) (point : List Ratio) → IsOpenAt (cut D w.cuts.items) point j by → IsDividedBy w x d by j → Branches (case D w d) (rest D w d) (moment p L D v w c) point (To (moment p L D v x c))
  branches x (Split k) j point opened at = inl (j, k, opened, ap To (divides x (Split k) j at))
  branches x Zero j point opened at = inr (j, opened, ap To (divides x Zero j at))

  -- the first case of a level is to be searched anew with a cut
  module _ (E : Instance) (u : Level) (ms : List Multiplier) (cs : List ℤ) (k : ℤ) (fresh : IsFreshWalk p w) (at : w.next ≡ Some d) (variables : D.variables ≡ (program p).variables) (is : E ≡ derive D cs k) where
    same_case : cut E w.cuts.items ≡ derive (cut D w.cuts.items) cs k
    same_case =
        ap (λ (J : Instance). cut J w.cuts.items) is
        ∙ cut_is (derive D cs k) w.cuts.items (fresh.uncut ∙ sym variables)
        ∙ ap (λ (J : Instance). derive J cs k) (sym (cut_is D w.cuts.items (fresh.uncut ∙ sym variables)))

    none_above : d ≡ 0
    none_above = let e : Some d ≡ Some 0 = sym at ∙ fresh.next in cc

    same_cases : waiting E w w.next ≡ record (case D w d) { program = derive (cut D w.cuts.items) cs k } ∷ rest D w d
    same_cases =
        ap (waiting E w) at
        ∙ ap₂ (λ (J : Instance) (Cs : List Case). let C : Case = record (case D w d) { program = J } in C ∷ Cs) same_case (ap (rest E w) none_above ∙ sym (ap (rest D w) none_above))

    pub cuts : u.goal ≡ v.goal → u.certs ≡ v.certs → Means.rounds u.rounds ≡ Means.rounds v.rounds ++ RoundBy ms ∷ [] → moment p L E u w c ≡ with_cut (moment p L D v w c) (case D w d) (rest D w d) ms cs k
    cuts goal certs rounds =
        ap₂ (λ (Cs : List Case) (rs : List Round). let m : SearchMoment = record { level = level p L u; rounds = rs; waiting = Cs; nodes = Means.nodes w.nodes; clock = c; best = best w.best } in m) same_cases rounds
        ∙ ap₂ (λ (g : ℕ) (ks : List Cert). let m : SearchMoment = record (with_cut (moment p L D v w c) (case D w d) (rest D w d) ms cs k) { level = level p L (record v { goal = g; certs = ks }) } in m) goal certs
