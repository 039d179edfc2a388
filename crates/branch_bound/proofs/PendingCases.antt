-- The cases that a walk stands before, after each of its steps.
use Rattle.std.proofs.Common.{◌≡◌, ℕ, zero, suc, ◌+◌, ◌-◌, ◌<◌, ◌≤◌, Bool, true, false, cond, Option, None, Some, IfSome, MatchOption, List, [], ◌∷◌, arith, refl, sym, ◌∙◌, ap, ap₂, add-one, lt-ltb, le-ltb}
use Rattle.rational.specs.Ratio.{Ratio}
use Rattle.fraction.specs.Frac.{ratios}
use Rattle.evidence.specs.Instance.{Instance}
use Rattle.evidence.proofs.Columns.{by_lt}
use Rattle.case_tree.specs.declared.path.Branch.{Branch}
use Rattle.case_tree.specs.declared.cuts.Cut.{Cut}
use Rattle.case_tree.specs.declared.cuts.Division.{Division}
use Rattle.case_tree.specs.declared.cuts.Division.TheVariants.{Split, Zero}
use Rattle.case_tree.specs.Cuts.{cut, cases, pending, pending_places, branch_at, first_case, second_case, HaveOneDivision}
use Rattle.search_rules.specs.Branching.{Case}
use Rattle.branch_bound.specs.declared.walk.RayAt.{RayAt}
use Rattle.branch_bound.specs.Walks.{divided, with_zero, ray, ray_at, keeps_ray, second_cases, case_by, rest_by, waiting_by, divided_cases_by}

abbrev one_case : Instance → List ℕ → Option (List Ratio) → Case
one_case J js o = record { program = J; divided = js; ray = o }

-- only the branches above count
pub divided_same : (bs cs : List Branch) (d : ℕ) → ((e : ℕ) → e < d → HaveOneDivision (branch_at bs e) (branch_at cs e)) → divided bs d ≡ divided cs d
divided_same bs cs zero same = refl
divided_same bs cs (suc d) same =
    let s = same d (omega arith) in
    ap₂ (λ by j. with_zero by j (divided bs d)) s.by s.col ∙ ap (with_zero (branch_at cs d).by (branch_at cs d).col) (divided_same bs cs d (λ e h. same e (omega arith)))

module _ (bs cs ps : List Branch) (r s : Option RayAt) where
  pub seconds_same : (d : ℕ) (Js : List Instance) → ((e : ℕ) → e < d → HaveOneDivision (branch_at bs e) (branch_at cs e)) → ((e : ℕ) → e < d → ray_at r e ≡ ray_at s e) → second_cases bs r Js (pending_places ps d) ≡ second_cases cs s Js (pending_places ps d)
  seconds_same zero [] same rays = refl
  seconds_same zero (J ∷ Js) same rays = refl
  seconds_same (suc d) Js same rays = by (λ Ks. seconds_same d Ks (λ e h. same e (omega arith)) (λ e h. rays e (omega arith))) (branch_at ps d).is_second Js
    where
      here : (J : Instance) → one_case J (divided bs (d + 1)) (ray_at r d) ≡ one_case J (divided cs (d + 1)) (ray_at s d)
      here J = ap₂ (one_case J) (divided_same bs cs (d + 1) (λ e h. same e (omega arith))) (rays d (omega arith))

      by : ((Ks : List Instance) → second_cases bs r Ks (pending_places ps d) ≡ second_cases cs s Ks (pending_places ps d)) → (b : Bool) (Ks : List Instance) → second_cases bs r Ks (cond b (pending_places ps d) (d ∷ pending_places ps d)) ≡ second_cases cs s Ks (cond b (pending_places ps d) (d ∷ pending_places ps d))
      by below true Ks = below Ks
      by below false [] = refl
      by below false (K ∷ Ks) = ap₂ (λ (C : Case) (rest : List Case). C ∷ rest) (here K) (below Ks)

-- the ray that is kept for the next case, with n branches above, is the one that the last of them keeps for its second case
next_ray : (r : Option RayAt) (n : ℕ) → 0 < n → ray (cond (keeps_ray r (Some n)) r None) ≡ ray_at r (n - 1)
next_ray None n up = refl
next_ray (Some q) n up =
    by_lt q.depth n
    (λ l. ap (λ (b : Bool). ray (cond b (Some q) None)) (lt-ltb q.depth n l) ∙ sym (ap (λ (b : Bool). cond b None (Some (ratios q.ray))) (le-ltb (n - 1) q.depth (omega arith))))
    (λ l. ap (λ (b : Bool). ray (cond b (Some q) None)) (le-ltb q.depth n l) ∙ sym (ap (λ (b : Bool). cond b None (Some (ratios q.ray))) (lt-ltb (n - 1) q.depth (omega arith))))

-- and the branches above keep theirs
kept_rays : (r : Option RayAt) (n e : ℕ) → e < n → ray_at r e ≡ ray_at (cond (keeps_ray r (Some n)) r None) e
kept_rays None n e h = refl
kept_rays (Some q) n e h =
    by_lt q.depth n
    (λ l. sym (ap (λ (b : Bool). ray_at (cond b (Some q) None) e) (lt-ltb q.depth n l)))
    (λ l. ap (λ (b : Bool). cond b None (Some (ratios q.ray))) (lt-ltb e q.depth (omega arith)) ∙ sym (ap (λ (b : Bool). ray_at (cond b (Some q) None) e) (le-ltb q.depth n l)))

-- below the case whose direction gave it a ray is that of all cases
own_ray : (r : Option RayAt) (d : ℕ) → IfSome r (λ q. q.depth ≤ d) → ray_at r d ≡ ray r
own_ray None d h = refl
own_ray (Some q) d h = ap (λ (b : Bool). cond b None (Some (ratios q.ray))) (le-ltb d q.depth h)

two_cases : (by : Division) (J : Instance) (j : ℕ) (js : List ℕ) (o : Option (List Ratio)) (Cs : List Case) → one_case (first_case J j by) (with_zero by j js) o ∷ one_case (second_case J j by) (with_zero by j js) o ∷ Cs ≡ divided_cases_by by (one_case J js o) j Cs
two_cases (Split k) J j js o Cs = refl
two_cases Zero J j js o Cs = refl

-- with the variables cs, the branches bs and the ray r, d branches above; and where the walk went from there: the variables vs, the branches es and the ray q
module _ (I : Instance) (cs : List Cut) (bs : List Branch) (r : Option RayAt) (vs : List Cut) (es : List Branch) (q : Option RayAt) (d : ℕ) where
  -- the case at hand is closed
  pub closed_waiting : ((e : ℕ) → HaveOneDivision (branch_at bs e) (branch_at es e)) → (o : Option ℕ) → IfSome o (λ n. 0 < n) → MatchOption o (pending_places bs d ≡ []) (λ n. pending_places bs d ≡ (n - 1) ∷ pending_places es n) → cases I vs es o ≡ pending I cs bs d → q ≡ cond (keeps_ray r o) r None → waiting_by I vs es q o ≡ rest_by I cs bs r d
  closed_waiting divisions None up places shown kept = ap (λ (Js : List Instance). second_cases bs r Js (pending_places bs d)) shown
  closed_waiting divisions (Some n) up places shown kept =
      let one : n ≡ n - 1 + 1 = omega arith in
      ap₂ (λ (C : Case) (Cs : List Case). C ∷ Cs)
      (ap₂ (one_case (cut I vs)) (ap (divided es) one ∙ sym (divided_same bs es (n - 1 + 1) (λ e h. divisions e))) (ap ray kept ∙ next_ray r n up))
      (sym (seconds_same bs es es r q n (pending I vs es n) (λ e h. divisions e) (λ e h. kept_rays r n e h ∙ ap (λ (s : Option RayAt). ray_at s e) (sym kept))))
      ∙ ap₂ (second_cases bs r) shown (sym places)

  -- or divided, where there was room for its branch among the branches ms
  module _ (ms : List Branch) (j : ℕ) (by : Division) where
    -- the cases at hand and after it, of their programs
    abbrev cases_of : List Instance → List Case
    cases_of [] = []
    cases_of (J ∷ Js) = one_case J (divided es (d + 1)) (ray q) ∷ second_cases es q Js (pending_places es (d + 1))

    pub divided_waiting : q ≡ r → IfSome r (λ s. s.depth ≤ d) → ((e : ℕ) → e < d → HaveOneDivision (branch_at bs e) (branch_at ms e)) → pending_places ms d ≡ pending_places bs d → pending I cs ms d ≡ pending I cs bs d → ((e : ℕ) → e < d → HaveOneDivision (branch_at ms e) (branch_at es e)) → ((branch_at es d).col ≡ j) × ((branch_at es d).by ≡ by) → pending_places es (d + 1) ≡ d ∷ pending_places ms d → cases I vs es (Some (d + 1)) ≡ first_case (cut I cs) j by ∷ second_case (cut I cs) j by ∷ pending I cs ms d → waiting_by I vs es q (Some (d + 1)) ≡ divided_cases_by by (case_by I cs bs r d) j (rest_by I cs bs r d)
    divided_waiting kept depth room here pends divisions own places shown =
        let J = cut I cs in
        let A = first_case J j by in
        let B = second_case J j by in
        let same : (e : ℕ) → e < d → HaveOneDivision (branch_at bs e) (branch_at es e) = λ e h. let a = room e h in let b = divisions e h in record { col = a.col ∙ b.col; by = a.by ∙ b.by } in
        let js : divided es (d + 1) ≡ with_zero by j (divided bs d) =
        ap (divided es) (add-one d) ∙ ap₂ (λ (b : Division) (k : ℕ). with_zero b k (divided es d)) own.1 own.0 ∙ ap (with_zero by j) (sym (divided_same bs es d same)) in
        let after : second_cases es r (pending I cs ms d) (pending_places ms d) ≡ rest_by I cs bs r d =
        ap₂ (second_cases es r) pends here ∙ sym (seconds_same bs es bs r r d (pending I cs bs d) same (λ e h. refl)) in
        ap cases_of shown
        ∙ ap (λ (ds : List ℕ). one_case A (divided es (d + 1)) (ray q) ∷ second_cases es q (B ∷ pending I cs ms d) ds) places
        ∙ ap (λ (s : Option RayAt). one_case A (divided es (d + 1)) (ray s) ∷ one_case B (divided es (d + 1)) (ray_at s d) ∷ second_cases es s (pending I cs ms d) (pending_places ms d)) kept
        ∙ ap₂ (λ (ks : List ℕ) (Cs : List Case). one_case A ks (ray r) ∷ one_case B ks (ray_at r d) ∷ Cs) js after
        ∙ ap (λ (o : Option (List Ratio)). one_case A (with_zero by j (divided bs d)) (ray r) ∷ one_case B (with_zero by j (divided bs d)) o ∷ rest_by I cs bs r d) (own_ray r d depth)
        ∙ two_cases by J j (divided bs d) (ray r) (rest_by I cs bs r d)

-- the ray of the case at hand is not that of the cases above it, where these have none
pub own_ray_alone : (I : Instance) (cs : List Cut) (bs : List Branch) (q : RayAt) (r : Option RayAt) (d : ℕ) → q.depth ≡ d → r ≡ None → rest_by I cs bs (Some q) d ≡ rest_by I cs bs r d
own_ray_alone I cs bs q r d at none =
    seconds_same bs bs bs (Some q) r d (pending I cs bs d) (λ e h. record { col = refl; by = refl })
    (λ e h. ap (λ (b : Bool). cond b None (Some (ratios q.ray))) (lt-ltb e q.depth (omega arith)) ∙ sym (ap (λ (s : Option RayAt). ray_at s e) none))
