-- What the nodes of a level show, with trees for the cases still open, whichever case of a split is met first.
use Rattle.std.proofs.Common.{◌≡◌, ℕ, suc, ◌+◌, ◌≤◌, ℤ, pos, ◌+ℤ◌, Bool, true, false, Option, List, [], ◌∷◌, ◌++◌, length, append_assoc, append-nil, refl, sym, ◌∙◌, ap, ap₂, subst, arith}
use Rattle.std.proofs.lemmas.Bool.{eq-eqb, ne_eqb}
use Rattle.rational.specs.Ratio.{Ratio}
use Rattle.evidence.specs.Instance.{Instance}
use Rattle.evidence.specs.Cases.{Tree, Node, SplitAt, ZeroAt, preorder, IsBranch, IsZeroBranch, at_most, high_case}
use Rattle.evidence.proofs.Columns.{by_bool}
use Rattle.evidence.proofs.RowBranches.{low_variable, high_variable}
use Rattle.search_rules.specs.Branching.{Case, split_cases, divided_cases}
use Rattle.search_rules.specs.Search.{Found, Level, undivided}
use Rattle.search_rules.specs.Sides.{Met, has_cases, joined, placed, parts_of, first_part, is_among, sided, told, IsMet}
use Rattle.search_rules.specs.RuleSearch.{risen_cases}
use Rattle.search_rules.proofs.Nodes.{programs, Within, Leads, IsLeaf}
use Rattle.search_rules.proofs.MetNodes.{met, MetAll, closes_first, splits_low, splits_high, divides_first, all_met, nodes_of, AllLow, told_as_met, told_in_order}

-- a place from n on is none of these
abbrev pub AreBelow : List ℕ → ℕ → Type 0
AreBelow ts n = (i : ℕ) → n ≤ i → is_among i ts ≡ false

sided_push : (ts : List ℕ) (i : ℕ) (ns : List Node) (n : Node) (k : ℕ) → k ≡ i + length ns → sided ts i (ns ++ n ∷ []) ≡ sided ts i ns ++ met n (is_among k ts) ∷ []
sided_push ts i [] n k e = ap (λ (j : ℕ). met n (is_among j ts) ∷ []) (let f : i ≡ k = omega (arith, e) in f)
sided_push ts i (x ∷ xs) n k e = ap (λ (ms : List Met). met x (is_among i ts) ∷ ms) (sided_push ts (suc i) xs n k (let f : k ≡ suc i + length xs = omega (arith, e) in f))

sided_fresh : (ts : List ℕ) (i : ℕ) (ns : List Node) (k : ℕ) → i + length ns ≤ k → sided (k ∷ ts) i ns ≡ sided ts i ns
sided_fresh ts i [] k h = refl
sided_fresh ts i (x ∷ xs) k h =
    let here : is_among i (k ∷ ts) ≡ is_among i ts = rw (ne_eqb i k (λ e. omega (arith, e, h))) refl in
    ap₂ (λ (b : Bool) (ms : List Met). met x b ∷ ms) here (sided_fresh ts (suc i) xs k (let l : suc i + length xs ≤ k = omega (arith, h) in l))

sided_low : (ts : List ℕ) (ns : List Node) (n : Node) → AreBelow ts (length ns) → sided ts 0 (ns ++ n ∷ []) ≡ sided ts 0 ns ++ met n false ∷ []
sided_low ts ns n h =
    let same : length ns ≡ 0 + length ns = omega arith in
    let here : length ns ≤ length ns = omega arith in
    sided_push ts 0 ns n (length ns) same ∙ ap (λ (b : Bool). sided ts 0 ns ++ met n b ∷ []) (h (length ns) here)

sided_high : (ts : List ℕ) (ns : List Node) (n : Node) → sided (length ns ∷ ts) 0 (ns ++ n ∷ []) ≡ sided ts 0 ns ++ met n true ∷ []
sided_high ts ns n =
    let same : length ns ≡ 0 + length ns = omega arith in
    let here : 0 + length ns ≤ length ns = omega arith in
    let turned : is_among (length ns) (length ns ∷ ts) ≡ true = rw (eq-eqb (length ns) (length ns) refl) refl in
    sided_push (length ns ∷ ts) 0 ns n (length ns) same ∙ ap₂ (λ (ms : List Met) (b : Bool). ms ++ met n b ∷ []) (sided_fresh ts 0 ns (length ns) here) turned

-- the nodes so far, with trees for the open cases as they would be met, prove of D what the best point asks
abbrev pub LeadsBy : Level → Instance → List Case → List ℕ → List Node → Option Found → Type 0
LeadsBy l D waiting ts nodes best = (z : Option Ratio) → Within l z best → (after : List Met) → MetAll (programs waiting) after z → MetAll (D ∷ []) (sided ts 0 nodes ++ after) z

pub leads_by_first : (l : Level) (D : Instance) (ts : List ℕ) (best : Option Found) → LeadsBy l D (undivided D ∷ []) ts [] best
leads_by_first l D ts best z w after p = p

leads_by : (l : Level) (D : Instance) (waiting after : List Case) (ts us : List ℕ) (nodes : List Node) (node : Node) (up : Bool) (best better : Option Found)
    → sided us 0 (nodes ++ node ∷ []) ≡ sided ts 0 nodes ++ met node up ∷ []
    → ((z : Option Ratio) → Within l z better → Within l z best)
    → ((z : Option Ratio) → Within l z better → (more : List Met) → MetAll (programs after) more z → MetAll (programs waiting) (met node up ∷ more) z)
    → LeadsBy l D waiting ts nodes best → LeadsBy l D after us (nodes ++ node ∷ []) better
leads_by l D waiting after ts us nodes node up best better e back step leads z w more p =
    subst (λ (ms : List Met). MetAll (D ∷ []) ms z) (sym (ap (λ (ms : List Met). ms ++ more) e ∙ append_assoc (sided ts 0 nodes) (met node up ∷ []) more)) (leads z (back z w) (met node up ∷ more) (step z w more p))

pub leads_by_low : (l : Level) (D : Instance) (waiting after : List Case) (ts : List ℕ) (nodes : List Node) (node : Node) (best better : Option Found) → AreBelow ts (length nodes)
    → ((z : Option Ratio) → Within l z better → Within l z best)
    → ((z : Option Ratio) → Within l z better → (more : List Met) → MetAll (programs after) more z → MetAll (programs waiting) (met node false ∷ more) z)
    → LeadsBy l D waiting ts nodes best → LeadsBy l D after ts (nodes ++ node ∷ []) better
leads_by_low l D waiting after ts nodes node best better h back step leads = leads_by l D waiting after ts ts nodes node false best better (sided_low ts nodes node h) back step leads

pub leads_by_high : (l : Level) (D : Instance) (waiting after : List Case) (ts : List ℕ) (nodes : List Node) (node : Node) (best : Option Found)
    → ((z : Option Ratio) → (more : List Met) → MetAll (programs after) more z → MetAll (programs waiting) (met node true ∷ more) z)
    → LeadsBy l D waiting ts nodes best → LeadsBy l D after (length nodes ∷ ts) (nodes ++ node ∷ []) best
leads_by_high l D waiting after ts nodes node best step leads = leads_by l D waiting after ts (length nodes ∷ ts) nodes node true best best (sided_high ts nodes node) (λ z w. w) (λ z w more p. step z more p) leads

pub leaf_met : (C : Case) (rest : List Case) (n : Node) (more : List Met) (z : Option Ratio) → IsLeaf C.program n z → MetAll (programs rest) more z → MetAll (programs (C ∷ rest)) (met n false ∷ more) z
leaf_met C rest n more z (T, e, leaf, s) o = closes_first C.program (programs rest) T n more z e leaf s o

pub low_met : (C : Case) (rest : List Case) (j : ℕ) (k : ℤ) (more : List Met) (z : Option Ratio) → IsBranch C.program j k → MetAll (programs (split_cases C j k rest)) more z → MetAll (programs (C ∷ rest)) (met (SplitAt j k) false ∷ more) z
low_met C rest j k more z br s =
    let I = C.program in
    splits_low I (programs rest) j k more z br
    (subst (λ (J : Instance). MetAll (J ∷ high_case I j (k +ℤ pos 1) ∷ programs rest) more z) (sym (low_variable I j k br.variable))
    (subst (λ (J : Instance). MetAll (at_most I j k ∷ J ∷ programs rest) more z) (sym (high_variable I j (k +ℤ pos 1) br.variable)) s))

pub high_met : (C : Case) (rest : List Case) (j : ℕ) (k : ℤ) (more : List Met) (z : Option Ratio) → IsBranch C.program j k → MetAll (programs (risen_cases C j k rest)) more z → MetAll (programs (C ∷ rest)) (met (SplitAt j k) true ∷ more) z
high_met C rest j k more z br s =
    let I = C.program in
    splits_high I (programs rest) j k more z br
    (subst (λ (J : Instance). MetAll (high_case I j (k +ℤ pos 1) ∷ J ∷ programs rest) more z) (sym (low_variable I j k br.variable))
    (subst (λ (J : Instance). MetAll (J ∷ at_most I j k ∷ programs rest) more z) (sym (high_variable I j (k +ℤ pos 1) br.variable)) s))

pub zero_met : (C : Case) (rest : List Case) (j : ℕ) (more : List Met) (z : Option Ratio) → IsZeroBranch C.program j → MetAll (programs (divided_cases C j rest)) more z → MetAll (programs (C ∷ rest)) (met (ZeroAt j) false ∷ more) z
zero_met C rest j more z br s = divides_first C.program (programs rest) j more z br s

nodes_sided : (ts : List ℕ) (i : ℕ) (ns : List Node) → nodes_of (sided ts i ns) ≡ ns
nodes_sided ts i [] = refl
nodes_sided ts i (n ∷ ns) = ap (λ (os : List Node). n ∷ os) (nodes_sided ts (suc i) ns)

lows_sided : (i : ℕ) (ns : List Node) → AllLow (sided [] i ns)
lows_sided i [] = tt
lows_sided i (n ∷ ns) = (refl, lows_sided (suc i) ns)

-- at the end the nodes as they are told are those of a tree
pub told_tree : (ts : List ℕ) (ns : List Node) (T : Tree) → IsMet T (sided ts 0 ns) → told ts ns ≡ preorder T
told_tree [] ns T p = sym (nodes_sided [] 0 ns) ∙ told_as_met T (sided [] 0 ns) p (lows_sided 0 ns)
told_tree (t ∷ ts) ns T p = told_in_order T (sided (t ∷ ts) 0 ns) p

pub leads_told : (l : Level) (D : Instance) (ts : List ℕ) (nodes : List Node) (best : Option Found) → LeadsBy l D [] ts nodes best → Leads l D [] (told ts nodes) best
leads_told l D ts nodes best leads z w after none =
    let whole = subst (λ (ms : List Met). MetAll (D ∷ []) ms z) (append-nil (sided ts 0 nodes)) (leads z w [] refl) in
    let r = all_met D (sided ts 0 nodes) z whole in
    (r.0, [], ap (λ (ns : List Node). told ts nodes ++ ns) none ∙ append-nil (told ts nodes) ∙ told_tree ts nodes r.0 r.1 ∙ sym (append-nil (preorder r.0)), r.2, tt, refl)

-- what is told has nodes, where some were met
joined_some : (m : Met) (parts : List (List Node)) → first_part (joined m parts) ≡ [] → ⊥
joined_some m [] e = cc
joined_some m (a ∷ []) e = cc
joined_some m (a ∷ b ∷ rest) e = cc

placed_some : (m : Met) (parts : List (List Node)) → first_part (placed m parts) ≡ [] → ⊥
placed_some m parts e =
    by_bool (has_cases m.node)
    (λ b. let f : first_part (joined m parts) ≡ [] = rw b at e in joined_some m parts f)
    (λ b. let f : m.node ∷ [] ≡ [] = rw b at e in cc)

pub told_some : (ts : List ℕ) (nodes : List Node) → told ts nodes ≡ [] → nodes ≡ []
told_some [] nodes e = e
told_some (t ∷ ts) [] e = refl
told_some (t ∷ ts) (n ∷ ns) e = absurd (placed_some (met n (is_among 0 (t ∷ ts))) (parts_of (sided (t ∷ ts) 1 ns)) e)
