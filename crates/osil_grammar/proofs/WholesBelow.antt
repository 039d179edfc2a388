-- Whole numbers that are read stay below their limit.
use Rattle.osil_grammar.proofs.Words.{◌≡◌, ℕ, zero, suc, ◌<◌, ℤ, pos, ◌+ℤ◌, ◌<ℤ◌, List, [], ◌∷◌, ◌++◌, sym, subst, arith, All, ints, All-nil, All-cons, All-head, All-tail, All-append, All-map, All-weaker, whole_run, wholes, IsIndexBelow}
use Rattle.osil_grammar.proofs.RunSteps.{at_step, step_on, first_place}

abbrev Low : ℕ → ℤ → Type 0
Low limit z = z <ℤ pos limit

run_below : (first step : ℤ) (m limit : ℕ) → ((k : ℕ) → k < m → IsIndexBelow (at_step first step k) limit) → All (Low limit) (whole_run first step m)
run_below first step zero limit within = All-nil (Low limit)
run_below first step (suc m) limit within =
    All-cons (Low limit) first (whole_run (first +ℤ step) step m) (subst (Low limit) (first_place first step) (within 0 (omega arith)).1)
    (run_below (first +ℤ step) step m limit (λ k h. subst (λ (z : ℤ). IsIndexBelow z limit) (sym (step_on first step k)) (within (suc k) (omega (arith, h)))))

numbers_below : (limit : ℕ) (ns : List ℕ) → All (Low limit) (wholes ns) → All (λ n. n < limit) ns
numbers_below limit [] h = All-nil (λ (n : ℕ). n < limit)
numbers_below limit (n ∷ ns) h =
    All-cons (λ (k : ℕ). k < limit) n ns (let low : pos n <ℤ pos limit = All-head (Low limit) (pos n) (wholes ns) h in omega (arith, ints)) (numbers_below limit ns (All-tail (Low limit) (pos n) (wholes ns) h))

pub wholes_below : (new old : List ℕ) (first step : ℤ) (m limit : ℕ) → wholes new ≡ wholes old ++ whole_run first step m → ((k : ℕ) → k < m → IsIndexBelow (at_step first step k) limit) → All (λ n. n < limit) old → All (λ n. n < limit) new
wholes_below new old first step m limit is within all =
    let before : All (Low limit) (wholes old) = All-map (Low limit) pos old (All-weaker (λ (n : ℕ). n < limit) (λ (n : ℕ). Low limit (pos n)) (λ n h. omega (arith, ints, h)) old all) in
    numbers_below limit new (subst (All (Low limit)) (sym is) (All-append (Low limit) (wholes old) (whole_run first step m) before (run_below first step m limit within)))
