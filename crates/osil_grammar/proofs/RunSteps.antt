-- Runs of numbers, a step from one to the next.
use Rattle.osil_grammar.proofs.Words.{◌^◌, to_z, of_z, ◌≡◌, ◌↔◌, MatchBool, Bool, true, false, ℕ, suc, ◌+◌, ◌-◌, ◌*◌, ◌<◌, ◌≤◌, ℤ, pos, negsuc, ◌+ℤ◌, ◌*ℤ◌, ◌<ℤ◌, ◌≤ℤ◌, neg_ℤ, List, [], ◌∷◌, ◌++◌, zero, length, arith, refl, sym, ◌∙◌, ap, subst, mul-le-mul_right, unsigned_abs, ints, to_z_pos, false≢true, append_assoc, map_push, length-append, length-map, whole_run, wholes, IsIndexBelow}
use Rattle.std.specs.Int.{w128}
use Rattle.std.proofs.Math.IntN.{pos-*ℤ-pos, pos-*ℤ-negsuc, suc_ℤ-*ℤ, zero-*ℤ}

-- the number at place k of a run
abbrev pub at_step : ℤ → ℤ → ℕ → ℤ
at_step first step k = first +ℤ pos k *ℤ step

-- it is between the first and the last
pub between : (first step : ℤ) (n limit k : ℕ) → pos 0 ≤ℤ first → first <ℤ pos limit → pos 0 ≤ℤ at_step first step n → at_step first step n <ℤ pos limit → k ≤ n → (pos 0 ≤ℤ at_step first step k) × (at_step first step k <ℤ pos limit)
between first (pos s) n limit k low high last_low last_high h =
    let le : k * s ≤ n * s = mul-le-mul_right s h in
    let here : pos k *ℤ pos s ≡ pos (k * s) = pos-*ℤ-pos k s in
    let last : pos n *ℤ pos s ≡ pos (n * s) = pos-*ℤ-pos n s in
    (omega (arith, ints), omega (arith, ints))
between first (negsuc s) n limit k low high last_low last_high h =
    let le : k * suc s ≤ n * suc s = mul-le-mul_right (suc s) h in
    let here : pos k *ℤ negsuc s ≡ neg_ℤ (pos (k * suc s)) = pos-*ℤ-negsuc k s in
    let last : pos n *ℤ negsuc s ≡ neg_ℤ (pos (n * suc s)) = pos-*ℤ-negsuc n s in
    (omega (arith, ints), omega (arith, ints))

-- the next numbers are those of the run that begins one step on
pub step_on : (first step : ℤ) (k : ℕ) → at_step (first +ℤ step) step k ≡ at_step first step (suc k)
step_on first step k = let e : pos (suc k) *ℤ step ≡ pos k *ℤ step +ℤ step = suc_ℤ-*ℤ (pos k) step in omega (arith, ints)

-- a run with its first number put in front of the others
pub one_more_whole : (old new : List ℕ) (first step : ℤ) (m x : ℕ) (all : List ℤ) → pos x ≡ first → new ≡ old ++ x ∷ [] → wholes old ++ whole_run first step (suc m) ≡ all → wholes new ++ whole_run (first +ℤ step) step m ≡ all
one_more_whole old new first step m x all is added so_far =
    let rest = whole_run (first +ℤ step) step m in
    ap (λ l. wholes l ++ rest) added ∙ ap (λ l. l ++ rest) (map_push pos old x) ∙ append_assoc (wholes old) (pos x ∷ []) rest ∙ ap (λ z. wholes old ++ z ∷ rest) is ∙ so_far

-- one number more of a run whose first ones are in the list
pub next_pushed : (old new before : List ℕ) (first step : ℤ) (times k x : ℕ) → k < times → pos x ≡ at_step first step k → new ≡ old ++ x ∷ [] → wholes old ++ whole_run (at_step first step k) step (times - k) ≡ wholes before ++ whole_run first step times → wholes new ++ whole_run (at_step first step (k + 1)) step (times - (k + 1)) ≡ wholes before ++ whole_run first step times
next_pushed old new before first step times k x inside is added so_far =
    let left : times - k ≡ suc (times - (k + 1)) = omega arith in
    let on : at_step first step k +ℤ step ≡ at_step first step (k + 1) = let e : pos (k + 1) *ℤ step ≡ pos k *ℤ step +ℤ step = ap (λ (n : ℕ). pos n *ℤ step) (let same : k + 1 ≡ suc k = omega arith in same) ∙ suc_ℤ-*ℤ (pos k) step in omega (arith, ints) in
    ap (λ (z : ℤ). wholes new ++ whole_run z step (times - (k + 1))) (sym on)
    ∙ one_more_whole old new (at_step first step k) step (times - (k + 1)) x (wholes before ++ whole_run first step times) is added (ap (λ (n : ℕ). wholes old ++ whole_run (at_step first step k) step n) (sym left) ∙ so_far)

-- a run begins with its first number
pub first_place : (first step : ℤ) → at_step first step 0 ≡ first
first_place first step = let e : pos 0 *ℤ step ≡ pos 0 = zero-*ℤ step in omega (arith, ints)

-- whether all numbers are below the limit, by the first and the last
pub place_out : (first step : ℤ) (times limit k : ℕ) → k < times → ((false ≡ true) ↔ IsIndexBelow (at_step first step k) limit) → (k : ℕ) × (k < times) × (IsIndexBelow (at_step first step k) limit → ⊥)
place_out first step times limit k inside tells = (k, inside, λ below. false≢true (tells.1 below))

pub range_answer : (a b : Bool) (first step : ℤ) (times limit : ℕ) → 0 < times → a ≡ true → ((a ≡ true) ↔ IsIndexBelow (at_step first step 0) limit) → ((b ≡ true) ↔ IsIndexBelow (at_step first step (times - 1)) limit) → MatchBool b ((k : ℕ) → k < times → IsIndexBelow (at_step first step k) limit) ((k : ℕ) × (k < times) × (IsIndexBelow (at_step first step k) limit → ⊥))
range_answer a true first step times limit some on low tells =
    let bottom : IsIndexBelow first limit = subst (λ (z : ℤ). IsIndexBelow z limit) (first_place first step) (low.0 on) in
    let high = tells.0 refl in
    λ k h. between first step (times - 1) limit k bottom.0 bottom.1 high.0 high.1 (omega arith)
range_answer a false first step times limit some on low tells = place_out first step times limit (times - 1) (omega arith) tells

-- a number below the limit is what its cast to an unsigned one is
pub pushed_is : (z : ℤ) → IsIndexBelow z 100001 → pos (unsigned_abs (to_z w128 (of_z w128 z))) ≡ z
pushed_is (pos n) below = let high = below.1 in let small : n < 2 ^ 127 = omega (arith, ints) in ap (λ (z : ℤ). pos (unsigned_abs z)) (to_z_pos w128 n small)
pushed_is (negsuc n) below = absurd (let low = below.0 in omega (arith, ints))

-- how long a run is, and a list with one behind it
length-whole_run : (first step : ℤ) (m : ℕ) → length (whole_run first step m) ≡ m
length-whole_run first step zero = refl
length-whole_run first step (suc m) = ap suc (length-whole_run (first +ℤ step) step m)

pub whole_length : (old new : List ℕ) (first step : ℤ) (m : ℕ) → wholes new ≡ wholes old ++ whole_run first step m → length new ≡ length old + m
whole_length old new first step m is =
    sym (length-map new pos) ∙ ap length is ∙ length-append (wholes old) (whole_run first step m) ∙ (let a = length-map old pos in let b = length-whole_run first step m in omega arith)
