-- Jobs whose numbers rise.
use Rattle.std.proofs.Common.{◌≡◌, ℕ, ◌+◌, ◌<◌, ◌≤◌, nat_eq, Bool, true, false, cond, [], ◌∷◌, ◌++◌, Option, Some, None, IsSome, refl, sym, ◌∙◌, ap, subst, arith, rules}
use Rattle.std.proofs.lemmas.Bool.Decides.{nat_tests}
use Rattle.std.proofs.lemmas.Map.{lookup-set_value}
use Rattle.std.proofs.lemmas.Cmp.{nat_eq_equiv}
use Rattle.std.specs.Option.{IsSomeAnd}
use Rattle.job_table.specs.declared.job.Phase.{Phase}
use Rattle.job_table.specs.Jobs.{HeldJobs, phase_of, with_phase, without, Rise, Below}

pub same_number : (m n : ℕ) → nat_eq m n ≡ true → m ≡ n
same_number m n h = grind (arith, nat_tests)

pub is_itself : (n : ℕ) → nat_eq n n ≡ true
is_itself n = grind (arith, nat_tests)

pub above_apart : (n m : ℕ) → m < n → nat_eq n m ≡ false
above_apart n m h = grind (arith, nat_tests)

pub below_apart : (n m : ℕ) → n < m → nat_eq n m ≡ false
below_apart n m h = grind (arith, nat_tests)

other_from : (m n k : ℕ) → nat_eq n m ≡ false → nat_eq n k ≡ true → nat_eq m k ≡ false
other_from m n k h e = grind (arith, nat_tests)

pub rise_le : (low : ℕ) (jobs : HeldJobs) (high : ℕ) → Rise low jobs high → low ≤ high
rise_le low [] high rise = rise
rise_le low (e ∷ es) high rise = omega (arith, rise.0, rise_le (e.0 + 1) es high rise.1)

pub rise_low : (a b : ℕ) (jobs : HeldJobs) (high : ℕ) → a ≤ b → Rise b jobs high → Rise a jobs high
rise_low a b [] high le rise = omega (arith, le, rise)
rise_low a b (e ∷ es) high le rise = (omega (arith, le, rise.0), rise.1)

pub rise_below : (low n : ℕ) (jobs : HeldJobs) (high : ℕ) → high ≤ n → Rise low jobs high → Below n jobs
rise_below low n [] high h rise = tt
rise_below low n (e ∷ es) high h rise =
    (omega (arith, h, rise_le (e.0 + 1) es high rise.1), rise_below (e.0 + 1) n es high h rise.1)

pub none_below : (n : ℕ) (jobs : HeldJobs) → Below n jobs → phase_of n jobs ≡ None
none_below n [] below = refl
none_below n (e ∷ es) below =
    ap (λ b. cond b (Some e.1) (phase_of n es)) (above_apart n e.0 below.0) ∙ none_below n es below.1

none_above : (n low : ℕ) (jobs : HeldJobs) (high : ℕ) → n < low → Rise low jobs high → phase_of n jobs ≡ None
none_above n low [] high le rise = refl
none_above n low (e ∷ es) high le rise =
    ap (λ b. cond b (Some e.1) (phase_of n es)) (below_apart n e.0 (omega (arith, le, rise.0)))
    ∙ none_above n (e.0 + 1) es high (omega (arith, le, rise.0)) rise.1

-- the numbers go on rising
pub rise_more : (low high : ℕ) (w : Phase) (jobs : HeldJobs) → Rise low jobs high → Rise low (jobs ++ (high, w) ∷ []) (high + 1)
rise_more low high w [] rise = (rise, omega arith)
rise_more low high w (e ∷ es) rise = (rise.0, rise_more (e.0 + 1) high w es rise.1)

rise_set : (n low high : ℕ) (w : Phase) (b : Bool) (e : ℕ × Phase) (es es' : HeldJobs) → low ≤ e.0 → Rise (e.0 + 1) es high → Rise (e.0 + 1) es' high
    → Rise low (cond b ((e.0, w) ∷ es) (e ∷ es')) high
rise_set n low high w true e es es' above rise rise' = (above, rise)
rise_set n low high w false e es es' above rise rise' = (above, rise')

pub rise_with : (n low high : ℕ) (w : Phase) (jobs : HeldJobs) → Rise low jobs high → Rise low (with_phase n w jobs) high
rise_with n low high w [] rise = rise
rise_with n low high w (e ∷ es) rise =
    rise_set n low high w (nat_eq n e.0) e es (with_phase n w es) rise.0 rise.1 (rise_with n (e.0 + 1) high w es rise.1)

rise_cut : (n low high : ℕ) (b : Bool) (e : ℕ × Phase) (es es' : HeldJobs) → low ≤ e.0 → Rise (e.0 + 1) es high → Rise (e.0 + 1) es' high
    → Rise low (cond b es (e ∷ es')) high
rise_cut n low high true e es es' above rise rise' = rise_low low (e.0 + 1) es high (omega (arith, above)) rise
rise_cut n low high false e es es' above rise rise' = (above, rise')

pub rise_without : (n low high : ℕ) (jobs : HeldJobs) → Rise low jobs high → Rise low (without n jobs) high
rise_without n low high [] rise = rise
rise_without n low high (e ∷ es) rise =
    rise_cut n low high (nat_eq n e.0) e es (without n es) rise.0 rise.1 (rise_without n (e.0 + 1) high es rise.1)

-- what a change leaves under each number
pub phase_with : (q n : ℕ) (w : Phase) (jobs : HeldJobs) → IsSome (phase_of n jobs)
    → phase_of q (with_phase n w jobs) ≡ cond (nat_eq n q) (Some w) (phase_of q jobs)
phase_with q n w jobs held = lookup-set_value nat_eq_equiv (nat_eq n) (λ x y same. grind (arith, nat_tests, same)) q w jobs held

turned : (a b : ℕ) → nat_eq a b ≡ nat_eq b a
turned a b = grind (arith, nat_tests)

pub not_first : (b : Bool) (x : Phase) (rest : Option Phase) → cond b (Some x) rest ≡ None → (b ≡ false) × (rest ≡ None)
not_first true x rest h = cc
not_first false x rest h = (refl, h)

more_step : (q n : ℕ) (w : Phase) (e : ℕ × Phase) (rest rest' : Option Phase) (b : Bool) → nat_eq q e.0 ≡ b → nat_eq n e.0 ≡ false
    → rest' ≡ cond (nat_eq n q) (Some w) rest → cond b (Some e.1) rest' ≡ cond (nat_eq n q) (Some w) (cond b (Some e.1) rest)
more_step q n w e rest rest' true same apart h =
    sym (ap (λ b. cond b (Some w) (Some e.1)) (ap (λ k. nat_eq n k) (same_number q e.0 same) ∙ apart))
more_step q n w e rest rest' false other apart h = h

pub phase_more : (q n : ℕ) (w : Phase) (jobs : HeldJobs) → phase_of n jobs ≡ None
    → phase_of q (jobs ++ (n, w) ∷ []) ≡ cond (nat_eq n q) (Some w) (phase_of q jobs)
phase_more q n w [] none = ap (λ b. cond b (Some w) None) (turned q n)
phase_more q n w (e ∷ es) none =
    let apart = not_first (nat_eq n e.0) e.1 (phase_of n es) none in
    more_step q n w e (phase_of q es) (phase_of q (es ++ (n, w) ∷ [])) (nat_eq q e.0) refl apart.0 (phase_more q n w es apart.1)

either_same : (b : Bool) (one : Option Phase) → one ≡ cond b one one
either_same true one = refl
either_same false one = refl

gone_here : (q n : ℕ) (e : ℕ × Phase) (es : HeldJobs) (high : ℕ) (b : Bool) → nat_eq n q ≡ b → nat_eq n e.0 ≡ true → Rise (e.0 + 1) es high
    → phase_of q es ≡ cond b None (cond (nat_eq q e.0) (Some e.1) (phase_of q es))
gone_here q n e es high true same at rise =
    none_above q (e.0 + 1) es high (omega (arith, same_number n q same, same_number n e.0 at)) rise
gone_here q n e es high false other at rise = sym (ap (λ b. cond b (Some e.1) (phase_of q es)) (other_from q n e.0 other at))

gone_later : (q n : ℕ) (e : ℕ × Phase) (rest : Option Phase) (b c : Bool) → nat_eq n q ≡ b → nat_eq q e.0 ≡ c → nat_eq n e.0 ≡ false
    → cond c (Some e.1) (cond b None rest) ≡ cond b None (cond c (Some e.1) rest)
gone_later q n e rest true true same also other = absurd (grind (arith, nat_tests))
gone_later q n e rest false true same also other = refl
gone_later q n e rest true false same also other = refl
gone_later q n e rest false false same also other = refl

gone_step : (q n : ℕ) (e : ℕ × Phase) (es : HeldJobs) (high : ℕ) (b : Bool) → nat_eq n e.0 ≡ b → Rise (e.0 + 1) es high
    → phase_of q (without n es) ≡ cond (nat_eq n q) None (phase_of q es)
    → phase_of q (cond b es (e ∷ without n es)) ≡ cond (nat_eq n q) None (phase_of q (e ∷ es))
gone_step q n e es high true at rise h = gone_here q n e es high (nat_eq n q) refl at rise
gone_step q n e es high false other rise h =
    ap (λ p. cond (nat_eq q e.0) (Some e.1) p) h ∙ gone_later q n e (phase_of q es) (nat_eq n q) (nat_eq q e.0) refl refl other

pub phase_without : (q n low : ℕ) (jobs : HeldJobs) (high : ℕ) → Rise low jobs high
    → phase_of q (without n jobs) ≡ cond (nat_eq n q) None (phase_of q jobs)
phase_without q n low [] high rise = either_same (nat_eq n q) None
phase_without q n low (e ∷ es) high rise =
    gone_step q n e es high (nat_eq n e.0) refl rise.1 (phase_without q n (e.0 + 1) es high rise.1)

-- a job that is held: those before it have lower numbers, those behind it higher ones
pub record Stands (n : ℕ) (x : Phase) (low : ℕ) (jobs : HeldJobs) (high : ℕ) : Type 0 where
  pub front : HeldJobs
  pub behind : HeldJobs
  pub is : jobs ≡ front ++ (n, x) ∷ behind
  pub below : Below n front
  pub rise : Rise (n + 1) behind high
  pub above : low ≤ n

stands_step : (n : ℕ) (x : Phase) (low : ℕ) (e : ℕ × Phase) (es : HeldJobs) (high : ℕ) (b : Bool) → nat_eq n e.0 ≡ b → low ≤ e.0 → Rise (e.0 + 1) es high
    → (phase_of n es ≡ Some x → Stands n x (e.0 + 1) es high) → cond b (Some e.1) (phase_of n es) ≡ Some x → Stands n x low (e ∷ es) high
stands_step n x low e es high true is above rise f at =
    let same : e.0 ≡ n = sym (same_number n e.0 is) in
    let here : e.1 ≡ x = cc in
    record {
      front = [];
      behind = es;
      is = ap (λ k. (k, e.1) ∷ es) same ∙ ap (λ y. (n, y) ∷ es) here;
      below = tt;
      rise = subst (λ (k : ℕ). Rise (k + 1) es high) same rise;
      above = subst (λ (k : ℕ). low ≤ k) same above;
    }
stands_step n x low e es high false is above rise f at =
    let rest = f at in
    record {
      front = e ∷ rest.front;
      behind = rest.behind;
      is = ap (λ s. e ∷ s) rest.is;
      below = (omega (arith, rest.above), rest.below);
      rise = rest.rise;
      above = omega (arith, above, rest.above);
    }

pub stands : (n : ℕ) (x : Phase) (low : ℕ) (jobs : HeldJobs) (high : ℕ) → Rise low jobs high → phase_of n jobs ≡ Some x → Stands n x low jobs high
stands n x low [] high rise at = cc
stands n x low (e ∷ es) high rise at =
    stands_step n x low e es high (nat_eq n e.0) refl rise.0 rise.1 (stands n x (e.0 + 1) es high rise.1) at

-- what a change leaves there
pub with_there : (n : ℕ) (x w : Phase) (front behind : HeldJobs) → Below n front
    → with_phase n w (front ++ (n, x) ∷ behind) ≡ front ++ (n, w) ∷ behind
with_there n x w [] behind below = ap (λ b. cond b ((n, w) ∷ behind) ((n, x) ∷ with_phase n w behind)) (is_itself n)
with_there n x w (e ∷ es) behind below =
    ap (λ b. cond b ((e.0, w) ∷ (es ++ (n, x) ∷ behind)) (e ∷ with_phase n w (es ++ (n, x) ∷ behind))) (above_apart n e.0 below.0)
    ∙ ap (λ s. e ∷ s) (with_there n x w es behind below.1)

pub without_there : (n : ℕ) (x : Phase) (front behind : HeldJobs) → Below n front → without n (front ++ (n, x) ∷ behind) ≡ front ++ behind
without_there n x [] behind below = ap (λ b. cond b behind ((n, x) ∷ without n behind)) (is_itself n)
without_there n x (e ∷ es) behind below =
    ap (λ b. cond b (es ++ (n, x) ∷ behind) (e ∷ without n (es ++ (n, x) ∷ behind))) (above_apart n e.0 below.0)
    ∙ ap (λ s. e ∷ s) (without_there n x es behind below.1)

pub not_held : (q : Option Phase) → q ≡ None → IsSome q → ⊥
not_held None none held = cc
not_held (Some x) none held = cc

-- a job that is put twice is put once
twice_step : (n : ℕ) (v w : Phase) (b : Bool) (e : ℕ × Phase) (es : HeldJobs) → nat_eq n e.0 ≡ b
    → with_phase n w (with_phase n v es) ≡ with_phase n w es
    → with_phase n w (cond b ((e.0, v) ∷ es) (e ∷ with_phase n v es)) ≡ cond b ((e.0, w) ∷ es) (e ∷ with_phase n w es)
twice_step n v w true e es is h = ap (λ b. cond b ((e.0, w) ∷ es) ((e.0, v) ∷ with_phase n w es)) is
twice_step n v w false e es is h =
    ap (λ b. cond b ((e.0, w) ∷ with_phase n v es) (e ∷ with_phase n w (with_phase n v es))) is ∙ ap (λ s. e ∷ s) h

pub put_twice : (n : ℕ) (v w : Phase) (jobs : HeldJobs) → with_phase n w (with_phase n v jobs) ≡ with_phase n w jobs
put_twice n v w [] = refl
put_twice n v w (e ∷ es) = twice_step n v w (nat_eq n e.0) e es refl (put_twice n v w es)

pub some_is : (x : Phase) → IsSome (Some x)
some_is x = search rules

-- a job is held, and is held still after it was put
pub held_is : (q : Option Phase) (x : Phase) → q ≡ Some x → IsSome q
held_is q x is = subst (λ (p : Option Phase). IsSome p) (sym is) (some_is x)

pub put_there : (n : ℕ) (v : Phase) (jobs : HeldJobs) → IsSome (phase_of n jobs) → phase_of n (with_phase n v jobs) ≡ Some v
put_there n v jobs held = phase_with n n v jobs held ∙ ap (λ b. cond b (Some v) (phase_of n jobs)) (is_itself n)

pub put_held : (n : ℕ) (v : Phase) (jobs : HeldJobs) → IsSome (phase_of n jobs) → IsSome (phase_of n (with_phase n v jobs))
put_held n v jobs held =
    subst (λ (p : Option Phase). IsSome p) (sym (put_there n v jobs held)) (some_is v)

pub held_at_rest : (P : Phase → Type 0) (q : Option Phase) → IsSomeAnd q P → IsSome q
held_at_rest P (Some x) h = refl
held_at_rest P None h = absurd h
