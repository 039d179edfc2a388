-- Machines that read a text byte by byte, and what the place where one stops says of a grammar.
use Rattle.std.proofs.Common.{◌≡◌, ℕ, ◌+◌, ◌-◌, ◌<◌, suc, Bool, true, false, List, [], ◌∷◌, ◌++◌, length, take, refl, ap, sym, ◌∙◌, subst, arith}
use Rattle.std.specs.Char.{digit_value}
use Rattle.std.specs.Str.Parse.{AllDigits}
use Rattle.std.proofs.lemmas.List.{append_assoc, append-nil, length-append}
use Rattle.std.proofs.Math.Seq.{take-append_seam, take-append-add}
use Rattle.decimal_text.specs.Prefix.{BeginsText, LeavesAt}

abbrev pub run : {S : Type 0} → (S → ℕ → S) → S → List ℕ → S
run next st [] = st
run next st (b ∷ s) = run next (next st b) s

pub run-append : {S : Type 0} (next : S → ℕ → S) (st : S) (xs ys : List ℕ) → run next st (xs ++ ys) ≡ run next (run next st xs) ys
run-append next st [] ys = refl
run-append next st (x ∷ xs) ys = run-append next (next st x) xs ys

-- a state that digits keep
pub run-digits : {S : Type 0} (next : S → ℕ → S) (st : S) → ((b : ℕ) → digit_value b < 10 → next st b ≡ st) → (ds : List ℕ) → AllDigits 10 ds → run next st ds ≡ st
run-digits next st keeps [] h = refl
run-digits next st keeps (d ∷ ds) h = rw (keeps d h.0) (run-digits next st keeps ds h.1)

-- the machine accepts each text of the grammar, and never leaves its dead state
pub record Reads {S : Type 0} (next : S → ℕ → S) (start dead : S) (accepts : S → Bool) (grammar : List ℕ → Type 0) : Type 0 where
  pub sound : (s : List ℕ) → grammar s → accepts (run next start s) ≡ true
  pub stays : (b : ℕ) → next dead b ≡ dead
  pub refuses : accepts dead ≡ false

pub run-dead : {S : Type 0} (next : S → ℕ → S) (dead : S) → ((b : ℕ) → next dead b ≡ dead) → (s : List ℕ) → run next dead s ≡ dead
run-dead next dead stays [] = refl
run-dead next dead stays (b ∷ s) = rw (stays b) (run-dead next dead stays s)

-- the machine in this state accepts no end, or dies of the next byte
abbrev pub Stops : {S : Type 0} → (S → ℕ → S) → S → (S → Bool) → S → List ℕ → Type 0
Stops next dead accepts st [] = accepts st ≡ false
Stops next dead accepts st (b ∷ s) = next st b ≡ dead

true_false : (b : Bool) → b ≡ true → b ≡ false → ⊥
true_false b p q = cc

-- a text past which the machine is dead is no beginning
dead_past : {S : Type 0} (next : S → ℕ → S) (start dead : S) (accepts : S → Bool) (grammar : List ℕ → Type 0) → Reads next start dead accepts grammar → (p : List ℕ) (b : ℕ) (t : List ℕ) → next (run next start p) b ≡ dead → grammar (p ++ b ∷ t) → ⊥
dead_past next start dead accepts grammar m p b t e g =
    let whole : run next start (p ++ b ∷ t) ≡ dead = run-append next start p (b ∷ t) ∙ (ap (λ x. run next x t) e ∙ run-dead next dead m.stays t) in
    true_false (accepts dead) (subst (λ x. accepts x ≡ true) whole (m.sound (p ++ b ∷ t) g)) m.refuses

take_past : (p : List ℕ) (b : ℕ) (t : List ℕ) (k : ℕ) → length p < k → take k (p ++ b ∷ t) ≡ p ++ b ∷ take (k - length p - 1) t
take_past p b t k h =
    let e : length p + suc (k - length p - 1) ≡ k = omega arith in
    subst (λ x. take x (p ++ b ∷ t) ≡ p ++ b ∷ take (k - length p - 1) t) e (take-append-add p (b ∷ t) (suc (k - length p - 1)))

pub leaves : {S : Type 0} (next : S → ℕ → S) (start dead : S) (accepts : S → Bool) (grammar : List ℕ → Type 0) → Reads next start dead accepts grammar → (p rest : List ℕ) → BeginsText grammar p → Stops next dead accepts (run next start p) rest → LeavesAt grammar (p ++ rest) (length p)
leaves next start dead accepts grammar m p [] begins stops = record {
  outside = λ g. true_false (accepts (run next start p)) (subst (λ x. accepts (run next start x) ≡ true) (append-nil p) (m.sound (p ++ []) g)) stops;
  within = omega (arith, length-append p (let e : List ℕ = [] in e));
  begins = subst (BeginsText grammar) (sym (take-append_seam p [])) begins;
  longest = λ k above within _. absurd (omega (arith, length-append p (let e : List ℕ = [] in e)));
}
leaves next start dead accepts grammar m p (b ∷ t) begins stops = record {
  outside = dead_past next start dead accepts grammar m p b t stops;
  within = omega (arith, length-append p (b ∷ t));
  begins = subst (BeginsText grammar) (sym (take-append_seam p (b ∷ t))) begins;
  longest = λ k above within g. dead_past next start dead accepts grammar m p b (take (k - length p - 1) t ++ g.0) stops (subst grammar (ap (λ x. x ++ g.0) (take_past p b t k above) ∙ append_assoc p (b ∷ take (k - length p - 1) t) g.0) g.1);
}
