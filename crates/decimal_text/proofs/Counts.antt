-- A sign and digits: where their reading stops.
use Rattle.std.proofs.Common.{◌≡◌, ℕ, ◌<◌, Bool, true, false, cond, List, [], ◌∷◌, ◌++◌, length, refl, ap, ◌∙◌, arith}
use Rattle.std.specs.Prelude.{nat_lt}
use Rattle.std.specs.Char.{digit_value}
use Rattle.std.specs.Str.Parse.{AllDigits, IsNumeral}
use Rattle.std.proofs.lemmas.Bool.{lt-ltb, le-ltb}
use Rattle.decimal_text.specs.Head.{HasNoDigit}
use Rattle.decimal_text.proofs.Machines.{run, run-digits, Stops}

pub data State : Type 0 where
  start : State
  signed : State
  digits : State
  dead : State

abbrev pub on_digit : State → ℕ → State
on_digit st b = cond (nat_lt (digit_value b) 10) st dead

abbrev pub next : (ℕ → Bool) → State → ℕ → State
next is_sign start b = cond (is_sign b) signed (on_digit digits b)
next is_sign signed b = on_digit digits b
next is_sign digits b = on_digit digits b
next is_sign dead b = dead

abbrev pub accepts : State → Bool
accepts digits = true
accepts _ = false

-- no digit is a sign
abbrev pub AreSigns : (ℕ → Bool) → Type 0
AreSigns is_sign = (b : ℕ) → digit_value b < 10 → is_sign b ≡ false

keeps : (is_sign : ℕ → Bool) (b : ℕ) → digit_value b < 10 → next is_sign digits b ≡ digits
keeps is_sign b h = rw (lt-ltb (digit_value b) 10 h) refl

after_sign : (is_sign : ℕ → Bool) (ds : List ℕ) → IsNumeral 10 ds → run (next is_sign) signed ds ≡ digits
after_sign is_sign [] h = absurd (omega (arith, h.0))
after_sign is_sign (d ∷ ds) h = rw (lt-ltb (digit_value d) 10 h.1.0) (run-digits (next is_sign) digits (keeps is_sign) ds h.1.1)

at_start : (is_sign : ℕ → Bool) → AreSigns is_sign → (ds : List ℕ) → IsNumeral 10 ds → run (next is_sign) start ds ≡ digits
at_start is_sign apart [] h = absurd (omega (arith, h.0))
at_start is_sign apart (d ∷ ds) h = rw (apart d h.1.0, lt-ltb (digit_value d) 10 h.1.0) (run-digits (next is_sign) digits (keeps is_sign) ds h.1.1)

-- nothing, or a sign
abbrev pub IsSign : (ℕ → Bool) → List ℕ → Type 0
IsSign is_sign [] = Unit {0}
IsSign is_sign (b ∷ []) = is_sign b ≡ true
IsSign is_sign (b ∷ c ∷ s) = ⊥

pub reads : (is_sign : ℕ → Bool) → AreSigns is_sign → (sg ds : List ℕ) → IsSign is_sign sg → IsNumeral 10 ds → run (next is_sign) start (sg ++ ds) ≡ digits
reads is_sign apart [] ds s h = at_start is_sign apart ds h
reads is_sign apart (b ∷ []) ds s h =
    let e : next is_sign start b ≡ signed = rw s refl in
    ap (λ st. run (next is_sign) st ds) e ∙ after_sign is_sign ds h
reads is_sign apart (b ∷ c ∷ t) ds s h = absurd s

-- where there is no sign the text doesn't begin with one
abbrev pub HasNoSign : (ℕ → Bool) → List ℕ → List ℕ → Type 0
HasNoSign is_sign [] (b ∷ s) = is_sign b ≡ false
HasNoSign is_sign _ _ = Unit {0}

no_digit : (is_sign : ℕ → Bool) (rest : List ℕ) → HasNoDigit rest → 0 < length rest → Stops (next is_sign) dead accepts digits rest
no_digit is_sign [] h k = absurd (omega (arith, k))
no_digit is_sign (b ∷ s) h k = rw (le-ltb (digit_value b) 10 h) refl

pub stops : (is_sign : ℕ → Bool) → AreSigns is_sign → (sg ds rest : List ℕ) → IsSign is_sign sg → HasNoSign is_sign sg (ds ++ rest) → AllDigits 10 ds → HasNoDigit rest → (0 < length ds → 0 < length rest) → Stops (next is_sign) dead accepts (run (next is_sign) start (sg ++ ds)) rest
stops is_sign apart sg (d ∷ ds) rest s n h k more =
    rw (reads is_sign apart sg (d ∷ ds) s (omega arith, h)) (no_digit is_sign rest k (more (omega arith)))
stops is_sign apart [] [] [] s n h k more = refl
stops is_sign apart [] [] (b ∷ t) s n h k more = rw (n, le-ltb (digit_value b) 10 k) refl
stops is_sign apart (c ∷ []) [] [] s n h k more = rw s refl
stops is_sign apart (c ∷ []) [] (b ∷ t) s n h k more = rw (s, le-ltb (digit_value b) 10 k) refl
stops is_sign apart (c ∷ e ∷ u) [] rest s n h k more = absurd s
