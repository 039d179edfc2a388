-- Decimals and bounds: where their reading stops.
use Rattle.std.proofs.Common.{◌≡◌, ℕ, ◌<◌, ◌≤◌, inl, inr, Bool, true, false, cond, ◌&&◌, ◌||◌, eqb, List, [], ◌∷◌, ◌++◌, length, refl, ap, sym, ◌∙◌, subst, arith}
use Rattle.std.specs.Prelude.{nat_lt}
use Rattle.std.specs.Char.{digit_value}
use Rattle.std.specs.Str.Parse.{AllDigits, IsNumeral}
use Rattle.std.proofs.lemmas.Bool.{lt-ltb, le-ltb, ne_eqb}
use Rattle.std.proofs.lemmas.List.{append_assoc, append-nil}
use Rattle.decimal_text.specs.Head.{HasNoDigit, DoesNotBegin, IsBehind}
use Rattle.decimal_text.specs.Sign.{Sign, absent, plus, minus, sign_text}
use Rattle.decimal_text.specs.Decimal.{Mantissa, plain, pointed, mantissa_text, mantissa_digits, Exponent, none, power, exponent_text, IsExponent, decimal_value, DecimalGrammar}
use Rattle.decimal_text.specs.Bound.{infinity, BoundGrammar}
use Rattle.decimal_text.specs.Prefix.{BeginsText}
use Rattle.decimal_text.specs.Parts.{EndsMantissa}
use Rattle.decimal_text.proofs.Numerals.{AllDigits-split}
use Rattle.decimal_text.proofs.Machines.{run, run-append, run-digits, Reads, Stops}
use Rattle.decimal_text.proofs.Counts as tail
use Rattle.decimal_text.proofs.CountTexts.{numeral_onward}
use Rattle.decimal_text.proofs.WholeTexts.{is_sign, signs_apart, sign_is_sign}

pub data State : Type 0 where
  start : State
  signed : State
  whole : State
  point : State
  fraction : State
  in_power : tail.State → State
  first : State
  second : State
  infinite : State
  dead : State

abbrev pub wrap : tail.State → State
wrap tail.start = in_power tail.start
wrap tail.signed = in_power tail.signed
wrap tail.digits = in_power tail.digits
wrap tail.dead = dead

abbrev pub is_digit : ℕ → Bool
is_digit b = nat_lt (digit_value b) 10

abbrev pub is_letter : ℕ → Bool
is_letter b = eqb b 101 || eqb b 69

-- the state after the first byte behind a sign
abbrev pub unsigned : Bool → ℕ → State
unsigned bound b = cond (is_digit b) whole (cond (eqb b 46) point (cond (bound && eqb b 73) first dead))

abbrev pub next : Bool → State → ℕ → State
next bound start b = cond (is_sign b) signed (unsigned bound b)
next bound signed b = unsigned bound b
next bound whole b = cond (is_digit b) whole (cond (eqb b 46) fraction (cond (is_letter b) (in_power tail.start) dead))
next bound point b = cond (is_digit b) fraction dead
next bound fraction b = cond (is_digit b) fraction (cond (is_letter b) (in_power tail.start) dead)
next bound (in_power st) b = wrap (tail.next is_sign st b)
next bound first b = cond (eqb b 78) second dead
next bound second b = cond (eqb b 70) infinite dead
next bound infinite b = dead
next bound dead b = dead

abbrev pub accepts : State → Bool
accepts whole = true
accepts fraction = true
accepts (in_power st) = tail.accepts st
accepts infinite = true
accepts _ = false

abbrev pub has_sign : Sign → Bool
has_sign absent = false
has_sign plus = true
has_sign minus = true

-- the state behind a sign, or where there is none
abbrev pub front : Bool → State
front true = signed
front false = start

pub after_sign : (bound : Bool) (sign : Sign) (s : List ℕ) → run (next bound) start (sign_text sign ++ s) ≡ run (next bound) (front (has_sign sign)) s
after_sign bound absent s = refl
after_sign bound plus s = refl
after_sign bound minus s = refl

is_digit_true : (b : ℕ) → digit_value b < 10 → is_digit b ≡ true
is_digit_true b h = lt-ltb (digit_value b) 10 h

keeps_whole : (bound : Bool) (b : ℕ) → digit_value b < 10 → next bound whole b ≡ whole
keeps_whole bound b h = rw (is_digit_true b h) refl

keeps_fraction : (bound : Bool) (b : ℕ) → digit_value b < 10 → next bound fraction b ≡ fraction
keeps_fraction bound b h = rw (is_digit_true b h) refl

first_digit : (bound has : Bool) (d : ℕ) → digit_value d < 10 → next bound (front has) d ≡ whole
first_digit bound true d h = rw (is_digit_true d h) refl
first_digit bound false d h = rw (signs_apart d h, is_digit_true d h) refl

wholes : (bound has : Bool) (d : ℕ) (ds : List ℕ) → digit_value d < 10 → AllDigits 10 ds → run (next bound) (front has) (d ∷ ds) ≡ whole
wholes bound has d ds h k = ap (λ st. run (next bound) st ds) (first_digit bound has d h) ∙ run-digits (next bound) whole (keeps_whole bound) ds k

-- the state behind a mantissa
abbrev pub after : Mantissa → State
after (plain ds) = whole
after (pointed ds es) = fraction

pub first_point : (bound has : Bool) → next bound (front has) 46 ≡ point
first_point true true = refl
first_point true false = refl
first_point false true = refl
first_point false false = refl

pub after_mantissa : (bound has : Bool) (m : Mantissa) → IsNumeral 10 (mantissa_digits m) → run (next bound) (front has) (mantissa_text m) ≡ after m
after_mantissa bound has (plain []) h = absurd (omega (arith, h.0))
after_mantissa bound has (plain (d ∷ ds)) h = wholes bound has d ds h.1.0 h.1.1
after_mantissa bound has (pointed [] []) h = absurd (omega (arith, h.0))
after_mantissa bound has (pointed [] (e ∷ es)) h =
    let there : next bound point e ≡ fraction = rw (is_digit_true e h.1.0) refl in
    ap (λ st. run (next bound) st (e ∷ es)) (first_point bound has) ∙ (ap (λ st. run (next bound) st es) there ∙ run-digits (next bound) fraction (keeps_fraction bound) es h.1.1)
after_mantissa bound has (pointed (d ∷ ds) es) h =
    let both = AllDigits-split ds es h.1.1 in
    run-append (next bound) (front has) (d ∷ ds) (46 ∷ es) ∙ (ap (λ st. run (next bound) st (46 ∷ es)) (wholes bound has d ds h.1.0 both.0) ∙ run-digits (next bound) fraction (keeps_fraction bound) es both.1)

pub after_letter : (bound : Bool) (m : Mantissa) (capital : Bool) → next bound (after m) (cond capital 69 101) ≡ in_power tail.start
after_letter bound (plain ds) true = refl
after_letter bound (plain ds) false = refl
after_letter bound (pointed ds es) true = refl
after_letter bound (pointed ds es) false = refl

wrap_next : (bound : Bool) (st : tail.State) (b : ℕ) → next bound (wrap st) b ≡ wrap (tail.next is_sign st b)
wrap_next bound tail.start b = refl
wrap_next bound tail.signed b = refl
wrap_next bound tail.digits b = refl
wrap_next bound tail.dead b = refl

pub run_wrap : (bound : Bool) (st : tail.State) (s : List ℕ) → run (next bound) (wrap st) s ≡ wrap (run (tail.next is_sign) st s)
run_wrap bound st [] = refl
run_wrap bound st (b ∷ s) = ap (λ x. run (next bound) x s) (wrap_next bound st b) ∙ run_wrap bound (tail.next is_sign st b) s

accepts_wrap : (st : tail.State) → accepts (wrap st) ≡ tail.accepts st
accepts_wrap tail.start = refl
accepts_wrap tail.signed = refl
accepts_wrap tail.digits = refl
accepts_wrap tail.dead = refl

after_exponent : (bound : Bool) (m : Mantissa) (e : Exponent) → IsExponent e → accepts (run (next bound) (after m) (exponent_text e)) ≡ true
after_exponent bound (plain ds) none h = refl
after_exponent bound (pointed ds es) none h = refl
after_exponent bound m (power capital sign ds) h =
    let s = sign_text sign ++ ds in
    let there : run (next bound) (after m) ((cond capital 69 101) ∷ s) ≡ wrap tail.digits = ap (λ st. run (next bound) st s) (after_letter bound m capital) ∙ (run_wrap bound tail.start s ∙ ap wrap (tail.reads is_sign signs_apart (sign_text sign) ds (sign_is_sign sign) h)) in
    ap accepts there

decimal_sound : (bound : Bool) (s : List ℕ) → DecimalGrammar s → accepts (run (next bound) start s) ≡ true
decimal_sound bound s g =
    let t = g.1 in
    let rest = mantissa_text t.mantissa ++ exponent_text t.exponent in
    let there : run (next bound) start s ≡ run (next bound) (after t.mantissa) (exponent_text t.exponent) = ap (λ x. run (next bound) start x) t.text ∙ (after_sign bound t.sign rest ∙ (run-append (next bound) (front (has_sign t.sign)) (mantissa_text t.mantissa) (exponent_text t.exponent) ∙ ap (λ st. run (next bound) st (exponent_text t.exponent)) (after_mantissa bound (has_sign t.sign) t.mantissa t.numeral))) in
    ap accepts there ∙ after_exponent bound t.mantissa t.exponent t.powers

infinite_run : (sign : Sign) → accepts (run (next true) start (sign_text sign ++ infinity)) ≡ true
infinite_run absent = refl
infinite_run plus = refl
infinite_run minus = refl

abbrev pub Grammar : Bool → List ℕ → Type 0
Grammar true = BoundGrammar
Grammar false = DecimalGrammar

sound : (bound : Bool) (s : List ℕ) → Grammar bound s → accepts (run (next bound) start s) ≡ true
sound false s g = decimal_sound false s g
sound true s (inl g) = decimal_sound true s g
sound true s (inr g) = ap (λ x. accepts (run (next true) start x)) g.1 ∙ infinite_run g.0

pub decimal_reads : (bound : Bool) → Reads (next bound) start dead accepts (Grammar bound)
decimal_reads bound = record { sound = sound bound; stays = λ b. refl; refuses = refl }

-- what stands behind a sign in a bound that is no infinity
abbrev pub IsFinite : Bool → List ℕ → Type 0
IsFinite true s = DoesNotBegin 73 s
IsFinite false s = Unit {0}

no_first : (bound : Bool) (b : ℕ) (t : List ℕ) → IsFinite bound (b ∷ t) → (bound && eqb b 73) ≡ false
no_first true b t h = ne_eqb b 73 h
no_first false b t h = refl

no_unsigned : (bound : Bool) (b : ℕ) (t : List ℕ) → 10 ≤ digit_value b → (b ≡ 46 → ⊥) → IsFinite bound (b ∷ t) → unsigned bound b ≡ dead
no_unsigned bound b t h k f = rw (le-ltb (digit_value b) 10 h, ne_eqb b 46 k, no_first bound b t f) refl

pub stops_front : (bound : Bool) (sign : Sign) (rest : List ℕ) → IsBehind sign rest → HasNoDigit rest → DoesNotBegin 46 rest → IsFinite bound rest → Stops (next bound) dead accepts (front (has_sign sign)) rest
stops_front bound absent [] b h k f = refl
stops_front bound plus [] b h k f = refl
stops_front bound minus [] b h k f = refl
stops_front bound absent (c ∷ t) b h k f = rw (ne_eqb c 43 b.0, ne_eqb c 45 b.1) (no_unsigned bound c t h k f)
stops_front bound plus (c ∷ t) b h k f = no_unsigned bound c t h k f
stops_front bound minus (c ∷ t) b h k f = no_unsigned bound c t h k f

pub stops_point : (bound : Bool) (rest : List ℕ) → HasNoDigit rest → Stops (next bound) dead accepts point rest
stops_point bound [] h = refl
stops_point bound (c ∷ t) h = rw (le-ltb (digit_value c) 10 h) refl

pub stops_after : (bound : Bool) (m : Mantissa) (rest : List ℕ) → EndsMantissa m rest → 0 < length rest → DoesNotBegin 101 rest → DoesNotBegin 69 rest → Stops (next bound) dead accepts (after m) rest
stops_after bound m [] e h k l = absurd (omega (arith, h))
stops_after bound (plain ds) (c ∷ t) e h k l = rw (le-ltb (digit_value c) 10 e.0, ne_eqb c 46 e.1, ne_eqb c 101 k, ne_eqb c 69 l) refl
stops_after bound (pointed ds es) (c ∷ t) e h k l = rw (le-ltb (digit_value c) 10 e, ne_eqb c 101 k, ne_eqb c 69 l) refl

pub stops_wrap : (bound : Bool) (st : tail.State) (rest : List ℕ) → Stops (tail.next is_sign) tail.dead tail.accepts st rest → Stops (next bound) dead accepts (wrap st) rest
stops_wrap bound st [] h = accepts_wrap st ∙ h
stops_wrap bound st (c ∷ t) h = wrap_next bound st c ∙ ap wrap h

-- one zero more makes a decimal of a sign and a point without digits
abbrev pub with_zero : Mantissa → Mantissa
with_zero (plain ds) = plain (ds ++ 48 ∷ [])
with_zero (pointed ds es) = pointed ds (es ++ 48 ∷ [])

with_zero_text : (m : Mantissa) → mantissa_text m ++ 48 ∷ [] ≡ mantissa_text (with_zero m)
with_zero_text (plain ds) = refl
with_zero_text (pointed ds es) = append_assoc ds (46 ∷ es) (48 ∷ [])

with_zero_digits : (m : Mantissa) → AllDigits 10 (mantissa_digits m) → IsNumeral 10 (mantissa_digits (with_zero m))
with_zero_digits (plain ds) h = numeral_onward ds h
with_zero_digits (pointed ds es) h = subst (λ x. IsNumeral 10 x) (append_assoc ds es (48 ∷ [])) (numeral_onward (ds ++ es) h)

pub begins_as : (bound : Bool) (p : List ℕ) → BeginsText DecimalGrammar p → BeginsText (Grammar bound) p
begins_as false p b = b
begins_as true p b = (b.0, inl b.1)

pub begins_mantissa : (sign : Sign) (m : Mantissa) → AllDigits 10 (mantissa_digits m) → BeginsText DecimalGrammar (sign_text sign ++ mantissa_text m)
begins_mantissa sign m h = (
  48 ∷ [],
  (
    decimal_value sign (with_zero m) none,
    record {
      sign = sign;
      mantissa = with_zero m;
      exponent = none;
      text = append_assoc (sign_text sign) (mantissa_text m) (48 ∷ []) ∙ ap (λ x. sign_text sign ++ x) (with_zero_text m ∙ sym (append-nil (mantissa_text (with_zero m))));
      numeral = with_zero_digits m h;
      powers = tt;
      value = refl;
    },
  ),
)

pub begins_power : (sign : Sign) (m : Mantissa) (capital : Bool) (e : Sign) (ds : List ℕ) → IsNumeral 10 (mantissa_digits m) → AllDigits 10 ds → BeginsText DecimalGrammar (sign_text sign ++ (mantissa_text m ++ exponent_text (power capital e ds)))
begins_power sign m capital e ds h k = (
  48 ∷ [],
  (
    decimal_value sign m (power capital e (ds ++ 48 ∷ [])),
    record {
      sign = sign;
      mantissa = m;
      exponent = power capital e (ds ++ 48 ∷ []);
      text = simp append_assoc;
      numeral = h;
      powers = numeral_onward ds k;
      value = refl;
    },
  ),
)
