-- Texts of decimals and bounds.
use Rattle.std.proofs.Common.{◌≡◌, ℕ, ◌+◌, ◌-◌, ◌<◌, inl, inr, Bool, true, false, cond, List, [], ◌∷◌, ◌++◌, length, refl, ap, sym, ◌∙◌, subst, arith}
use Rattle.std.specs.Str.Parse.{AllDigits, IsNumeral, digits_value}
use Rattle.std.proofs.lemmas.List.{append_assoc, length-append}
use Rattle.decimal_text.specs.Head.{IsBehind}
use Rattle.decimal_text.specs.Sign.{Sign, sign_text, is_minus}
use Rattle.decimal_text.specs.Decimal.{Mantissa, plain, pointed, mantissa_text, mantissa_digits, power, exponent_text, DecimalText, DecimalGrammar, powered}
use Rattle.decimal_text.specs.Bound.{BoundGrammar, EndsInfinity, InfinityStop}
use Rattle.std.proofs.lemmas.Bool.{ne_eqb}
use Rattle.decimal_text.specs.Prefix.{BeginsText, LeavesAt}
use Rattle.decimal_text.specs.Parts.{MantissaSplit, EndsMantissa, MantissaMissing, PowerMissing, PowerBroken, UnsignedStop, UnsignedSplit}
use Rattle.decimal_text.proofs.Numerals.{AllDigits-append}
use Rattle.decimal_text.proofs.Machines.{run, run-append, Stops, leaves}
use Rattle.decimal_text.proofs.Counts as tail
use Rattle.decimal_text.proofs.WholeTexts.{is_sign, signs_apart, sign_is_sign, behind_sign}
use Rattle.decimal_text.proofs.Decimals.{next, start, dead, accepts, first, front, has_sign, after, wrap, Grammar, decimal_reads, IsFinite, after_sign, after_mantissa, after_letter, run_wrap, stops_front, stops_point, stops_after, stops_wrap, begins_as, begins_mantissa, begins_power, first_point}

-- a grammar is left behind the part of a text that was read
stopped : (bound : Bool) (s p rest : List ℕ) (at left : ℕ) → s ≡ p ++ rest → left ≡ length rest → at ≡ length s - left → BeginsText (Grammar bound) p → Stops (next bound) dead accepts (run (next bound) start p) rest → LeavesAt (Grammar bound) s at
stopped bound s p rest at left e l place b stop =
    let here : at ≡ length p = omega (arith, ap length e, length-append p rest) in
    let done : LeavesAt (Grammar bound) (p ++ rest) (length p) = leaves (next bound) start dead accepts (Grammar bound) (decimal_reads bound) p rest b stop in
    subst (λ n. LeavesAt (Grammar bound) s n) (sym here) (subst (λ x. LeavesAt (Grammar bound) x (length p)) (sym e) done)

at_end : (bound : Bool) (s p rest : List ℕ) (at left : ℕ) → s ≡ p ++ rest → left ≡ length rest → at ≡ length s - left → BeginsText DecimalGrammar p → Stops (next bound) dead accepts (run (next bound) start p) rest → LeavesAt (Grammar bound) s at
at_end bound s p rest at left e l place b stop = stopped bound s p rest at left e l place (begins_as bound p b) stop

joined : (s u m rest : List ℕ) (sign : Sign) → s ≡ sign_text sign ++ u → u ≡ m ++ rest → s ≡ (sign_text sign ++ m) ++ rest
joined s u m rest sign e f = e ∙ (ap (λ x. sign_text sign ++ x) f ∙ sym (append_assoc (sign_text sign) m rest))

-- the state behind a sign and a mantissa without digits
empty_stops : (bound : Bool) (sign : Sign) (m : Mantissa) (rest : List ℕ) → mantissa_digits m ≡ [] → EndsMantissa m rest → IsBehind sign (mantissa_text m ++ rest) → IsFinite bound (mantissa_text m ++ rest) → Stops (next bound) dead accepts (run (next bound) (front (has_sign sign)) (mantissa_text m)) rest
empty_stops bound sign (plain []) rest z e b f = stops_front bound sign rest b e.0 e.1 f
empty_stops bound sign (plain (d ∷ ds)) rest z e b f = cc
empty_stops bound sign (pointed [] []) rest z e b f = subst (λ st. Stops (next bound) dead accepts st rest) (sym (first_point bound (has_sign sign))) (stops_point bound rest e)
empty_stops bound sign (pointed [] (d ∷ ds)) rest z e b f = cc
empty_stops bound sign (pointed (d ∷ ds) es) rest z e b f = cc

-- the digits of a mantissa as they are read
digits_of : (u before after rest : List ℕ) → (t : MantissaSplit u before after rest) → AllDigits 10 (mantissa_digits t.mantissa)
digits_of u before after rest t = subst (λ x. AllDigits 10 x) (sym t.joined) (AllDigits-append before after t.before_digits t.after_digits)

missing_leaves : (bound : Bool) (s u : List ℕ) (sign : Sign) (at left : ℕ) → s ≡ sign_text sign ++ u → IsBehind sign u → IsFinite bound u → MantissaMissing u left → at ≡ length s - left → LeavesAt (Grammar bound) s at
missing_leaves bound s u sign at left e b f h place =
    let m = h.mantissa.mantissa in
    let parts = h.mantissa.parts in
    let stop : Stops (next bound) dead accepts (run (next bound) (front (has_sign sign)) (mantissa_text m)) h.rest = empty_stops bound sign m h.rest h.mantissa.joined h.mantissa.ends (subst (λ x. IsBehind sign x) parts b) (subst (λ x. IsFinite bound x) parts f) in
    at_end bound s (sign_text sign ++ mantissa_text m) h.rest at left (joined s u (mantissa_text m) h.rest sign e parts) h.all place (begins_mantissa sign m (digits_of u [] [] h.rest h.mantissa)) (subst (λ st. Stops (next bound) dead accepts st h.rest) (sym (after_sign bound sign (mantissa_text m))) stop)

numeral_of : (u before after rest : List ℕ) → (t : MantissaSplit u before after rest) → 0 < length (before ++ after) → IsNumeral 10 (mantissa_digits t.mantissa)
numeral_of u before after rest t h = (subst (λ x. 0 < length x) (sym t.joined) h, digits_of u before after rest t)

to_mantissa : (bound : Bool) (sign : Sign) (m : Mantissa) → IsNumeral 10 (mantissa_digits m) → run (next bound) start (sign_text sign ++ mantissa_text m) ≡ after m
to_mantissa bound sign m h = after_sign bound sign (mantissa_text m) ∙ after_mantissa bound (has_sign sign) m h

unpowered_leaves : (bound : Bool) (s u before after_point rest : List ℕ) (sign : Sign) (at left : ℕ) → s ≡ sign_text sign ++ u → MantissaSplit u before after_point rest → 0 < length (before ++ after_point) → PowerMissing rest left → at ≡ length s - left → LeavesAt (Grammar bound) s at
unpowered_leaves bound s u before after_point rest sign at left e t up h place =
    let m = t.mantissa in
    let numeral = numeral_of u before after_point rest t up in
    at_end bound s (sign_text sign ++ mantissa_text m) rest at left (joined s u (mantissa_text m) rest sign e t.parts) h.all place (begins_mantissa sign m numeral.1) (subst (λ st. Stops (next bound) dead accepts st rest) (sym (to_mantissa bound sign m numeral)) (stops_after bound m rest t.ends h.present h.small h.capital))

to_power : (bound : Bool) (sign : Sign) (m : Mantissa) (capital : Bool) (p : List ℕ) → IsNumeral 10 (mantissa_digits m) → run (next bound) start (sign_text sign ++ (mantissa_text m ++ (cond capital 69 101) ∷ p)) ≡ wrap (run (tail.next is_sign) tail.start p)
to_power bound sign m capital p h =
    let q = (cond capital 69 101) ∷ p in
    after_sign bound sign (mantissa_text m ++ q) ∙ (run-append (next bound) (front (has_sign sign)) (mantissa_text m) q ∙ (ap (λ st. run (next bound) st q) (after_mantissa bound (has_sign sign) m h) ∙ (ap (λ st. run (next bound) st p) (after_letter bound m capital) ∙ run_wrap bound tail.start p)))

broken_leaves : (bound : Bool) (s u before after_point rest : List ℕ) (sign : Sign) (at left : ℕ) → s ≡ sign_text sign ++ u → MantissaSplit u before after_point rest → 0 < length (before ++ after_point) → PowerBroken rest left → at ≡ length s - left → LeavesAt (Grammar bound) s at
broken_leaves bound s u before after_point rest sign at left e t up h place =
    let m = t.mantissa in
    let numeral = numeral_of u before after_point rest t up in
    let x = exponent_text (power h.is_capital h.sign h.digits) in
    let read : u ≡ (mantissa_text m ++ x) ++ h.rest = t.parts ∙ (ap (λ y. mantissa_text m ++ y) h.parts ∙ (simp append_assoc)) in
    let stop : Stops (tail.next is_sign) tail.dead tail.accepts (run (tail.next is_sign) tail.start (sign_text h.sign ++ h.digits)) h.rest = tail.stops is_sign signs_apart (sign_text h.sign) h.digits h.rest (sign_is_sign h.sign) (behind_sign h.sign (h.digits ++ h.rest) h.behind) h.are_digits h.ends h.more in
    at_end bound s (sign_text sign ++ (mantissa_text m ++ x)) h.rest at left (joined s u (mantissa_text m ++ x) h.rest sign e read) h.all place (begins_power sign m h.is_capital h.sign h.digits numeral h.are_digits) (subst (λ st. Stops (next bound) dead accepts st h.rest) (sym (to_power bound sign m h.is_capital (sign_text h.sign ++ h.digits) numeral)) (stops_wrap bound (run (tail.next is_sign) tail.start (sign_text h.sign ++ h.digits)) h.rest stop))

pub decimal_leaves : (bound : Bool) (s u : List ℕ) (sign : Sign) (at left : ℕ) → s ≡ sign_text sign ++ u → IsBehind sign u → IsFinite bound u → UnsignedStop u left → at ≡ length s - left → LeavesAt (Grammar bound) s at
decimal_leaves bound s u sign at left e b f (inl h) place = missing_leaves bound s u sign at left e b f h place
decimal_leaves bound s u sign at left e b f (inr h) place =
    elim h.stop as (λ _. LeavesAt (Grammar bound) s at) [
      | inl stop ↦ unpowered_leaves bound s u h.before h.after h.rest sign at left e h.mantissa h.present stop place
      | inr stop ↦ broken_leaves bound s u h.before h.after h.rest sign at left e h.mantissa h.present stop place
    ]

-- the value that a decimal's parts write
pub decimal_made : (s u before after_point power_digits : List ℕ) (is_down : Bool) (sign : Sign) → s ≡ sign_text sign ++ u → UnsignedSplit u before after_point is_down power_digits → DecimalText s (powered (is_minus sign) (digits_value 10 (before ++ after_point)) (cond is_down 0 (digits_value 10 power_digits)) (length after_point + cond is_down (digits_value 10 power_digits) 0))
decimal_made s u before after_point power_digits is_down sign e t = record {
  sign = sign;
  mantissa = t.mantissa.mantissa;
  exponent = t.exponent.exponent;
  text = e ∙ ap (λ x. sign_text sign ++ x) (t.mantissa.parts ∙ ap (λ x. mantissa_text t.mantissa.mantissa ++ x) t.exponent.parts);
  numeral = numeral_of u before after_point t.rest t.mantissa t.present;
  powers = t.exponent.powers;
  value = cc (ap (λ x. digits_value 10 x) t.mantissa.joined, t.mantissa.point, t.exponent.rise, t.exponent.fall);
}

front_first : (has : Bool) → next true (front has) 73 ≡ first
front_first true = refl
front_first false = refl

-- as much of `INF` as there is begins one
begins_infinity : (sign : Sign) (read rest : List ℕ) → read ++ rest ≡ 78 ∷ 70 ∷ [] → BeginsText BoundGrammar (sign_text sign ++ 73 ∷ read)
begins_infinity sign read rest e = (rest, inr (sign, append_assoc (sign_text sign) (73 ∷ read) rest ∙ ap (λ x. sign_text sign ++ 73 ∷ x) e))

stops_infinity : (read rest : List ℕ) → EndsInfinity read rest → Stops (next true) dead accepts (run (next true) first read) rest
stops_infinity read [] (inl h) = ap (λ x. accepts (run (next true) first x)) h.0
stops_infinity read (c ∷ t) (inl h) = ap (λ x. next true (run (next true) first x) c) h.0 ∙ (rw (ne_eqb c 78 h.1) refl)
stops_infinity read [] (inr (inl h)) = ap (λ x. accepts (run (next true) first x)) h.0
stops_infinity read (c ∷ t) (inr (inl h)) = ap (λ x. next true (run (next true) first x) c) h.0 ∙ (rw (ne_eqb c 70 h.1) refl)
stops_infinity read [] (inr (inr h)) = absurd (omega (arith, h.1))
stops_infinity read (c ∷ t) (inr (inr h)) = ap (λ x. next true (run (next true) first x) c) h.0

rest_of : (read rest : List ℕ) → EndsInfinity read rest → (x : List ℕ) × (read ++ x ≡ 78 ∷ 70 ∷ [])
rest_of read rest (inl h) = (78 ∷ 70 ∷ [], ap (λ y. y ++ 78 ∷ 70 ∷ []) h.0)
rest_of read rest (inr (inl h)) = (70 ∷ [], ap (λ y. y ++ 70 ∷ []) h.0)
rest_of read rest (inr (inr h)) = ([], ap (λ y. y ++ []) h.0)

pub infinity_leaves : (s u behind : List ℕ) (sign : Sign) (at left : ℕ) → s ≡ sign_text sign ++ u → u ≡ 73 ∷ behind → InfinityStop behind left → at ≡ length s - left → LeavesAt BoundGrammar s at
infinity_leaves s u behind sign at left e f h place =
    let there : run (next true) start (sign_text sign ++ 73 ∷ h.read) ≡ run (next true) first h.read = after_sign true sign (73 ∷ h.read) ∙ ap (λ st. run (next true) st h.read) (front_first (has_sign sign)) in
    let more = rest_of h.read h.rest h.stop in
    stopped true s (sign_text sign ++ 73 ∷ h.read) h.rest at left (joined s u (73 ∷ h.read) h.rest sign e (f ∙ ap (λ x. 73 ∷ x) h.parts)) h.all place (begins_infinity sign h.read more.0 more.1) (subst (λ st. Stops (next true) dead accepts st h.rest) (sym there) (stops_infinity h.read h.rest h.stop))
