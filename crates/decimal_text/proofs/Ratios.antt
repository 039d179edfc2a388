-- Ratios: where their reading stops.
use Rattle.std.proofs.Common.{◌≡◌, ℕ, ◌+◌, ◌*◌, ◌-◌, ◌<◌, ◌≤◌, ◌⊎◌, inl, inr, Bool, true, false, cond, eqb, List, [], ◌∷◌, ◌++◌, length, pos, refl, ap, sym, ◌∙◌, subst, arith}
use Rattle.std.specs.Prelude.{nat_lt}
use Rattle.std.specs.Char.{digit_value}
use Rattle.std.specs.Str.Parse.{AllDigits, digits_value}
use Rattle.std.proofs.lemmas.Bool.{lt-ltb, le-ltb, ne_eqb}
use Rattle.std.proofs.lemmas.Int.Digits.{digits_value_push}
use Rattle.std.proofs.lemmas.Bool.Decides.{eqb_tells}
use Rattle.std.proofs.lemmas.List.{append_assoc, length-append}
use Rattle.rational.specs.Ratio.{whole}
use Rattle.rational.specs.Whole.{signed}
use Rattle.decimal_text.specs.Head.{HasNoDigit, DoesNotBegin, EndsPositive}
use Rattle.decimal_text.specs.Sign.{optional}
use Rattle.decimal_text.specs.Exact.{IsPositive, Under, absent, over, under_text, IsUnder, under_value, RatioGrammar, UnderStop}
use Rattle.decimal_text.specs.Prefix.{BeginsText, LeavesAt}
use Rattle.decimal_text.proofs.Numerals.{AllDigits-append}
use Rattle.decimal_text.proofs.Machines.{run, run-append, run-digits, Reads, Stops, leaves}
use Rattle.decimal_text.proofs.CountTexts.{not_a_digit}

pub data State : Type 0 where
  start : State
  nought : State
  signed_by : State
  top : State
  line : State
  one : State
  bottom : State
  dead : State

abbrev pub on_digit : State → ℕ → State
on_digit st b = cond (nat_lt (digit_value b) 10) st dead

abbrev pub next : State → ℕ → State
next start b = cond (eqb b 45) signed_by (cond (eqb b 48) nought (on_digit top b))
next nought b = dead
next signed_by b = cond (eqb b 48) dead (on_digit top b)
next top b = cond (nat_lt (digit_value b) 10) top (cond (eqb b 47) line dead)
next line b = cond (eqb b 48) dead (cond (eqb b 49) one (on_digit bottom b))
next one b = on_digit bottom b
next bottom b = on_digit bottom b
next dead b = dead

abbrev pub accepts : State → Bool
accepts nought = true
accepts top = true
accepts bottom = true
accepts _ = false

abbrev pub front : Bool → State
front true = signed_by
front false = start

after_sign : (has : Bool) (s : List ℕ) → run next start (optional 45 has ++ s) ≡ run next (front has) s
after_sign true s = refl
after_sign false s = refl

keeps_top : (b : ℕ) → digit_value b < 10 → next top b ≡ top
keeps_top b h = rw (lt-ltb (digit_value b) 10 h) refl

keeps_bottom : (b : ℕ) → digit_value b < 10 → next bottom b ≡ bottom
keeps_bottom b h = rw (lt-ltb (digit_value b) 10 h) refl

first_top : (has : Bool) (d : ℕ) → digit_value d < 10 → (d ≡ 48 → ⊥) → next (front has) d ≡ top
first_top true d h n = rw (ne_eqb d 48 n, lt-ltb (digit_value d) 10 h) refl
first_top false d h n = rw (not_a_digit d 45 (omega arith) h, ne_eqb d 48 n, lt-ltb (digit_value d) 10 h) refl

after_top : (has : Bool) (ds : List ℕ) → IsPositive ds → run next (front has) ds ≡ top
after_top has [] h = absurd (omega (arith, h.0.0))
after_top has (d ∷ ds) h = ap (λ st. run next st ds) (first_top has d h.0.1.0 h.1) ∙ run-digits next top keeps_top ds h.0.1.1

first_bottom : (d : ℕ) → digit_value d < 10 → (d ≡ 48 → ⊥) → (d ≡ 49 → ⊥) → next line d ≡ bottom
first_bottom d h n m = rw (ne_eqb d 48 n, ne_eqb d 49 m, lt-ltb (digit_value d) 10 h) refl

one_more : (d e : ℕ) → d ≡ 49 → digit_value e < 10 → next (next line d) e ≡ bottom
one_more d e z h = ap (λ x. next (next line x) e) z ∙ (rw (lt-ltb (digit_value e) 10 h) refl)

after_line : (ds : List ℕ) → IsPositive ds → (ds ≡ 49 ∷ [] → ⊥) → run next line ds ≡ bottom
after_line [] h n = absurd (omega (arith, h.0.0))
after_line (d ∷ []) h n = first_bottom d h.0.1.0 h.1 (λ z. n (ap (λ x. x ∷ []) z))
after_line (d ∷ e ∷ ds) h n =
    elim (eqb_tells d 49) as (λ _. run next line (d ∷ e ∷ ds) ≡ bottom) [
      | inl z ↦ ap (λ st. run next st ds) (one_more d e z.1 h.0.1.1.0) ∙ run-digits next bottom keeps_bottom ds h.0.1.1.1
      | inr z ↦ ap (λ st. run next st (e ∷ ds)) (first_bottom d h.0.1.0 h.1 z.1) ∙ run-digits next bottom keeps_bottom (e ∷ ds) h.0.1.1
    ]

not_one : (ds : List ℕ) → 2 ≤ digits_value 10 ds → ds ≡ 49 ∷ [] → ⊥
not_one ds h e = let k : digits_value 10 ds ≡ 1 = ap (λ x. digits_value 10 x) e in omega (arith, h, k)

after_under : (u : Under) → IsUnder u → accepts (run next top (under_text u)) ≡ true
after_under absent h = refl
after_under (over ds) h = ap accepts (after_line ds h.0 (not_one ds h.1))

to_top : (has : Bool) (ds s : List ℕ) → IsPositive ds → run next start (optional 45 has ++ (ds ++ s)) ≡ run next top s
to_top has ds s h = after_sign has (ds ++ s) ∙ (run-append next (front has) ds s ∙ ap (λ st. run next st s) (after_top has ds h))

sound : (s : List ℕ) → RatioGrammar s → accepts (run next start s) ≡ true
sound s (x, inl g) = ap (λ y. accepts (run next start y)) g.0
sound s (x, inr g) = ap (λ y. accepts (run next start y)) g.text ∙ (ap accepts (to_top g.is_negative g.digits (under_text g.under) g.positive) ∙ after_under g.under g.denominator)

ratio_reads : Reads next start dead accepts RatioGrammar
ratio_reads = record { sound = sound; stays = λ b. refl; refuses = refl }

not_positive : (b : ℕ) → (10 ≤ digit_value b) ⊎ (b ≡ 48) → (b ≡ 48 → ⊥) → 10 ≤ digit_value b
not_positive b (inl h) n = h
not_positive b (inr h) n = absurd (n h)

die : (st : State) (b : ℕ) → 10 ≤ digit_value b → on_digit st b ≡ dead
die st b h = rw (le-ltb (digit_value b) 10 h) refl

-- where there is no sign, the text begins neither with one nor with a zero
abbrev pub IsUnmarked : Bool → List ℕ → Type 0
IsUnmarked true s = Unit {0}
IsUnmarked false s = DoesNotBegin 45 s × DoesNotBegin 48 s

stops_front : (has : Bool) (rest : List ℕ) → EndsPositive [] rest → IsUnmarked has rest → Stops next dead accepts (front has) rest
stops_front true [] e u = refl
stops_front false [] e u = refl
stops_front true (b ∷ t) e u =
    elim (eqb_tells b 48) as (λ _. next signed_by b ≡ dead) [
      | inl z ↦ rw z.0 refl
      | inr z ↦ rw z.0 (die top b (not_positive b e z.1))
    ]
stops_front false (b ∷ t) e u = rw (ne_eqb b 45 u.0, ne_eqb b 48 u.1) (die top b (not_positive b e u.1))

stops_top : (rest : List ℕ) → HasNoDigit rest → 0 < length rest → DoesNotBegin 47 rest → Stops next dead accepts top rest
stops_top [] h k n = absurd (omega (arith, k))
stops_top (b ∷ t) h k n = rw (le-ltb (digit_value b) 10 h, ne_eqb b 47 n) refl

stops_line : (b : ℕ) → (10 ≤ digit_value b) ⊎ (b ≡ 48) → next line b ≡ dead
stops_line b e =
    elim (eqb_tells b 48) as (λ _. next line b ≡ dead) [
      | inl z ↦ rw z.0 refl
      | inr z ↦
          let h : 10 ≤ digit_value b = not_positive b e z.1 in
          rw (z.0, ne_eqb b 49 (λ k. let l : digit_value b ≡ 1 = ap digit_value k in omega (arith, h, l))) (die bottom b h)
    ]

stops_bottom : (ds rest : List ℕ) → AllDigits 10 ds → DoesNotBegin 48 ds → EndsPositive ds rest → (0 < length ds → (0 < length rest) ⊎ (ds ≡ 49 ∷ [])) → Stops next dead accepts (run next line ds) rest
stops_bottom [] [] h n e more = refl
stops_bottom [] (b ∷ t) h n e more = stops_line b e
stops_bottom (d ∷ []) [] h n e more = elim (more (omega arith)) as (λ _. accepts (next line d) ≡ false) [ inl k ↦ absurd (omega (arith, k)) | inr k ↦ ap (λ x. accepts (run next line x)) k ]
stops_bottom (d ∷ []) (b ∷ t) h n e more =
    elim (eqb_tells d 49) as (λ _. next (next line d) b ≡ dead) [
      | inl z ↦ ap (λ x. next (next line x) b) z.1 ∙ die bottom b e
      | inr z ↦ ap (λ st. next st b) (first_bottom d h.0 n z.1) ∙ die bottom b e
    ]
stops_bottom (d ∷ c ∷ ds) [] h n e more = elim (more (omega arith)) as (λ _. accepts (run next line (d ∷ c ∷ ds)) ≡ false) [ inl k ↦ absurd (omega (arith, k)) | inr k ↦ cc ]
stops_bottom (d ∷ c ∷ ds) (b ∷ t) h n e more = ap (λ st. next st b) (after_line (d ∷ c ∷ ds) ((omega arith, h), n) (λ k. cc)) ∙ die bottom b e

begins_with : (is_negative : Bool) (digits : List ℕ) (under : Under) (s : List ℕ) → s ≡ optional 45 is_negative ++ (digits ++ under_text under) → IsPositive digits → IsUnder under → RatioGrammar s
begins_with is_negative digits under s e h k = (
  record { num = signed is_negative (digits_value 10 digits); den = under_value under },
  inr (record {
    is_negative = is_negative;
    digits = digits;
    under = under;
    text = e;
    positive = h;
    denominator = k;
    num = refl;
    den = refl;
  }),
)

begins_front : (is_negative : Bool) → BeginsText RatioGrammar (optional 45 is_negative)
begins_front is_negative = (49 ∷ [], begins_with is_negative (49 ∷ []) absent (optional 45 is_negative ++ 49 ∷ []) refl ((omega arith, (omega arith, tt)), λ k. omega (arith, k)) tt)

begins_top : (is_negative : Bool) (ds : List ℕ) → IsPositive ds → BeginsText RatioGrammar (optional 45 is_negative ++ ds)
begins_top is_negative ds h = ([], begins_with is_negative ds absent ((optional 45 is_negative ++ ds) ++ []) (append_assoc (optional 45 is_negative) ds []) h tt)

onward : (ds : List ℕ) → AllDigits 10 ds → DoesNotBegin 48 ds → IsUnder (over (ds ++ 50 ∷ []))
onward [] h n = (((omega arith, (omega arith, tt)), λ k. omega (arith, k)), omega arith)
onward (d ∷ ds) h n = (((omega arith, AllDigits-append (d ∷ ds) (50 ∷ []) h (omega arith, tt)), n), let k : digits_value 10 ((d ∷ ds) ++ 50 ∷ []) ≡ digits_value 10 (d ∷ ds) * 10 + 2 = digits_value_push 10 (d ∷ ds) 50 in omega (arith, k))

begins_line : (is_negative : Bool) (ds bs : List ℕ) → IsPositive ds → AllDigits 10 bs → DoesNotBegin 48 bs → BeginsText RatioGrammar (optional 45 is_negative ++ (ds ++ 47 ∷ bs))
begins_line is_negative ds bs h k n = (50 ∷ [], begins_with is_negative ds (over (bs ++ 50 ∷ [])) _ (simp append_assoc) h (onward bs k n))

stopped : (s p rest : List ℕ) (at left : ℕ) → s ≡ p ++ rest → left ≡ length rest → at ≡ length s - left → BeginsText RatioGrammar p → Stops next dead accepts (run next start p) rest → LeavesAt RatioGrammar s at
stopped s p rest at left e l place b stop =
    let here : at ≡ length p = omega (arith, ap length e, length-append p rest) in
    let done : LeavesAt RatioGrammar (p ++ rest) (length p) = leaves next start dead accepts RatioGrammar ratio_reads p rest b stop in
    subst (λ n. LeavesAt RatioGrammar s n) (sym here) (subst (λ x. LeavesAt RatioGrammar x (length p)) (sym e) done)

zero_stops : (rest : List ℕ) → 0 < length rest → Stops next dead accepts nought rest
zero_stops [] h = absurd (omega (arith, h))
zero_stops (b ∷ t) h = refl

pub zero_leaves : (s rest : List ℕ) → s ≡ 48 ∷ rest → 0 < length rest → LeavesAt RatioGrammar s 1
zero_leaves s rest e h = stopped s (48 ∷ []) rest 1 (length rest) e refl (omega (arith, ap length e)) ([], (whole (pos 0), inl (refl, refl))) (zero_stops rest h)

front_run : (is_negative : Bool) → run next start (optional 45 is_negative) ≡ front is_negative
front_run true = refl
front_run false = refl

-- there are no digits behind an optional sign
pub front_leaves : (s u rest : List ℕ) (is_negative : Bool) (at : ℕ) → s ≡ optional 45 is_negative ++ rest → EndsPositive [] rest → IsUnmarked is_negative rest → at ≡ length s - length rest → LeavesAt RatioGrammar s at
front_leaves s u rest is_negative at e h n place = stopped s (optional 45 is_negative) rest at (length rest) e refl place (begins_front is_negative) (subst (λ st. Stops next dead accepts st rest) (sym (front_run is_negative)) (stops_front is_negative rest h n))

top_run : (is_negative : Bool) (ds : List ℕ) → IsPositive ds → run next start (optional 45 is_negative ++ ds) ≡ top
top_run is_negative ds h = after_sign is_negative ds ∙ after_top is_negative ds h

behind_digits : (ds rest : List ℕ) → 0 < length ds → EndsPositive ds rest → HasNoDigit rest
behind_digits [] rest h e = absurd (omega (arith, h))
behind_digits (d ∷ ds) rest h e = e

-- something stands behind the numerator that is no denominator
pub under_leaves : (s u ds rest : List ℕ) (is_negative : Bool) (at left : ℕ) → s ≡ optional 45 is_negative ++ u → u ≡ ds ++ rest → IsPositive ds → EndsPositive ds rest → UnderStop rest left → at ≡ length s - left → LeavesAt RatioGrammar s at
under_leaves s u ds rest is_negative at left e f h ends (inl m) place =
    stopped s (optional 45 is_negative ++ ds) rest at left (e ∙ (ap (λ x. optional 45 is_negative ++ x) f ∙ sym (append_assoc (optional 45 is_negative) ds rest))) m.all place (begins_top is_negative ds h) (subst (λ st. Stops next dead accepts st rest) (sym (top_run is_negative ds h)) (stops_top rest (behind_digits ds rest h.0.0 ends) m.present m.no_line))
under_leaves s u ds rest is_negative at left e f h ends (inr m) place =
    let p = optional 45 is_negative ++ (ds ++ 47 ∷ m.digits) in
    let read : s ≡ p ++ m.rest = e ∙ (ap (λ x. optional 45 is_negative ++ x) (f ∙ ap (λ x. ds ++ x) m.parts) ∙ (simp append_assoc)) in
    stopped s p m.rest at left read m.all place (begins_line is_negative ds m.digits h m.are_digits m.no_zero) (subst (λ st. Stops next dead accepts st m.rest) (sym (to_top is_negative ds (47 ∷ m.digits) h)) (stops_bottom m.digits m.rest m.are_digits m.no_zero m.ends m.more))
