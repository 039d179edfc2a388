-- Texts of counts.
use Rattle.std.proofs.Common.{◌≡◌, ℕ, ◌-◌, ◌<◌, Bool, true, false, List, [], ◌∷◌, ◌++◌, length, refl, ap, sym, ◌∙◌, subst, arith, eqb}
use Rattle.std.specs.Char.{digit_value}
use Rattle.std.specs.Str.Parse.{AllDigits, IsNumeral, digits_value}
use Rattle.std.proofs.lemmas.Bool.{ne_eqb}
use Rattle.std.proofs.lemmas.List.{append_assoc, append-nil, length-append}
use Rattle.std.proofs.lemmas.Str.Parse.{digit_from_value}
use Rattle.decimal_text.specs.Head.{HasNoDigit, DoesNotBegin}
use Rattle.decimal_text.specs.Sign.{optional}
use Rattle.decimal_text.specs.Count.{CountText, CountGrammar}
use Rattle.decimal_text.specs.Prefix.{BeginsText, LeavesAt}
use Rattle.decimal_text.proofs.Numerals.{AllDigits-append}
use Rattle.decimal_text.proofs.Machines.{Reads, leaves}
use Rattle.decimal_text.proofs.Counts.{start, dead, next, accepts, AreSigns, IsSign, HasNoSign, reads, stops}

abbrev pub is_plus : ℕ → Bool
is_plus b = eqb b 43

pub not_a_digit : (b c : ℕ) → c < 48 → digit_value b < 10 → eqb b c ≡ false
not_a_digit b c low h = ne_eqb b c (λ e. omega (arith, digit_from_value b h))

plus_apart : AreSigns is_plus
plus_apart b h = not_a_digit b 43 (omega arith) h

is_sign : (plus : Bool) → IsSign is_plus (optional 43 plus)
is_sign true = refl
is_sign false = tt

has_none : (plus : Bool) (s : List ℕ) → (plus ≡ false → DoesNotBegin 43 s) → HasNoSign is_plus (optional 43 plus) s
has_none true s h = tt
has_none false [] h = tt
has_none false (b ∷ s) h = ne_eqb b 43 (h refl)

count_reads : Reads (next is_plus) start dead accepts CountGrammar
count_reads = record {
  sound = λ s g. rw g.1.text (ap accepts (reads is_plus plus_apart (optional 43 g.1.has_plus) g.1.digits (is_sign g.1.has_plus) g.1.numeral));
  stays = λ b. refl;
  refuses = refl;
}

-- digits, and a zero behind them
pub numeral_onward : (ds : List ℕ) → AllDigits 10 ds → IsNumeral 10 (ds ++ 48 ∷ [])
numeral_onward ds h = (omega (arith, length-append ds (48 ∷ [])), AllDigits-append ds (48 ∷ []) h (omega arith, tt))

count_begins : (plus : Bool) (ds : List ℕ) → AllDigits 10 ds → BeginsText CountGrammar (optional 43 plus ++ ds)
count_begins plus ds h = (
  48 ∷ [],
  (
    digits_value 10 (ds ++ 48 ∷ []),
    record {
      has_plus = plus;
      digits = ds ++ 48 ∷ [];
      text = append_assoc (optional 43 plus) ds (48 ∷ []);
      numeral = numeral_onward ds h;
      value = refl;
    },
  ),
)

pub count_leaves : (s u : List ℕ) (plus : Bool) (ds rest : List ℕ) (at : ℕ) → s ≡ optional 43 plus ++ u → u ≡ ds ++ rest → (plus ≡ false → DoesNotBegin 43 u) → AllDigits 10 ds → HasNoDigit rest → (0 < length ds → 0 < length rest) → at ≡ length s - length rest → LeavesAt CountGrammar s at
count_leaves s u plus ds rest at e parts none h k more place =
    let p : List ℕ = optional 43 plus ++ ds in
    let whole : s ≡ p ++ rest = e ∙ (ap (λ x. optional 43 plus ++ x) parts ∙ sym (append_assoc (optional 43 plus) ds rest)) in
    let here : at ≡ length p = omega (arith, ap length whole, length-append p rest) in
    let l : LeavesAt CountGrammar (p ++ rest) (length p) = leaves (next is_plus) start dead accepts CountGrammar count_reads p rest (count_begins plus ds h) (stops is_plus plus_apart (optional 43 plus) ds rest (is_sign plus) (has_none plus (ds ++ rest) (λ n. subst (λ x. DoesNotBegin 43 x) parts (none n))) h k more) in
    subst (λ n. LeavesAt CountGrammar s n) (sym here) (subst (λ x. LeavesAt CountGrammar x (length p)) (sym whole) l)

pub no_more : (ds rest : List ℕ) → length rest ≡ 0 → ds ++ rest ≡ ds
no_more ds [] e = append-nil ds
no_more ds (b ∷ t) e = absurd (omega (arith, e))

pub count_made : (s u : List ℕ) (plus : Bool) (ds rest : List ℕ) → s ≡ optional 43 plus ++ u → u ≡ ds ++ rest → AllDigits 10 ds → 0 < length ds → length rest ≡ 0 → CountText s (digits_value 10 ds)
count_made s u plus ds rest e parts h k none = record {
  has_plus = plus;
  digits = ds;
  text = e ∙ ap (λ x. optional 43 plus ++ x) (parts ∙ no_more ds rest none);
  numeral = (k, h);
  value = refl;
}
