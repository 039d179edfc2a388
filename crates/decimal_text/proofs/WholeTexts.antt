-- Texts of whole numbers.
use Rattle.std.proofs.Common.{◌≡◌, ℕ, ◌-◌, ◌<◌, Bool, ◌||◌, List, [], ◌∷◌, ◌++◌, length, refl, ap, sym, ◌∙◌, subst, arith, eqb}
use Rattle.std.specs.Str.Parse.{AllDigits, digits_value}
use Rattle.std.proofs.lemmas.Bool.{ne_eqb}
use Rattle.std.proofs.lemmas.List.{append_assoc, length-append}
use Rattle.rational.specs.Whole.{signed}
use Rattle.decimal_text.specs.Head.{HasNoDigit, IsBehind}
use Rattle.decimal_text.specs.Sign.{Sign, absent, plus, minus, sign_text, is_minus}
use Rattle.decimal_text.specs.Whole.{WholeText, WholeGrammar}
use Rattle.decimal_text.specs.Prefix.{BeginsText, LeavesAt}
use Rattle.decimal_text.proofs.Machines.{Reads, leaves}
use Rattle.decimal_text.proofs.Counts.{start, dead, next, accepts, AreSigns, IsSign, HasNoSign, reads, stops}
use Rattle.decimal_text.proofs.CountTexts.{not_a_digit, numeral_onward, no_more}

abbrev pub is_sign : ℕ → Bool
is_sign b = eqb b 43 || eqb b 45

pub signs_apart : AreSigns is_sign
signs_apart b h = rw (not_a_digit b 43 (omega arith) h, not_a_digit b 45 (omega arith) h) refl

pub sign_is_sign : (sign : Sign) → IsSign is_sign (sign_text sign)
sign_is_sign absent = tt
sign_is_sign plus = refl
sign_is_sign minus = refl

pub behind_sign : (sign : Sign) (s : List ℕ) → IsBehind sign s → HasNoSign is_sign (sign_text sign) s
behind_sign absent [] h = tt
behind_sign absent (b ∷ s) h = rw (ne_eqb b 43 h.0, ne_eqb b 45 h.1) refl
behind_sign plus s h = tt
behind_sign minus s h = tt

whole_reads : Reads (next is_sign) start dead accepts WholeGrammar
whole_reads = record {
  sound = λ s g. rw g.1.text (ap accepts (reads is_sign signs_apart (sign_text g.1.sign) g.1.digits (sign_is_sign g.1.sign) g.1.numeral));
  stays = λ b. refl;
  refuses = refl;
}

whole_begins : (sign : Sign) (ds : List ℕ) → AllDigits 10 ds → BeginsText WholeGrammar (sign_text sign ++ ds)
whole_begins sign ds h = (
  48 ∷ [],
  (
    signed (is_minus sign) (digits_value 10 (ds ++ 48 ∷ [])),
    record {
      sign = sign;
      digits = ds ++ 48 ∷ [];
      text = append_assoc (sign_text sign) ds (48 ∷ []);
      numeral = numeral_onward ds h;
      value = refl;
    },
  ),
)

pub whole_leaves : (s u : List ℕ) (sign : Sign) (ds rest : List ℕ) (at : ℕ) → s ≡ sign_text sign ++ u → u ≡ ds ++ rest → IsBehind sign u → AllDigits 10 ds → HasNoDigit rest → (0 < length ds → 0 < length rest) → at ≡ length s - length rest → LeavesAt WholeGrammar s at
whole_leaves s u sign ds rest at e parts none h k more place =
    let p : List ℕ = sign_text sign ++ ds in
    let whole : s ≡ p ++ rest = e ∙ (ap (λ x. sign_text sign ++ x) parts ∙ sym (append_assoc (sign_text sign) ds rest)) in
    let here : at ≡ length p = omega (arith, ap length whole, length-append p rest) in
    let l : LeavesAt WholeGrammar (p ++ rest) (length p) = leaves (next is_sign) start dead accepts WholeGrammar whole_reads p rest (whole_begins sign ds h) (stops is_sign signs_apart (sign_text sign) ds rest (sign_is_sign sign) (behind_sign sign (ds ++ rest) (subst (λ x. IsBehind sign x) parts none)) h k more) in
    subst (λ n. LeavesAt WholeGrammar s n) (sym here) (subst (λ x. LeavesAt WholeGrammar x (length p)) (sym whole) l)

pub whole_made : (s u : List ℕ) (sign : Sign) (ds rest : List ℕ) → s ≡ sign_text sign ++ u → u ≡ ds ++ rest → AllDigits 10 ds → 0 < length ds → length rest ≡ 0 → WholeText s (signed (is_minus sign) (digits_value 10 ds))
whole_made s u sign ds rest e parts h k none = record {
  sign = sign;
  digits = ds;
  text = e ∙ ap (λ x. sign_text sign ++ x) (parts ∙ no_more ds rest none);
  numeral = (k, h);
  value = refl;
}
