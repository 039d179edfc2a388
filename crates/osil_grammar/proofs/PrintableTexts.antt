-- The texts of numbers and ends are printable, and not empty.
use Rattle.osil_grammar.proofs.Words.{◌≡◌, ◌∙◌, ℕ, ◌^◌, ◌<◌, Bool, true, false, List, [], ◌∷◌, ◌++◌, length, ap, refl, sym, subst, arith, lit<, lit≤, decimal, Frac, End, NegInf, At, Inf, ratio, Each, optional, PlainText, point_text, IsEndText}
use Rattle.std.specs.Char.{digit_value}
use Rattle.std.specs.Str.Parse.{AllDigits}
use Rattle.std.proofs.lemmas.Fmt.{decimal_is_IsNumeral_wide}
use Rattle.std.proofs.lemmas.Str.Parse.{digit_from_value}
use Rattle.tree_grammar.proofs.XmlTexts.{Printable, each_append}
use Rattle.decimal_text.proofs.PlainTexts.{plain_whole}

-- printable characters, one at least
pub record IsShown (text : List ℕ) : Type 0 where
  pub some : text ≡ [] → ⊥
  pub printable : Each Printable text

digit_printable : (b : ℕ) → digit_value b < 10 → Printable b
digit_printable b low = let r = digit_from_value b low in (omega (arith, r), omega (arith, r))

digits_printable : (ds : List ℕ) → AllDigits 10 ds → Each Printable ds
digits_printable [] all = tt
digits_printable (d ∷ ds) all = (digit_printable d all.0, digits_printable ds all.1)

some_digits : (ds : List ℕ) → 0 < length ds → ds ≡ [] → ⊥
some_digits ds long empty = let none_left = ap (λ (l : List ℕ). length l) empty in omega (arith, long, none_left)

pub count_shown : (n : ℕ) → n < 10 ^ 64 → IsShown (decimal n)
count_shown n small = let numeral = (decimal_is_IsNumeral_wide n small).0 in record { some = some_digits (decimal n) numeral.0; printable = digits_printable (decimal n) numeral.1 }

point_printable : (ds : List ℕ) → AllDigits 10 ds → Each Printable (point_text ds)
point_printable [] all = tt
point_printable (d ∷ ds) all = ((lit≤ tt, lit< tt), (digit_printable d all.0, digits_printable ds all.1))

sign_printable : (negative : Bool) → Each Printable (optional 45 negative)
sign_printable true = ((lit≤ tt, lit< tt), tt)
sign_printable false = tt

some_append : (a b : List ℕ) → (b ≡ [] → ⊥) → a ++ b ≡ [] → ⊥
some_append [] b some = some
some_append (x ∷ a) b some = λ e. cc

front_some : (a b : List ℕ) → (a ≡ [] → ⊥) → a ++ b ≡ [] → ⊥
front_some [] b some = λ e. some refl
front_some (x ∷ a) b some = λ e. cc

pub plain_shown : (x : Frac) (text : List ℕ) → PlainText text (ratio x) → IsShown text
plain_shown x text plain =
    let small : plain.whole < 10 ^ 64 = plain_whole x text plain in
    let whole = count_shown plain.whole small in
    let behind : Each Printable (decimal plain.whole ++ point_text plain.digits) = each_append Printable (decimal plain.whole) (point_text plain.digits) whole.printable (point_printable plain.digits plain.are_digits) in
    record {
      some = λ empty. some_append (optional 45 plain.is_negative) (decimal plain.whole ++ point_text plain.digits) (front_some (decimal plain.whole) (point_text plain.digits) whole.some) (sym plain.text ∙ empty);
      printable = subst (Each Printable) (sym plain.text) (each_append Printable (optional 45 plain.is_negative) (decimal plain.whole ++ point_text plain.digits) (sign_printable plain.is_negative) behind);
    }

pub end_shown : (end : End) (text : List ℕ) → IsEndText end text → IsShown text
end_shown NegInf text is = subst IsShown (sym is) (record { some = λ e. cc; printable = ((lit≤ tt, lit< tt), ((lit≤ tt, lit< tt), ((lit≤ tt, lit< tt), ((lit≤ tt, lit< tt), tt)))) })
end_shown (At x) text is = plain_shown x text is
end_shown Inf text is = subst IsShown (sym is) (record { some = λ e. cc; printable = ((lit≤ tt, lit< tt), ((lit≤ tt, lit< tt), ((lit≤ tt, lit< tt), tt))) })
