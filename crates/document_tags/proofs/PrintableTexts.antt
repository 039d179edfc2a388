-- Texts of printable characters: those of numbers, and fixed ones.
use Rattle.std.proofs.Common.{ℕ, zero, suc, ◌+◌, ◌/◌, ◌%◌, ◌<◌, ◌==◌, Bool, true, false, cond, ℤ, pos, negsuc, List, [], ◌∷◌, ◌≡◌, sym, subst, arith, lit<, lit≤, lt-ltb, append-nil}
use Rattle.std.specs.Prelude.{decimal}
use Rattle.std.specs.List.{list_all}
use Rattle.std.specs.Fmt.{signed_decimal, digits, digits_onto, digit_glyph}
use Rattle.tree_grammar.specs.Characters.{IsXmlText, Each}
use Rattle.tree_grammar.proofs.XmlTexts.{Printable, is_printable, list_printable, clean_ascii, clean_nothing}

-- what holds of each digit
abbrev pub HoldsOfDigits : (ℕ → Type 0) → Type 0
HoldsOfDigits P = (d : ℕ) → d < 10 → P (48 + d)

glyph_holds : (P : ℕ → Type 0) → HoldsOfDigits P → (d : ℕ) → d < 10 → P (digit_glyph false d)
glyph_holds P of_digits d small = subst (λ (b : Bool). P (cond b (48 + d) (87 + d))) (sym (lt-ltb d 10 small)) (of_digits d small)

onto_by : (P : ℕ → Type 0) (b : Bool) (one more : List ℕ) → Each P one → Each P more → Each P (cond b one more)
onto_by P true one more h k = h
onto_by P false one more h k = k

onto_each : (P : ℕ → Type 0) → HoldsOfDigits P → (k n : ℕ) (acc : List ℕ) → Each P acc → Each P (digits_onto k 10 false n acc)
onto_each P of_digits zero n acc h = h
onto_each P of_digits (suc k) n acc h =
    let last : Each P (digit_glyph false (n % 10) ∷ acc) = (glyph_holds P of_digits (n % 10) (omega arith), h) in
    onto_by P (n / 10 == 0) (digit_glyph false (n % 10) ∷ acc) (digits_onto k 10 false (n / 10) (digit_glyph false (n % 10) ∷ acc)) last (onto_each P of_digits k (n / 10) (digit_glyph false (n % 10) ∷ acc) last)

-- it holds of each byte of a number
pub decimal_each : (P : ℕ → Type 0) → HoldsOfDigits P → (n : ℕ) → Each P (decimal n)
unfolding digits
decimal_each P of_digits n = onto_each P of_digits 64 n [] tt

pub signed_each : (P : ℕ → Type 0) → HoldsOfDigits P → P 45 → (z : ℤ) → Each P (signed_decimal z)
signed_each P of_digits minus (pos n) = decimal_each P of_digits n
signed_each P of_digits minus (negsuc n) = (minus, decimal_each P of_digits (suc n))

pub digits_printable : HoldsOfDigits Printable
digits_printable d small = (omega (arith, small), omega (arith, small))

pub decimal_printable : (n : ℕ) → Each Printable (decimal n)
decimal_printable n = decimal_each Printable digits_printable n

pub signed_printable : (z : ℤ) → Each Printable (signed_decimal z)
signed_printable z = signed_each Printable digits_printable (lit≤ tt, lit< tt) z

-- printable characters are a text of XML
pub printable_text : (text : List ℕ) → Each Printable text → IsXmlText text
printable_text text printable = subst IsXmlText (append-nil text) (clean_ascii text [] printable clean_nothing).text

-- so is a fixed text of them
pub fixed_text : (text : List ℕ) → list_all is_printable text ≡ true → IsXmlText text
fixed_text text is = printable_text text (list_printable text is)

-- and a number's
pub number_text : (n : ℕ) → IsXmlText (decimal n)
number_text n = printable_text (decimal n) (decimal_printable n)
