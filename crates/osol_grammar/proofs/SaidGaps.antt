-- A text says one gap, and the gap that was written is read.
use Rattle.std.proofs.Common.{◌≡◌, ◌≢◌, ◌∙◌, ℕ, ◌==◌, ℤ, pos, Bool, true, false, cond, List, [], ◌∷◌, ◌++◌, append-nil, refl, ap₂, sym, subst, arith}
use Rattle.std.specs.Prelude.{◌≤ℤ◌, int_lt, codes, decimal}
use Rattle.std.specs.Fmt.{signed_decimal}
use Rattle.std.proofs.lemmas.Int.{ints}
use Rattle.std.proofs.lemmas.List.{append_cancel_right}
use Rattle.tree_grammar.specs.Characters.{Each}
use Rattle.tree_grammar.specs.Elements.{Attribute}
use Rattle.tree_grammar.proofs.XmlTexts.{each_append}
use Rattle.fraction.specs.Frac.{ratio}
use Rattle.fraction.specs.declared.frac.Frac.{Frac}
use Rattle.decimal_text.specs.Exact.{denominator_text, ratio_text}
use Rattle.document_tags.specs.Elements.{value_of}
use Rattle.document_tags.proofs.PrintableTexts.{HoldsOfDigits, decimal_each, signed_each}
use Rattle.document_tags.proofs.SomeAnd.{some_once}
use Rattle.osol_grammar.specs.declared.gaps.Gap.{Gap}
use Rattle.osol_grammar.specs.Gaps.{IsBeforePercent, IsGapText, SaysGap, percent, gap_text}
use Rattle.osol_grammar.specs.Times.{IsAmount}
use Rattle.osol_grammar.proofs.SaidTimes.{amount_once, amount_read}

-- ---- one of each

before_once : (b c : Bool) (digits others text : List ℕ) → IsBeforePercent b digits text → IsBeforePercent c others text → (b ≡ c) × (digits ≡ others)
before_once true true digits others text e f = (refl, append_cancel_right digits others (codes "%") (sym e ∙ f))
before_once false false digits others text e f = (refl, e.0 ∙ sym f.0)
before_once true false digits others text e f = absurd (f.1 digits e)
before_once false true digits others text e f = absurd (e.1 others f)

-- so a gap of the text has the number that stands there
number_there : (b : Bool) (digits text : List ℕ) → IsBeforePercent b digits text → (g : Gap) → IsGapText text g → IsAmount digits g.number
number_there b digits text before g is = subst (λ (d : List ℕ). IsAmount d g.number) (before_once g.is_percent b is.digits digits text is.before before).1 is.number

text_once : (text : List ℕ) (g h : Gap) → IsGapText text g → IsGapText text h → g ≡ h
text_once text g h a b =
    let sign = (before_once g.is_percent h.is_percent a.digits b.digits text a.before b.before).0 in
    let number = amount_once b.digits g.number h.number (number_there h.is_percent b.digits text b.before g a) b.number in
    ap₂ (λ (x : Frac) (p : Bool). let z : Gap = record { number = x; is_percent = p } in z) number sign

pub gap_once : (as' : List Attribute) (g h : Gap) → SaysGap as' g → SaysGap as' h → g ≡ h
gap_once as' = some_once IsGapText text_once (value_of (codes "value") as')

-- a number is below 0, or from 0 on
never_both : (z : ℤ) → int_lt z (pos 0) ≡ true → pos 0 ≤ℤ z → ⊥
never_both z below above = grind (arith, ints)

pub from_0 : (z : ℤ) → int_lt z (pos 0) ≡ false → pos 0 ≤ℤ z
from_0 z other = grind (arith, ints)

-- the text says no gap: what stands before the sign is no number, or one below 0
pub no_gap : (b : Bool) (digits text : List ℕ) → IsBeforePercent b digits text → ((x : Frac) → IsAmount digits x → ⊥) → (g : Gap) → IsGapText text g → ⊥
no_gap b digits text before none g is = none g.number (number_there b digits text before g is)

pub below_0 : (b : Bool) (digits text : List ℕ) (x : Frac) → IsBeforePercent b digits text → IsAmount digits x → int_lt x.numer (pos 0) ≡ true → (g : Gap) → IsGapText text g → ⊥
below_0 b digits text x before written below g is =
    let same = amount_once digits x g.number written (number_there b digits text before g is) in
    never_both g.number.numer (subst (λ (y : Frac). int_lt y.numer (pos 0) ≡ true) same below) is.above

-- ---- what is written

-- what holds of digits, of `-` and of `/` holds of each byte of a ratio
pub ratio_each : (P : ℕ → Type 0) → HoldsOfDigits P → P 45 → P 47 → (x : Frac) → Each P (ratio_text (ratio x))
ratio_each P of_digits minus line x = each_append P (signed_decimal x.numer) (denominator_text x.denom) (signed_each P of_digits minus x.numer) (under (x.denom == 1) x.denom)
  where
    under : (b : Bool) (d : ℕ) → Each P (cond b [] (47 ∷ decimal d))
    under true d = tt
    under false d = (line, decimal_each P of_digits d)

last_so : (P : ℕ → Type 0) (front : List ℕ) (c : ℕ) → Each P (front ++ c ∷ []) → P c
last_so P [] c h = h.0
last_so P (x ∷ xs) c h = last_so P xs c h.1

no_percent : (x : Frac) (others : List ℕ) → ratio_text (ratio x) ≢ others ++ codes "%"
no_percent x others e = last_so (λ c. c ≢ 37) others 37 (subst (Each (λ c. c ≢ 37)) e (ratio_each (λ c. c ≢ 37) (λ d small is. omega (arith, small, is)) (λ is. cc) (λ is. cc) x)) refl

before_written : (b : Bool) (digits : List ℕ) → ((others : List ℕ) → digits ≢ others ++ codes "%") → IsBeforePercent b digits (digits ++ percent b)
before_written true digits none = refl
before_written false digits none = (sym (append-nil digits), λ others e. none others (sym (append-nil digits) ∙ e))

pub gap_read : (g : Gap) → pos 0 ≤ℤ g.number.numer → IsGapText (gap_text g) g
gap_read g above = record { digits = ratio_text (ratio g.number); before = before_written g.is_percent (ratio_text (ratio g.number)) (no_percent g.number); number = amount_read g.number; above = above }
