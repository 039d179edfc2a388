-- Texts of ratios.
use Rattle.std.proofs.Common.{◌≡◌, ℕ, ◌+◌, ◌*◌, ◌-◌, ◌<◌, ◌≤◌, inr, Bool, true, false, List, [], ◌∷◌, ◌++◌, length, pos, ◌*ℤ◌, refl, ap, sym, ◌∙◌, subst, arith}
use Rattle.std.specs.Char.{digit_value}
use Rattle.std.specs.Str.Parse.{digits_value, digits_value_after}
use Rattle.std.proofs.lemmas.Str.{digit_value_digit}
use Rattle.std.proofs.lemmas.Str.Parse.{digit_from_value}
use Rattle.rational.specs.Ratio.{Ratio, IsSame}
use Rattle.rational.specs.Width.{most, IsReduced}
use Rattle.rational.specs.Whole.{signed}
use Rattle.rational.proofs.Signs.{unsigned_abs-signed}
use Rattle.rational.proofs.Scaling.{same_multiple}
use Rattle.rational.proofs.ReducedForms.{same_reduced}
use Rattle.decimal_text.specs.Head.{DoesNotBegin, PositiveSplit}
use Rattle.decimal_text.specs.Sign.{optional}
use Rattle.decimal_text.specs.Exact.{IsPositive, under_of, under_value, IsUnder, RatioText, RatioGrammar, UnderSplit, UnderStop, IsWideRatio, IsUnreduced}
use Rattle.decimal_text.specs.Prefix.{LeavesAt}
use Rattle.decimal_text.proofs.CountTexts.{no_more}
use Rattle.decimal_text.proofs.Ratios.{IsUnmarked, front_leaves, under_leaves}

after_least : (n : ℕ) (ds : List ℕ) → n ≤ digits_value_after 10 n ds
after_least n [] = omega arith
after_least n (d ∷ ds) = omega (arith, after_least (n * 10 + digit_value d) ds)

digit_least : (d k : ℕ) → digit_value d < 10 → (d ≡ 48 → ⊥) → 1 ≤ digit_value d
digit_least d k h n = omega (arith, n, digit_value_digit d (digit_from_value d h))

-- digits without a leading zero, other than 1, write a number above 1
two : (ds : List ℕ) → IsPositive ds → (ds ≡ 49 ∷ [] → ⊥) → 2 ≤ digits_value 10 ds
two [] h n = absurd (omega (arith, h.0.0))
two (d ∷ []) h n =
    let m : d ≡ 49 → ⊥ = λ z. n (ap (λ x. x ∷ []) z) in
    let z : d ≡ 48 → ⊥ = h.1 in
    omega (arith, m, z, digit_value_digit d (digit_from_value d h.0.1.0))
two (d ∷ e ∷ ds) h n =
    let least : 1 ≤ digit_value d = digit_least d 0 h.0.1.0 h.1 in
    omega (arith, least, after_least ((0 * 10 + digit_value d) * 10 + digit_value e) ds)

pub under_split : (text behind digits rest : List ℕ) → text ≡ 47 ∷ behind → PositiveSplit behind digits rest → length rest ≡ 0 → 0 < length digits → (digits ≡ 49 ∷ [] → ⊥) → UnderSplit text digits
under_split text behind [] rest e t none up n = absurd (omega (arith, up))
under_split text behind (d ∷ ds) rest e t none up n =
    let positive : IsPositive (d ∷ ds) = ((up, t.are_digits), t.no_zero) in
    record {
      parts = e ∙ ap (λ x. 47 ∷ x) (t.parts ∙ no_more (d ∷ ds) rest none);
      good = (positive, two (d ∷ ds) positive n);
    }

unmarked : (is_negative : Bool) (s u : List ℕ) → s ≡ optional 45 is_negative ++ u → (is_negative ≡ false → DoesNotBegin 45 u) → DoesNotBegin 48 s → IsUnmarked is_negative u
unmarked true s u e a z = tt
unmarked false s u e a z = (a refl, subst (λ x. DoesNotBegin 48 x) e z)

pub top_missing : (s u top rest : List ℕ) (is_negative : Bool) (at : ℕ) → s ≡ optional 45 is_negative ++ u → PositiveSplit u top rest → length top ≡ 0 → (is_negative ≡ false → DoesNotBegin 45 u) → DoesNotBegin 48 s → at ≡ length s - length rest → LeavesAt RatioGrammar s at
top_missing s u [] rest is_negative at e t none a z place =
    front_leaves s u rest is_negative at (e ∙ ap (λ x. optional 45 is_negative ++ x) t.parts) t.ends (subst (λ x. IsUnmarked is_negative x) t.parts (unmarked is_negative s u e a z)) place
top_missing s u (d ∷ ds) rest is_negative at e t none a z place = absurd (omega (arith, none))

pub under_missing : (s u top rest : List ℕ) (is_negative : Bool) (at left : ℕ) → s ≡ optional 45 is_negative ++ u → PositiveSplit u top rest → 0 < length top → UnderStop rest left → at ≡ length s - left → LeavesAt RatioGrammar s at
under_missing s u top rest is_negative at left e t up stop place = under_leaves s u top rest is_negative at left e t.parts ((up, t.are_digits), t.no_zero) t.ends stop place

-- the number that a ratio's text writes
abbrev pub written : Bool → List ℕ → List ℕ → Ratio
written is_negative top bottom = record { num = signed is_negative (digits_value 10 top); den = under_value (under_of bottom) }

pub ratio_made : (s u top rest bottom : List ℕ) (is_negative : Bool) (x : Ratio) → s ≡ optional 45 is_negative ++ u → PositiveSplit u top rest → 0 < length top → UnderSplit rest bottom → x.num ≡ signed is_negative (digits_value 10 top) → x.den ≡ under_value (under_of bottom) → RatioText s x
ratio_made s u top rest bottom is_negative x e t up under n d = inr (record {
  is_negative = is_negative;
  digits = top;
  under = under_of bottom;
  text = e ∙ ap (λ y. optional 45 is_negative ++ y) (t.parts ∙ ap (λ y. top ++ y) under.parts);
  positive = ((up, t.are_digits), t.no_zero);
  denominator = under.good;
  num = n;
  den = d;
})

pub wide_top : (s u top rest bottom : List ℕ) (is_negative : Bool) → s ≡ optional 45 is_negative ++ u → PositiveSplit u top rest → 0 < length top → UnderSplit rest bottom → most < digits_value 10 top → IsWideRatio s
wide_top s u top rest bottom is_negative e t up under h = (written is_negative top bottom, (ratio_made s u top rest bottom is_negative (written is_negative top bottom) e t up under refl refl, λ w. omega (arith, w.0, h, unsigned_abs-signed is_negative (digits_value 10 top))))

pub wide_bottom : (s u top rest bottom : List ℕ) (is_negative : Bool) → s ≡ optional 45 is_negative ++ u → PositiveSplit u top rest → 0 < length top → UnderSplit rest bottom → most < under_value (under_of bottom) → IsWideRatio s
wide_bottom s u top rest bottom is_negative e t up under h = (written is_negative top bottom, (ratio_made s u top rest bottom is_negative (written is_negative top bottom) e t up under refl refl, λ w. omega (arith, w.1, h)))

positive_under : (ds : List ℕ) → IsUnder (under_of ds) → 0 < under_value (under_of ds)
positive_under [] h = omega arith
positive_under (d ∷ ds) h = omega (arith, h.1)

-- a number with the written denominator has the written numerator too
pub same_top : (x : Ratio) (is_negative : Bool) (size denom n : ℕ) (bottom : List ℕ) → IsSame x (record { num = signed is_negative size; den = denom }) → x.den ≡ denom → size ≡ n → denom ≡ under_value (under_of bottom) → IsUnder (under_of bottom) → x.num ≡ signed is_negative n
same_top x is_negative size denom n bottom h d s b u =
    let up : 0 < denom = subst (λ k. 0 < k) (sym b) (positive_under bottom u) in
    same_multiple x.num (signed is_negative size) denom up (h ∙ ap (λ k. signed is_negative size *ℤ pos k) d) ∙ ap (λ k. signed is_negative k) s

pub unreduced : (s u top rest bottom : List ℕ) (is_negative : Bool) (x : Ratio) (size denom : ℕ) → s ≡ optional 45 is_negative ++ u → PositiveSplit u top rest → 0 < length top → UnderSplit rest bottom → IsReduced x → IsSame x (record { num = signed is_negative size; den = denom }) → (size ≡ digits_value 10 top) × (size ≤ most) → (denom ≡ under_value (under_of bottom)) × (denom ≤ most) → (x.den ≡ denom → ⊥) → IsUnreduced s
unreduced s u top rest bottom is_negative x size denom e t up under r h a b n =
    let w : Ratio = record { num = signed is_negative size; den = denom } in
    (w, (ratio_made s u top rest bottom is_negative w e t up under (ap (λ k. signed is_negative k) a.0) b.0, (subst (λ k. k ≤ most) (sym (unsigned_abs-signed is_negative size)) a.1, b.1), λ q. n (ap (λ y. y.den) (same_reduced x w r q h))))
