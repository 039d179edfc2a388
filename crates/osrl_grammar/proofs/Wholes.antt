-- Whole numbers among the ratios: those without `/`, and from 0 on those without `-`.
use Rattle.osrl_grammar.proofs.Names.{w128, ◌≡◌, Option, None, Some, Bor, ◌∙◌, append_assoc, ◌≢◌, ℕ, zero, suc, ◌+◌, ◌*◌, ◌^◌, ◌<◌, ◌≤◌, inl, inr, Bool, true, false, ℤ, pos, negsuc, List, [], ◌∷◌, ◌++◌, refl, ap, sym, subst, arith, lit≤, unsigned_abs, MatchOption, digit_value, AllDigits, digits_value, digits_value_after, All-nil, All-cons, All-head, All-tail, All-append, Ratio, whole, most, signed, ratio, Frac, optional, RatioText, Unread, Wide, Index, Turn, Whole, Exact, FitsKind, WritesNumber, IsNumberText, IsNot, IsFree}
use mir.Val.{SFits}
use Rattle.std.proofs.Common.{◌↔◌, IsTrue}
use Rattle.std.proofs.lemmas.Str.{digit_value_digit}
use Rattle.std.proofs.lemmas.Str.Parse.{digit_from_value}
use Rattle.rational.proofs.ReducedForms.{one_number}
use Rattle.decimal_text.specs.Exact.{IsPositive, Under, absent, over, under_text, under_value, IsUnder}
use Rattle.tag_tests.specs.declared.numbers.Unread.TheVariants.{NotNumber}
use Rattle.osrl_grammar.specs.Numbers.{NumberKind, IsOfKind}

-- no byte
pub free_nil : (byte : ℕ) → IsFree byte []
free_nil byte = All-nil (λ b. b ≢ byte)

-- one more
pub free_cons : (byte b : ℕ) (text : List ℕ) → b ≢ byte → IsFree byte text → IsFree byte (b ∷ text)
free_cons byte b text other free = All-cons (λ c. c ≢ byte) b text other free

pub free_append : (byte : ℕ) (a b : List ℕ) → IsFree byte a → IsFree byte b → IsFree byte (a ++ b)
free_append byte a b h k = All-append (λ c. c ≢ byte) a b h k

-- a text with the byte behind others isn't free of it
pub not_free : (byte : ℕ) (a b : List ℕ) → IsFree byte (a ++ byte ∷ b) → ⊥
not_free byte [] b free = All-head (λ c. c ≢ byte) byte b free refl
not_free byte (c ∷ a) b free = not_free byte a b (All-tail (λ d. d ≢ byte) c (a ++ byte ∷ b) free)

digits_free : (byte : ℕ) (ds : List ℕ) → 10 ≤ digit_value byte → AllDigits 10 ds → IsFree byte ds
digits_free byte [] high h = free_nil byte
digits_free byte (d ∷ ds) high h = free_cons byte d ds (λ e. omega (arith, high, h.0, ap digit_value e)) (digits_free byte ds high h.1)

signs_free : (b : Bool) → IsFree 47 (optional 45 b)
signs_free true = free_cons 47 45 [] (λ e. omega (arith, e)) (free_nil 47)
signs_free false = free_nil 47

under_free : (u : Under) → IsUnder u → under_value u ≡ 1 → IsFree 47 (under_text u)
under_free absent h e = free_nil 47
under_free (over ds) h e = absurd (omega (arith, h.1, e))

-- a whole number has no `/`
pub whole_free : (text : List ℕ) (x : Ratio) → RatioText text x → x.den ≡ 1 → IsFree 47 text
whole_free text x (inl z) one = subst (λ (t : List ℕ). IsFree 47 t) (sym z.0) (free_cons 47 48 [] (λ e. omega (arith, e)) (free_nil 47))
whole_free text x (inr q) one =
    let behind = free_append 47 q.digits (under_text q.under) (digits_free 47 q.digits (lit≤ tt) q.positive.0.1) (under_free q.under q.denominator (sym q.den ∙ one)) in
    subst (λ (t : List ℕ). IsFree 47 t) (sym q.text) (free_append 47 (optional 45 q.is_negative) (q.digits ++ under_text q.under) (signs_free q.is_negative) behind)

absent_one : (front : List ℕ) (u : Under) → IsFree 47 (front ++ under_text u) → under_value u ≡ 1
absent_one front absent free = refl
absent_one front (over ds) free = absurd (not_free 47 front ds free)

-- a ratio without `/` is a whole number
pub free_whole : (text : List ℕ) (x : Ratio) → RatioText text x → IsFree 47 text → x.den ≡ 1
free_whole text x (inl z) free = ap (λ (y : Ratio). y.den) z.1
free_whole text x (inr q) free =
    let parts : text ≡ (optional 45 q.is_negative ++ q.digits) ++ under_text q.under = q.text ∙ sym (append_assoc (optional 45 q.is_negative) q.digits (under_text q.under)) in
    q.den ∙ absent_one (optional 45 q.is_negative ++ q.digits) q.under (subst (λ (t : List ℕ). IsFree 47 t) parts free)

value_stays : (n : ℕ) (ds : List ℕ) → 0 < n → 0 < digits_value_after 10 n ds
value_stays n [] h = h
value_stays n (d ∷ ds) h = value_stays (n * 10 + digit_value d) ds (omega (arith, h))

-- digits without a leading zero write a number from 1 on
positive_value : (ds : List ℕ) → IsPositive ds → 0 < digits_value 10 ds
positive_value [] h = absurd (omega (arith, h.0.0))
positive_value (d ∷ ds) h =
    let other : d ≢ 48 = h.1 in
    value_stays (0 * 10 + digit_value d) ds (omega (arith, other, digit_value_digit d (digit_from_value d h.0.1.0)))

plus_free : (b : Bool) (m n : ℕ) → 0 < m → signed b m ≡ pos n → IsFree 45 (optional 45 b)
plus_free false m n up e = free_nil 45
plus_free true zero n up e = absurd (omega (arith, up))
plus_free true (suc m) n up e = absurd (let h : negsuc m ≡ pos n = e in cc)

under_plain : (u : Under) → IsUnder u → IsFree 45 (under_text u)
under_plain absent h = free_nil 45
under_plain (over ds) h = free_cons 45 47 ds (λ e. omega (arith, e)) (digits_free 45 ds (lit≤ tt) h.0.0.1)

-- a number from 0 on has no `-`
pub size_free : (text : List ℕ) (x : Ratio) (n : ℕ) → RatioText text x → x.num ≡ pos n → IsFree 45 text
size_free text x n (inl z) e = subst (λ (t : List ℕ). IsFree 45 t) (sym z.0) (free_cons 45 48 [] (λ h. omega (arith, h)) (free_nil 45))
size_free text x n (inr q) e =
    let behind = free_append 45 q.digits (under_text q.under) (digits_free 45 q.digits (lit≤ tt) q.positive.0.1) (under_plain q.under q.denominator) in
    let front = plus_free q.is_negative (digits_value 10 q.digits) n (positive_value q.digits q.positive) (sym q.num ∙ e) in
    subst (λ (t : List ℕ). IsFree 45 t) (sym q.text) (free_append 45 (optional 45 q.is_negative) (q.digits ++ under_text q.under) front behind)

no_minus : (b : Bool) (n : ℕ) (rest : List ℕ) → IsFree 45 (optional 45 b ++ rest) → signed b n ≡ pos n
no_minus false n rest free = refl
no_minus true n rest free = absurd (not_free 45 [] rest free)

own_size : (z : ℤ) (n : ℕ) → z ≡ pos n → z ≡ pos (unsigned_abs z)
own_size z n e = e ∙ ap (λ (y : ℤ). pos (unsigned_abs y)) (sym e)

-- a ratio without `-` is from 0 on
pub free_size : (text : List ℕ) (x : Ratio) → RatioText text x → IsFree 45 text → x.num ≡ pos (unsigned_abs x.num)
free_size text x (inl z) free = own_size x.num 0 (ap (λ (y : Ratio). y.num) z.1)
free_size text x (inr q) free =
    own_size x.num (digits_value 10 q.digits) (q.num ∙ no_minus q.is_negative (digits_value 10 q.digits) (q.digits ++ under_text q.under) (subst (λ (t : List ℕ). IsFree 45 t) q.text free))

-- a fraction without `/` is a whole number
pub whole_read : (text : List ℕ) (x : Frac) → IsNumberText Exact text (ratio x) → IsFree 47 text → IsNumberText Whole text (whole x.numer)
whole_read text x h free =
    let same : ratio x ≡ whole x.numer = one_number (ratio x) (whole x.numer) refl (free_whole text (ratio x) h.0.form free) in
    let e = subst (λ (y : Ratio). IsNumberText Exact text y) same h in
    (record { form = e.0.form; of_kind = refl; reduced = e.0.reduced }, e.1)

-- a text with `/` is none
pub not_whole : (text : List ℕ) → (IsFree 47 text → ⊥) → IsNot Whole text NotNumber
not_whole text lined = λ x w. lined (whole_free text x w.form w.of_kind)

-- what isn't a fraction isn't a whole number
pub whole_unread : (text : List ℕ) (u : Unread) → IsNot Exact text u → IsFree 47 text → IsNot Whole text u
whole_unread text NotNumber h free = λ x w. h x (record { form = w.form; of_kind = tt; reduced = w.reduced })
whole_unread text Wide (x, w, over_width) free = (x, record { form = w.form; of_kind = free_whole text x w.form free; reduced = w.reduced }, over_width)

-- a whole number without `-` is from 0 on
pub size_read : (text : List ℕ) (k : ℤ) → IsNumberText Whole text (whole k) → IsFree 45 text → WritesNumber Index text (whole (pos (unsigned_abs k)))
size_read text k h free =
    let same : whole k ≡ whole (pos (unsigned_abs k)) = ap whole (free_size text (whole k) h.0.form free) in
    let w = subst (λ (y : Ratio). WritesNumber Whole text y) same h.0 in
    record { form = w.form; of_kind = (unsigned_abs k, refl); reduced = w.reduced }

-- a kind of numbers from 0 on, all of which are within the width
pub record IsSizes (kind : NumberKind) : Type 0 where
  pub sized : (x : Ratio) → IsOfKind kind x → (n : ℕ) × (x ≡ whole (pos n))
  pub every : (n : ℕ) → IsOfKind kind (whole (pos n))
  pub narrow : (x : Ratio) → FitsKind kind x → unsigned_abs x.num ≤ most

pub index_sizes : IsSizes Index
index_sizes = record { sized = λ x h. h; every = λ n. (n, refl); narrow = λ x h. let top : 2 ^ 32 ≤ most = lit≤ tt in omega (arith, h, top) }

pub turn_sizes : IsSizes Turn
turn_sizes = record { sized = λ x h. h; every = λ n. (n, refl); narrow = λ x h. let top : 2 ^ 64 ≤ most = lit≤ tt in omega (arith, h, top) }

-- a text with `-` is none of them
pub not_size : (kind : NumberKind) (text : List ℕ) → IsSizes kind → (IsFree 45 text → ⊥) → IsNot kind text NotNumber
not_size kind text sizes signed_text = λ x w. let n = sizes.sized x w.of_kind in signed_text (size_free text x n.0 w.form (ap (λ (y : Ratio). y.num) n.1))

-- what isn't a whole number is none of them
pub size_unread : (kind : NumberKind) (text : List ℕ) (u : Unread) → IsSizes kind → IsNot Whole text u → IsFree 45 text → IsNot kind text u
size_unread kind text NotNumber sizes h free = λ x w. h x (record { form = w.form; of_kind = ap (λ (y : Ratio). y.den) (sizes.sized x w.of_kind).1; reduced = w.reduced })
size_unread kind text Wide sizes (x, w, wide) free =
    let same : x ≡ whole (pos (unsigned_abs x.num)) = one_number x (whole (pos (unsigned_abs x.num))) (free_size text x w.form free) w.of_kind in
    let of_kind : IsOfKind kind x = subst (λ (y : Ratio). IsOfKind kind y) (sym same) (sizes.every (unsigned_abs x.num)) in
    let one : 1 ≤ most = lit≤ tt in
    (x, record { form = w.form; of_kind = of_kind; reduced = w.reduced }, λ fits. wide (sizes.narrow x fits, subst (λ d. d ≤ most) (sym w.of_kind) one))

-- the size of a number within the width
pub fits_signed : (z : ℤ) → unsigned_abs z ≤ most → SFits w128 z
fits_signed (pos n) h = omega (arith, h)
fits_signed (negsuc n) h = omega (arith, h)

-- what a test says
pub accepted : (b : Bool) (P : Type 0) → (IsTrue b ↔ P) → b ≡ true → P
accepted b P iff e = iff.0 e

-- a text that was cut isn't free of the byte
pub was_cut : (byte : ℕ) (text front : List ℕ) (behind : Option (Bor (List ℕ))) (rest : Bor (List ℕ)) → behind ≡ Some rest → MatchOption behind (text ≡ front) (λ r. text ≡ front ++ byte ∷ r.now) → IsFree byte text → ⊥
was_cut byte text front None rest e m free = let h : None ≡ Some rest = e in cc
was_cut byte text front (Some r) rest e m free = not_free byte front r.now (subst (λ (t : List ℕ). IsFree byte t) m free)
