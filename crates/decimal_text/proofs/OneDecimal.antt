-- A decimal's text writes one number, which has one shortest form.
use Rattle.std.proofs.Common.{◌≡◌, ◌≢◌, ℕ, suc, ◌+◌, ◌-◌, ◌*◌, ◌%◌, ◌^◌, ◌<◌, ◌≤◌, ◌⊎◌, inl, inr, Bool, true, false, cond, ℤ, pos, negsuc, List, [], ◌∷◌, ◌++◌, length, refl, ap, sym, ◌∙◌, subst, arith, lit≤}
use Rattle.std.specs.Prelude.{unsigned_abs, Result, Ok, Err, IfOk, IfErr}
use Rattle.std.specs.Char.{digit_value}
use Rattle.std.specs.Str.Parse.{AllDigits, IsNumeral, digits_value}
use Rattle.std.proofs.Math.Nat.{mul-mod_left, eq_of_mul-eq-mul_right}
use Rattle.std.proofs.lemmas.Bool.Decides.{leb_tells}
use Rattle.std.proofs.lemmas.List.{append_assoc, append-nil}
use Rattle.std.proofs.lemmas.Nat.{pow-add}
use Rattle.fraction.specs.declared.frac.Frac.{Frac}
use Rattle.fraction.specs.Frac.{ratio}
use Rattle.fraction.proofs.Equality.{one_fraction}
use Rattle.rational.specs.Ratio.{Ratio, IsSame}
use Rattle.rational.specs.Width.{most, IsWithin}
use Rattle.rational.proofs.ReducedForms.{same_reduced}
use Rattle.rational.proofs.Scaling.{IsSame-trans}
use Rattle.rational.proofs.Signs.{sizes_cross, unsigned_abs-signed}
use Rattle.decimal_text.specs.declared.fault.DecimalFault.{DecimalFault}
use Rattle.decimal_text.specs.declared.fault.DecimalFault.TheVariants.{NotNumber, Wide, NotDecimal, Memory}
use Rattle.decimal_text.specs.Fault.{RefusesText}
use Rattle.decimal_text.specs.Head.{HasNoDigit, DoesNotBegin}
use Rattle.decimal_text.specs.Sign.{Sign, absent, plus, minus, sign_text, is_minus}
use Rattle.decimal_text.specs.Space.{trimmed}
use Rattle.decimal_text.specs.Decimal.{Mantissa, plain, pointed, mantissa_text, mantissa_digits, places, Exponent, none, power, exponent_text, IsExponent, up, down, powered, scientific, ShortestForm, IsNarrow, DecimalText, DecimalGrammar, IsDecimal, IsWideDecimal}
use Rattle.decimal_text.proofs.Numerals.{AllDigits-split}
use Rattle.decimal_text.proofs.Powers.{ten_power, ten_more}
use Rattle.decimal_text.proofs.OneRatio.{split_once, heads}

-- no sign stands at the head of the text
abbrev pub IsSignless : List ℕ → Type 0
IsSignless s = DoesNotBegin 43 s × DoesNotBegin 45 s

pub sign_once : (a b : Sign) (u v : List ℕ) → IsSignless u → IsSignless v → sign_text a ++ u ≡ sign_text b ++ v → (is_minus a ≡ is_minus b) × (u ≡ v)
sign_once absent absent u v h k e = (refl, e)
sign_once plus plus u v h k e = (refl, cc)
sign_once minus minus u v h k e = (refl, cc)
sign_once absent plus u v h k e = absurd (let g : IsSignless (43 ∷ v) = subst (λ x. IsSignless x) e h in g.0 refl)
sign_once absent minus u v h k e = absurd (let g : IsSignless (45 ∷ v) = subst (λ x. IsSignless x) e h in g.1 refl)
sign_once plus absent u v h k e = absurd (let g : IsSignless (43 ∷ u) = subst (λ x. IsSignless x) (sym e) k in g.0 refl)
sign_once minus absent u v h k e = absurd (let g : IsSignless (45 ∷ u) = subst (λ x. IsSignless x) (sym e) k in g.1 refl)
sign_once plus minus u v h k e = absurd (let g = heads 43 45 u v e in omega (arith, g))
sign_once minus plus u v h k e = absurd (let g = heads 45 43 u v e in omega (arith, g))

digit_apart : (d b : ℕ) → digit_value d < 10 → 10 ≤ digit_value b → d ≢ b
digit_apart d b h k e = let v : digit_value d ≡ digit_value b = ap digit_value e in omega (arith, h, k, v)

pub signless_digits : (ds s : List ℕ) → IsNumeral 10 ds → IsSignless (ds ++ s)
signless_digits [] s h = absurd (omega (arith, h.0))
signless_digits (d ∷ ds) s h = (digit_apart d 43 h.1.0 (lit≤ tt), digit_apart d 45 h.1.0 (lit≤ tt))

pub signless_mantissa : (m : Mantissa) (s : List ℕ) → IsNumeral 10 (mantissa_digits m) → IsSignless (mantissa_text m ++ s)
signless_mantissa (plain ds) s h = signless_digits ds s h
signless_mantissa (pointed [] es) s h = (λ e. omega (arith, e), λ e. omega (arith, e))
signless_mantissa (pointed (d ∷ ds) es) s h = (digit_apart d 43 h.1.0 (lit≤ tt), digit_apart d 45 h.1.0 (lit≤ tt))

exponent_ends : (e : Exponent) → HasNoDigit (exponent_text e)
exponent_ends none = tt
exponent_ends (power true s ds) = lit≤ tt
exponent_ends (power false s ds) = lit≤ tt

no_point : (e : Exponent) (s : List ℕ) → exponent_text e ≡ 46 ∷ s → ⊥
no_point none s h = cc
no_point (power true t ds) s h = let k = heads 69 46 (sign_text t ++ ds) s h in omega (arith, k)
no_point (power false t ds) s h = let k = heads 101 46 (sign_text t ++ ds) s h in omega (arith, k)

-- what is the same of two mantissas and what stands behind them
pub record AreAlike (m n : Mantissa) (e f : Exponent) : Type 0 where
  pub digits : mantissa_digits m ≡ mantissa_digits n
  pub point : places m ≡ places n
  pub behind : exponent_text e ≡ exponent_text f

tails : (a b : ℕ) (s t : List ℕ) → a ∷ s ≡ b ∷ t → s ≡ t
tails a b s t e = cc

mantissa_once : (m n : Mantissa) (e f : Exponent) → AllDigits 10 (mantissa_digits m) → AllDigits 10 (mantissa_digits n) → mantissa_text m ++ exponent_text e ≡ mantissa_text n ++ exponent_text f → AreAlike m n e f
mantissa_once (plain ds) (plain cs) e f h k q =
    let both = split_once ds cs (exponent_text e) (exponent_text f) h k (exponent_ends e) (exponent_ends f) q in
    record { digits = both.0; point = refl; behind = both.1 }
mantissa_once (plain ds) (pointed cs bs) e f h k q =
    let parts = AllDigits-split cs bs k in
    let both = split_once ds cs (exponent_text e) (46 ∷ (bs ++ exponent_text f)) h parts.0 (exponent_ends e) (lit≤ tt) (q ∙ append_assoc cs (46 ∷ bs) (exponent_text f)) in
    absurd (no_point e (bs ++ exponent_text f) both.1)
mantissa_once (pointed ds es) (plain cs) e f h k q =
    let parts = AllDigits-split ds es h in
    let both = split_once ds cs (46 ∷ (es ++ exponent_text e)) (exponent_text f) parts.0 k (lit≤ tt) (exponent_ends f) (sym (append_assoc ds (46 ∷ es) (exponent_text e)) ∙ q) in
    absurd (no_point f (es ++ exponent_text e) (sym both.1))
mantissa_once (pointed ds es) (pointed cs bs) e f h k q =
    let left = AllDigits-split ds es h in
    let right = AllDigits-split cs bs k in
    let both = split_once ds cs (46 ∷ (es ++ exponent_text e)) (46 ∷ (bs ++ exponent_text f)) left.0 right.0 (lit≤ tt) (lit≤ tt) (sym (append_assoc ds (46 ∷ es) (exponent_text e)) ∙ (q ∙ append_assoc cs (46 ∷ bs) (exponent_text f))) in
    let more = split_once es bs (exponent_text e) (exponent_text f) left.1 right.1 (exponent_ends e) (exponent_ends f) (tails 46 46 (es ++ exponent_text e) (bs ++ exponent_text f) both.1) in
    record { digits = ap (λ x. x ++ es) both.0 ∙ ap (λ x. cs ++ x) more.0; point = ap length more.0; behind = more.1 }

exponent_once : (e f : Exponent) → IsExponent e → IsExponent f → exponent_text e ≡ exponent_text f → (up e ≡ up f) × (down e ≡ down f)
exponent_once none none h k q = (refl, refl)
exponent_once none (power c s ds) h k q = cc
exponent_once (power c s ds) none h k q = cc
exponent_once (power c s ds) (power d t es) h k q =
    let bare : sign_text s ++ (ds ++ []) ≡ sign_text t ++ (es ++ []) = simp append-nil (tails (cond c 69 101) (cond d 69 101) (sign_text s ++ ds) (sign_text t ++ es) q) in
    let both = sign_once s t (ds ++ []) (es ++ []) (signless_digits ds [] h) (signless_digits es [] k) bare in
    let digits : ds ≡ es = sym (append-nil ds) ∙ (both.1 ∙ append-nil es) in
    (ap (λ b. cond b 0 (digits_value 10 ds)) both.0 ∙ ap (λ x. cond (is_minus t) 0 (digits_value 10 x)) digits, ap (λ b. cond b (digits_value 10 ds) 0) both.0 ∙ ap (λ x. cond (is_minus t) (digits_value 10 x) 0) digits)

pub decimal_once : (s : List ℕ) (x y : Ratio) → DecimalText s x → DecimalText s y → x ≡ y
decimal_once s x y a b =
    let signs = sign_once a.sign b.sign (mantissa_text a.mantissa ++ exponent_text a.exponent) (mantissa_text b.mantissa ++ exponent_text b.exponent) (signless_mantissa a.mantissa (exponent_text a.exponent) a.numeral) (signless_mantissa b.mantissa (exponent_text b.exponent) b.numeral) (sym a.text ∙ b.text) in
    let alike = mantissa_once a.mantissa b.mantissa a.exponent b.exponent a.numeral.1 b.numeral.1 signs.1 in
    let powers = exponent_once a.exponent b.exponent a.powers b.powers alike.behind in
    a.value ∙ (ap (λ n. powered n (digits_value 10 (mantissa_digits a.mantissa)) (up a.exponent) (places a.mantissa + down a.exponent)) signs.0 ∙ (ap (λ n. powered (is_minus b.sign) (digits_value 10 n) (up a.exponent) (places a.mantissa + down a.exponent)) alike.digits ∙ (ap (λ n. powered (is_minus b.sign) (digits_value 10 (mantissa_digits b.mantissa)) n (places a.mantissa + down a.exponent)) powers.0 ∙ (ap (λ n. powered (is_minus b.sign) (digits_value 10 (mantissa_digits b.mantissa)) (up b.exponent) (n + down a.exponent)) alike.point ∙ (ap (λ n. powered (is_minus b.sign) (digits_value 10 (mantissa_digits b.mantissa)) (up b.exponent) (places b.mantissa + n)) powers.1 ∙ sym b.value)))))

-- a positive power of ten times a number is a multiple of ten
tens : (n k : ℕ) → n * 10 ^ (k + 1) % 10 ≡ 0
tens n k = ap (λ x. x % 10) (let e : n * 10 ^ (k + 1) ≡ n * 10 ^ k * 10 = omega (arith, ap (λ x. n * x) (ten_more k)) in e) ∙ mul-mod_left (n * 10 ^ k) 10

abbrev pub IsShort : ℕ → ℤ → Type 0
IsShort n k = (n % 10 ≢ 0) ⊎ ((n ≡ 0) × (k ≡ pos 0))

-- no number with decimals is a multiple of ten
no_tens : (n k : ℕ) → IsShort n (negsuc k) → n % 10 ≡ 0 → ⊥
no_tens n k (inl h) e = h e
no_tens n k (inr h) e = cc

-- n with the first decimals is m with the second
same_places : (n m a b : ℕ) → IsShort m (negsuc b) → n * 10 ^ suc b ≡ m * 10 ^ suc a → b ≤ a → n ≡ m * 10 ^ (a - b)
same_places n m a b h e le =
    let split : 10 ^ suc a ≡ 10 ^ (a - b) * 10 ^ suc b = ap (λ k. 10 ^ k) (let k : suc a ≡ a - b + suc b = omega (arith, le) in k) ∙ pow-add 10 (a - b) (suc b) in
    let wide : n * 10 ^ suc b ≡ m * 10 ^ (a - b) * 10 ^ suc b = omega (arith, e, ap (λ x. m * x) split) in
    eq_of_mul-eq-mul_right (10 ^ suc b) (ten_power (suc b)) n (m * 10 ^ (a - b)) wide

-- fewer decimals than the shortest form has are none
not_fewer : (n m a b : ℕ) → IsShort n (negsuc a) → IsShort m (negsuc b) → n * 10 ^ suc b ≡ m * 10 ^ suc a → b < a → ⊥
not_fewer n m a b h k e lt =
    let more : n ≡ m * 10 ^ (a - b) = same_places n m a b k e (omega arith) in
    let one : a - b ≡ a - b - 1 + 1 = omega arith in
    no_tens n a h (ap (λ x. x % 10) (more ∙ ap (λ j. m * 10 ^ j) one) ∙ tens m (a - b - 1))

-- no whole number has decimals
not_whole : (n a m b : ℕ) → IsShort m (negsuc b) → n * 10 ^ a * 10 ^ suc b ≡ m * 1 → ⊥
not_whole n a m b h e =
    let one : suc b ≡ b + 1 = omega arith in
    let here : m ≡ n * 10 ^ a * 10 ^ (b + 1) = omega (arith, e, ap (λ j. n * 10 ^ a * 10 ^ j) one) in
    no_tens m b h (ap (λ x. x % 10) here ∙ tens (n * 10 ^ a) b)

-- of two shortest forms of one number the second fits where the first does
forms_alike : (p q : Bool) (n m : ℕ) (k l : ℤ) → IsShort n k → IsShort m l → unsigned_abs (scientific p n k).num * (scientific q m l).den ≡ unsigned_abs (scientific q m l).num * (scientific p n k).den → IsWithin (scientific p n k) → IsWithin (scientific q m l)
forms_alike p q n m (pos a) (pos b) h g e w = (omega (arith, e, w.0), w.1)
forms_alike p q n m (pos a) (negsuc b) h g e w =
    absurd (not_whole n a m b g (ap (λ x. x * 10 ^ suc b) (sym (unsigned_abs-signed p (n * 10 ^ a))) ∙ (e ∙ ap (λ x. x * 1) (unsigned_abs-signed q m))))
forms_alike p q n m (negsuc a) (pos b) h g e w =
    absurd (not_whole m b n a h (ap (λ x. x * 10 ^ suc a) (sym (unsigned_abs-signed q (m * 10 ^ b))) ∙ (sym e ∙ ap (λ x. x * 1) (unsigned_abs-signed p n))))
forms_alike p q n m (negsuc a) (negsuc b) h g e w =
    let sizes : n * 10 ^ suc b ≡ m * 10 ^ suc a = ap (λ x. x * 10 ^ suc b) (sym (unsigned_abs-signed p n)) ∙ (e ∙ ap (λ x. x * 10 ^ suc a) (unsigned_abs-signed q m)) in
    elim (leb_tells a b) as (λ _. IsWithin (scientific q m (negsuc b))) [
      | inr gt ↦ absurd (not_fewer n m a b h g sizes (let k = gt.1 in omega (arith, k)))
      | inl le ↦
          elim (leb_tells b a) as (λ _. IsWithin (scientific q m (negsuc b))) [
            | inr gt ↦ absurd (not_fewer m n b a g h (sym sizes) (let k = gt.1 in omega (arith, k)))
            | inl ge ↦
                let one : a ≡ b = let k = le.1 in let j = ge.1 in omega (arith, k, j) in
                let same : n ≡ m = eq_of_mul-eq-mul_right (10 ^ suc b) (ten_power (suc b)) n m (sizes ∙ ap (λ j. m * 10 ^ suc j) one) in
                (omega (arith, w.0, unsigned_abs-signed p n, unsigned_abs-signed q m, same), subst (λ j. 10 ^ suc j ≤ most) one w.1)
          ]
    ]

pub written_above : (s : List ℕ) (w : Ratio) → DecimalText s w → 0 < w.den
written_above s w t = subst (λ x. 0 < x.den) (sym t.value) (ten_power _)

no_both : (v w : Ratio) → 0 < v.den → v ≡ w → (f : ShortestForm v) → IsNarrow f → (g : ShortestForm w) → (IsNarrow g → ⊥) → ⊥
no_both v w high e f narrow g wide =
    wide (forms_alike f.negative g.negative f.n g.n f.k g.k f.shortest g.shortest (sizes_cross (scientific f.negative f.n f.k) (scientific g.negative g.n g.k) (IsSame-trans (scientific f.negative f.n f.k) v (scientific g.negative g.n g.k) high f.same (subst (λ y. IsSame y (scientific g.negative g.n g.k)) (sym e) (sym g.same)))) narrow)

pub decimal_refused : (x : Ratio) (text : List ℕ) (e : DecimalFault) → IsDecimal text x → RefusesText DecimalGrammar (IsWideDecimal text) (trimmed text) e → ⊥
decimal_refused x text (NotNumber at) d h = h.outside (d.written, d.read)
decimal_refused x text Wide d h =
    no_both d.written h.written (written_above (trimmed text) d.written d.read) (decimal_once (trimmed text) d.written h.written d.read h.read) d.fit.form d.fit.fits h.unfit.form h.unfit.wide
decimal_refused x text NotDecimal d h = h
decimal_refused x text Memory d h = h

pub decimal_read_back : (x : Frac) (text : List ℕ) (r : Result Frac DecimalFault) → IsDecimal text (ratio x) → IfOk r (λ y. IsDecimal text (ratio y)) → IfErr r (RefusesText DecimalGrammar (IsWideDecimal text) (trimmed text)) → r ≡ Ok x
decimal_read_back x text (Ok y) d h k =
    let one : d.written ≡ h.written = decimal_once (trimmed text) d.written h.written d.read h.read in
    let same : IsSame (ratio y) (ratio x) = IsSame-trans (ratio y) h.written (ratio x) (written_above (trimmed text) h.written h.read) h.fit.same (sym (subst (λ w. IsSame (ratio x) w) one d.fit.same)) in
    ap (λ z. Ok z) (one_fraction y x (same_reduced (ratio y) (ratio x) (y.above, y.reduced) (x.above, x.reduced) same))
decimal_read_back x text (Err e) d h k = absurd (decimal_refused (ratio x) text e d k)
