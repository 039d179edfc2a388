-- A text says one number and one time, and the number that was written, or the time that was written of seconds, is read as these.
use Rattle.std.proofs.Common.{◌≡◌, ◌*◌, ◌<◌, inl, inr, ℕ, ℤ, pos, Ok, List, refl, sym, subst, arith}
use Rattle.rational.specs.Ratio.{Ratio, whole, product, IsSame}
use Rattle.rational.specs.Width.{IsReduced, IsWithin, ReducedFits}
use Rattle.rational.proofs.Scaling.{IsSame-trans}
use Rattle.fraction.specs.Frac.{ratio}
use Rattle.fraction.specs.declared.frac.Frac.{Frac}
use Rattle.fraction.proofs.Order.{same_fraction}
use Rattle.decimal_text.specs.declared.fault.DecimalFault.{DecimalFault}
use Rattle.decimal_text.specs.declared.fault.DecimalFault.TheVariants.{NotNumber, Wide, NotDecimal, Memory}
use Rattle.decimal_text.specs.Decimal.{DecimalGrammar, IsWideDecimal}
use Rattle.decimal_text.specs.Exact.{RatioText, ratio_text}
use Rattle.decimal_text.specs.Fault.{RefusesText, RefusesRatio}
use Rattle.decimal_text.specs.Space.{trimmed}
use Rattle.decimal_text.proofs.OneDecimal.{decimal_refused, decimal_read_back}
use Rattle.decimal_text.proofs.Quotients.{times_one}
use Rattle.decimal_text.proofs.OneRatio.{ratio_once, written_ratio}
use Rattle.osol_grammar.specs.Times.{IsAmount, IsTime, SaysTime}

-- ---- numbers

one_ratio : (text : List ℕ) (x y : Frac) → RatioText text (ratio x) → RatioText text (ratio y) → x ≡ y
one_ratio text x y a b = same_fraction x y (subst (IsSame (ratio x)) (ratio_once text (ratio x) (ratio y) a b) refl)

pub amount_once : (text : List ℕ) (x y : Frac) → IsAmount text x → IsAmount text y → x ≡ y
amount_once text x y (inl a) (inl b) = one_ratio text x y a b
amount_once text x y (inl a) (inr b) = absurd (b.0 x a)
amount_once text x y (inr a) (inl b) = absurd (a.0 y b)
amount_once text x y (inr a) (inr b) = let same = decimal_read_back y text (Ok x) b.1 a.1 tt in cc

-- a text that is refused is no ratio of a fraction
pub no_ratio : (text : List ℕ) (fault : DecimalFault) → RefusesRatio text fault → (y : Frac) → RatioText text (ratio y) → ⊥
no_ratio text (NotNumber at) (inl leaves) y form = leaves.outside (ratio y, form)
no_ratio text (NotNumber at) (inr (long, (z, (written, within, unreduced)))) y form = unreduced (subst IsReduced (ratio_once text (ratio y) z form written) (y.above, y.reduced))
no_ratio text Wide (z, (written, wide)) y form = wide (subst IsWithin (ratio_once text (ratio y) z form written) (y.numer_within, y.denom_within))
no_ratio text NotDecimal refuses y form = refuses
no_ratio text Memory refuses y form = refuses

-- and no decimal
pub no_amount : (text : List ℕ) (fault other : DecimalFault) → RefusesRatio text fault → RefusesText DecimalGrammar (IsWideDecimal text) (trimmed text) other → (y : Frac) → IsAmount text y → ⊥
no_amount text fault other refuses refuses_too y (inl form) = no_ratio text fault refuses y form
no_amount text fault other refuses refuses_too y (inr is) = decimal_refused (ratio y) text other is.1 refuses_too

-- a number that was written is read
pub amount_read : (x : Frac) → IsAmount (ratio_text (ratio x)) x
amount_read x = inl (written_ratio (ratio x) (x.above, x.reduced) (x.numer_within, x.denom_within))

-- ---- times

pub time_once : (unit : ℕ) (text : List ℕ) (s t : Frac) → SaysTime unit text s → SaysTime unit text t → s ≡ t
time_once unit text s t a b =
    let same = amount_once text a.amount b.amount a.written b.written in
    let times : IsSame (ratio s) (product (ratio b.amount) (whole (pos unit))) = subst (λ (x : Frac). IsSame (ratio s) (product (ratio x) (whole (pos unit)))) same a.times in
    let above = b.amount.above in
    same_fraction s t (IsSame-trans (ratio s) (product (ratio b.amount) (whole (pos unit))) (ratio t) (omega (arith, above)) times (sym b.times))

-- the text says no time: it is no number, or its seconds are too wide, or aren't one
pub no_number : (unit : ℕ) (text : List ℕ) → ((y : Frac) → IsAmount text y → ⊥) → (s : Frac) → SaysTime unit text s → ⊥
no_number unit text none s says = none says.amount says.written

pub too_wide : (unit : ℕ) (text : List ℕ) (x : Frac) (w : Ratio) → w ≡ whole (pos unit) → IsAmount text x → (ReducedFits (product (ratio x) w) → ⊥) → (s : Frac) → SaysTime unit text s → ⊥
too_wide unit text x w is written wide s says =
    let same = amount_once text says.amount x says.written written in
    let times : IsSame (ratio s) (product (ratio x) w) = rw is (subst (λ (y : Frac). IsSame (ratio s) (product (ratio y) (whole (pos unit)))) same says.times) in
    let above = x.above in
    let number : 0 < (product (ratio x) w).den = rw is (omega (arith, above)) in
    wide (record { number = number; form = ratio s; same = times; reduced = (s.above, s.reduced); within = (s.numer_within, s.denom_within) })

pub no_time : (unit : ℕ) (text : List ℕ) (x s : Frac) (w : Ratio) → w ≡ whole (pos unit) → IsAmount text x → IsSame (ratio s) (product (ratio x) w) → (IsTime s → ⊥) → (t : Frac) → SaysTime unit text t → ⊥
no_time unit text x s w is written times none t says =
    let same = amount_once text says.amount x says.written written in
    let said : IsSame (ratio t) (product (ratio x) (whole (pos unit))) = subst (λ (y : Frac). IsSame (ratio t) (product (ratio y) (whole (pos unit)))) same says.times in
    let here : IsSame (ratio s) (product (ratio x) (whole (pos unit))) = subst (λ (v : Ratio). IsSame (ratio s) (product (ratio x) v)) is times in
    let above = x.above in
    none (subst IsTime (same_fraction t s (IsSame-trans (ratio t) (product (ratio x) (whole (pos unit))) (ratio s) (omega (arith, above)) said (sym here))) says.is)

pub says_time : (unit : ℕ) (text : List ℕ) (x s : Frac) (w : Ratio) → w ≡ whole (pos unit) → IsAmount text x → IsSame (ratio s) (product (ratio x) w) → IsTime s → SaysTime unit text s
says_time unit text x s w is written times fits = record { amount = x; written = written; times = subst (λ (v : Ratio). IsSame (ratio s) (product (ratio x) v)) is times; is = fits }

-- what was written is read
by_one : (n : ℤ) (d : ℕ) → IsSame (record { num = n; den = d }) (product (record { num = n; den = d }) (whole (pos 1)))
by_one n d =
    let below : d * 1 ≡ d = omega arith in
    rw (times_one n, below) refl

pub time_read : (s : Frac) → IsTime s → SaysTime 1 (ratio_text (ratio s)) s
time_read s is = record { amount = s; written = amount_read s; times = by_one s.numer s.denom; is = is }
