-- Numbers of items as ratios are read.
use Rattle.osrl_grammar.proofs.Names.{◌≡◌, inl, inr, ℕ, List, sym, subst, IsReduced, IsWithin, ratio, Frac, RatioText, ratio_once, Exact, IsNumberText, IsNot}
use Rattle.decimal_text.specs.declared.fault.DecimalFault.{DecimalFault}
use Rattle.decimal_text.specs.declared.fault.DecimalFault.TheVariants.{NotNumber}
use Rattle.decimal_text.specs.Fault.{RefusesRatio}
use Rattle.tag_tests.specs.declared.numbers.Unread.TheVariants as unread

-- a fraction that was read
pub exact_read : (text : List ℕ) (x : Frac) → RatioText text (ratio x) → IsNumberText Exact text (ratio x)
exact_read text x form = (record { form = form; of_kind = tt; reduced = λ _. (x.above, x.reduced) }, (x.numer_within, x.denom_within))

-- none
pub exact_none : (text : List ℕ) (at : ℕ) → RefusesRatio text (NotNumber at) → IsNot Exact text unread.NotNumber
exact_none text at (inl leaves) = λ x w. leaves.outside (x, w.form)
exact_none text at (inr (long, (y, (form, within, unreduced)))) = λ x w.
    let same : x ≡ y = ratio_once text x y w.form form in
    unreduced (subst IsReduced same (w.reduced (subst IsWithin (sym same) within)))

pub exact_refused : (text : List ℕ) (at : ℕ) (fault : DecimalFault) → fault ≡ NotNumber at → RefusesRatio text fault → IsNot Exact text unread.NotNumber
exact_refused text at fault is refuses = exact_none text at (subst (λ (e : DecimalFault). RefusesRatio text e) is refuses)
