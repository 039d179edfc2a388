-- A rounding cut has one row, and a level one end: so levels are read one after the other.
use Rattle.std.proofs.Common.{◌≡◌, ℕ, ◌<◌, ℤ, pos, negsuc, ◌+ℤ◌, ◌≤ℤ◌, ◌↔◌, Option, None, Some, IfSome, List, ◌∷◌, length, arith, sym, ◌∙◌, subst}
use Rattle.std.proofs.lemmas.Int.{ints, by_lt_z}
use Rattle.std.proofs.lemmas.List.{ext_get_or}
use Rattle.rational.specs.Ratio.{Ratio, whole, sum, product, negative, IsSame, IsNumber}
use Rattle.rational.proofs.Integers.{more-times}
use Rattle.rational.proofs.Scaling.{same_multiple, IsSame-trans}
use Rattle.rational.proofs.ReducedForms.{same_reduced}
use Rattle.evidence.specs.Sums.{none}
use Rattle.evidence.specs.OneDenominator.{number_at}
use Rattle.evidence.specs.Instance.{Range, HasNumbers, Instance, IsInstance, Goal, width, coefficient_at, column_at, minimising}
use Rattle.evidence.specs.Cases.{Multiplier, multiplier_at, form, low_sum, AreLegal, end_by, end_of, or_none}
use Rattle.evidence.specs.Rounds.{Certificate, IsCeiling, IsRoundingCut, CertificateShows}
use Rattle.evidence.specs.Levels.{IsReachedEnd, next_level, AreBest, AreEndless}
use Rattle.evidence.proofs.Numbers.{product-number, sum-number}
use Rattle.evidence.proofs.Totals.{total-number}
use Rattle.evidence.proofs.Columns.{All-anywhere, none-number, coefficient-number, column-numbers}
use Rattle.evidence.proofs.Duality.{minimising-number}

pub or_none-number : (o : Option Ratio) → IfSome o IsNumber → IsNumber (or_none o)
or_none-number None h = none-number
or_none-number (Some x) h = h

pub end_by-number : (z : ℤ) (r : Range) → HasNumbers r → IsNumber (or_none (end_by z r))
end_by-number (pos n) r h = or_none-number r.lb h.0
end_by-number (negsuc n) r h = or_none-number r.ub h.1

module _ (I : Instance) (good : IsInstance I) (ms : List Multiplier) (legal : AreLegal I ms) where
  pub by-number : (k : ℕ) → IsNumber (multiplier_at ms k).by
  by-number k = All-anywhere (λ m. IsNumber m.by) ms (record { column = 0; by = none }) none-number legal.numbers k

  pub form_number : (j : ℕ) → IsNumber (form I ms j)
  form_number j =
      total-number none (length ms) (λ k. product (multiplier_at ms k).by (coefficient_at I (multiplier_at ms k).column j)) none-number
      (λ k. product-number (multiplier_at ms k).by (coefficient_at I (multiplier_at ms k).column j) (by-number k) (coefficient-number I good (multiplier_at ms k).column j))

  pub low-number : IsNumber (low_sum I none ms)
  low-number =
      total-number none (length ms) (λ k. product (multiplier_at ms k).by (or_none (end_of I (multiplier_at ms k)))) none-number
      (λ k. product-number (multiplier_at ms k).by (or_none (end_of I (multiplier_at ms k))) (by-number k) (end_by-number (multiplier_at ms k).by.num (column_at I (multiplier_at ms k).column) (column-numbers I good (multiplier_at ms k).column)))

-- a number is one whole number at most
one_whole : (x : Ratio) (a b : ℤ) → IsNumber x → IsSame x (whole a) → IsSame x (whole b) → a ≡ b
one_whole x a b p e f = same_multiple a b x.den p (sym e ∙ f)

not_above : (x : Ratio) (k l : ℤ) → IsCeiling x k → IsCeiling x l → k ≤ℤ l
not_above x k l c d =
    by_lt_z l k
    (λ below.
    let t = more-times l (k +ℤ negsuc 0) x.den (omega (arith, ints)) in
    let low = c.low in
    let high = d.high in
    absurd (omega (arith, ints)))
    (λ done. done)

pub one_ceiling : (x : Ratio) (k l : ℤ) → IsCeiling x k → IsCeiling x l → k ≡ l
one_ceiling x k l c d = let a = not_above x k l c d in let b = not_above x l k d c in omega (arith, ints)

pub one_row : (I : Instance) → IsInstance I → (ms : List Multiplier) (cs ds : List ℤ) (k l : ℤ) → IsRoundingCut I ms cs k → IsRoundingCut I ms ds l → (cs ≡ ds) × (k ≡ l)
one_row I good ms cs ds k l a b = (
  ext_get_or (pos 0) cs ds (a.count ∙ sym b.count) (λ j h. let low : j < width I = subst (λ n. j < n) a.count h in one_whole (form I ms j) (number_at cs j) (number_at ds j) (form_number I good ms a.legal j) (a.forms j low) (b.forms j low)),
  one_ceiling (low_sum I none ms) k l a.rounded b.rounded,
)

pub one_end : (I : Instance) → IsInstance I → (v d e : Ratio) → IsNumber v → IsReachedEnd I v d → IsReachedEnd I v e → d ≡ e
one_end I good v d e p a b =
    let s : Ratio = sum (minimising I v) (negative (minimising I I.goal.constant)) in
    let ps : IsNumber s = sum-number (minimising I v) (negative (minimising I I.goal.constant)) (minimising-number I v p) (minimising-number I I.goal.constant good.constant) in
    let back : IsSame s e = sym b.same in
    same_reduced d e a.reduced b.reduced (IsSame-trans d s e ps a.same back)

pub level_step : (I : Instance) → IsInstance I → (g : Goal) (gs : List Goal) (v e : Ratio) (vs : List Ratio) (c : Certificate) (cs : List Certificate) → IsNumber v → IsReachedEnd I v e → AreBest I (g ∷ gs) (v ∷ vs) (c ∷ cs) ↔ (CertificateShows I c (Some (minimising I v)) × AreBest (next_level I e g) gs vs cs)
level_step I good g gs v e vs c cs p h = (
  λ (s, d, a, rest). (s, subst (λ d. AreBest (next_level I d g) gs vs cs) (one_end I good v d e p a h) rest),
  λ (s, rest). (s, e, h, rest),
)

pub endless_step : (I : Instance) → IsInstance I → (g : Goal) (gs : List Goal) (v e : Ratio) (vs : List Ratio) (c : Certificate) (cs : List Certificate) (x r : List Ratio) → IsNumber v → IsReachedEnd I v e → AreEndless I (g ∷ gs) (v ∷ vs) (c ∷ cs) x r ↔ (CertificateShows I c (Some (minimising I v)) × AreEndless (next_level I e g) gs vs cs x r)
endless_step I good g gs v e vs c cs x r p h = (
  λ (s, d, a, rest). (s, subst (λ d. AreEndless (next_level I d g) gs vs cs x r) (one_end I good v d e p a h) rest),
  λ (s, rest). (s, e, h, rest),
)
