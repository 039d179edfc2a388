-- Lists of the first values.
use Rattle.std.proofs.Common.{◌≡◌, ℕ, zero, suc, ◌<◌, [], ◌∷◌, ◌++◌, length, refl, sym, ◌∙◌, ap, ap₂, arith}
use Rattle.std.proofs.Math.Seq.{get_or-append_seam}
use Rattle.std.proofs.lemmas.List.{get_or_append_left, length-append}
use Rattle.rational.specs.Ratio.{Ratio}
use Rattle.evidence.specs.Sums.{none}
use Rattle.evidence.specs.Instance.{Instance, width}
use Rattle.evidence.specs.Point.{value_at}
use Rattle.evidence.proofs.Columns.{by_eq}
use Rattle.bases.specs.Dictionary.{Values}
use Rattle.simplex_rules.specs.Reports.{AreValues, collected, one_of}
use Rattle.simplex.specs.Answers.{listed}

pub length-listed : (n : ℕ) (w : Values) → length (listed n w) ≡ n
length-listed zero w = refl
length-listed (suc n) w = length-append (listed n w) (w n ∷ []) ∙ (let i = length-listed n w in omega arith)

pub value_listed : (n : ℕ) (w : Values) (j : ℕ) → j < n → value_at (listed n w) j ≡ w j
value_listed zero w j h = absurd (omega arith)
value_listed (suc n) w j h =
    by_eq j n
    (λ e. ap (λ i. value_at (listed n w ++ w n ∷ []) i) (e ∙ sym (length-listed n w)) ∙ get_or-append_seam (listed n w) (w n) [] none ∙ ap w (sym e))
    (λ d.
    let l : j < n = omega arith in
    let i = length-listed n w in
    get_or_append_left (listed n w) (w n ∷ []) none j (omega arith) ∙ value_listed n w j l)

pub listed_values : (I : Instance) (w : Values) → AreValues I w (listed (width I) w)
listed_values I w = record { count = length-listed (width I) w; values = λ j h. value_listed (width I) w j h }

-- lists of values that agree
pub listed_alike : (n : ℕ) (w v : Values) → ((j : ℕ) → j < n → w j ≡ v j) → listed n w ≡ listed n v
listed_alike zero w v e = refl
listed_alike (suc n) w v e = ap₂ (λ xs x. xs ++ x ∷ []) (listed_alike n w v (λ j h. e j (omega arith))) (e n (omega arith))

pub collected_alike : (n : ℕ) (w v : Values) → ((j : ℕ) → j < n → w j ≡ v j) → collected w n ≡ collected v n
collected_alike zero w v e = refl
collected_alike (suc n) w v e = ap₂ (λ ms (x : Ratio). ms ++ one_of n x.num x) (collected_alike n w v (λ j h. e j (omega arith))) (e n (omega arith))
