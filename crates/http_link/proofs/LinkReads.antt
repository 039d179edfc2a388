-- What reads one after another took.
use Rattle.std.proofs.Common.{◌≡◌, ℕ, List, [], ◌∷◌, ◌++◌, take, Option, Some, None, refl, sym, ◌∙◌, ap, subst, append_assoc}
use Rattle.std.specs.Prelude.{⊤}
use Rattle.os_io.specs.Streams.{BothTold}

-- nothing was taken yet
pub took_none : (x : Option (List ℕ)) → BothTold x x (λ before after. before ≡ [] ++ after)
took_none None = tt
took_none (Some x) = refl

-- one byte after those before it
pub took_more : (x y z : Option (List ℕ)) (taken : List ℕ) (b : ℕ)
    → BothTold x y (λ before after. before ≡ taken ++ after) → BothTold y z (λ before after. before ≡ b ∷ after)
    → BothTold x z (λ before after. before ≡ (taken ++ b ∷ []) ++ after)
took_more None y z taken b p q = tt
took_more (Some x) None z taken b p q = absurd p
took_more (Some x) (Some y) None taken b p q = absurd q
took_more (Some x) (Some y) (Some z) taken b p q =
    p ∙ ap (λ s. taken ++ s) q ∙ sym (append_assoc taken (b ∷ []) z)

-- the same bytes, and a fact of the rest
pub took_with : (x y : Option (List ℕ)) (taken : List ℕ) → BothTold x y (λ before after. before ≡ taken ++ after)
    → BothTold x y (λ before after. (before ≡ taken ++ after) × ⊤)
took_with None y taken p = tt
took_with (Some x) None taken p = absurd p
took_with (Some x) (Some y) taken p = (p, tt)

-- the input ended
pub took_all : (x y z : Option (List ℕ)) (taken : List ℕ) → BothTold x y (λ before after. before ≡ taken ++ after)
    → BothTold y z (λ before after. (before ≡ []) × (after ≡ []))
    → BothTold x z (λ before after. (before ≡ taken ++ after) × (after ≡ []))
took_all None y z taken p end = tt
took_all (Some x) None z taken p end = absurd p
took_all (Some x) (Some y) None taken p end = absurd end
took_all (Some x) (Some y) (Some z) taken p end =
    (p ∙ ap (λ s. taken ++ s) (end.0 ∙ sym end.1), end.1)

-- nothing more was taken
pub took_same : (x y z : Option (List ℕ)) (taken : List ℕ) → BothTold x y (λ before after. before ≡ taken ++ after)
    → z ≡ y → BothTold x z (λ before after. (before ≡ taken ++ after) × ⊤)
took_same x y z taken p same = took_with x z taken (subst (λ (w : Option (List ℕ)). BothTold x w (λ before after. before ≡ taken ++ after)) (sym same) p)

-- one reading after another
pub took_both : (x y z : Option (List ℕ)) (first second : List ℕ) (P Q : List ℕ → Type 0)
    → BothTold x y (λ before after. (before ≡ first ++ after) × P after)
    → BothTold y z (λ before after. (before ≡ second ++ after) × Q after)
    → BothTold x z (λ before after. (before ≡ (first ++ second) ++ after) × Q after)
took_both None y z first second P Q p q = tt
took_both (Some x) None z first second P Q p q = absurd p
took_both (Some x) (Some y) None first second P Q p q = absurd q
took_both (Some x) (Some y) (Some z) first second P Q p q =
    (p.0 ∙ ap (λ s. first ++ s) q.0 ∙ sym (append_assoc first second z), q.1)

-- the same bytes, and another fact of the rest
pub took_so : (x y : Option (List ℕ)) (taken : List ℕ) (P Q : List ℕ → Type 0) → ((rest : List ℕ) → P rest → Q rest)
    → BothTold x y (λ before after. (before ≡ taken ++ after) × P after)
    → BothTold x y (λ before after. (before ≡ taken ++ after) × Q after)
took_so None y taken P Q f p = tt
took_so (Some x) None taken P Q f p = absurd p
took_so (Some x) (Some y) taken P Q f p = (p.0, f y p.1)

-- the same bytes alone
pub took_alone : (x y : Option (List ℕ)) (taken : List ℕ) (P : List ℕ → Type 0)
    → BothTold x y (λ before after. (before ≡ taken ++ after) × P after) → BothTold x y (λ before after. before ≡ taken ++ after)
took_alone None y taken P p = tt
took_alone (Some x) None taken P p = absurd p
took_alone (Some x) (Some y) taken P p = p.0
