-- A row's values at their columns.
use Rattle.std.proofs.Common.{◌≡◌, ℕ, ◌+◌, ◌<◌, ◌⊎◌, inl, inr, List, [], ◌∷◌, ◌++◌, length, take, get_or, set, arith, sym, ◌∙◌, ap, subst, get_or-set_same, get_or-set_other}
use Rattle.std.proofs.lemmas.List.{take_more, map-set, length-map}
use Rattle.fraction.specs.Frac.{ratio, ratios}
use Rattle.fraction.specs.declared.frac.Frac.{Frac}
use Rattle.evidence.specs.Sums.{none}
use Rattle.evidence.specs.Point.{value_at}
use Rattle.evidence.proofs.Columns.{by_eq}
use Rattle.dictionary.specs.declared.fractions.Item.{Item}
use Rattle.dictionary.specs.Row.{number_in, HasColumn}
use Rattle.dictionary.proofs.Rows.{has_append}

-- a list with a value in another's place
pub set_own : (xs : List Frac) (c : ℕ) (x : Frac) → c < length xs → value_at (ratios (set xs c x)) c ≡ ratio x
set_own xs c x l = ap (λ ys. get_or ys c none) (map-set ratio xs c x) ∙ get_or-set_same (ratios xs) c (ratio x) none (omega (arith, length-map xs ratio))

pub set_other : (xs : List Frac) (c j : ℕ) (x : Frac) → (j ≡ c → ⊥) → value_at (ratios (set xs c x)) j ≡ value_at (ratios xs) j
set_other xs c j x d = ap (λ ys. get_or ys j none) (map-set ratio xs c x) ∙ get_or-set_other (ratios xs) c j (ratio x) none d

-- the entries of a list up to one more
pub spread_more : (xs : List Item) (i : ℕ) (x : Item) → i < length xs → x ≡ get_or xs i x → number_in xs x.col ≡ ratio x.value → (values : List Frac) → x.col < length values → ((c : ℕ) → HasColumn (take i xs) c → value_at (ratios values) c ≡ number_in xs c) → (c : ℕ) → HasColumn (take (i + 1) xs) c → value_at (ratios (set values x.col x.value)) c ≡ number_in xs c
spread_more xs i x l e is values inside done c h =
    by_eq c x.col
    (λ f. ap (λ j. value_at (ratios (set values x.col x.value)) j) f ∙ set_own values x.col x.value inside ∙ sym (ap (number_in xs) f ∙ is))
    (λ d. set_other values x.col c x.value d ∙ done c (before d (has_append (take i xs) (x ∷ []) c (subst (λ (ys : List Item). HasColumn ys c) (take_more xs i x l ∙ ap (λ (y : Item). take i xs ++ y ∷ []) (sym e)) h))))
  where
    before : (c ≡ x.col → ⊥) → HasColumn (take i xs) c ⊎ HasColumn (x ∷ []) c → HasColumn (take i xs) c
    before d (inl p) = p
    before d (inr (inl q)) = absurd (d (sym q))
    before d (inr (inr q)) = absurd q
