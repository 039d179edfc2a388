-- Texts without the white space round them: nothing more is dropped of one, and what holds of a text however white space is taken from its ends holds of it.
use Rattle.std.proofs.Common.{◌≡◌, ◌∙◌, ℕ, ◌<◌, Bool, true, false, cond, List, [], ◌∷◌, ◌++◌, reverse, arith, refl, ap, sym, subst}
use Rattle.std.proofs.lemmas.Bool.Decides.{nat_tests}
use Rattle.std.proofs.lemmas.List.{reverse-append, reverse-reverse}
use Rattle.decimal_text.specs.Space.{is_space, without_leading_space, trimmed}

pub space_low : (b : ℕ) → is_space b ≡ true → b < 128
space_low b is = grind (arith, nat_tests)

module _ (P : List ℕ → Type 0) (before : (b : ℕ) (s : List ℕ) → is_space b ≡ true → P (s ++ b ∷ []) → P s) where
  back_keeps : (r : List ℕ) → P (reverse r) → P (reverse (without_leading_space r))
  back_keeps [] holds = holds
  back_keeps (b ∷ r) holds = by (is_space b) refl (λ rest. back_keeps r rest)
    where
      by : (t : Bool) → is_space b ≡ t → (P (reverse r) → P (reverse (without_leading_space r))) → P (reverse (cond t (without_leading_space r) (b ∷ r)))
      by true e rest = rest (before b (reverse r) e (subst P (reverse-append (b ∷ []) r) holds))
      by false e rest = holds

module _ (P : List ℕ → Type 0) (behind : (b : ℕ) (s : List ℕ) → is_space b ≡ true → P (b ∷ s) → P s) (before : (b : ℕ) (s : List ℕ) → is_space b ≡ true → P (s ++ b ∷ []) → P s) where
  front_keeps : (s : List ℕ) → P s → P (without_leading_space s)
  front_keeps [] holds = holds
  front_keeps (b ∷ s) holds = by (is_space b) refl (λ rest. front_keeps s rest)
    where
      by : (t : Bool) → is_space b ≡ t → (P s → P (without_leading_space s)) → P (cond t (without_leading_space s) (b ∷ s))
      by true e rest = rest (behind b s e holds)
      by false e rest = holds

  pub trimmed_keeps : (s : List ℕ) → P s → P (trimmed s)
  trimmed_keeps s holds =
      let u = without_leading_space s in
      back_keeps P before (reverse u) (subst P (sym (reverse-reverse u)) (front_keeps s holds))

-- no white space stands first
abbrev IsUnled : List ℕ → Type 0
IsUnled [] = Unit {0}
IsUnled (b ∷ s) = is_space b ≡ false

unled_by : (t : Bool) (b : ℕ) (s rest : List ℕ) → is_space b ≡ t → IsUnled rest → IsUnled (cond t rest (b ∷ s))
unled_by true b s rest e later = later
unled_by false b s rest e later = e

unled : (s : List ℕ) → IsUnled (without_leading_space s)
unled [] = tt
unled (b ∷ s) = unled_by (is_space b) b s (without_leading_space s) refl (unled s)

unled_front : (xs ys : List ℕ) → IsUnled (xs ++ ys) → IsUnled xs
unled_front [] ys first = tt
unled_front (b ∷ xs) ys first = first

stays : (s : List ℕ) → IsUnled s → without_leading_space s ≡ s
stays [] first = refl
stays (b ∷ s) first = ap (λ (t : Bool). cond t (without_leading_space s) (b ∷ s)) first

pub trimmed_again : (s : List ℕ) → trimmed (trimmed s) ≡ trimmed s
trimmed_again s =
    let u = without_leading_space s in
    let v = without_leading_space (reverse u) in
    let first : IsUnled (reverse v) = back_keeps IsUnled (λ b xs e h. unled_front xs (b ∷ []) h) (reverse u) (subst IsUnled (sym (reverse-reverse u)) (unled s)) in
    ap (λ (x : List ℕ). reverse (without_leading_space (reverse x))) (stays (reverse v) first)
    ∙ ap (λ (x : List ℕ). reverse (without_leading_space x)) (reverse-reverse v)
    ∙ ap reverse (stays v (unled (reverse u)))
