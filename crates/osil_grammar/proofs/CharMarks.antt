-- Characters are taken one after another, and kept in a `coef` or an `el`.
use Rattle.osil_grammar.proofs.Words.{◌≡◌, ℕ, List, true, false, ◌++◌, map, refl, subst, Result, Ok, Err, OnOk, is_ok, if◌then◌else◌, Char, AreTaken, State, keeps_text, osil}
use Rattle.tag_tests.proofs.Characters as characters

-- of what the code holds, which is that state
module _ (s now : State) (same : s ≡ now) (cs : List ℕ) where
  abbrev with : List ℕ → State
  with t = record s { text = t }

  pub chars_kept : {X E : Type 0} (r : Result X E) → keeps_text s.place ≡ true → (new : List ℕ) → new ≡ (if is_ok r then s.text ++ cs else s.text) → OnOk r (AreTaken osil now (map Char cs) (with new))
  chars_kept (Ok x) on new is = subst (λ (n : State). AreTaken osil n (map Char cs) (with new)) same (characters.chars_kept osil with (keeps_text s.place) (λ t c. (tt, refl)) s.text cs new on is)
  chars_kept (Err e) on new is = tt

  pub chars_passed : keeps_text s.place ≡ false → AreTaken osil now (map Char cs) now
  chars_passed off = subst (λ (n : State). AreTaken osil n (map Char cs) n) same (characters.chars_passed osil with (keeps_text s.place) (λ t c. (tt, refl)) s.text cs off)
