-- Characters are kept in a text that is read, and passed over elsewhere, in the state that the code holds.
use Rattle.osrl_grammar.proofs.Names.{◌≡◌, ℕ, true, false, List, ◌++◌, map, refl, sym, subst, Char, AreTaken, State, keeps, osrl}
use Rattle.tag_tests.proofs.Characters.{chars_kept, chars_passed}

module _ (s now : State) (same : s ≡ now) (cs : List ℕ) where
  pub chars_heard : (new : List ℕ) → true ≡ keeps now.depth now.place → new ≡ s.text ++ cs → AreTaken osrl now (map Char cs) (record s { text = new })
  chars_heard new on is =
      subst (λ (n : State). AreTaken osrl n (map Char cs) (record s { text = new })) same
      (chars_kept osrl (λ t. record s { text = t }) (keeps s.depth s.place) (λ t c. (tt, refl)) s.text cs new (subst (λ (n : State). keeps n.depth n.place ≡ true) (sym same) (sym on)) is)

  pub chars_over : false ≡ keeps now.depth now.place → AreTaken osrl now (map Char cs) now
  chars_over off = chars_passed osrl (λ t. record now { text = t }) (keeps now.depth now.place) (λ t c. (tt, refl)) now.text cs (sym off)
