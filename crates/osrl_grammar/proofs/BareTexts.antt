-- A text that was read without the white space round it is bare, or there is none.
use Rattle.osrl_grammar.proofs.Names.{◌≡◌, ◌∙◌, ℕ, List, [], ◌∷◌, ap, sym, subst, IsXmlText, trimmed, unless_empty, TextsAreOfCharacters, IsBareOrNone}
use Rattle.decimal_text.proofs.Trims.{space_low, trimmed_keeps, trimmed_again}

module _ (ground : TextsAreOfCharacters) where
  trimmed_text : (s : List ℕ) → IsXmlText s → IsXmlText (trimmed s)
  trimmed_text = trimmed_keeps IsXmlText (λ b s e text. (ground.part [] b s (space_low b e) text).1) (λ b s e text. (ground.part s b [] (space_low b e) text).0)

  pub bare_of : (s t : List ℕ) → trimmed s ≡ t → IsXmlText s → IsBareOrNone (unless_empty t)
  bare_of s [] e text = tt
  bare_of s (c ∷ cs) e text = record {
    some = λ none. cc;
    bare = ap trimmed (sym e) ∙ trimmed_again s ∙ e;
    characters = subst IsXmlText e (trimmed_text s text);
  }
