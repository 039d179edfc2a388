-- White space round a number's text is no part of it (XML Schema part 2, section 4.3.6).
use Rattle.std.specs.Prelude.{ℕ, Bool, ◌||◌, ◌==◌, cond, List, [], ◌∷◌, reverse}

-- space, tab, line feed and carriage return (XML 1.0, section 2.3)
abbrev pub is_space : ℕ → Bool
is_space b = b == 32 || b == 9 || b == 10 || b == 13

-- the text without the white space that it begins with
abbrev pub without_leading_space : List ℕ → List ℕ
without_leading_space [] = []
without_leading_space (b ∷ s) = cond (is_space b) (without_leading_space s) (b ∷ s)

-- the text without the white space at both ends
abbrev pub trimmed : List ℕ → List ℕ
trimmed s = reverse (without_leading_space (reverse (without_leading_space s)))
