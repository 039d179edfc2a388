-- Signs before digits.
use Rattle.std.specs.Prelude.{ℕ, Bool, true, false, List, [], ◌∷◌}

-- no sign, `+` or `-`
pub data Sign : Type 0 where
  absent : Sign
  plus : Sign
  minus : Sign

-- its text
abbrev pub sign_text : Sign → List ℕ
sign_text absent = []
sign_text plus = 43 ∷ []
sign_text minus = 45 ∷ []

-- whether it makes a number negative
abbrev pub is_minus : Sign → Bool
is_minus absent = false
is_minus plus = false
is_minus minus = true

-- the byte, or nothing
abbrev pub optional : ℕ → Bool → List ℕ
optional byte true = byte ∷ []
optional byte false = []
