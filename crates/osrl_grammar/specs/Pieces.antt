-- Texts as their pieces, which stand between spaces, and a piece as what stands before and behind its first colon.
use denote.Ref.{Bor}
use Rattle.std.specs.Prelude.{ℕ, Option, None, Some, option_map, cond, nat_eq, List, [], ◌∷◌}

-- one character more in front of the first piece
abbrev pub onto : ℕ → List (List ℕ) → List (List ℕ)
onto c [] = (c ∷ []) ∷ []
onto c (p ∷ ps) = (c ∷ p) ∷ ps

-- the pieces between the spaces; a piece may be empty
abbrev pub pieces : List ℕ → List (List ℕ)
pieces [] = [] ∷ []
pieces (c ∷ cs) = cond (nat_eq c 32) ([] ∷ pieces cs) (onto c (pieces cs))

-- those of a text that stands behind a piece, if one does
abbrev pub more : Option (Bor (List ℕ)) → List (List ℕ)
more None = []
more (Some text) = pieces text.now

-- texts in place of a column and its multiplier
pub record Pair : Type 0 where
  pub column : List ℕ
  pub factor : List ℕ

-- a piece parts at its first colon
abbrev pub parted : List ℕ → Option Pair
parted [] = None
parted (c ∷ cs) = cond (nat_eq c 58) (Some (record { column = []; factor = cs })) (option_map (λ p. record { column = c ∷ p.column; factor = p.factor }) (parted cs))
