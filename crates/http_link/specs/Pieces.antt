-- Pieces of a body.
use Rattle.std.specs.Prelude.{ℕ, ◌≤◌, List, [], ◌++◌, length}

-- the most bytes of one piece
abbrev pub most_piece : ℕ
most_piece = 4096

-- one who takes bytes took these piece by piece, none of which has more bytes than one may have. What it is to take a piece is given
pub data TakesPieces {B : Type 0} (took : B → B → List ℕ → Type 0) (a : B) : B → List ℕ → Type 0 where
  none : TakesPieces took a a []
  more : (b c : B) (before piece : List ℕ) → TakesPieces took a b before → length piece ≤ most_piece → took b c piece
      → TakesPieces took a c (before ++ piece)
