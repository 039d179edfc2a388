-- Pieces of a body are their bytes.
use Rattle.std.proofs.Common.{ℕ, List, [], ◌++◌}
use Rattle.http_link.specs.Pieces.{TakesPieces, none, more}

pub pieces_taken : {B : Type 0} (took : B → B → List ℕ → Type 0) → ((a : B) → took a a [])
    → ((a b c : B) (first second : List ℕ) → took a b first → took b c second → took a c (first ++ second))
    → (a : B) {b : B} {bytes : List ℕ} → TakesPieces took a b bytes → took a b bytes
pieces_taken took stays joined a none = stays a
pieces_taken took stays joined a (more b c before piece p fits last) = joined a b c before piece (pieces_taken took stays joined a p) last
