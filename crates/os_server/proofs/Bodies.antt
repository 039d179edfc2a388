-- What a body asks, by what its parts say.
use Rattle.std.proofs.Common.{◌≡◌, ◌≢◌, ◌==◌, ℕ, Bool, true, false, List, [], length, ap}

pub not_empty : (text : List ℕ) (b : Bool) → b ≡ (length text == 0) → b ≡ false → text ≢ []
not_empty text b is isnt e = let full : (length text == 0) ≡ true = ap (λ t. length t == 0) e in cc
