-- First parts of texts, and looks that said to stop, one list behind another.
use Rattle.std.specs.Prelude.{◌≡◌, ℕ, ◌+◌, List, [], ◌∷◌, ◌++◌, take, drop, Bool, true, false}
use Rattle.std.proofs.Common.{append-nil, sym, ◌∙◌, ap}
use Rattle.std.proofs.Math.Nat.{add_right_comm, zero-add}
use Rattle.std.proofs.lemmas.List.{take-append-drop}
use Rattle.os_io.specs.Streams.{IsPart}
use Rattle.os_io.specs.Looks.{stops_of}

-- the first bytes are a first part
pub handed_part : (n : ℕ) (bytes : List ℕ) → IsPart bytes (take n bytes)
handed_part n bytes = (drop n bytes, sym (take-append-drop n bytes))

-- all is a first part
pub part_whole : (a : List ℕ) → IsPart a a
part_whole a = ([], sym (append-nil a))

-- the looks of two lists that said to stop
pub stops_more : (first second : List Bool) → stops_of (first ++ second) ≡ stops_of first + stops_of second
stops_more [] second = sym (zero-add (stops_of second))
stops_more (true ∷ first) second =
    ap (λ n. n + 1) (stops_more first second) ∙ add_right_comm (stops_of first) (stops_of second) 1
stops_more (false ∷ first) second = stops_more first second

-- none said to stop
pub no_stops : (first second : List Bool) → stops_of first ≡ 0 → stops_of second ≡ 0 → stops_of (first ++ second) ≡ 0
no_stops first second p q =
    stops_more first second ∙ ap (λ n. n + stops_of second) p ∙ zero-add (stops_of second) ∙ q

-- where none said to stop, a count of 0 stays
pub no_stop : (answers : List Bool) → stops_of answers ≡ 0 → 0 ≡ 0 + stops_of answers
no_stop answers p = sym (zero-add (stops_of answers) ∙ p)
