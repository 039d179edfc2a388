-- Sets of numbers.
use Rattle.std.specs.Prelude.{ℕ, ◌*◌, Bool, length, slice_index}
use Rattle.marks.specs.Words.{has_bit}
use Rattle.marks.specs.declared.marks.Marks.{Marks}

-- which numbers it has, a bit each
unfoldable pub is_marked : Marks → ℕ → Bool
is_marked m = has_bit (slice_index m.words.items)

-- what all of them are below
unfoldable pub size_of : Marks → ℕ
size_of m = 64 * length m.words.items
