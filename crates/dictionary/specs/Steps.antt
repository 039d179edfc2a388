-- How many steps a pivot may take. A step is one entry of a row read or written.
use Rattle.std.specs.Prelude.{ℕ, zero, suc, ◌+◌, ◌*◌, ℤ, pos, negsuc}
use Rattle.rational.specs.Ratio.{Ratio}
use Rattle.bases.specs.Dictionary.{Entries}

-- x, or 0 where z is 0
abbrev pub unless_zero : ℤ → ℕ → ℕ
unless_zero (pos zero) x = 0
unless_zero (pos (suc n)) x = x
unless_zero (negsuc n) x = x

-- how many of the first k columns have an entry that isn't 0
abbrev pub nonzeros : ℕ → (ℕ → Ratio) → ℕ
nonzeros zero row = 0
nonzeros (suc k) row = nonzeros k row + unless_zero (row k).num 1

-- the sum of f c for each c below k
abbrev pub count_all : ℕ → (ℕ → ℕ) → ℕ
count_all zero f = 0
count_all (suc k) f = count_all k f + f k

-- the entries of column a's equation and of b's, where a's has an entry at e
abbrev pub touched : ℕ → Entries → ℕ → ℕ → ℕ → ℕ
touched k u b e a = unless_zero (u a e).num (nonzeros k (u a) + nonzeros k (u b))

-- three times those of each equation with an entry at e, and a search in each of m rows
abbrev pub pivot_steps : ℕ → ℕ → Entries → ℕ → ℕ → ℕ → ℕ
pivot_steps k m u b e digits = 3 * count_all k (touched k u b e) + m * digits
