-- How a column moves while another one rises or falls, by the sign of its entry.
use Rattle.std.specs.Prelude.{ℤ, pos, Bool, int_lt}
use Rattle.simplex_rules.specs.declared.columns.Way.{Way}
use Rattle.simplex_rules.specs.declared.columns.Way.TheVariants.{Rise, Fall}

-- whether a column whose entry has this number's sign moves as wanted
abbrev pub moves_by : Way → Way → ℤ → Bool
moves_by Rise Rise n = int_lt (pos 0) n
moves_by Rise Fall n = int_lt n (pos 0)
moves_by Fall Rise n = int_lt n (pos 0)
moves_by Fall Fall n = int_lt (pos 0) n
