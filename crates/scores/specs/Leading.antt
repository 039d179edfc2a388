-- Sizes by their 31 leading binary digits.
use Rattle.std.specs.Prelude.{ℕ, zero, suc, ◌+◌, ◌-◌, ◌*◌, ◌/◌, ◌^◌, pos, unsigned_abs, cond, nat_eq}
use Rattle.rational.specs.Ratio.{Ratio, quotient}

-- how many binary digits a number has
abbrev pub digits_by : ℕ → ℕ → ℕ
digits_by zero n = 0
digits_by (suc f) n = cond (nat_eq n 0) 0 (suc (digits_by f (n / 2)))

abbrev pub digits : ℕ → ℕ
digits n = digits_by n n

-- a size, times a power of 2 that brings at least 31 digits before the point, without what is behind it
abbrev pub shift_of : Ratio → ℕ
shift_of x = digits x.den + 31

abbrev pub scaled : Ratio → ℕ
scaled x = unsigned_abs x.num * 2 ^ shift_of x / x.den

abbrev pub dropped : Ratio → ℕ
dropped x = digits (scaled x) - 31

-- its 31 leading binary digits, 0 behind them
abbrev pub leading : Ratio → Ratio
leading x = record { num = pos (scaled x / 2 ^ dropped x * 2 ^ dropped x); den = 2 ^ shift_of x }

abbrev pub score : Ratio → Ratio → Ratio
score x y = leading (quotient (leading x) (leading y))
