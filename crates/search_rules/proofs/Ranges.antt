-- Ranges within ranges, as branches narrow them.
use Rattle.std.proofs.Common.{◌≡◌, ℤ, true, false, Option, None, Some, IfSome, IsSome, arith, lit<, refl}
use Rattle.std.proofs.lemmas.Int.{ints}
use Rattle.rational.specs.Ratio.{Ratio, whole, IsNumber, IsAtMost}
use Rattle.evidence.specs.Sums.{none, is_below}
use Rattle.evidence.specs.Instance.{Range, HasNumbers}
use Rattle.evidence.specs.Point.{IsBetween, NeverLeaves}
use Rattle.evidence.specs.Cases.{lesser_end, greater_end, either_low, either_high, both}
use Rattle.evidence.proofs.Columns.{by_bool, pick}
use Rattle.evidence.proofs.Branches.{lesser-number, greater-number}
use Rattle.search_rules.proofs.Nodes.{at_most-trans}

-- what is within r is within s, and r has an end wherever s has one
pub record IsInside (r s : Range) : Type 0 where
  pub values : (x : Ratio) → IsBetween r x → IsBetween s x
  pub low : IsSome s.lb → IsSome r.lb
  pub high : IsSome s.ub → IsSome r.ub

pub inside-trans : {q r s : Range} → IsInside q r → IsInside r s → IsInside q s
inside-trans a b = record { values = λ x h. b.values x (a.values x h); low = λ h. a.low (b.low h); high = λ h. a.high (b.high h) }

-- what is asked where there is an end is asked where there is another one
passed_on : (o p : Option Ratio) (A : Type 0) → (IsSome o → IsSome p) → IfSome p (λ e. A) → IfSome o (λ e. A)
passed_on None p A f h = tt
passed_on (Some x) None A f h = let no = f refl in absurd (cc)
passed_on (Some x) (Some y) A f h = h

-- a movement that meets no end of r meets none of s
pub inside_moves : {r s : Range} (m : Ratio) → IsInside r s → NeverLeaves r m → NeverLeaves s m
inside_moves {r} {s} m i n = record { low = passed_on s.lb r.lb (IsAtMost none m) i.low n.low; high = passed_on s.ub r.ub (IsAtMost m none) i.high n.high }

is_below-true : (x y : Ratio) → is_below x y ≡ true → IsAtMost x y
is_below-true x y e = grind (arith, ints)

is_below-false : (x y : Ratio) → is_below x y ≡ false → IsAtMost y x
is_below-false x y e = grind (arith, ints)

lesser-there : (o : Option Ratio) (k : Ratio) → IsSome (lesser_end o k)
lesser-there None k = refl
lesser-there (Some u) k = pick IsSome (is_below k u) (Some k) (Some u) refl refl

greater-there : (o : Option Ratio) (k : Ratio) → IsSome (greater_end o k)
greater-there None k = refl
greater-there (Some l) k = pick IsSome (is_below l k) (Some k) (Some l) refl refl

-- what is at most the lesser of two ends is at most each of them
lesser-both : (o : Option Ratio) (k v : Ratio) → IsNumber k → IfSome o IsNumber → IfSome (lesser_end o k) (λ u. IsAtMost v u) → IfSome o (λ u. IsAtMost v u) × IsAtMost v k
lesser-both None k v n p h = (tt, h)
lesser-both (Some u) k v n p h =
    by_bool (is_below k u)
    (λ e. let a : IsAtMost v k = rw e at h in (at_most-trans v k u n a (is_below-true k u e), a))
    (λ e. let a : IsAtMost v u = rw e at h in (a, at_most-trans v u k p a (is_below-false k u e)))

greater-both : (o : Option Ratio) (k v : Ratio) → IsNumber k → IfSome o IsNumber → IfSome (greater_end o k) (λ l. IsAtMost l v) → IfSome o (λ l. IsAtMost l v) × IsAtMost k v
greater-both None k v n p h = (tt, h)
greater-both (Some l) k v n p h =
    by_bool (is_below l k)
    (λ e. let a : IsAtMost k v = rw e at h in (at_most-trans l k v n (is_below-true l k e) a, a))
    (λ e. let a : IsAtMost l v = rw e at h in (a, at_most-trans k l v p (is_below-false l k e) a))

-- at most k, or at least k
pub most-numbers : (r : Range) (k : ℤ) → HasNumbers r → HasNumbers (record r { ub = lesser_end r.ub (whole k) })
most-numbers r k h = (h.0, lesser-number r.ub (whole k) (lit< tt) h.1)

pub least-numbers : (r : Range) (k : ℤ) → HasNumbers r → HasNumbers (record r { lb = greater_end r.lb (whole k) })
least-numbers r k h = (greater-number r.lb (whole k) (lit< tt) h.0, h.1)

pub most_inside : (r : Range) (k : ℤ) → HasNumbers r → IsInside (record r { ub = lesser_end r.ub (whole k) }) r
most_inside r k n = record {
  values = λ x h. record { low = h.low; high = let b = lesser-both r.ub (whole k) x (lit< tt) n.1 h.high in b.0 };
  low = λ h. h;
  high = λ h. lesser-there r.ub (whole k);
}

pub least_inside : (r : Range) (k : ℤ) → HasNumbers r → IsInside (record r { lb = greater_end r.lb (whole k) }) r
least_inside r k n = record {
  values = λ x h. record { low = let b = greater-both r.lb (whole k) x (lit< tt) n.0 h.low in b.0; high = h.high };
  low = λ h. greater-there r.lb (whole k);
  high = λ h. h;
}

-- both of two ranges
either_low-both : (o p : Option Ratio) (v : Ratio) → IfSome o IsNumber → IfSome p IsNumber → IfSome (either_low o p) (λ l. IsAtMost l v) → IfSome o (λ l. IsAtMost l v) × IfSome p (λ l. IsAtMost l v)
either_low-both o None v m n h = (h, tt)
either_low-both o (Some l) v m n h = greater-both o l v n m h

either_high-both : (o p : Option Ratio) (v : Ratio) → IfSome o IsNumber → IfSome p IsNumber → IfSome (either_high o p) (λ u. IsAtMost v u) → IfSome o (λ u. IsAtMost v u) × IfSome p (λ u. IsAtMost v u)
either_high-both o None v m n h = (h, tt)
either_high-both o (Some u) v m n h = lesser-both o u v n m h

either_low-there : (o p : Option Ratio) → (IsSome o → IsSome (either_low o p)) × (IsSome p → IsSome (either_low o p))
either_low-there o None = (λ h. h, λ h. absurd (cc))
either_low-there o (Some l) = (λ h. greater-there o l, λ h. greater-there o l)

either_high-there : (o p : Option Ratio) → (IsSome o → IsSome (either_high o p)) × (IsSome p → IsSome (either_high o p))
either_high-there o None = (λ h. h, λ h. absurd (cc))
either_high-there o (Some u) = (λ h. lesser-there o u, λ h. lesser-there o u)

module _ (r s : Range) (m : HasNumbers r) (n : HasNumbers s) where
  lows : (x : Ratio) → IsBetween (both r s) x → IfSome r.lb (λ l. IsAtMost l x) × IfSome s.lb (λ l. IsAtMost l x)
  lows x h = either_low-both r.lb s.lb x m.0 n.0 h.low

  highs : (x : Ratio) → IsBetween (both r s) x → IfSome r.ub (λ u. IsAtMost x u) × IfSome s.ub (λ u. IsAtMost x u)
  highs x h = either_high-both r.ub s.ub x m.1 n.1 h.high

  pub inside_first : IsInside (both r s) r
  inside_first = record {
    values = λ x h. record { low = (lows x h).0; high = (highs x h).0 };
    low = (either_low-there r.lb s.lb).0;
    high = (either_high-there r.ub s.ub).0;
  }

  pub inside_second : IsInside (both r s) s
  inside_second = record {
    values = λ x h. record { low = (lows x h).1; high = (highs x h).1 };
    low = (either_low-there r.lb s.lb).1;
    high = (either_high-there r.ub s.ub).1;
  }

abbrev pub only_none : Range
only_none = record { lb = Some none; ub = Some none }

pub only_none-numbers : HasNumbers only_none
only_none-numbers = (lit< tt, lit< tt)
