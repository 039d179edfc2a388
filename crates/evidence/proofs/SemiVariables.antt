-- A semi variable keeps a number exactly where it is 0 or between the ends, and whole where it must be.
use Rattle.std.proofs.Common.{◌≡◌, ◌⊎◌, inl, inr, Bool, true, false, cond, ℤ, Option, None, Some, IfSome, IsTrue, ◌↔◌, ◌≤ℤ◌, arith, pos, ◌*ℤ◌}
use Rattle.std.specs.Prelude.{int_lt}
use Rattle.std.proofs.lemmas.Int.{ints}
use Rattle.rational.specs.Ratio.{Ratio, IsNumber, IsAtMost}
use Rattle.evidence.specs.Sums.{none, is_below, IsWhole}
use Rattle.evidence.specs.Instance.{Range, HasNumbers}
use Rattle.evidence.specs.Point.{IsBetween, IsZeroOr, NeverLeaves}
use Rattle.evidence.specs.Columns.{Keeps}
use Rattle.evidence.specs.SemiVariables.{low_or_zero, high_or_zero, relaxed, semi}
use Rattle.evidence.proofs.Numbers.{◌≈◌, ◌≲◌, ≈-sym, ≲-from, ≲-trans}
use Rattle.evidence.proofs.Columns.{by_bool, pick, none-number}

is_less : (a b : ℤ) → int_lt a b ≡ true → a ≤ℤ b
is_less a b e = grind (arith, ints)

not_less : (a b : ℤ) → int_lt a b ≡ false → b ≤ℤ a
not_less a b e = grind (arith, ints)

below : (x y : Ratio) → IsNumber x → IsNumber y → is_below x y ≡ true → x ≲ y
below x y p q e = record { left = p; right = q; is = is_less (x.num *ℤ pos y.den) (y.num *ℤ pos x.den) e }

not_below : (x y : Ratio) → IsNumber x → IsNumber y → is_below x y ≡ false → y ≲ x
not_below x y p q e = record { left = q; right = p; is = not_less (x.num *ℤ pos y.den) (y.num *ℤ pos x.den) e }

-- the lesser of an end and 0 isn't above what isn't below one of them
lesser : (l x : Ratio) → IsNumber l → IsNumber x → (none ≲ x) ⊎ (l ≲ x) → IfSome (low_or_zero (Some l)) (λ q. IsAtMost q x)
lesser l x p q h =
    by_bool (is_below none l)
    (λ e. rw e (up h (below none l none-number p e)))
    (λ e. rw e (down h (not_below none l none-number p e)))
  where
    up : (none ≲ x) ⊎ (l ≲ x) → none ≲ l → IsAtMost none x
    up (inl a) b = a.is
    up (inr a) b = let c = ≲-trans b a in c.is

    down : (none ≲ x) ⊎ (l ≲ x) → l ≲ none → IsAtMost l x
    down (inl a) b = let c = ≲-trans b a in c.is
    down (inr a) b = a.is

greater : (u x : Ratio) → IsNumber u → IsNumber x → (x ≲ none) ⊎ (x ≲ u) → IfSome (high_or_zero (Some u)) (λ q. IsAtMost x q)
greater u x p q h =
    by_bool (is_below u none)
    (λ e. rw e (down h (below u none p none-number e)))
    (λ e. rw e (up h (not_below u none p none-number e)))
  where
    down : (x ≲ none) ⊎ (x ≲ u) → u ≲ none → IsAtMost x none
    down (inl a) b = a.is
    down (inr a) b = let c = ≲-trans a b in c.is

    up : (x ≲ none) ⊎ (x ≲ u) → none ≲ u → IsAtMost x u
    up (inl a) b = let c = ≲-trans a b in c.is
    up (inr a) b = a.is

low_zero : (o : Option Ratio) (x : Ratio) → IfSome o IsNumber → IsNumber x → x ≈ none → IfSome (low_or_zero o) (λ l. IsAtMost l x)
low_zero None x p q e = tt
low_zero (Some l) x p q e = lesser l x p q (inl (≲-from (≈-sym e)))

low_in : (o : Option Ratio) (x : Ratio) → IfSome o IsNumber → IsNumber x → IfSome o (λ l. IsAtMost l x) → IfSome (low_or_zero o) (λ l. IsAtMost l x)
low_in None x p q h = tt
low_in (Some l) x p q h = let a : l ≲ x = record { left = p; right = q; is = h } in lesser l x p q (inr a)

high_zero : (o : Option Ratio) (x : Ratio) → IfSome o IsNumber → IsNumber x → x ≈ none → IfSome (high_or_zero o) (λ u. IsAtMost x u)
high_zero None x p q e = tt
high_zero (Some u) x p q e = greater u x p q (inl (≲-from e))

high_in : (o : Option Ratio) (x : Ratio) → IfSome o IsNumber → IsNumber x → IfSome o (λ u. IsAtMost x u) → IfSome (high_or_zero o) (λ u. IsAtMost x u)
high_in None x p q h = tt
high_in (Some u) x p q h = let a : x ≲ u = record { left = q; right = p; is = h } in greater u x p q (inr a)

-- 0, or between the ends, is between the relaxed ones
loosened : (r : Range) (x : Ratio) → HasNumbers r → IsNumber x → IsZeroOr r x → IsBetween (relaxed r) x
loosened r x h q (inl e) =
    let a : x ≈ none = record { left = q; right = none-number; is = e } in
    record { low = low_zero r.lb x h.0 q a; high = high_zero r.ub x h.1 q a }
loosened r x h q (inr b) = record { low = low_in r.lb x h.0 q b.low; high = high_in r.ub x h.1 q b.high }

pub semi_kept : (r : Range) (whole : Bool) (x : Ratio) → HasNumbers r → IsNumber x → Keeps (semi r whole) x ↔ (IsZeroOr r x × (IsTrue whole → IsWhole x))
semi_kept r whole x h q = (
  λ k. (k.further, k.whole),
  λ k. record { between = loosened r x h q k.0; whole = k.1; further = k.0 },
)

-- a relaxed end is there where the end is
same_end : (b : Bool) (P : Type 0) (x y : Ratio) → IfSome (cond b (Some x) (Some y)) (λ q. P) → P
same_end true P x y h = h
same_end false P x y h = h

low_there : (o : Option Ratio) (P : Type 0) → IfSome (low_or_zero o) (λ q. P) ↔ IfSome o (λ q. P)
low_there None P = (λ h. h, λ h. h)
low_there (Some l) P = (same_end (is_below none l) P none l, λ h. pick (λ o. IfSome o (λ q. P)) (is_below none l) (Some none) (Some l) h h)

high_there : (o : Option Ratio) (P : Type 0) → IfSome (high_or_zero o) (λ q. P) ↔ IfSome o (λ q. P)
high_there None P = (λ h. h, λ h. h)
high_there (Some u) P = (same_end (is_below u none) P none u, λ h. pick (λ o. IfSome o (λ q. P)) (is_below u none) (Some none) (Some u) h h)

pub semi_moves : (r : Range) (m : Ratio) → NeverLeaves (relaxed r) m ↔ NeverLeaves r m
semi_moves r m = (
  λ n. record { low = (low_there r.lb (IsAtMost none m)).0 n.low; high = (high_there r.ub (IsAtMost m none)).0 n.high },
  λ n. record { low = (low_there r.lb (IsAtMost none m)).1 n.low; high = (high_there r.ub (IsAtMost m none)).1 n.high },
)
