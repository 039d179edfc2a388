-- Columns that help, by the sign of their entry.
use Rattle.std.proofs.Common.{◌≡◌, ℤ, pos, neg_ℤ, ◌<ℤ◌, Bool, true, false, Option, None, Some, MatchOption, IsTrue, arith, sym, ◌∙◌}
use Rattle.std.specs.Prelude.{int_lt}
use Rattle.std.proofs.lemmas.Int.{ints}
use Rattle.rational.specs.Ratio.{Ratio}
use Rattle.simplex_rules.specs.declared.columns.Way.{Way}
use Rattle.simplex_rules.specs.declared.columns.Way.TheVariants.{Rise, Fall}
use Rattle.simplex_rules.specs.Turns.{MovesIn, rate}
use Rattle.simplex.specs.Signs.{moves_by}

-- a number is above 0 exactly where a value is, and below it
pub record HasSign (n : ℤ) (x : Ratio) : Type 0 where
  pub above : int_lt (pos 0) n ≡ int_lt (pos 0) x.num
  pub below : int_lt n (pos 0) ≡ int_lt x.num (pos 0)

above : (z : ℤ) → int_lt (pos 0) z ≡ true → pos 0 <ℤ z
above z e = grind (arith, ints)

is_above : (z : ℤ) → pos 0 <ℤ z → int_lt (pos 0) z ≡ true
is_above z e = grind (arith, ints)

below : (z : ℤ) → int_lt z (pos 0) ≡ true → z <ℤ pos 0
below z e = grind (arith, ints)

is_below : (z : ℤ) → z <ℤ pos 0 → int_lt z (pos 0) ≡ true
is_below z e = grind (arith, ints)

moved : (wanted v : Way) (n : ℤ) (x : Ratio) → HasSign n x → IsTrue (moves_by wanted v n) → MovesIn wanted (rate v x)
moved Rise Rise n x s t = above x.num (sym s.above ∙ t)
moved Rise Fall n x s t = let l = below x.num (sym s.below ∙ t) in let k : pos 0 <ℤ neg_ℤ x.num = omega (arith, ints) in k
moved Fall Rise n x s t = below x.num (sym s.below ∙ t)
moved Fall Fall n x s t = let l = above x.num (sym s.above ∙ t) in let k : neg_ℤ x.num <ℤ pos 0 = omega (arith, ints) in k

moving : (wanted v : Way) (n : ℤ) (x : Ratio) → HasSign n x → MovesIn wanted (rate v x) → IsTrue (moves_by wanted v n)
moving Rise Rise n x s h = s.above ∙ is_above x.num h
moving Rise Fall n x s h = let k : pos 0 <ℤ neg_ℤ x.num = h in s.below ∙ is_below x.num (omega (arith, ints))
moving Fall Rise n x s h = s.below ∙ is_below x.num h
moving Fall Fall n x s h = let k : neg_ℤ x.num <ℤ pos 0 = h in s.above ∙ is_above x.num (omega (arith, ints))

-- a column that isn't basic helps as its ends and its entry's sign say
pub nonbasic_helps : {b : Bool} (wanted : Way) (n : ℤ) (x : Ratio) → HasSign n x → (o : Option Way) (C : Way → Type 0) → b ≡ false → MatchOption o ((v : Way) → C v → IsTrue (moves_by wanted v n) → ⊥) (λ v. C v × IsTrue (moves_by wanted v n)) → MatchOption o ((v : Way) → C v → MovesIn wanted (rate v x) → ⊥) (λ v. (b ≡ false) × C v × MovesIn wanted (rate v x))
nonbasic_helps wanted n x s None C e h = λ v can m. h v can (moving wanted v n x s m)
nonbasic_helps wanted n x s (Some v) C e h = (e, h.0, moved wanted v n x s h.1)
