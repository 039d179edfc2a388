-- Shortest forms of sizes times powers of ten.
use Rattle.std.proofs.Common.{◌≡◌, ◌≢◌, ℕ, suc, ◌+◌, ◌*◌, ◌-◌, ◌%◌, ◌^◌, ◌<◌, ◌≤◌, ◌⊎◌, inl, inr, Bool, pos, negsuc, ap, sym, ◌∙◌, subst, arith, lit<, lit≤}
use Rattle.std.proofs.lemmas.Nat.{pow-add}
use Rattle.rational.specs.Ratio.{Ratio, IsNumber, IsSame}
use Rattle.rational.specs.Width.{most}
use Rattle.rational.specs.Whole.{signed}
use Rattle.rational.proofs.Scaling.{IsSame-trans}
use Rattle.rational.proofs.Signs.{same_form, unsigned_abs-signed}
use Rattle.decimal_text.specs.Decimal.{powered, scientific, ShortestForm, HasFit, HasNoFit}
use Rattle.decimal_text.proofs.Powers.{ten_power}

split_power : (a b : ℕ) → b ≤ a → 10 ^ (a - b) * 10 ^ b ≡ 10 ^ a
split_power a b h = sym (pow-add 10 (a - b) b) ∙ ap (λ k. 10 ^ k) (let e : a - b + b ≡ a = omega arith in e)

up_cross : (n a b : ℕ) → b ≤ a → n * 10 ^ (a - b) * 10 ^ b ≡ n * 10 ^ a * 1
up_cross n a b h = omega (arith, ap (λ x. n * x) (split_power a b h))

abbrev up_form : (negative : Bool) (n a b : ℕ) → b ≤ a → n % 10 ≢ 0 → ShortestForm (powered negative n a b)
up_form negative n a b h s = record {
  negative = negative;
  n = n;
  k = pos (a - b);
  shortest = inl s;
  same = same_form negative (n * 10 ^ (a - b)) 1 (n * 10 ^ a) (10 ^ b) (up_cross n a b h);
}

down_cross : (n a b : ℕ) → a < b → n * 10 ^ b ≡ n * 10 ^ a * 10 ^ suc (b - a - 1)
down_cross n a b h =
    let e : suc (b - a - 1) + a ≡ b = omega arith in
    omega (arith, ap (λ x. n * x) (sym (pow-add 10 (suc (b - a - 1)) a) ∙ ap (λ k. 10 ^ k) e))

abbrev down_form : (negative : Bool) (n a b : ℕ) → a < b → n % 10 ≢ 0 → ShortestForm (powered negative n a b)
down_form negative n a b h s = record {
  negative = negative;
  n = n;
  k = negsuc (b - a - 1);
  shortest = inl s;
  same = same_form negative n (10 ^ suc (b - a - 1)) (n * 10 ^ a) (10 ^ b) (down_cross n a b h);
}

pub up_fits : (negative : Bool) (n a b p : ℕ) → b ≤ a → n % 10 ≢ 0 → p ≡ n * 10 ^ (a - b) → p ≤ most → (x : Ratio) → IsNumber x → IsSame x (record { num = signed negative p; den = 1 }) → HasFit (powered negative n a b) x
up_fits negative n a b p h s e small x number same =
    let f = up_form negative n a b h s in
    let here : IsSame x (scientific negative n (pos (a - b))) = subst (λ q. IsSame x (record { num = signed negative q; den = 1 })) e same in
    record {
      number = number;
      same = IsSame-trans x (scientific negative n (pos (a - b))) (powered negative n a b) (lit< tt) here f.same;
      form = f;
      fits = (rw (unsigned_abs-signed negative (n * 10 ^ (a - b))) (subst (λ q. q ≤ most) e small), lit≤ tt);
    }

pub up_wide : (negative : Bool) (n a b : ℕ) → b ≤ a → n % 10 ≢ 0 → most < n * 10 ^ (a - b) → HasNoFit (powered negative n a b)
up_wide negative n a b h s wide = record {
  form = up_form negative n a b h s;
  wide = λ w. omega (arith, w.0, unsigned_abs-signed negative (n * 10 ^ (a - b)));
}

below_power : (a b : ℕ) → a < b → suc (b - a - 1) ≡ b - a
below_power a b h = omega arith

pub down_fits : (negative : Bool) (n a b p : ℕ) → a < b → n % 10 ≢ 0 → n ≤ most → p ≡ 10 ^ (b - a) → p ≤ most → (x : Ratio) → IsNumber x → IsSame x (record { num = signed negative n; den = p }) → HasFit (powered negative n a b) x
down_fits negative n a b p h s high e small x number same =
    let f = down_form negative n a b h s in
    let power : p ≡ 10 ^ suc (b - a - 1) = e ∙ ap (λ k. 10 ^ k) (sym (below_power a b h)) in
    let here : IsSame x (scientific negative n (negsuc (b - a - 1))) = subst (λ q. IsSame x (record { num = signed negative n; den = q })) power same in
    record {
      number = number;
      same = IsSame-trans x (scientific negative n (negsuc (b - a - 1))) (powered negative n a b) (ten_power (suc (b - a - 1))) here f.same;
      form = f;
      fits = (rw (unsigned_abs-signed negative n) high, subst (λ q. q ≤ most) power small);
    }

pub down_wide : (negative : Bool) (n a b : ℕ) → a < b → n % 10 ≢ 0 → (most < n) ⊎ (most < 10 ^ (b - a)) → HasNoFit (powered negative n a b)
down_wide negative n a b h s wide = record {
  form = down_form negative n a b h s;
  wide = λ w. elim wide [
    | inl great ↦ omega (arith, w.0, unsigned_abs-signed negative n)
    | inr great ↦ omega (arith, w.1, ap (λ k. 10 ^ k) (below_power a b h))
  ];
}
