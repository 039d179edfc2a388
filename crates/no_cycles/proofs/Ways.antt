-- Single columns: one that can move on from where it stands, and what the sign of its cost then is.
use Rattle.std.proofs.Common.{◌≡◌, zero, suc, ℤ, pos, negsuc, ◌*ℤ◌, neg_ℤ, ◌<ℤ◌, ◌≤ℤ◌, false, Option, None, Some, IfSome, refl, ◌∙◌, ap, arith}
use Rattle.std.proofs.lemmas.Int.{ints, by_lt_z}
use Rattle.std.proofs.Math.IntN.{zero-*ℤ, *ℤ_comm}
use Rattle.rational.specs.Ratio.{Ratio, sum, negative, quotient, IsNumber}
use Rattle.evidence.specs.Instance.{Range, HasNumbers}
use Rattle.evidence.specs.Cases.{IsEmpty, or_none}
use Rattle.evidence.proofs.Numbers.{◌≈◌, ≈-sym, ◌⊙◌, ◌▹◌}
use Rattle.evidence.proofs.Columns.{by_bool}
use Rattle.simplex_rules.specs.declared.columns.Status.{Status}
use Rattle.simplex_rules.specs.declared.columns.Status.TheVariants.{Basic, Lower, Upper, Zero}
use Rattle.simplex_rules.specs.declared.columns.Way.{Way}
use Rattle.simplex_rules.specs.declared.columns.Way.TheVariants.{Rise, Fall}
use Rattle.simplex_rules.specs.Statuses.{is_basic, rest_at, has_width, HasPlace}
use Rattle.simplex_rules.specs.Turns.{rate, MovesIn, Can, until_by, until_end}
use Rattle.simplex_rules.specs.Reports.{step_of}
use Rattle.simplex_rules.proofs.Facts.{or_is}
use Rattle.no_cycles.proofs.Signs.{both_up, both_down, difference_zero, zero_difference, quotient_zero, zero_quotient, at_end, room_apart, no_room}

-- a column of this value that goes by this rate isn't at the end that it goes to
pub record GoesOn (r : Range) (x by : Ratio) : Type 0 where
  pub up : pos 0 <ℤ by.num → (e : Ratio) → r.ub ≡ Some e → e ≈ x → ⊥
  pub down : by.num <ℤ pos 0 → (e : Ratio) → r.lb ≡ Some e → e ≈ x → ⊥

rest_lower : (r : Range) (l x : Ratio) → r.lb ≡ Some l → x ≈ or_none r.lb → x ≈ l
rest_lower r l x e h = h ▹ or_is r.lb l e

rest_upper : (r : Range) (l x : Ratio) → r.ub ≡ Some l → x ≈ or_none r.ub → x ≈ l
rest_upper r l x e h = h ▹ or_is r.ub l e

-- a column that can move goes on
pub can_go : (w : Way) (r : Range) (s : Status) (x : Ratio) → HasPlace r s → Can w r s → x ≈ rest_at r s → GoesOn r x (step_of w)
can_go Rise r Basic x p c h = absurd c
can_go Rise r Lower x p c h = record {
  up = λ g e f k. let l = at_end r.lb p in room_apart r.lb r.ub l.0 e c l.1 f (k ⊙ rest_lower r l.0 x l.1 h);
  down = λ g e f k. let z : pos 1 <ℤ pos 0 = g in absurd (omega (arith, ints));
}
can_go Rise r Upper x p c h = absurd c
can_go Rise r Zero x p c h = record {
  up = λ g e f k. let z = p.1 in absurd (cc);
  down = λ g e f k. let z : pos 1 <ℤ pos 0 = g in absurd (omega (arith, ints));
}
can_go Fall r Basic x p c h = absurd c
can_go Fall r Lower x p c h = absurd c
can_go Fall r Upper x p c h = record {
  up = λ g e f k. let z : pos 0 <ℤ negsuc 0 = g in absurd (omega (arith, ints));
  down = λ g e f k. let l = at_end r.ub p.0 in room_apart r.lb r.ub e l.0 p.1 f l.1 (≈-sym (rest_upper r l.0 x l.1 h) ⊙ ≈-sym k);
}
can_go Fall r Zero x p c h = record {
  up = λ g e f k. let z : pos 0 <ℤ negsuc 0 = g in absurd (omega (arith, ints));
  down = λ g e f k. let z = p.0 in absurd (cc);
}

pub zero_left : (a b : ℤ) → a ≡ pos 0 → pos 0 ≤ℤ (a *ℤ b)
zero_left a b h = let e : a *ℤ b ≡ pos 0 = ap (λ z. z *ℤ b) h ∙ zero-*ℤ b in omega (arith, ints)

pub zero_right : (a b : ℤ) → b ≡ pos 0 → pos 0 ≤ℤ (a *ℤ b)
zero_right a b h = let e : a *ℤ b ≡ pos 0 = ap (λ z. a *ℤ z) h ∙ *ℤ_comm a (pos 0) ∙ zero-*ℤ a in omega (arith, ints)

-- a column that doesn't help and goes on doesn't let the goal fall
pub no_help : (r : Range) (s : Status) (x cost by : Ratio) → HasNumbers r → (IsEmpty r → ⊥) → HasPlace r s → is_basic s ≡ false → x ≈ rest_at r s → ((v : Way) → Can v r s → MovesIn Fall (rate v cost) → ⊥) → GoesOn r x by → pos 0 ≤ℤ (cost.num *ℤ by.num)
no_help r Basic x cost by hn room place nb h off on = absurd (cc)
no_help r Lower x cost by hn room place nb h off on =
    let l = at_end r.lb place in
    let up : pos 0 ≤ℤ by.num = by_lt_z by.num (pos 0) (λ g. absurd (on.down g l.0 l.1 (≈-sym (rest_lower r l.0 x l.1 h)))) (λ g. g) in
    by_bool (has_width r)
    (λ e. both_up cost.num by.num (by_lt_z cost.num (pos 0) (λ g. absurd (off Rise e g)) (λ g. g)) up)
    (λ e.
    let k = no_room r.lb r.ub hn.0 hn.1 (λ a b p q z. room (a, b, p, q, z)) l.0 l.1 e in
    let down : by.num ≤ℤ pos 0 = by_lt_z (pos 0) by.num (λ g. absurd (on.up g k.0 k.1 (k.2 ⊙ ≈-sym (rest_lower r l.0 x l.1 h)))) (λ g. g) in
    zero_right cost.num by.num (omega (arith, ints)))
no_help r Upper x cost by hn room place nb h off on =
    let l = at_end r.ub place.0 in
    let down : by.num ≤ℤ pos 0 = by_lt_z (pos 0) by.num (λ g. absurd (on.up g l.0 l.1 (≈-sym (rest_upper r l.0 x l.1 h)))) (λ g. g) in
    both_down cost.num by.num (by_lt_z (pos 0) cost.num (λ g. absurd (off Fall tt (let z : neg_ℤ cost.num <ℤ pos 0 = omega (arith, ints) in z))) (λ g. g)) down
no_help r Zero x cost by hn room place nb h off on =
    let low : cost.num ≤ℤ pos 0 = by_lt_z (pos 0) cost.num (λ g. absurd (off Fall tt (let z : neg_ℤ cost.num <ℤ pos 0 = omega (arith, ints) in z))) (λ g. g) in
    let high : pos 0 ≤ℤ cost.num = by_lt_z cost.num (pos 0) (λ g. absurd (off Rise tt g)) (λ g. g) in
    zero_left cost.num by.num (omega (arith, ints))

-- a limit of 0: the column is at the end that it goes to
pub data IsAtEnd (r : Range) (x by : Ratio) : Type 0 where
  above : (e : Ratio) → pos 0 <ℤ by.num → r.ub ≡ Some e → e ≈ x → IsAtEnd r x by
  below : (e : Ratio) → by.num <ℤ pos 0 → r.lb ≡ Some e → e ≈ x → IsAtEnd r x by

pub until_is : (o : Option Ratio) (x by q : Ratio) → IfSome o IsNumber → until_end o x by ≡ Some q → (e : Ratio) × (o ≡ Some e) × IsNumber e × (quotient (sum e (negative x)) by ≡ q)
until_is None x by q p h = absurd (cc)
until_is (Some e) x by q p h = (e, refl, p, (let z : quotient (sum e (negative x)) by ≡ q = cc in z))

pub zero_limit : (r : Range) (x by q : Ratio) → HasNumbers r → IsNumber x → IsNumber by → until_by by.num r x by ≡ Some q → q.num ≡ pos 0 → IsAtEnd r x by
zero_limit r x by q hn px pb h z = by_sign by.num refl h
  where
    met : (e : Ratio) → IsNumber e → quotient (sum e (negative x)) by ≡ q → e ≈ x
    met e p f = zero_difference e x p px (zero_quotient (sum e (negative x)) by pb (ap (λ (a : Ratio). a.num) f ∙ z))

    by_sign : (s : ℤ) → by.num ≡ s → until_by s r x by ≡ Some q → IsAtEnd r x by
    by_sign (pos zero) f h = absurd (cc)
    by_sign (pos (suc k)) f h = let u = until_is r.ub x by q hn.1 h in above u.0 (let g : pos 0 <ℤ by.num = omega (arith, ints) in g) u.1 (met u.0 u.2 u.3)
    by_sign (negsuc k) f h = let u = until_is r.lb x by q hn.0 h in below u.0 (let g : by.num <ℤ pos 0 = omega (arith, ints) in g) u.1 (met u.0 u.2 u.3)

-- and back
pub limit_up : (r : Range) (x by e : Ratio) → pos 0 <ℤ by.num → r.ub ≡ Some e → e ≈ x → (q : Ratio) × (until_by by.num r x by ≡ Some q) × (q.num ≡ pos 0)
limit_up r x by e up f s = (quotient (sum e (negative x)) by, by_sign by.num up, quotient_zero (sum e (negative x)) by (difference_zero s))
  where
    by_sign : (z : ℤ) → pos 0 <ℤ z → until_by z r x by ≡ Some (quotient (sum e (negative x)) by)
    by_sign (pos zero) g = absurd (omega (arith, ints))
    by_sign (pos (suc k)) g = rw f refl
    by_sign (negsuc k) g = absurd (omega (arith, ints))

pub limit_down : (r : Range) (x by e : Ratio) → by.num <ℤ pos 0 → r.lb ≡ Some e → e ≈ x → (q : Ratio) × (until_by by.num r x by ≡ Some q) × (q.num ≡ pos 0)
limit_down r x by e up f s = (quotient (sum e (negative x)) by, by_sign by.num up, quotient_zero (sum e (negative x)) by (difference_zero s))
  where
    by_sign : (z : ℤ) → z <ℤ pos 0 → until_by z r x by ≡ Some (quotient (sum e (negative x)) by)
    by_sign (pos k) g = absurd (omega (arith, ints))
    by_sign (negsuc k) g = rw f refl

-- the column that enters, at the end to which it goes as it leaves: the goal would rise with it
pub enters_and_leaves : (v : Way) (r : Range) (x cost by : Ratio) → MovesIn Fall (rate v cost) → GoesOn r x (step_of v) → IsAtEnd r x by → pos 0 ≤ℤ (cost.num *ℤ by.num)
enters_and_leaves Rise r x cost by m on (above e g f s) = absurd (on.up (let z : pos 0 <ℤ pos 1 = omega (arith, ints) in z) e f s)
enters_and_leaves Rise r x cost by m on (below e g f s) = both_down cost.num by.num (let z : cost.num <ℤ pos 0 = m in omega (arith, ints)) (omega (arith, ints))
enters_and_leaves Fall r x cost by m on (above e g f s) = both_up cost.num by.num (let z : neg_ℤ cost.num <ℤ pos 0 = m in omega (arith, ints)) (omega (arith, ints))
enters_and_leaves Fall r x cost by m on (below e g f s) = absurd (on.down (let z : negsuc 0 <ℤ pos 0 = omega (arith, ints) in z) e f s)
