-- Multipliers of rows, completed by those of variables: where they are legal, and what their ends add up to.
use Rattle.std.proofs.Common.{◌≡◌, ℕ, zero, suc, ◌+◌, ◌<◌, ◌≤◌, ℤ, pos, true, false, cond, Option, None, Some, IsSome, List, [], ◌∷◌, length, arith, refl, sym, ◌∙◌, ap, subst, add-one}
use Rattle.std.specs.List.{All}
use Rattle.std.proofs.lemmas.Bool.{false≢true}
use Rattle.std.proofs.lemmas.List.Elements.{All-head, All-tail, All-cons, All-nil}
use Rattle.rational.specs.Ratio.{Ratio, sum, product, IsNumber}
use Rattle.fraction.specs.Frac.{ratio}
use Rattle.fraction.specs.declared.frac.Frac.{Frac}
use Rattle.evidence.specs.Sums.{none, total}
use Rattle.evidence.specs.Instance.{Instance, IsInstance, width, height, column_at, minimising}
use Rattle.evidence.specs.Cases.{Multiplier, multiplier_at, end_of, or_none, low_sum, left_at, is_zero, put_before, filled, completed, no_costs, goal_costs, AreLegal, AreOfRows, IsFarkas, IsBound, IsGrid}
use Rattle.evidence.specs.Width.{TermFits, StatedFits, LowFits, RowsFit, StepsFit}
use Rattle.evidence.proofs.Numbers.{◌≈◌, ≈-refl, ≈-sym, ◌⊙◌, ◌▹◌, sum-≈, product-≈, product-number, sum-number, product-none, sum-none}
use Rattle.evidence.proofs.Totals.{total-number, total-≈}
use Rattle.evidence.proofs.Columns.{by_lt, by_bool, none-number, All-anywhere, column-numbers}
use Rattle.evidence.proofs.UniqueRows.{end_by-number}
use Rattle.evidence.proofs.Fits.{reduced_same, sums_same, term_same, stated_more, no_factor}
use Rattle.evidence.proofs.Completed.{total_head, zero_of, zero-none, put-numbers, left-number, completed_farkas, completed_costs, costs-number}
use Rattle.evidence.proofs.LeftOut.{none_same, low_cons}
use Rattle.cert_checker.specs.Leaves.{wanted}
use Rattle.cert_checker.specs.Lefts as Left
use Rattle.cert_checker.specs.RowLeaves.{all_of, LeftFits, HasOwnEnd, RowsStand, RowLeafHolds, GridRowsHold}
use Rattle.cert_checker.specs.Slots.{IsStep}

-- legal from a column on
pub record IsLegalAt (I : Instance) (low : ℕ) (m : Multiplier) : Type 0 where
  pub number : IsNumber m.by
  pub after : low ≤ m.column
  pub column : m.column < width I + height I
  pub nonzero : m.by.num ≡ pos 0 → ⊥
  pub finite : IsSome (end_of I m)

abbrev pub LegalFrom : Instance → ℕ → List Multiplier → Type 0
LegalFrom I low [] = Unit {0}
LegalFrom I low (m ∷ ms) = IsLegalAt I low m × LegalFrom I (suc m.column) ms

lower : (I : Instance) (ms : List Multiplier) (a b : ℕ) → a ≤ b → LegalFrom I b ms → LegalFrom I a ms
lower I [] a b h p = tt
lower I (m ∷ ms) a b h (p, rest) = let q = p.after in (record { number = p.number; after = omega arith; column = p.column; nonzero = p.nonzero; finite = p.finite }, rest)

-- the next column is greater
rises : (m : Multiplier) (ms : List Multiplier) → ((k : ℕ) → k + 1 < length (m ∷ ms) → (multiplier_at (m ∷ ms) k).column < (multiplier_at (m ∷ ms) (k + 1)).column) → (k : ℕ) → k + 1 < length ms → (multiplier_at ms k).column < (multiplier_at ms (k + 1)).column
rises m ms a k l =
    let b : (multiplier_at (m ∷ ms) (suc k)).column < (multiplier_at (m ∷ ms) (suc k + 1)).column = a (suc k) (omega arith) in
    let e : suc k + 1 ≡ suc (k + 1) = omega arith in
    subst (λ i. (multiplier_at ms k).column < (multiplier_at (m ∷ ms) i).column) e b

pub to_each : (I : Instance) (ms : List Multiplier) (low : ℕ) → AreLegal I ms → (0 < length ms → low ≤ (multiplier_at ms 0).column) → LegalFrom I low ms
to_each I [] low l h = tt
to_each I (m ∷ ms) low l h = (
  record {
    number = All-head (λ m. IsNumber m.by) m ms l.numbers;
    after = h (omega arith);
    column = All-head (λ m. m.column < width I + height I) m ms l.columns;
    nonzero = All-head (λ m. m.by.num ≡ pos 0 → ⊥) m ms l.nonzero;
    finite = All-head (λ m. IsSome (end_of I m)) m ms l.ends;
  },
  to_each I ms (suc m.column)
      (record {
        numbers = All-tail (λ m. IsNumber m.by) m ms l.numbers;
        columns = All-tail (λ m. m.column < width I + height I) m ms l.columns;
        ascending = rises m ms l.ascending;
        nonzero = All-tail (λ m. m.by.num ≡ pos 0 → ⊥) m ms l.nonzero;
        ends = All-tail (λ m. IsSome (end_of I m)) m ms l.ends;
      })
      (λ p. let b : m.column < (multiplier_at (m ∷ ms) (0 + 1)).column = l.ascending 0 (omega arith) in first m ms b),
)
  where
    first : (m : Multiplier) (ms : List Multiplier) → m.column < (multiplier_at (m ∷ ms) (0 + 1)).column → suc m.column ≤ (multiplier_at ms 0).column
    first m ms b = omega arith

-- the columns of such a list
next_column : (I : Instance) (m : Multiplier) (ms : List Multiplier) → LegalFrom I (suc m.column) ms → (k : ℕ) → k + 1 < length (m ∷ ms) → (multiplier_at (m ∷ ms) k).column < (multiplier_at (m ∷ ms) (k + 1)).column
next_column I m [] h k l = absurd (omega arith)
next_column I m (n ∷ ms) (p, rest) zero l = let q = p.after in omega arith
next_column I m (n ∷ ms) (p, rest) (suc k) l =
    let b : (multiplier_at (n ∷ ms) k).column < (multiplier_at (n ∷ ms) (k + 1)).column = next_column I n ms rest k (omega arith) in
    let e : suc (k + 1) ≡ suc k + 1 = omega arith in
    subst (λ i. (multiplier_at (n ∷ ms) k).column < (multiplier_at (m ∷ n ∷ ms) i).column) e b

pub from_each : (I : Instance) (ms : List Multiplier) (low : ℕ) → LegalFrom I low ms → AreLegal I ms
from_each I [] low h = record {
  numbers = All-nil (λ m. IsNumber m.by);
  columns = All-nil (λ m. m.column < width I + height I);
  ascending = λ k l. absurd (omega arith);
  nonzero = All-nil (λ m. m.by.num ≡ pos 0 → ⊥);
  ends = All-nil (λ m. IsSome (end_of I m));
}
from_each I (m ∷ ms) low (p, rest) =
    let r = from_each I ms (suc m.column) rest in
    record {
      numbers = All-cons (λ m. IsNumber m.by) m ms p.number r.numbers;
      columns = All-cons (λ m. m.column < width I + height I) m ms p.column r.columns;
      ascending = next_column I m ms rest;
      nonzero = All-cons (λ m. m.by.num ≡ pos 0 → ⊥) m ms p.nonzero r.nonzero;
      ends = All-cons (λ m. IsSome (end_of I m)) m ms p.finite r.ends;
    }

-- where the first is a row's, all are
pub rows_after : (I : Instance) (ms : List Multiplier) (n : ℕ) → LegalFrom I n ms → All (λ m. n ≤ m.column) ms
rows_after I [] n h = All-nil (λ m. n ≤ m.column)
rows_after I (m ∷ ms) n (p, rest) = let q = p.after in All-cons (λ m. n ≤ m.column) m ms p.after (rows_after I ms n (lower I ms n (suc m.column) (omega arith) rest))

pub first_row : (I : Instance) (ms : List Multiplier) → AreOfRows I ms → 0 < length ms → width I ≤ (multiplier_at ms 0).column
first_row I [] h l = absurd (omega arith)
first_row I (m ∷ ms) h l = All-head (λ m. width I ≤ m.column) m ms h

nonzero : (z : ℤ) → is_zero z ≡ false → z ≡ pos 0 → ⊥
nonzero z e f = let t : true ≡ false = sym (ap is_zero f) ∙ e in false≢true (sym t)

-- what is filled in
module _ (I : Instance) (t : ℕ → Ratio) (ms : List Multiplier) where
  abbrev mine : ℕ → Multiplier
  mine n = record { column = n; by = left_at I t ms n }

  abbrev HasEnd : ℕ → Type 0
  HasEnd n = ((mine n).by.num ≡ pos 0 → ⊥) → IsSome (end_of I (mine n))

  put_each : (n : ℕ) (rest : List Multiplier) → IsNumber (mine n).by → n < width I → HasEnd n → LegalFrom I (suc n) rest → LegalFrom I n (put_before (mine n) rest)
  put_each n rest p h end r = by_bool (is_zero (mine n).by.num)
      (λ e. subst (λ b. LegalFrom I n (cond b rest (mine n ∷ rest))) (sym e) (lower I rest n (suc n) (omega arith) r))
      (λ e. subst (λ b. LegalFrom I n (cond b rest (mine n ∷ rest))) (sym e)
      (record { number = p; after = omega arith; column = omega arith; nonzero = nonzero (mine n).by.num e; finite = end (nonzero (mine n).by.num e) }, r))

  pub fill_each : (n : ℕ) (rest : List Multiplier) → ((j : ℕ) → IsNumber (mine j).by) → n ≤ width I → ((j : ℕ) → j < n → HasEnd j) → LegalFrom I n rest → LegalFrom I 0 (filled I t ms n rest)
  fill_each zero rest p h ends r = r
  fill_each (suc n) rest p h ends r = fill_each n (put_before (mine n) rest) p (omega arith) (λ j l. ends j (omega arith)) (put_each n rest (p n) (omega arith) (ends n (omega arith)) r)

  put_parts : (n : ℕ) (rest : List Multiplier) → LegalFrom I 0 (put_before (mine n) rest) → HasEnd n × LegalFrom I 0 rest
  put_parts n rest h = by_bool (is_zero (mine n).by.num)
      (λ e. (λ some. absurd (some (zero_of (mine n).by.num e)), subst (λ b. LegalFrom I 0 (cond b rest (mine n ∷ rest))) e h))
      (λ e. let g : IsLegalAt I 0 (mine n) × LegalFrom I (suc n) rest = subst (λ b. LegalFrom I 0 (cond b rest (mine n ∷ rest))) e h in let p = g.0 in (λ some. p.finite, lower I rest 0 (suc n) (omega arith) g.1))

  pub fill_parts : (n : ℕ) (rest : List Multiplier) → LegalFrom I 0 (filled I t ms n rest) → ((j : ℕ) → j < n → HasEnd j) × LegalFrom I 0 rest
  fill_parts zero rest h = (λ j l. absurd (omega arith), h)
  fill_parts (suc n) rest h =
      let r = fill_parts n (put_before (mine n) rest) h in
      let p = put_parts n rest r.1 in
      (λ j l. by_lt j n (r.0 j) (λ up. let e : n ≡ j = omega arith in subst HasEnd e p.0), p.1)

-- the sum so far may be written in another form, and so may a factor
pub term_alike : (s a b x : Ratio) → IsNumber s → a ≈ b → IsNumber x → TermFits s a x → TermFits s b x
term_alike s a b x ps e px fits =
    let p = product-≈ e (≈-refl px) in
    record {
      term = λ h k. reduced_same (product a x) (product b x) p.right p.is (fits.term (λ z. h (none_same a b e z)) k);
      sum = λ h k. sums_same s (product a x) s (product b x) ps p.right refl p.is (fits.sum (λ z. h (none_same a b e z)) k);
    }

pub step_alike : (old new : Option Frac) (a b x : Ratio) → a ≈ b → IsNumber x → IsStep old a x new → IsStep old b x new
step_alike None new a b x e px h = h
step_alike (Some s) None a b x e px h = λ f. h (term_alike (ratio s) b a x s.above (≈-sym e) px f)
step_alike (Some s) (Some r) a b x e px h =
    let both = sum-≈ (≈-refl {x = ratio s} s.above) (product-≈ e (≈-refl px)) in
    let is : ratio r ≈ sum (ratio s) (product a x) = record { left = r.above; right = both.left; is = h.1 } in
    let all = is ⊙ both in
    (term_alike (ratio s) a b x s.above e px h.0, all.is)

pub start_alike : (s t : Ratio) (n : ℕ) (a x : ℕ → Ratio) → s ≈ t → ((j : ℕ) → IsNumber (a j)) → ((j : ℕ) → IsNumber (x j)) → StatedFits s n a x → StatedFits t n a x
start_alike s t n a x e pa px h = record {
  steps = λ j l.
      let p : (k : ℕ) → IsNumber (product (a k) (x k)) = λ k. product-number (a k) (x k) (pa k) (px k) in
      let near : total s j (λ k. product (a k) (x k)) ≈ total t j (λ k. product (a k) (x k)) = total-≈ j (λ k. product (a k) (x k)) (λ k. product (a k) (x k)) e (λ i g. ≈-refl (p i)) in
      term_same (total s j (λ k. product (a k) (x k))) (total t j (λ k. product (a k) (x k))) (a j) (x j) near (p j) (h.steps j l);
}

-- the first term apart
module _ (s : Ratio) (a x : ℕ → Ratio) where
  head_of : (n : ℕ) → StatedFits s (suc n) a x → TermFits s (a 0) (x 0) × StatedFits (sum s (product (a 0) (x 0))) n (λ k. a (suc k)) (λ k. x (suc k))
  head_of n h = (
    h.steps 0 (omega arith),
    record { steps = λ j l. subst (λ r. TermFits r (a (suc j)) (x (suc j))) (total_head s j (λ k. product (a k) (x k))) (h.steps (suc j) (omega arith)) },
  )

  head_from : (n : ℕ) → TermFits s (a 0) (x 0) → StatedFits (sum s (product (a 0) (x 0))) n (λ k. a (suc k)) (λ k. x (suc k)) → StatedFits s (suc n) a x
  head_from n first rest = record { steps = at }
    where
      at : (j : ℕ) → j < suc n → TermFits (total s j (λ k. product (a k) (x k))) (a j) (x j)
      at zero l = first
      at (suc j) l = subst (λ r. TermFits r (a (suc j)) (x (suc j))) (sym (total_head s j (λ k. product (a k) (x k)))) (rest.steps j (omega arith))

abbrev AreNumbers : List Multiplier → Type 0
AreNumbers ms = All (λ m. IsNumber m.by) ms

-- a low sum may begin with another form of its start
module _ (I : Instance) (good : IsInstance I) where
  by-number : (ms : List Multiplier) → AreNumbers ms → (k : ℕ) → IsNumber (multiplier_at ms k).by
  by-number ms p k = All-anywhere (λ m. IsNumber m.by) ms (record { column = 0; by = none }) none-number p k

  end-number : (m : Multiplier) → IsNumber (or_none (end_of I m))
  end-number m = end_by-number m.by.num (column_at I m.column) (column-numbers I good m.column)

  pub low_alike : (s t : Ratio) (ms : List Multiplier) → AreNumbers ms → s ≈ t → LowFits I s ms → LowFits I t ms
  low_alike s t ms p e h = start_alike s t (length ms) (λ k. (multiplier_at ms k).by) (λ k. or_none (end_of I (multiplier_at ms k))) e (by-number ms p) (λ k. end-number (multiplier_at ms k)) h

  pub low_same : (s t : Ratio) (ms : List Multiplier) → AreNumbers ms → s ≈ t → low_sum I s ms ≈ low_sum I t ms
  low_same s t ms p e =
      total-≈ (length ms) (λ k. product (multiplier_at ms k).by (or_none (end_of I (multiplier_at ms k)))) (λ k. product (multiplier_at ms k).by (or_none (end_of I (multiplier_at ms k)))) e
      (λ k l. ≈-refl (product-number (multiplier_at ms k).by (or_none (end_of I (multiplier_at ms k))) (by-number ms p k) (end-number (multiplier_at ms k))))

  -- the low sum of completed multipliers: what is left of each variable, and then the rows
  module _ (t : ℕ → Ratio) (pt : (j : ℕ) → IsNumber (t j)) (ms : List Multiplier) (pm : AreNumbers ms) where
    abbrev left : ℕ → Ratio
    left n = left_at I t ms n

    abbrev end : ℕ → Ratio
    end n = or_none (end_of I (mine I t ms n))

    abbrev so_far : Ratio → ℕ → Ratio
    so_far s n = total s n (λ k. product (left k) (end k))

    left_is : (n : ℕ) → IsNumber (left n)
    left_is n = left-number I good t pt ms pm n

    end_is : (n : ℕ) → IsNumber (end n)
    end_is n = end-number (mine I t ms n)

    so_far-number : (s : Ratio) (n : ℕ) → IsNumber s → IsNumber (so_far s n)
    so_far-number s n p = total-number s n (λ k. product (left k) (end k)) p (λ k. product-number (left k) (end k) (left_is k) (end_is k))

    -- nothing left, nothing added
    no_more : (s : Ratio) (n : ℕ) → IsNumber s → (left n).num ≡ pos 0 → sum s (product (left n) (end n)) ≈ s
    no_more s n p z = sum-≈ (≈-refl p) (product-≈ (zero-none (left n) (left_is n) z) (≈-refl (end_is n)) ⊙ product-none (end n) (end_is n)) ▹ sum-none s

    put_of : (s : Ratio) (n : ℕ) (rest : List Multiplier) → IsNumber s → AreNumbers rest → LowFits I s (put_before (mine I t ms n) rest) → TermFits s (left n) (end n) × LowFits I (sum s (product (left n) (end n))) rest
    put_of s n rest p q h = by_bool (is_zero (left n).num)
        (λ e. let z = zero_of (left n).num e in (no_factor s (left n) (end n) z, low_alike s (sum s (product (left n) (end n))) rest q (≈-sym (no_more s n p z)) (subst (λ b. LowFits I s (cond b rest (mine I t ms n ∷ rest))) e h)))
        (λ e. head_of s (λ k. (multiplier_at (mine I t ms n ∷ rest) k).by) (λ k. or_none (end_of I (multiplier_at (mine I t ms n ∷ rest) k))) (length rest) (subst (λ b. LowFits I s (cond b rest (mine I t ms n ∷ rest))) e h))

    put_from : (s : Ratio) (n : ℕ) (rest : List Multiplier) → IsNumber s → AreNumbers rest → TermFits s (left n) (end n) → LowFits I (sum s (product (left n) (end n))) rest → LowFits I s (put_before (mine I t ms n) rest)
    put_from s n rest p q first h = by_bool (is_zero (left n).num)
        (λ e. subst (λ b. LowFits I s (cond b rest (mine I t ms n ∷ rest))) (sym e) (low_alike (sum s (product (left n) (end n))) s rest q (no_more s n p (zero_of (left n).num e)) h))
        (λ e. subst (λ b. LowFits I s (cond b rest (mine I t ms n ∷ rest))) (sym e) (head_from s (λ k. (multiplier_at (mine I t ms n ∷ rest) k).by) (λ k. or_none (end_of I (multiplier_at (mine I t ms n ∷ rest) k))) (length rest) first h))

    put_same : (s : Ratio) (n : ℕ) (rest : List Multiplier) → IsNumber s → AreNumbers rest → low_sum I (sum s (product (left n) (end n))) rest ≈ low_sum I s (put_before (mine I t ms n) rest)
    put_same s n rest p q = by_bool (is_zero (left n).num)
        (λ e. subst (λ b. low_sum I (sum s (product (left n) (end n))) rest ≈ low_sum I s (cond b rest (mine I t ms n ∷ rest))) (sym e) (low_same (sum s (product (left n) (end n))) s rest q (no_more s n p (zero_of (left n).num e))))
        (λ e. subst (λ b. low_sum I (sum s (product (left n) (end n))) rest ≈ low_sum I s (cond b rest (mine I t ms n ∷ rest))) (sym e)
        (≈-refl (low_is (sum s (product (left n) (end n))) rest (sum-number s (product (left n) (end n)) p (product-number (left n) (end n) (left_is n) (end_is n))) q) ▹ sym (low_cons I s (mine I t ms n) rest)))
      where
        low_is : (s : Ratio) (ms : List Multiplier) → IsNumber s → AreNumbers ms → IsNumber (low_sum I s ms)
        low_is s ms p q = let e = low_same s s ms q (≈-refl p) in e.left

    more-numbers : (n : ℕ) (rest : List Multiplier) → AreNumbers rest → AreNumbers (put_before (mine I t ms n) rest)
    more-numbers n rest q = put-numbers I good (mine I t ms n) rest (left_is n) q

    fill_of : (s : Ratio) (n : ℕ) (rest : List Multiplier) → IsNumber s → AreNumbers rest → LowFits I s (filled I t ms n rest) → StatedFits s n left end × LowFits I (so_far s n) rest
    fill_of s zero rest p q h = (record { steps = λ j l. absurd (omega arith) }, h)
    fill_of s (suc n) rest p q h =
        let r = fill_of s n (put_before (mine I t ms n) rest) p (more-numbers n rest q) h in
        let d = put_of (so_far s n) n rest (so_far-number s n p) q r.1 in
        (subst (λ k. StatedFits s k left end) (add-one n) (stated_more s n left end r.0 d.0), d.1)

    fill_from : (s : Ratio) (n : ℕ) (rest : List Multiplier) → IsNumber s → AreNumbers rest → StatedFits s n left end → LowFits I (so_far s n) rest → LowFits I s (filled I t ms n rest)
    fill_from s zero rest p q f h = h
    fill_from s (suc n) rest p q f h =
        fill_from s n (put_before (mine I t ms n) rest) p (more-numbers n rest q) (record { steps = λ j l. f.steps j (omega arith) })
        (put_from (so_far s n) n rest (so_far-number s n p) q (f.steps n (omega arith)) h)

    fill_same : (s : Ratio) (n : ℕ) (rest : List Multiplier) → IsNumber s → AreNumbers rest → low_sum I (so_far s n) rest ≈ low_sum I s (filled I t ms n rest)
    fill_same s zero rest p q = low_same s s rest q (≈-refl p)
    fill_same s (suc n) rest p q = put_same (so_far s n) n rest (so_far-number s n p) q ⊙ fill_same s n (put_before (mine I t ms n) rest) p (more-numbers n rest q)

    pub all_fit_of : (s : Ratio) → IsNumber s → LowFits I s (completed I t ms) → StatedFits s (width I) left end × LowFits I (so_far s (width I)) ms
    all_fit_of s p h = fill_of s (width I) ms p pm h

    pub all_fit_from : (s : Ratio) → IsNumber s → StatedFits s (width I) left end → LowFits I (so_far s (width I)) ms → LowFits I s (completed I t ms)
    all_fit_from s p f h = fill_from s (width I) ms p pm f h

    pub all_same : (s : Ratio) → IsNumber s → low_sum I (so_far s (width I)) ms ≈ low_sum I s (completed I t ms)
    all_same s p = fill_same s (width I) ms p pm

pub wanted-number : (I : Instance) → IsInstance I → (z : Option Ratio) (j : ℕ) → IsNumber (wanted I z j)
wanted-number I good None j = none-number
wanted-number I good (Some z) j = costs-number I good j

-- completed multipliers that are legal have legal parts, and the other way round
pub parts_left : (I : Instance) (t : ℕ → Ratio) (ms : List Multiplier) → AreLegal I (completed I t ms) → AreLegal I ms × ((j : ℕ) → j < width I → Left.HasOwnEnd I t ms j)
parts_left I t ms legal =
    let parts = fill_parts I t ms (width I) ms (to_each I (completed I t ms) 0 legal (λ h. omega arith)) in
    (from_each I ms 0 parts.1, parts.0)

pub legal_left : (I : Instance) → IsInstance I → (t : ℕ → Ratio) → ((j : ℕ) → IsNumber (t j)) → (ms : List Multiplier) → Left.RowsStand I t ms → AreLegal I (completed I t ms)
legal_left I good t pt ms s =
    let l = s.legal in
    from_each I (completed I t ms) 0 (fill_each I t ms (width I) ms (left-number I good t pt ms l.numbers) (omega arith) (λ j h. (s.lefts j h).finite) (to_each I ms (width I) l (first_row I ms s.rows)))

-- what is checked is what the definition asks
pub all_legal : (I : Instance) → IsInstance I → (ms : List Multiplier) (z : Option Ratio) → RowsStand I ms z → AreLegal I (all_of I ms z)
all_legal I good ms z s = legal_left I good (wanted I z) (wanted-number I good z) ms s

pub parts_of : (I : Instance) (ms : List Multiplier) (z : Option Ratio) → AreLegal I (all_of I ms z) → AreLegal I ms × ((j : ℕ) → j < width I → HasOwnEnd I ms z j)
parts_of I ms z legal = parts_left I (wanted I z) ms legal

stand_of : (I : Instance) (ms : List Multiplier) (z : Option Ratio) → AreOfRows I ms → AreLegal I (all_of I ms z) → ((j : ℕ) → j < width I → LeftFits I ms z j) → RowsStand I ms z
stand_of I ms z rows legal fits = let parts = parts_of I ms z legal in record { legal = parts.0; rows = rows; lefts = λ j h. record { fits = fits j h; finite = parts.1 j h } }

pub farkas_rows_of : (I : Instance) → IsInstance I → (ms : List Multiplier) → RowLeafHolds I ms None → (AreOfRows I ms × IsFarkas I (completed I no_costs ms)) × RowsFit I none no_costs ms
farkas_rows_of I good ms h =
    let s = h.stand in
    let l = s.legal in (
      (s.rows, completed_farkas I good ms l.numbers (all_legal I good ms None s) h.sum.reaches),
      record { forms = λ j g. (s.lefts j g).fits.rows; left = λ j g. (s.lefts j g).fits.left; low = h.sum.fits },
    )

pub farkas_rows_from : (I : Instance) (ms : List Multiplier) → AreOfRows I ms → IsFarkas I (completed I no_costs ms) → RowsFit I none no_costs ms → RowLeafHolds I ms None
farkas_rows_from I ms rows f w = record {
  stand = stand_of I ms None rows f.legal (λ j h. record { rows = w.forms j h; left = w.left j h });
  sum = record { fits = w.low; reaches = f.above };
}

pub bound_rows_of : (I : Instance) → IsInstance I → (ms : List Multiplier) (z : Ratio) → RowLeafHolds I ms (Some z) → (AreOfRows I ms × IsBound I (completed I (goal_costs I) ms) z) × RowsFit I (minimising I I.goal.constant) (goal_costs I) ms
bound_rows_of I good ms z h =
    let s = h.stand in
    let l = s.legal in (
      (s.rows, record { legal = all_legal I good ms (Some z) s; costs = completed_costs I good ms l.numbers; reaches = h.sum.reaches }),
      record { forms = λ j g. (s.lefts j g).fits.rows; left = λ j g. (s.lefts j g).fits.left; low = h.sum.fits },
    )

pub bound_rows_from : (I : Instance) (ms : List Multiplier) (z : Ratio) → AreOfRows I ms → IsBound I (completed I (goal_costs I) ms) z → RowsFit I (minimising I I.goal.constant) (goal_costs I) ms → RowLeafHolds I ms (Some z)
bound_rows_from I ms z rows b w = record {
  stand = stand_of I ms (Some z) rows b.legal (λ j h. record { rows = w.forms j h; left = w.left j h });
  sum = record { fits = w.low; reaches = b.reaches };
}

pub grid_rows_of : (I : Instance) → IsInstance I → (g : Ratio) (ms : List Multiplier) (z : Ratio) → IsNumber g → GridRowsHold I g ms z → (AreOfRows I ms × IsGrid I g (completed I (goal_costs I) ms) z) × (RowsFit I none (goal_costs I) ms × StepsFit I g (completed I (goal_costs I) ms))
grid_rows_of I good g ms z p h =
    let s = h.stand in
    let l = s.legal in
    let r = h.reaches in (
      (
        s.rows,
        record {
          legal = all_legal I good ms (Some z) s;
          costs = completed_costs I good ms l.numbers;
          step = record { number = p; above = h.above; multiples = λ j k t. (h.costs j k).multiple t; others = λ j k d. (h.costs j k).other d };
          steps = r.steps;
          rounded = r.rounded;
          reaches = r.reaches;
        },
      ),
      (record { forms = λ j g. (s.lefts j g).fits.rows; left = λ j g. (s.lefts j g).fits.left; low = h.fits.low }, h.fits.steps),
    )

pub grid_rows_from : (I : Instance) (g : Ratio) (ms : List Multiplier) (z : Ratio) → AreOfRows I ms → IsGrid I g (completed I (goal_costs I) ms) z → RowsFit I none (goal_costs I) ms → StepsFit I g (completed I (goal_costs I) ms) → GridRowsHold I g ms z
grid_rows_from I g ms z rows b w f = record {
  stand = stand_of I ms (Some z) rows b.legal (λ j h. record { rows = w.forms j h; left = w.left j h });
  above = b.step.above;
  costs = λ j h. record { multiple = λ t. b.step.multiples j h t; other = λ d. b.step.others j h d };
  fits = record { low = w.low; steps = f };
  reaches = record { steps = b.steps; rounded = b.rounded; reaches = b.reaches };
}
