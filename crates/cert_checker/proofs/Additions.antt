-- Sums to which products are added, one for each variable.
use Rattle.std.proofs.Common.{◌≡◌, ℕ, ◌+◌, ◌<◌, ◌≤◌, ◌⊎◌, inl, inr, Option, None, Some, List, length, slice_set, arith, refl, sym, ◌∙◌, ap, subst}
use Rattle.std.specs.List.{All}
use Rattle.std.proofs.lemmas.List.{get_or-set_same, get_or-set_other, map-set, length-map}
use Rattle.rational.specs.Ratio.{Ratio}
use Rattle.fraction.specs.Frac.{ratio, ratios}
use Rattle.fraction.specs.declared.frac.Frac.{Frac}
use Rattle.fraction.specs.declared.ends.Entry.{Entry}
use Rattle.evidence.specs.Sums.{none}
use Rattle.evidence.specs.Instance.{entry_at}
use Rattle.evidence.specs.Point.{value_at}
use Rattle.evidence.proofs.Columns.{by_lt}
use Rattle.instance.specs.Parts.{IsAscending}
use Rattle.instance.specs.Program.{entries}
use Rattle.instance.proofs.Terms.{nothing_added}
use Rattle.cert_checker.specs.Slots.{slot_at, IsStep}
use Rattle.cert_checker.proofs.Entries.{at, found, columns_rise, off_row, on_row}

pub set_here : (ss : List (Option Frac)) (j : ℕ) (v : Option Frac) → j < length ss → slot_at (slice_set ss j v) j ≡ v
set_here ss j v h = get_or-set_same ss j v None h

pub set_apart : (ss : List (Option Frac)) (j i : ℕ) (v : Option Frac) → (i ≡ j → ⊥) → slot_at (slice_set ss j v) i ≡ slot_at ss i
set_apart ss j i v ne = get_or-set_other ss j i v None ne

-- what holds of the sums below j, and of the next one
pub set_next : (P : ℕ → Option Frac → Type 0) (ss : List (Option Frac)) (j : ℕ) (v : Option Frac) → j < length ss → ((i : ℕ) → i < j → P i (slot_at ss i)) → P j v → (i : ℕ) → i < j + 1 → P i (slot_at (slice_set ss j v) i)
set_next P ss j v h below here i g =
    by_lt i j (λ l. subst (P i) (sym (set_apart ss j i v (λ e. omega arith))) (below i l))
    (λ l. let e : i ≡ j = omega arith in subst (λ k. P k (slot_at (slice_set ss j v) k)) (sym e) (subst (P j) (sym (set_here ss j v h)) here))

-- a factor 0 adds nothing
pub nothing : (s : Option Frac) (a : Ratio) → IsStep s a none s
nothing None a = refl
nothing (Some s) a = (record { term = λ p q. absurd (q refl); sum = λ p q. absurd (q refl) }, nothing_added (ratio s) a none (inr refl))

-- the first k entries of a row are added to the sums of their variables, and the others are as before
pub record IsAdded (row : List Entry) (d : Entry) (by : Ratio) (old new : List (Option Frac)) (k : ℕ) : Type 0 where
  pub added : (s : ℕ) → s < k → IsStep (slot_at old (at row s d).col) by (ratio (at row s d).value) (slot_at new (at row s d).col)
  pub others : (j : ℕ) → ((s : ℕ) → s < k → (at row s d).col ≡ j → ⊥) → slot_at new j ≡ slot_at old j

module _ (row : List Entry) (i : ℕ) (d : Entry) (by : Ratio) (old : List (Option Frac)) (up : IsAscending row) (on : All (λ e. e.row ≡ i) row) where
  pub one_more : (new : List (Option Frac)) (k : ℕ) (v : Option Frac) → k < length row → (at row k d).col < length new → IsAdded row d by old new k → IsStep (slot_at new (at row k d).col) by (ratio (at row k d).value) v → IsAdded row d by old (slice_set new (at row k d).col v) (k + 1)
  one_more new k v h inside so step = record {
    added = λ s g. by_lt s k
        (λ l. subst (λ w. IsStep (slot_at old (at row s d).col) by (ratio (at row s d).value) w) (sym (set_apart new (at row k d).col (at row s d).col v (λ e. let r = columns_rise row i d up on s k l h in omega arith))) (so.added s l))
        (λ l. let e : s ≡ k = omega arith in
        subst (λ t. IsStep (slot_at old (at row t d).col) by (ratio (at row t d).value) (slot_at (slice_set new (at row k d).col v) (at row t d).col)) (sym e)
        (subst (λ w. IsStep (slot_at old (at row k d).col) by (ratio (at row k d).value) w) (sym (set_here new (at row k d).col v inside))
        (subst (λ w. IsStep w by (ratio (at row k d).value) v) (so.others (at row k d).col (λ t g e. let r = columns_rise row i d up on t k g h in omega arith)) step)));
    others = λ j off. set_apart new (at row k d).col j v (λ e. off k (omega arith) (sym e)) ∙ so.others j (λ s g. off s (omega arith));
  }

  -- so at each variable the row's coefficient is added
  pub all_added : (new : List (Option Frac)) → IsAdded row d by old new (length row) → (j : ℕ) → IsStep (slot_at old j) by (entry_at (entries row) i j) (slot_at new j)
  all_added new so j = here (found row d j (length row))
    where
      here : ((k : ℕ) × (k < length row) × ((at row k d).col ≡ j)) ⊎ ((k : ℕ) → k < length row → (at row k d).col ≡ j → ⊥) → IsStep (slot_at old j) by (entry_at (entries row) i j) (slot_at new j)
      here (inl (k, h, e)) =
          subst (λ j. IsStep (slot_at old j) by (entry_at (entries row) i j) (slot_at new j)) e
          (subst (λ w. IsStep (slot_at old (at row k d).col) by w (slot_at new (at row k d).col)) (sym (on_row row i d on (columns_rise row i d up on) k h)) (so.added k h))
      here (inr off) =
          subst (λ w. IsStep (slot_at old j) by w (slot_at new j)) (sym (off_row row i j d off))
          (subst (λ w. IsStep (slot_at old j) by none w) (sym (so.others j off)) (nothing (slot_at old j) by))

-- the first k numbers are added to the sums at their places, and the other sums are as before
pub record AreAdded (by : Ratio) (x : ℕ → Ratio) (old new : List (Option Frac)) (k : ℕ) : Type 0 where
  pub done : (j : ℕ) → j < k → IsStep (slot_at old j) by (x j) (slot_at new j)
  pub others : (j : ℕ) → k ≤ j → slot_at new j ≡ slot_at old j

pub first_added : (by : Ratio) (x : ℕ → Ratio) (old : List (Option Frac)) → AreAdded by x old old 0
first_added by x old = record { done = λ j h. absurd (omega arith); others = λ j h. refl }

pub next_added : (by : Ratio) (x : ℕ → Ratio) (old new : List (Option Frac)) (k : ℕ) (v : Option Frac) → k < length new → AreAdded by x old new k → IsStep (slot_at new k) by (x k) v → AreAdded by x old (slice_set new k v) (k + 1)
next_added by x old new k v h so step = record {
  done = set_next (λ j w. IsStep (slot_at old j) by (x j) w) new k v h so.done (subst (λ w. IsStep w by (x k) v) (so.others k (omega arith)) step);
  others = λ j g. set_apart new k j v (λ e. omega arith) ∙ so.others j (omega arith);
}

-- numbers that are those of the sums, as far as there are any
pub numbers_next : (ns : List Frac) (slots : List (Option Frac)) (j : ℕ) (v : Frac) → j < length ns → ((x : Frac) → slot_at slots j ≡ Some x → v ≡ x) → ((i : ℕ) (x : Frac) → i < j → slot_at slots i ≡ Some x → value_at (ratios ns) i ≡ ratio x) → (i : ℕ) (x : Frac) → i < j + 1 → slot_at slots i ≡ Some x → value_at (ratios (slice_set ns j v)) i ≡ ratio x
numbers_next ns slots j v h here below i x g e =
    let set = map-set ratio ns j v in
    let long = length-map ns ratio in
    by_lt i j
    (λ l. ap (λ ys. value_at ys i) set ∙ get_or-set_other (ratios ns) j i (ratio v) none (λ q. omega arith) ∙ below i x l e)
    (λ l.
    let q : i ≡ j = omega arith in
    let at : slot_at slots j ≡ Some x = subst (λ k. slot_at slots k ≡ Some x) q e in
    ap (λ ys. value_at ys i) set ∙ ap (λ k. value_at (slice_set (ratios ns) j (ratio v)) k) q ∙ get_or-set_same (ratios ns) j (ratio v) none (omega arith) ∙ ap ratio (here x at))
