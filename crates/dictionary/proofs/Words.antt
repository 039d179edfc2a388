-- Words of a row's columns, as another row comes into them.
use Rattle.std.proofs.Common.{◌≡◌, ℕ, zero, suc, ◌*◌, ◌+◌, ◌^◌, ◌<◌, ◌≤◌, ◌≢◌, ◌&&◌, ◌||◌, ℤ, pos, ◌+ℤ◌, ◌*ℤ◌, Bool, true, false, cond, not, nat_eq, List, length, set, bit_or, get_or-set_same, get_or-set_other, arith, refl, sym, ◌∙◌, ap, ap₂, subst}
use Rattle.std.specs.Prelude.{unsigned_abs}
use Rattle.std.specs.Int.{bit_at}
use Rattle.std.proofs.Math.ListN.{length-set}
use Rattle.std.proofs.lemmas.Bool.{false≢true}
use Rattle.std.proofs.lemmas.Nat.{le_or_l, le_or_r, or_lt}
use Rattle.std.proofs.lemmas.Nat.Bits.{bit_at-zero}
use Rattle.evidence.proofs.Columns.{by_eq}
use Rattle.marks.proofs.Bits.{set_or}
use Rattle.dictionary.specs.Steps.{count_all}
use Rattle.dictionary.specs.Words.{number_at, AreChanged, steps_at, count_word}
use Rattle.dictionary.proofs.Nonzeros.{left_out, left_own, left_other, all_same, taken_out}
use Rattle.marks.specs.Words.{is_set}

-- which of a word's columns are no longer left
abbrev pub passed : ℕ → ℕ → ℕ → Bool
passed columns left i = is_set columns i && not (is_set left i)

at_start : (b : Bool) → (b && not b) ≡ false
at_start true = refl
at_start false = refl

at_end : (b t : Bool) → t ≡ false → (b && not t) ≡ b
at_end true t e = ap not e
at_end false t e = refl

left_out_of : (b t : Bool) → t ≡ true → (b && not t) ≡ false
left_out_of true t e = ap not e
left_out_of false t e = refl

or_true : (a b : Bool) → b ≡ true → (a || b) ≡ true
or_true true b e = refl
or_true false b e = e

pub told_none : (P : ℕ → Type 0) (columns i : ℕ) → passed columns columns i ≡ true → P i
told_none P columns i h = absurd (false≢true (sym (at_start (is_set columns i)) ∙ h))

-- all are passed where none is left
pub passed_all : (columns left : ℕ) → left ≡ 0 → passed columns left ≡ is_set columns
passed_all columns left e = λ j i. at_end (is_set columns i) (is_set left i) (ap (λ n. nat_eq (bit_at n i) 1) e ∙ ap (λ n. nat_eq n 1) (bit_at-zero i)) j

-- a column that isn't done has the number before
pub undone : {first own columns : ℕ} {done : ℕ → Bool} {s k : ℤ} {old by new : List ℤ} {size entries most : ℕ} → AreChanged first own columns done s k old by new size entries most → (i : ℕ) → done i ≡ false → number_at new (first + i) ≡ number_at old (first + i)
undone {first} {own} {columns} {done} a i e = a.others (first + i) (λ j l h g. let d : i ≡ j = omega arith in false≢true (sym e ∙ ap done d ∙ h))

-- nor one that is left
pub left_before : (columns left b : ℕ) → is_set left b ≡ true → passed columns left b ≡ false
left_before columns left b stood = left_out_of (is_set columns b) (is_set left b) stood

module _ (first own columns : ℕ) (s k : ℤ) (old by : List ℤ) (size : ℕ) where
  pub changed_none : size < 2 ^ 63 → AreChanged first own columns (passed columns columns) s k old by old size (bit_or own columns) size
  changed_none small = record {
    count = refl;
    is = λ i l h. absurd (false≢true (sym (at_start (is_set columns i)) ∙ h));
    others = λ c d. refl;
    marked = λ i l h. absurd (false≢true (sym (at_start (is_set columns i)) ∙ h));
    unmarked = λ i l h. set_or own columns i;
    within = λ i l h. absurd (false≢true (sym (at_start (is_set columns i)) ∙ h));
    more = omega arith;
    small = small;
  }

  -- one column more
  module _ (left left' b : ℕ) (low : b < 64) (column : is_set columns b ≡ true) (stood : is_set left b ≡ true) (gone : is_set left' b ≡ false) (rest : (i : ℕ) → i < 64 → i ≢ b → is_set left' i ≡ is_set left i) where
    now : passed columns left' b ≡ true
    now = at_end (is_set columns b) (is_set left' b) gone ∙ column

    before : passed columns left b ≡ false
    before = left_before columns left b stood

    same : (i : ℕ) → i < 64 → i ≢ b → passed columns left' i ≡ passed columns left i
    same i l d = ap (λ t. is_set columns i && not t) (rest i l d)

    pub changed_next : (xs : List ℤ) (entries entries' most : ℕ) (z : ℤ) → first + b < length xs → z ≡ number_at old (first + b) *ℤ s +ℤ number_at by (first + b) *ℤ k → unsigned_abs z < 2 ^ 63 → (is_set entries b ≡ true → is_set entries' b ≡ not (nat_eq (unsigned_abs z) 0)) → ((i : ℕ) → i < 64 → i ≢ b → is_set entries' i ≡ is_set entries i) → AreChanged first own columns (passed columns left) s k old by xs size entries most → AreChanged first own columns (passed columns left') s k old by (set xs (first + b) z) size entries' (bit_or most (unsigned_abs z))
    changed_next xs entries entries' most z inside is narrow mark marks a = record {
      count = length-set xs (first + b) z ∙ a.count;
      is = λ i l h. by_eq i b
          (λ e. subst (λ j. number_at (set xs (first + b) z) (first + j) ≡ number_at old (first + j) *ℤ s +ℤ number_at by (first + j) *ℤ k) (sym e) (own_number ∙ is))
          (λ d. other_number (first + i) (λ e. d (omega arith)) ∙ a.is i l (sym (same i l d) ∙ h));
      others = λ c d. other_number c (d b low now) ∙ a.others c (λ i l h. by_eq i b (λ e. subst (λ j. c ≢ first + j) (sym e) (d b low now)) (λ n. d i l (same i l n ∙ h)));
      marked = λ i l h. by_eq i b
          (λ e. subst (λ j. is_set entries' j ≡ not (nat_eq (unsigned_abs (number_at (set xs (first + b) z) (first + j))) 0)) (sym e) (mark (a.unmarked b low before ∙ or_true (is_set own b) (is_set columns b) column) ∙ ap (λ (x : ℤ). not (nat_eq (unsigned_abs x) 0)) (sym own_number)))
          (λ d. marks i l d ∙ a.marked i l (sym (same i l d) ∙ h) ∙ ap (λ (x : ℤ). not (nat_eq (unsigned_abs x) 0)) (sym (other_number (first + i) (λ e. d (omega arith)))));
      unmarked = λ i l h. by_eq i b
          (λ e. absurd (false≢true (sym h ∙ ap (passed columns left') e ∙ now)))
          (λ d. marks i l d ∙ a.unmarked i l (sym (same i l d) ∙ h));
      within = λ i l h. by_eq i b
          (λ e. subst (λ j. unsigned_abs (number_at (set xs (first + b) z) (first + j)) ≤ bit_or most (unsigned_abs z)) (sym e) (subst (λ (x : ℤ). unsigned_abs x ≤ bit_or most (unsigned_abs z)) (sym own_number) (le_or_r most (unsigned_abs z))))
          (λ d. subst (λ (x : ℤ). unsigned_abs x ≤ bit_or most (unsigned_abs z)) (sym (other_number (first + i) (λ e. d (omega arith)))) (let p = a.within i l (sym (same i l d) ∙ h) in let q = le_or_l most (unsigned_abs z) in omega arith));
      more = let p = a.more in let q = le_or_l most (unsigned_abs z) in omega arith;
      small = or_lt 63 most (unsigned_abs z) a.small narrow;
    }
      where
        own_number : number_at (set xs (first + b) z) (first + b) ≡ z
        own_number = get_or-set_same xs (first + b) z (pos 0) inside

        other_number : (c : ℕ) → c ≢ first + b → number_at (set xs (first + b) z) c ≡ number_at xs c
        other_number c d = get_or-set_other xs (first + b) c z (pos 0) d

    -- what is told of each number that was written
    pub told_next : (P : ℕ → ℤ → Type 0) (xs : List ℤ) (z : ℤ) → first + b < length xs → P b z → ((i : ℕ) → i < 64 → passed columns left i ≡ true → P i (number_at xs (first + i))) → (i : ℕ) → i < 64 → passed columns left' i ≡ true → P i (number_at (set xs (first + b) z) (first + i))
    told_next P xs z inside own_told told i l h = by_eq i b
        (λ e. subst (λ j. P j (number_at (set xs (first + b) z) (first + j))) (sym e) (subst (P b) (sym (get_or-set_same xs (first + b) z (pos 0) inside)) own_told))
        (λ d. subst (P i) (sym (get_or-set_other xs (first + b) (first + i) z (pos 0) (λ e. d (omega arith)))) (told i l (sym (same i l d) ∙ h)))

    -- and its steps
    pub steps_next : (each other : ℕ) → count_word (steps_at each own other (passed columns left')) ≡ count_word (steps_at each own other (passed columns left)) + (cond (is_set own b) 1 0 + cond (is_set other b) 1 0 + each)
    unfolding count_word
    steps_next each other = upto 64 low (λ i l. l)
      where
        upto : (n : ℕ) → b < n → ((i : ℕ) → i < n → i < 64) → count_all n (steps_at each own other (passed columns left')) ≡ count_all n (steps_at each own other (passed columns left)) + (cond (is_set own b) 1 0 + cond (is_set other b) 1 0 + each)
        upto n inside within =
            let f : ℕ → ℕ = steps_at each own other (passed columns left) in
            let g : ℕ → ℕ = steps_at each own other (passed columns left') in
            let zero : f b ≡ 0 = ap (λ (t : Bool). cond t (cond (is_set own b) 1 0 + cond (is_set other b) 1 0 + each) 0) before in
            let here : g b ≡ cond (is_set own b) 1 0 + cond (is_set other b) 1 0 + each = ap (λ (t : Bool). cond t (cond (is_set own b) 1 0 + cond (is_set other b) 1 0 + each) 0) now in
            let alike = all_same n (left_out b g) f (λ c l. by_eq c b (λ e. left_own b g c e ∙ sym zero ∙ ap f (sym e)) (λ d. left_other b g c d ∙ ap (λ (t : Bool). cond t (cond (is_set own c) 1 0 + cond (is_set other c) 1 0 + each) 0) (same c (within c l) d))) in
            let all = taken_out n b g inside in
            all ∙ ap (λ x. x + g b) alike ∙ ap (λ x. count_all n f + x) here

pub stepped : (a b : Bool) (t u : ℕ) → a ≡ b → t ≡ u + cond a 1 0 → t ≡ u + cond b 1 0
stepped a b t u e h = h ∙ ap (λ (x : Bool). u + cond x 1 0) e

pub count_none : (f : ℕ → ℕ) → ((i : ℕ) → f i ≡ 0) → count_word f ≡ 0
unfolding count_word
count_none f z = by 64
  where
    by : (n : ℕ) → count_all n f ≡ 0
    by zero = refl
    by (suc n) = ap₂ (λ x y. x + y) (by n) (z n)

pub none_yet : (each own other columns i : ℕ) → steps_at each own other (passed columns columns) i ≡ 0
none_yet each own other columns i = ap (λ (t : Bool). cond t (cond (is_set own i) 1 0 + cond (is_set other i) 1 0 + each) 0) (at_start (is_set columns i))

pub count_most : (t : ℕ) (f g : ℕ → ℕ) → ((i : ℕ) → i < 64 → f i ≤ t * g i) → count_word f ≤ t * count_word g
unfolding count_word
count_most t f g h = by 64 (λ i l. l)
  where
    by : (n : ℕ) → ((i : ℕ) → i < n → i < 64) → count_all n f ≤ t * count_all n g
    by zero w = omega arith
    by (suc n) w = let r = by n (λ i l. w i (omega arith)) in let e = h n (w n (omega arith)) in let d : t * (count_all n g + g n) ≡ t * count_all n g + t * g n = omega arith in omega (arith, r, e, d)
