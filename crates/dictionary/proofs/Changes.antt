-- A row in common form that another one comes into.
use Rattle.std.proofs.Common.{◌≡◌, ℕ, zero, suc, ◌/◌, ◌+◌, ◌-◌, ◌*◌, ◌^◌, ◌<◌, ◌≤◌, ◌⊎◌, inl, inr, ℤ, pos, ◌+ℤ◌, ◌*ℤ◌, ◌<ℤ◌, Bool, true, false, cond, ◌||◌, arith, refl, sym, ◌∙◌, ap, ap₂, subst, add-one}
use Rattle.std.specs.Prelude.{unsigned_abs}
use Rattle.std.proofs.Math.Nat.{mul-pos}
use Rattle.std.proofs.Math.IntN.{zero-*ℤ}
use Rattle.std.proofs.lemmas.Bool.{false≢true}
use Rattle.std.proofs.lemmas.Int.{ints}
use Rattle.evidence.proofs.Columns.{by_lt}
use Rattle.rational.specs.Ratio.{Ratio, sum, product, IsNumber, IsSame}
use Rattle.rational.specs.Width.{IsReduced}
use Rattle.rational.proofs.Scaling.{same_multiple, IsSame-trans}
use Rattle.evidence.specs.Sums.{none}
use Rattle.bases.proofs.Lists.{reduced_none}
use Rattle.evidence.specs.Width.{TermFits}
use Rattle.evidence.proofs.Numbers.{◌≈◌, ≈-refl, ≈-sym, ◌⊙◌, product-≈}
use Rattle.evidence.proofs.Fits.{reduced_same, sums_same}
use Rattle.common_rows.specs.Row.{over}
use Rattle.common_rows.proofs.Fitting.{term_fits}
use Rattle.common_rows.proofs.Accumulators.{begun_fits, factored_fits}
use Rattle.dictionary.specs.Lowest.{lowest}
use Rattle.dictionary.proofs.Lowest.{lowest-reduced, lowest-same, lowest-≈, replaced}
use Rattle.dictionary.specs.declared.row.Row.{Row}
use Rattle.dictionary.specs.Numbers.{ArePartsOf}
use Rattle.dictionary.specs.Rows.{numbers_of, numer_at, entries_at, IsRow}
use Rattle.dictionary.specs.Steps.{unless_zero, nonzeros, count_all}
use Rattle.dictionary.specs.Words.{count_word}
use Rattle.dictionary.proofs.Nonzeros.{unless_not, all_same}
use Rattle.dictionary.proofs.FoundValues.{past_none}
use Rattle.dictionary.proofs.RowForms.{sized, sized_above, common_number, numbers-number, marked_has, unmarked_none, has_inside}
use Rattle.dictionary.proofs.RowValues.{counted_up}

pub either_false : (a b : Bool) → (a || b) ≡ false → (a ≡ false) × (b ≡ false)
either_false true b e = absurd (false≢true (sym e))
either_false false b e = (refl, e)

pub either_true : (a b : Bool) → (a || b) ≡ true → (a ≡ true) ⊎ (b ≡ true)
either_true true b e = inl refl
either_true false b e = inr e

pub entry_count : {L : _} {G : _} (row : Row L G) (k n c : ℕ) → IsRow k n row → unless_zero (numbers_of row c).num 1 ≡ cond (entries_at row c) 1 0
entry_count row k n c is = by (entries_at row c) refl
  where
    by : (b : Bool) → entries_at row c ≡ b → unless_zero (numbers_of row c).num 1 ≡ cond (entries_at row c) 1 0
    by true e = unless_not (numbers_of row c).num 1 (marked_has row k n is c e) ∙ sym (ap (λ (b : Bool). cond b 1 0) e)
    by false e = ap (λ z. unless_zero z 1) (unmarked_none row k n is c e) ∙ sym (ap (λ (b : Bool). cond b 1 0) e)

-- one column more is counted, where it has an entry
pub counted_mark : {L : _} {G : _} (row : Row L G) (k n c : ℕ) → IsRow k n row → nonzeros (c + 1) (numbers_of row) ≡ nonzeros c (numbers_of row) + cond (entries_at row c) 1 0
counted_mark row k n c is = rw add-one (ap (λ m. nonzeros c (numbers_of row) + m) (entry_count row k n c is))

pub counted_to : (a b : ℕ) (f : ℕ → Ratio) → a ≤ b → nonzeros a f ≤ nonzeros b f
counted_to a b f l = let e : a + (b - a) ≡ b = omega arith in subst (λ m. nonzeros a f ≤ nonzeros m f) e (counted_up a (b - a) f)

-- what two rows' entries up to a column allow, those up to a later one do
pub both_to : (a b : ℕ) (f g : ℕ → Ratio) (t u : ℕ) → a ≤ b → t ≤ u + (nonzeros a f + nonzeros a g) → t ≤ u + (nonzeros b f + nonzeros b g)
both_to a b f g t u l h = let x = counted_to a b f l in let y = counted_to a b g l in omega arith

-- counts are those of numbers that are the same
pub counted_same : {L : _} {G : _} (row : Row L G) (k n c : ℕ) (f : ℕ → Ratio) → IsRow k n row → numbers_of row c ≡ f c → nonzeros (c + 1) f ≡ nonzeros c f + cond (entries_at row c) 1 0
counted_same row k n c f is e = rw add-one (ap (λ m. nonzeros c f + m) (ap (λ (x : Ratio). unless_zero x.num 1) (sym e) ∙ entry_count row k n c is))

-- nothing is added
pub unadded : (x y k : ℤ) → y ≡ pos 0 → x ≡ x *ℤ pos 1 +ℤ y *ℤ k
unadded x y k e = let z : y *ℤ k ≡ pos 0 = ap (λ t. t *ℤ k) e ∙ zero-*ℤ k in omega (arith, ints)

pub unchanged : (x y s k : ℤ) → x ≡ pos 0 → y ≡ pos 0 → x ≡ x *ℤ s +ℤ y *ℤ k
unchanged x y s k ex ey =
    let a : x *ℤ s ≡ pos 0 = ap (λ t. t *ℤ s) ex ∙ zero-*ℤ s in
    let b : y *ℤ k ≡ pos 0 = ap (λ t. t *ℤ k) ey ∙ zero-*ℤ k in
    omega (arith, ints)

-- a number that stays over one denominator
pub kept_numbers : {L : _} {G : _} (old row : Row L G) → old.is_common ≡ true → row.is_common ≡ true → row.denom ≡ old.denom → (c : ℕ) → numer_at row c ≡ numer_at old c → numbers_of row c ≡ numbers_of old c
kept_numbers old row common form denom c same = common_number row form c ∙ ap₂ (λ (z d : ℤ). lowest z (unsigned_abs d)) same denom ∙ sym (common_number old common c)

-- a row that was begun, as it is changed up to a column: each number there is the sum of both rows' numbers, each times its part
pub record IsChanging {L : _} {G : _} (old by row : Row L G) (s k : ℤ) (from : ℕ) : Type 0 where
  pub form : row.is_common ≡ true
  pub denom : row.denom ≡ old.denom
  pub rows : (m n : ℕ) → IsRow m n old → IsRow m n row
  pub done : (c : ℕ) → c < from → numer_at row c ≡ numer_at old c *ℤ s +ℤ numer_at by c *ℤ k
  pub rest : (c : ℕ) → from ≤ c → numer_at row c ≡ numer_at old c

pub changing_none : {L : _} {G : _} (old by : Row L G) (s k : ℤ) → old.is_common ≡ true → IsChanging old by old s k 0
changing_none old by s k common = record {
  form = common;
  denom = refl;
  rows = λ m n is. is;
  done = λ c l. absurd (omega arith);
  rest = λ c l. refl;
}

-- one word more
pub changing_next : {L : _} {G : _} (old by row new : Row L G) (s k : ℤ) (w : ℕ) → IsChanging old by row s k (64 * w) → new.is_common ≡ true → new.denom ≡ row.denom → ((m n : ℕ) → IsRow m n row → IsRow m n new) → ((i : ℕ) → i < 64 → numer_at new (64 * w + i) ≡ numer_at row (64 * w + i) *ℤ s +ℤ numer_at by (64 * w + i) *ℤ k) → ((c : ℕ) → (c / 64 ≡ w → ⊥) → numer_at new c ≡ numer_at row c) → IsChanging old by new s k (64 * (w + 1))
changing_next old by row new s k w i form denom rows changed others = record {
  form = form;
  denom = denom ∙ i.denom;
  rows = λ m n is. rows m n (i.rows m n is);
  done = λ c l. by_lt c (64 * w)
      (λ h. others c (λ e. omega arith) ∙ i.done c h)
      (λ h.
      let e : 64 * w + (c - 64 * w) ≡ c = omega arith in
      subst (λ j. numer_at new j ≡ numer_at old j *ℤ s +ℤ numer_at by j *ℤ k) e (changed (c - 64 * w) (omega arith) ∙ ap (λ x. x *ℤ s +ℤ numer_at by (64 * w + (c - 64 * w)) *ℤ k) (i.rest (64 * w + (c - 64 * w)) (omega arith))));
  rest = λ c l. others c (λ e. omega arith) ∙ i.rest c (omega arith);
}

-- the entries of both rows, word by word
pub counted_more : (a m : ℕ) (f g : ℕ → Ratio) → nonzeros (a + m) f + nonzeros (a + m) g ≡ nonzeros a f + nonzeros a g + count_all m (λ i. unless_zero (f (a + i)).num 1 + unless_zero (g (a + i)).num 1)
counted_more a zero f g = let e : a + 0 ≡ a = omega arith in ap (λ j. nonzeros j f + nonzeros j g) e ∙ (omega arith)
counted_more a (suc m) f g =
    let r = counted_more a m f g in
    let e : suc (a + m) ≡ a + suc m = omega arith in
    sym (ap (λ j. nonzeros j f + nonzeros j g) e) ∙ (omega (arith, r))

pub counted_words : (f g : ℕ → Ratio) (w : ℕ) (x y : ℕ → Bool) → ((i : ℕ) → unless_zero (f (64 * w + i)).num 1 ≡ cond (x i) 1 0) → ((i : ℕ) → unless_zero (g (64 * w + i)).num 1 ≡ cond (y i) 1 0) → nonzeros (64 * (w + 1)) f + nonzeros (64 * (w + 1)) g ≡ nonzeros (64 * w) f + nonzeros (64 * w) g + count_word (λ i. cond (x i) 1 0 + cond (y i) 1 0)
unfolding count_word
counted_words f g w x y hf hg = ap (λ j. nonzeros j f + nonzeros j g) (let e : 64 * (w + 1) ≡ 64 * w + 64 = omega arith in e) ∙ upto 64
  where
    upto : (z : ℕ) → nonzeros (64 * w + z) f + nonzeros (64 * w + z) g ≡ nonzeros (64 * w) f + nonzeros (64 * w) g + count_all z (λ i. cond (x i) 1 0 + cond (y i) 1 0)
    upto z = counted_more (64 * w) z f g ∙ ap (λ n. nonzeros (64 * w) f + nonzeros (64 * w) g + n) (all_same z (λ i. unless_zero (f (64 * w + i)).num 1 + unless_zero (g (64 * w + i)).num 1) (λ i. cond (x i) 1 0 + cond (y i) 1 0) (λ i l. ap₂ (λ p q. p + q) (hf i) (hg i)))

pub counted_word : {L : _} {G : _} (old by row : Row L G) (s k : ℤ) (w m n : ℕ) → old.is_common ≡ true → IsRow m n old → IsRow m n by → IsChanging old by row s k (64 * w) → nonzeros (64 * (w + 1)) (numbers_of old) + nonzeros (64 * (w + 1)) (numbers_of by) ≡ nonzeros (64 * w) (numbers_of old) + nonzeros (64 * w) (numbers_of by) + count_word (λ i. cond (entries_at row (64 * w + i)) 1 0 + cond (entries_at by (64 * w + i)) 1 0)
counted_word old by row s k w m n common was is i =
    counted_words (numbers_of old) (numbers_of by) w (λ j. entries_at row (64 * w + j)) (λ j. entries_at by (64 * w + j))
    (λ j. ap (λ (x : Ratio). unless_zero x.num 1) (sym (kept_numbers old row common i.form i.denom (64 * w + j) (i.rest (64 * w + j) (omega arith)))) ∙ entry_count row m n (64 * w + j) (i.rows m n was))
    (λ j. entry_count by m n (64 * w + j) is)

-- none stands past the last column
pub counted_within : {L : _} {G : _} (row : Row L G) (m n j : ℕ) → IsRow m n row → nonzeros j (numbers_of row) ≤ nonzeros m (numbers_of row)
counted_within row m n j is = by_lt j m
    (λ h. counted_to j m (numbers_of row) (omega arith))
    (λ h.
    let e : m + (j - m) ≡ j = omega arith in
    let z = past_none m (j - m) (numbers_of row) (λ c l. by_zero c l) in
    subst (λ x. nonzeros x (numbers_of row) ≤ nonzeros m (numbers_of row)) e (omega (arith, z)))
  where
    by_zero : (c : ℕ) → m ≤ c → (numbers_of row c).num ≡ pos 0
    by_zero c l = by (entries_at row c) refl
      where
        by : (b : Bool) → entries_at row c ≡ b → (numbers_of row c).num ≡ pos 0
        by true e = let h = has_inside row m n is c (marked_has row m n is c e) in absurd (omega arith)
        by false e = unmarked_none row m n is c e

-- a factor may be written in another form
zero_same : (x y : Ratio) → IsNumber x → IsSame x y → x.num ≡ pos 0 → y.num ≡ pos 0
zero_same x y p e z = same_multiple y.num (pos 0) x.den p (sym e ∙ ap (λ (n : ℤ). n *ℤ pos y.den) z ∙ zero-*ℤ (pos y.den) ∙ sym (zero-*ℤ (pos x.den)))

pub term_other : (s f x y : Ratio) → IsNumber s → IsNumber f → x ≈ y → TermFits s f x → TermFits s f y
term_other s f x y ps pf e t =
    let d = product-≈ (≈-refl pf) e in
    record {
      term = λ a b. reduced_same (product f x) (product f y) d.right d.is (t.term a (λ z. b (zero_same x y e.left e.is z)));
      sum = λ a b. sums_same s (product f x) s (product f y) ps d.right refl d.is (t.sum a (λ z. b (zero_same x y e.left e.is z)));
    }

-- what is stated of numbers of 64 bits in lowest terms fits
pub lowest_fits : (n f m : ℤ) (d p : ℕ) → 0 < d → 0 < p → d < 2 ^ 63 → p < 2 ^ 63 → unsigned_abs n ≤ 2 ^ 63 → unsigned_abs f ≤ 2 ^ 63 → unsigned_abs m ≤ 2 ^ 63 → TermFits (lowest n d) (lowest f d) (lowest m p)
lowest_fits n f m d p ud up ld lp ln lf lm =
    let nn = (lowest-reduced n d ud).0 in
    let nf = (lowest-reduced f d ud).0 in
    let begun = begun_fits (over n d) (lowest n d) (over f d) (over m p) ud nn ud up (sym (lowest-same n d ud)) (term_fits n f m d p ud up ld lp ln lf lm) in
    let factor = factored_fits (lowest n d) (over f d) (lowest f d) (over m p) nn ud nf up (sym (lowest-same f d ud)) begun in
    term_other (lowest n d) (lowest f d) (over m p) (lowest m p) nn nf (≈-sym (lowest-≈ m p up)) factor

-- a number that is 0 over a denominator is 0
zero_over : (x : Ratio) (d : ℕ) → 0 < d → IsSame x (over (pos 0) d) → IsSame x none
zero_over x d up e =
    let z : x.num ≡ pos 0 = same_multiple x.num (pos 0) d up (e ∙ zero-*ℤ (pos x.den) ∙ sym (zero-*ℤ (pos d))) in
    ap (λ (y : ℤ). y *ℤ pos 1) z ∙ zero-*ℤ (pos 1) ∙ sym (zero-*ℤ (pos x.den))

-- a row whose numbers are the sums of both rows' numerators, each times its part, over its denominator times the scale, but for the column that went: it is what a change states
module _ {L : _} {G : _} (row less by new : Row L G) (skip : ℕ) (s k : ℤ) (common : row.is_common ≡ true) (by_common : by.is_common ≡ true) (rises : pos 0 <ℤ s) (parts : ArePartsOf (numer_at row skip) (unsigned_abs by.denom) s k) (denom : less.denom ≡ row.denom) (gone : numer_at less skip ≡ pos 0) (rest : (c : ℕ) → (c ≡ skip → ⊥) → numer_at less c ≡ numer_at row c) (told : (c : ℕ) → IsSame (numbers_of new c) (over (numer_at less c *ℤ s +ℤ numer_at by c *ℤ k) (unsigned_abs less.denom * unsigned_abs s))) where
  abbrev all : ℕ
  all = unsigned_abs row.denom * unsigned_abs s

  all_above : 0 < all
  all_above = mul-pos (sized_above row.denom row.above) (sized_above s rises)

  pub changed_others : (c : ℕ) → (c ≡ skip → ⊥) → IsSame (numbers_of new c) (sum (numbers_of row c) (product (numbers_of row skip) (numbers_of by c)))
  changed_others c d =
      let z : ℤ = numer_at row c *ℤ pos (unsigned_abs s) +ℤ numer_at by c *ℤ k in
      let same : numer_at less c *ℤ s +ℤ numer_at by c *ℤ k ≡ z = ap₂ (λ (x y : ℤ). x *ℤ y +ℤ numer_at by c *ℤ k) (rest c d) (sized s rises) in
      let here : IsSame (numbers_of new c) (over z all) = subst (λ (x : ℤ). IsSame (numbers_of new c) (over x all)) same (subst (λ (e : ℤ). IsSame (numbers_of new c) (over (numer_at less c *ℤ s +ℤ numer_at by c *ℤ k) (unsigned_abs e * unsigned_abs s))) denom (told c)) in
      let once : z *ℤ pos 1 ≡ numer_at row c *ℤ pos (unsigned_abs s) +ℤ numer_at by c *ℤ k = omega (arith, ints) in
      let stated = replaced (numer_at row c) (numer_at row skip) (numer_at by c) z k (unsigned_abs row.denom) (unsigned_abs by.denom) (unsigned_abs s) parts.divisor 1 all (sized_above row.denom row.above) (sized_above by.denom by.above) all_above (omega arith) parts.whole parts.number (omega arith) once in
      let near : numbers_of new c ≈ over z all = record { left = numbers-number new c; right = all_above; is = here } in
      let form : over z all ≈ lowest z all = ≈-sym (lowest-≈ z all all_above) in
      let right : sum (lowest (numer_at row c) (unsigned_abs row.denom)) (product (lowest (numer_at row skip) (unsigned_abs row.denom)) (lowest (numer_at by c) (unsigned_abs by.denom))) ≡ sum (numbers_of row c) (product (numbers_of row skip) (numbers_of by c)) =
      ap₂ (λ (x y : Ratio). sum x y) (sym (common_number row common c)) (ap₂ (λ (x y : Ratio). product x y) (sym (common_number row common skip)) (sym (common_number by by_common c))) in
      IsSame-trans (numbers_of new c) (lowest z all) (sum (numbers_of row c) (product (numbers_of row skip) (numbers_of by c))) (lowest-reduced z all all_above).0 (let a = near ⊙ form in a.is) (subst (λ (x : Ratio). IsSame (lowest z all) x) right stated)

  -- and the column itself has nothing
  pub changed_gone : ((c : ℕ) → IsReduced (numbers_of new c)) → numer_at by skip ≡ pos 0 → numbers_of new skip ≡ none
  changed_gone reduced none_in =
      let sum_zero : numer_at less skip *ℤ s +ℤ numer_at by skip *ℤ k ≡ pos 0 = sym (unchanged (numer_at less skip) (numer_at by skip) s k gone none_in) ∙ gone in
      let here : IsSame (numbers_of new skip) (over (pos 0) (unsigned_abs less.denom * unsigned_abs s)) = subst (λ (x : ℤ). IsSame (numbers_of new skip) (over x (unsigned_abs less.denom * unsigned_abs s))) sum_zero (told skip) in
      reduced_none (numbers_of new skip) (reduced skip) (zero_over (numbers_of new skip) (unsigned_abs less.denom * unsigned_abs s) (mul-pos (sized_above less.denom less.above) (sized_above s rises)) here)
