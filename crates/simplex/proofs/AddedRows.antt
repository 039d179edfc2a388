-- Rows beside an instance's own, set one after the other.
use Rattle.std.proofs.Common.{◌≡◌, ℕ, ◌+◌, ◌-◌, ◌<◌, ◌≤◌, ℤ, Bool, cond, List, length, get_or, refl, sym, ◌∙◌, ap, subst, arith}
use Rattle.std.specs.List.{All}
use Rattle.std.proofs.lemmas.Bool.{eq-eqb, ne_eqb}
use Rattle.std.proofs.lemmas.List.{get_or_default}
use Rattle.fraction.specs.declared.ends.Entry.{Entry}
use Rattle.fraction.specs.declared.frac.Frac.{Frac}
use Rattle.evidence.specs.Instance.{entry_at}
use Rattle.evidence.proofs.Columns.{by_eq}
use Rattle.instance.specs.Parts.{IsInside}
use Rattle.instance.specs.Program.{entries}
use Rattle.bases.specs.Dictionary.{Entries}
use Rattle.dictionary.specs.ProgramRows.{program_rows, with_entries}
use Rattle.simplex.specs.declared.cuts.Added.{Added}
use Rattle.simplex.specs.Cuts.{no_row, added_at, IsAdded, AreRowsBeside}

-- a row that was read
pub added_is : (rs : List Added) (k : ℕ) (r : Added) → r ≡ get_or rs k r → k < length rs → added_at rs k ≡ r
added_is rs k r is h = get_or_default rs k no_row r h ∙ sym is

pub row_added : (n first height row : ℕ) (rs : List Added) (r : Added) → ((i : ℕ) → i < length rs → IsAdded n (first + i) (added_at rs i)) → first + length rs ≡ height → first ≤ row → row < height → r ≡ get_or rs (row - first) r → IsAdded n row r
row_added n first height row rs r all long low high is =
    let e : first + (row - first) ≡ row = omega arith in
    let l : row - first < length rs = omega arith in
    subst (λ i. IsAdded n i r) e (subst (λ (s : Added). IsAdded n (first + (row - first)) s) (added_is rs (row - first) r is l) (all (row - first) l))

-- its entries are those of a matrix of so many rows
pub added_inside : (n m row : ℕ) (r : Added) → row < m → IsAdded n row r → All (IsInside m n) r.entries
added_inside n m row r low is = λ k x l. record { row = let e = is.rows k x l in omega arith; col = is.inside k x l; nonzero = is.nonzero k x l }

pub none_beside : (A : Entries) (first : ℕ) (rs : List Added) → AreRowsBeside A first rs 0 A
none_beside A first rs = record { before = λ i j l. refl; set = λ k j l. absurd (omega arith); past = λ i j l. refl }

pub one_beside : (A B : Entries) (first n : ℕ) (rs : List Added) (r : Added) → added_at rs n ≡ r → AreRowsBeside A first rs n B → AreRowsBeside A first rs (n + 1) (with_entries B (first + n) r.entries)
one_beside A B first n rs r is beside = record {
  before = λ i j l. other i j (λ e. omega arith) ∙ beside.before i j l;
  set = λ k j l. by_eq k n
      (λ e. ap (λ m. with_entries B (first + n) r.entries (first + m) j) e
      ∙ ap (λ (b : Bool). cond b (entry_at (entries r.entries) (first + n) j) (B (first + n) j)) (eq-eqb (first + n) (first + n) refl)
      ∙ ap (λ (s : Added). entry_at (entries s.entries) (first + n) j) (sym is) ∙ ap (λ m. entry_at (entries (added_at rs m).entries) (first + m) j) (sym e))
      (λ d. other (first + k) j (λ e. d (omega arith)) ∙ beside.set k j (omega arith));
  past = λ i j l. other i j (λ e. omega arith) ∙ beside.past i j (omega arith);
}
  where
    other : (i j : ℕ) → (i ≡ first + n → ⊥) → with_entries B (first + n) r.entries i j ≡ B i j
    other i j d = ap (λ (b : Bool). cond b (entry_at (entries r.entries) (first + n) j) (B i j)) (ne_eqb i (first + n) d)

-- of equal lists
pub beside_same : (es es' : List Entry) (costs costs' : List Frac) (f f' : ℤ) (m first first' : ℕ) (rs rs' : List Added) (B : Entries) → es ≡ es' → costs ≡ costs' → f ≡ f' → first ≡ first' → rs ≡ rs' → AreRowsBeside (program_rows es costs f m) first rs (length rs) B → AreRowsBeside (program_rows es' costs' f' m) first' rs' (length rs') B
beside_same es es' costs costs' f f' m first first' rs rs' B ee ec ef el er h =
    subst (λ (xs : List Added). AreRowsBeside (program_rows es' costs' f' m) first' xs (length xs) B) er
    (subst (λ i. AreRowsBeside (program_rows es' costs' f' m) i rs (length rs) B) el
    (subst (λ (z : ℤ). AreRowsBeside (program_rows es' costs' z m) first rs (length rs) B) ef
    (subst (λ (xs : List Frac). AreRowsBeside (program_rows es' xs f m) first rs (length rs) B) ec
    (subst (λ (xs : List Entry). AreRowsBeside (program_rows xs costs f m) first rs (length rs) B) ee h))))
