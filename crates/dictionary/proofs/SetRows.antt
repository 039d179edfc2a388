-- A row that takes other entries, in a table that had no pivot yet.
use Rattle.std.proofs.Common.{◌≡◌, ℕ, ◌+◌, ◌-◌, ◌<◌, ◌≤◌, Bool, pos, cond, nat_eq, List, slice_index_or, arith, sym, ◌∙◌, ap, subst}
use Rattle.std.specs.List.{All}
use Rattle.std.proofs.lemmas.Bool.{eq-eqb, ne_eqb}
use Rattle.std.proofs.lemmas.List.Elements.{All-map}
use Rattle.rational.specs.Ratio.{Ratio, IsNumber}
use Rattle.fraction.specs.declared.ends.Entry.{Entry}
use Rattle.evidence.specs.Sums.{none}
use Rattle.evidence.specs.Instance.{entry_at}
use Rattle.evidence.proofs.Columns.{by_eq, pick, entry-number}
use Rattle.instance.specs.Parts.{IsInside}
use Rattle.instance.specs.Program.{entry, entries}
use Rattle.bases.specs.Dictionary.{Entries}
use Rattle.dictionary.specs.ProgramRows.{with_entries, RowBeginsAt}
use Rattle.dictionary.specs.Steps.{nonzeros}
use Rattle.dictionary.proofs.Nonzeros.{nonzeros_most}
use Rattle.dictionary.proofs.FoundValues.{past_none}
use Rattle.dictionary.proofs.ProgramRows.{entries_past}

-- numbers of the first n columns alone are at most as many
pub few_before : (k n : ℕ) (f : ℕ → Ratio) → n ≤ k → ((c : ℕ) → n ≤ c → (f c).num ≡ pos 0) → nonzeros k f ≤ n
few_before k n f h z =
    let e = past_none n (k - n) f z in
    let l = nonzeros_most n f in
    let j : n + (k - n) ≡ k = omega arith in
    let s = subst (λ m. nonzeros m f ≡ nonzeros n f) j e in
    omega arith

-- entries of one row begin at the first
pub begins_own : (es : List Entry) (r : ℕ) → All (λ (e : Entry). e.row ≡ r) es → RowBeginsAt es r 0
begins_own es r own = record {
  within = omega arith;
  before = λ k d l. absurd (omega arith);
  after = λ k d l h. let e = own k d h in omega arith;
}

-- the numbers with the row's own in its place
pub set-number : (A : Entries) (r : ℕ) (es : List Entry) → ((i j : ℕ) → IsNumber (A i j)) → (i j : ℕ) → IsNumber (with_entries A r es i j)
set-number A r es number i j =
    pick IsNumber (nat_eq i r) (entry_at (entries es) r j) (A i j)
    (entry-number (entries es) (All-map (λ e. IsNumber e.value) entry es (λ k d h. (slice_index_or es k d).value.above)) r j) (number i j)

pub set_told : (A : Entries) (r : ℕ) (es : List Entry) (old new : Entries) (m : ℕ) → ((c : ℕ) → new r c ≡ entry_at (entries es) r c) → ((k c : ℕ) → (k ≡ r → ⊥) → new k c ≡ old k c) → ((i c : ℕ) → i < m → old i c ≡ A i c) → (i c : ℕ) → i < m → new i c ≡ with_entries A r es i c
set_told A r es old new m own others told i c l =
    by_eq i r
    (λ e. ap (λ q. new q c) e ∙ own c ∙ sym (ap (λ (b : Bool). cond b (entry_at (entries es) r c) (A i c)) (eq-eqb i r e)))
    (λ d. others i c d ∙ told i c l ∙ sym (ap (λ (b : Bool). cond b (entry_at (entries es) r c) (A i c)) (ne_eqb i r d)))

pub set_past : (A : Entries) (r m n : ℕ) (es : List Entry) → All (IsInside m n) es → ((i c : ℕ) → n ≤ c → A i c ≡ none) → (i c : ℕ) → n ≤ c → with_entries A r es i c ≡ none
set_past A r m n es inside past i c l =
    by_eq i r
    (λ e. ap (λ (b : Bool). cond b (entry_at (entries es) r c) (A i c)) (eq-eqb i r e) ∙ entries_past es m n inside r c l)
    (λ d. ap (λ (b : Bool). cond b (entry_at (entries es) r c) (A i c)) (ne_eqb i r d) ∙ past i c l)
