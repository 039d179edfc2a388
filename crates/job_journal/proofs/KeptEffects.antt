-- What a put does to the effects that are kept.
use Rattle.std.proofs.Common.{◌≡◌, ◌⊎◌, inl, inr, ℕ, ◌+◌, ◌≤◌, List, [], ◌∷◌, ◌++◌, length, Some, Result, Ok, Err, OnOk, OnErr, refl, sym, ◌∙◌, ap, subst, arith, length-append}
use Rattle.std.specs.Prelude.{Bool, true, false, ◌↔◌, IsErrOf}
use Rattle.disks.specs.Disks.{LeavesOnly}
use Rattle.effects.specs.Records.{Deed, body, records}
use Rattle.effects.specs.Stores.{fault_of}
use Rattle.effects.proofs.Faults.{as_fault}
use Rattle.effects.specs.declared.store.NotStored.{NotStored}
use Rattle.effects.specs.declared.store.NotStored.TheVariants.{Disk, Broken, Long}
use Rattle.job_journal.specs.Journal.{FileStandsFor, IsBeforeOrAfter, FileRests, is_too_long}
use Rattle.job_journal.specs.Ready.{KeepsDeeds}

unbroken_by : (b : Bool) (P : Type 0) → (P ↔ (b ≡ true)) → (P → ⊥) → b ≡ false
unbroken_by false P broken never = refl
unbroken_by true P broken never = absurd (never (broken.1 refl))

module _ {D : Type 0} (told : D → Bool) (seen : D → List ℕ) (may_leave : D → List ℕ → Type 0) (moment : D → ℕ) (left_since : D → ℕ → List ℕ → Type 0) where
  abbrev K : D → ℕ → Bool → List Deed → Type 0
  K disk end broken deeds = KeepsDeeds told seen may_leave disk end broken deeds

  module _ (old new : D) (m n : ℕ) (b c : Bool) (d : Deed) (res : Result (Unit {0}) NotStored) (same : told new ≡ told old) (broken : IsErrOf res Broken ↔ (b ≡ true)) where
    one_more : b ≡ false → (deeds : List Deed) → (told old ≡ true → FileRests seen may_leave old m deeds → FileRests seen may_leave new n (deeds ++ d ∷ [])) → K old m b deeds → K new n c (deeds ++ d ∷ [])
    one_more intact deeds stored keeps = record {
      at_rest = λ t _. stored (sym same ∙ t) (keeps.at_rest (sym same ∙ t) intact);
      crash = λ t f left.
          let rest = stored (sym same ∙ t) (keeps.at_rest (sym same ∙ t) intact) in
          inl (inl (record { gate = rest.gate; after = []; shut = rest.shut; is = rest.durable f left ∙ rest.file }));
    }

    either : (deeds : List Deed) (f : List ℕ) → IsBeforeOrAfter deeds d f → FileStandsFor deeds f ⊎ ((e : Deed) × FileStandsFor (deeds ++ e ∷ []) f)
    either deeds f (inl before) = inl before
    either deeds f (inr after) = inr (d, after)

    no_more : b ≡ false → c ≡ true → ((t : ℕ) (f : List ℕ) → t ≤ moment new → may_leave new f → left_since new t f) → (deeds : List Deed)
        → (told old ≡ true → FileRests seen may_leave old m deeds → LeavesOnly moment left_since old new (IsBeforeOrAfter deeds d)) → K old m b deeds → K new n c deeds
    no_more intact shut now deeds leaves keeps = record {
      at_rest = λ t again. let wrong : true ≡ false = sym shut ∙ again in cc;
      crash = λ t f left.
          let run = leaves (sym same ∙ t) (keeps.at_rest (sym same ∙ t) intact) in
          either deeds f (run.each f (now (moment old) f run.later left));
    }

    as_before : (new ≡ old) × (n ≡ m) × (c ≡ b) → (deeds : List Deed) → K old m b deeds → K new n c deeds
    as_before is deeds keeps = subst (λ (x : D). K x n c deeds) (sym is.0) (subst (λ (k : ℕ). K old k c deeds) (sym is.1) (subst (λ (x : Bool). K old m x deeds) (sym is.2) keeps))

module _ {D : Type 0} (told : D → Bool) (seen : D → List ℕ) (may_leave : D → List ℕ → Type 0) (moment : D → ℕ) (left_since : D → ℕ → List ℕ → Type 0) where
  module _ (old new : D) (m n : ℕ) (b c : Bool) (d : Deed) (same : told new ≡ told old) where
    pub keeps_stored : (res : Result (Unit {0}) NotStored) → (IsErrOf res Broken ↔ (b ≡ true))
        → OnOk res ((deeds : List Deed) → told old ≡ true → FileRests seen may_leave old m deeds → FileRests seen may_leave new n (deeds ++ d ∷ []))
        → OnOk res ((deeds : List Deed) → K told seen may_leave moment left_since old m b deeds → K told seen may_leave moment left_since new n c (deeds ++ d ∷ []))
    keeps_stored (Ok x) broken stored = λ deeds keeps.
        one_more told seen may_leave moment left_since old new m n b c d (Ok x) same broken (unbroken_by b (IsErrOf (Ok x) Broken) broken (λ e. cc)) deeds (stored deeds) keeps
    keeps_stored (Err f) broken stored = tt

    pub keeps_refused : (res : Result (Unit {0}) NotStored) → (IsErrOf res Broken ↔ (b ≡ true)) → ((c ≡ true) ↔ ((b ≡ true) ⊎ IsErrOf res Disk))
        → ((t : ℕ) (f : List ℕ) → t ≤ moment new → may_leave new f → left_since new t f)
        → ((deeds : List Deed) → told old ≡ true → FileRests seen may_leave old m deeds → LeavesOnly moment left_since old new (IsBeforeOrAfter deeds d))
        → (IsErrOf res Broken → (new ≡ old) × (n ≡ m) × (c ≡ b)) → (IsErrOf res Long → (new ≡ old) × (n ≡ m) × (c ≡ b))
        → OnErr res ((deeds : List Deed) → K told seen may_leave moment left_since old m b deeds → K told seen may_leave moment left_since new n c deeds)
    keeps_refused (Ok x) broken breaks now leaves is_broken is_long = tt
    keeps_refused (Err Disk) broken breaks now leaves is_broken is_long = λ deeds keeps.
        no_more told seen may_leave moment left_since old new m n b c d (Err Disk) same broken (unbroken_by b (IsErrOf (Err Disk) Broken) broken (λ e. cc)) (breaks.1 (inr refl)) now deeds (leaves deeds) keeps
    keeps_refused (Err Broken) broken breaks now leaves is_broken is_long = λ deeds keeps.
        as_before told seen may_leave moment left_since old new m n b c d (Err Broken) same broken (is_broken refl) deeds keeps
    keeps_refused (Err Long) broken breaks now leaves is_broken is_long = λ deeds keeps.
        as_before told seen may_leave moment left_since old new m n b c d (Err Long) same broken (is_long refl) deeds keeps

-- the end of the file, and what is too long behind it
pub long_at : (end : ℕ) (b : Bool) (d : Deed) (res : Result (Unit {0}) NotStored) → (IsErrOf res Long ↔ ((b ≡ false) × (is_too_long end (length (body d)) ≡ true)))
    → ((fault_of res ≡ Some Long) ↔ ((b ≡ false) × (is_too_long (end + length (records [])) (length (body d)) ≡ true)))
long_at end b d res long =
    let same : end + length (records []) ≡ end = omega arith in
    as_fault res Long _ (subst (λ (k : ℕ). IsErrOf res Long ↔ ((b ≡ false) × (is_too_long k (length (body d)) ≡ true))) (sym same) long)

pub longer_at : (old new : ℕ) (d : Deed) (res : Result (Unit {0}) NotStored) → OnOk res (new ≡ old + (length (body d) + 1))
    → OnOk res ((more : List Deed) (e : Deed) → is_too_long (new + length (records more)) (length (body e)) ≡ is_too_long (old + length (records (d ∷ more))) (length (body e)))
longer_at old new d (Ok x) is = λ more e.
    ap (λ (k : ℕ). is_too_long k (length (body e))) (omega (arith, is, length-append (body d) (records more)))
longer_at old new d (Err f) is = tt

pub same_length : (old new : ℕ) (res : Result (Unit {0}) NotStored) → OnErr res (new ≡ old)
    → OnErr res ((more : List Deed) (e : Deed) → is_too_long (new + length (records more)) (length (body e)) ≡ is_too_long (old + length (records more)) (length (body e)))
same_length old new (Ok x) is = tt
same_length old new (Err f) is = λ more e. ap (λ (k : ℕ). is_too_long (k + length (records more)) (length (body e))) is
