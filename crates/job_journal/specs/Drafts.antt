-- A file whose records stand behind a closed gate.
use Rattle.std.specs.Prelude.{◌≡◌, ◌≢◌, ℕ, List, [], ◌∷◌, ◌++◌, length, drop}
use Rattle.effects.specs.Records.{Deed, records}

-- the file is as records of these and a closed gate, but that its first gate is closed too; and a crash leaves that gate so
pub record IsDrafted {D : Type 0} (seen : D → List ℕ) (may_leave : D → List ℕ → Type 0) (disk : D) (end : ℕ) (deeds : List Deed) : Type 0 where
  pub gate : ℕ
  pub shut : gate ≢ 1
  pub file : seen disk ≡ gate ∷ drop 1 (records deeds ++ 0 ∷ [])
  pub place : end ≡ length (records deeds)
  pub closed : (c : List ℕ) → may_leave disk c → (after : List ℕ) × (c ≡ gate ∷ after)
