-- What a limit that is told says: as many turns as are enough, of few variables and rows.
use Rattle.std.proofs.Common.{◌≡◌, ◌+◌, ◌^◌, ◌≤◌, ℕ, Bool, true, false, cond, nat_le, None, Some, refl, sym, ap}
use Rattle.std.proofs.lemmas.Bool.{leb-true, le-leb}
use Rattle.std.proofs.lemmas.Option.{none-some, same_Some}
use Rattle.no_cycles.specs.Limit.{safe_limit}

pub limit_is : (n m limit : ℕ) → safe_limit n m ≡ Some limit → (n + m ≤ 13) × (limit ≡ 4 ^ (n + m))
limit_is n m limit is = go (nat_le (n + m) 13) refl is
  where
    go : (b : Bool) → nat_le (n + m) 13 ≡ b → cond b (Some (4 ^ (n + m))) None ≡ Some limit → (n + m ≤ 13) × (limit ≡ 4 ^ (n + m))
    go true few is = (leb-true (n + m) 13 few, sym (same_Some _ limit is))
    go false many is = absurd (none-some limit is)

-- few variables and rows have one
pub has_limit : (n m : ℕ) → n + m ≤ 13 → safe_limit n m ≡ Some (4 ^ (n + m))
has_limit n m few = ap (λ (b : Bool). cond b (Some (4 ^ (n + m))) None) (le-leb (n + m) 13 few)
