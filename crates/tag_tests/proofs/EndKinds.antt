-- Kinds of end tags.
use Rattle.std.proofs.Common.{◌≡◌, ℕ, zero, suc, ◌≤◌, refl, arith}
use Rattle.tag_tests.specs.Places.{ends, end_kind}

-- where no element is open that is passed over
pub end_here : {P : Type 0} (d : ℕ) (p : P) → d ≤ 0 → ends p ≡ end_kind d p
end_here zero p none = refl
end_here (suc d) p none = absurd (omega (arith, none))
