-- What was handed on of bytes that grow.
use Rattle.std.proofs.Common.{◌≡◌, ℕ, zero, suc, List, [], ◌∷◌, ◌++◌, take, length, Bool, true, false, refl, sym, ◌∙◌, ap, subst}
use Rattle.std.specs.Prelude.{if◌then◌else◌}
use Rattle.std.proofs.Math.Seq.{take-length}
use Rattle.os_io.specs.Streams.{IsPart}
use Rattle.os_io.specs.Laws.{handed_part, part_whole}

-- the first bytes stay the first where more follow
pub handed_more : (n : ℕ) (bytes more : List ℕ) → IsPart (take n (bytes ++ more)) (take n bytes)
handed_more zero bytes more = ([], refl)
handed_more (suc n) [] more = (take (suc n) more, refl)
handed_more (suc n) (b ∷ bytes) more =
    let (rest, p) = handed_more n bytes more in (rest, ap (λ k. b ∷ k) p)

-- the first bytes stay the first, whether more follow or not
pub handed_if : (more_follow : Bool) (n : ℕ) (old more new : List ℕ) → new ≡ (if more_follow then old ++ more else old) → IsPart (take n new) (take n old)
handed_if true n old more new e = subst (λ b. IsPart (take n b) (take n old)) (sym e) (handed_more n old more)
handed_if false n old more new e = subst (λ b. IsPart (take n b) (take n old)) (sym e) (part_whole (take n old))

-- the first bytes are a first part of all
pub handed_all : (n len : ℕ) (bytes : List ℕ) → len ≡ length bytes → IsPart (take len bytes) (take n bytes)
handed_all n len bytes e =
    subst (λ b. IsPart b (take n bytes)) (sym (ap (λ k. take k bytes) e ∙ take-length bytes)) (handed_part n bytes)
