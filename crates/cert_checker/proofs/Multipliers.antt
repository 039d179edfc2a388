-- Multipliers are legal where each is legal after the one before it.
use Rattle.std.proofs.Common.{◌≡◌, ℕ, ◌+◌, ◌<◌, pos, IsSome, List, length, slice_index_or, arith, refl, subst}
use Rattle.std.specs.List.{All}
use Rattle.std.proofs.lemmas.List.{length-map}
use Rattle.std.proofs.lemmas.List.Elements.{All-map}
use Rattle.rational.specs.Ratio.{IsNumber}
use Rattle.evidence.specs.Sums.{none}
use Rattle.evidence.specs.Instance.{Instance, width, height}
use Rattle.evidence.specs.Cases.{Multiplier, multiplier_at, end_of, AreLegal}
use Rattle.certificate.specs.declared.lists.Mult.{Mult}
use Rattle.certificate.specs.Meanings.{multiplier, multipliers}
use Rattle.cert_checker.specs.Leaves.{IsPair, PairsBelow}
use Rattle.std.proofs.lemmas.List.{get_or_default}

abbrev no_mult : Multiplier
no_mult = record { column = 0; by = none }

-- what holds of the multiplier at each place holds of all
all_at : (P : Multiplier → Type 0) (ms : List Multiplier) → ((k : ℕ) → k < length ms → P (multiplier_at ms k)) → All P ms
all_at P ms f = λ k d h. subst P (get_or_default ms k no_mult d h) (f k h)

pub at_all : (P : Multiplier → Type 0) (ms : List Multiplier) → All P ms → (k : ℕ) → k < length ms → P (multiplier_at ms k)
at_all P ms f k h = f k no_mult h

pub legal_from : (I : Instance) (ms : List Mult) → PairsBelow I (multipliers ms) (length ms) → AreLegal I (multipliers ms)
legal_from I ms pairs =
    let n = length-map ms multiplier in
    record {
      numbers = All-map (λ m. IsNumber m.by) multiplier ms (λ k d h. (slice_index_or ms k d).value.above);
      columns = all_at (λ m. m.column < width I + height I) (multipliers ms) (λ k h. (pairs k (omega arith)).column);
      ascending = λ k h. (pairs (k + 1) (omega arith)).after k refl;
      nonzero = all_at (λ m. m.by.num ≡ pos 0 → ⊥) (multipliers ms) (λ k h. (pairs k (omega arith)).nonzero);
      ends = all_at (λ m. IsSome (end_of I m)) (multipliers ms) (λ k h. (pairs k (omega arith)).finite);
    }

-- and each is, where they are legal
pub pair_of : (I : Instance) (ms : List Multiplier) → AreLegal I ms → (k : ℕ) → k < length ms → IsPair I ms k
pair_of I ms legal k h = record {
  column = at_all (λ m. m.column < width I + height I) ms legal.columns k h;
  after = λ l e. subst (λ n. (multiplier_at ms l).column < (multiplier_at ms n).column) e (legal.ascending l (omega arith));
  nonzero = at_all (λ m. m.by.num ≡ pos 0 → ⊥) ms legal.nonzero k h;
  finite = at_all (λ m. IsSome (end_of I m)) ms legal.ends k h;
}
