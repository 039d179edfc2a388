-- Answers of puts, and the faults in them.
use Rattle.std.proofs.Common.{◌≡◌, ◌⊎◌, inl, inr, List, Option, Some, None, Result, Ok, Err, OnOk, OnErr, IfSome, IfNone, refl, ap}
use Rattle.std.specs.Prelude.{Bool, true, false, ◌↔◌, IsErrOf}
use Rattle.effects.specs.Records.{Deed}
use Rattle.effects.specs.declared.store.NotStored.{NotStored}
use Rattle.effects.specs.declared.store.NotStored.TheVariants.{Disk, Broken, Long}
use Rattle.effects.specs.Stores.{fault_of, PutsIf}

pub on_none : {X : Type 0} (res : Result X NotStored) (P : Type 0) → OnOk res P → IfNone (fault_of res) P
on_none (Ok x) P p = p
on_none (Err f) P p = tt

pub on_some : {X : Type 0} (res : Result X NotStored) (P : Type 0) → OnErr res P → IfSome (fault_of res) (λ _. P)
on_some (Ok x) P p = tt
on_some (Err f) P p = p

abbrev fault_or : NotStored → Option NotStored → NotStored
fault_or f None = f
fault_or f (Some e) = e

err_back : {X : Type 0} (res : Result X NotStored) (e : NotStored) → fault_of res ≡ Some e → IsErrOf res e
err_back (Ok x) e is = cc
err_back (Err f) e is = ap (λ (o : Option NotStored). Err (fault_or f o)) is

-- what is said of an error is said of its fault
pub as_fault : {X : Type 0} (res : Result X NotStored) (e : NotStored) (P : Type 0) → (IsErrOf res e ↔ P) → ((fault_of res ≡ Some e) ↔ P)
as_fault res e P both = (λ is. both.0 (err_back res e is), λ p. ap fault_of (both.1 p))

pub broken_as : {X : Type 0} (res : Result X NotStored) (b c : Bool) → ((c ≡ true) ↔ ((b ≡ true) ⊎ IsErrOf res Disk)) → ((c ≡ true) ↔ ((b ≡ true) ⊎ (fault_of res ≡ Some Disk)))
broken_as res b c both = (λ is. to (both.0 is), λ some. both.1 (back some))
  where
    to : (b ≡ true) ⊎ IsErrOf res Disk → (b ≡ true) ⊎ (fault_of res ≡ Some Disk)
    to (inl was) = inl was
    to (inr is) = inr (ap fault_of is)

    back : (b ≡ true) ⊎ (fault_of res ≡ Some Disk) → (b ≡ true) ⊎ IsErrOf res Disk
    back (inl was) = inl was
    back (inr is) = inr (err_back res Disk is)

-- a store that never fails, isn't broken, and calls nothing too long, stores each effect
module _ {S : Type 0} (keeps : S → List Deed → Type 0) where
  abbrev Never : Option Deed → S → Option NotStored → S → Type 0
  Never due old fault new = PutsIf keeps (λ _ _ _ _. Unit {0}) (λ _ _ _. false) (λ _. false) (λ _. 0) due old fault new

  pub never_refused : (due : Option Deed) (old new : S) (fault : NotStored) → Never due old (Some fault) new → ⊥
  never_refused None old new fault puts = let wrong = puts.0 in cc
  never_refused (Some d) old new Disk puts = let wrong : false ≡ true = puts.breaks.1 (inr refl) in cc
  never_refused (Some d) old new Broken puts = let wrong : false ≡ true = puts.when_broken.0 refl in cc
  never_refused (Some d) old new Long puts = let wrong : false ≡ true = (puts.when_long.0 refl).1 in cc
