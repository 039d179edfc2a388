-- What a put does to a store, by its answer.
use Rattle.std.specs.Prelude.{◌≡◌, ◌⊎◌, ◌↔◌, ℕ, Bool, true, false, List, [], ◌∷◌, ◌++◌, Option, Some, None, IfSome, IfNone, Result, Ok, Err}
use Rattle.os_io.specs.Streams.{HasRisen}
use Rattle.effects.specs.Records.{Deed}
use Rattle.effects.specs.declared.store.NotStored.{NotStored}
use Rattle.effects.specs.declared.store.NotStored.TheVariants.{Disk, Broken, Long}

-- why an effect wasn't stored, or none where it was
abbrev pub fault_of : {X : Type 0} → Result X NotStored → Option NotStored
fault_of (Ok x) = None
fault_of (Err fault) = Some fault

-- the count of failed calls rose where that is answered, and stays otherwise
abbrev pub CountsDisk : Option NotStored → ℕ → ℕ → Type 0
CountsDisk (Some Disk) before after = HasRisen before after
CountsDisk _ before after = after ≡ before

module _ {S : Type 0} (keeps : S → List Deed → Type 0) (passes : S → S → List Deed → Deed → Type 0) (too_long : S → List Deed → Deed → Bool) (broken : S → Bool) (faults : S → ℕ) where
  -- the effect was put, and stored or not
  pub record Puts (d : Deed) (old : S) (fault : Option NotStored) (new : S) : Type 0 where
    -- where it was stored it is kept behind those before, and else what was kept stays
    pub stored : IfNone fault ((deeds : List Deed) → keeps old deeds → keeps new (deeds ++ d ∷ []))
    pub stays : IfSome fault (λ _. (deeds : List Deed) → keeps old deeds → keeps new deeds)
    -- a crash at any moment between leaves what was kept, or that and the effect behind it
    pub any_moment : (deeds : List Deed) → keeps old deeds → passes old new deeds d
    pub counts : CountsDisk fault (faults old) (faults new)
    -- Broken is answered exactly behind a Disk, and Long exactly where it is too long
    pub breaks : (broken new ≡ true) ↔ ((broken old ≡ true) ⊎ (fault ≡ Some Disk))
    pub when_broken : (fault ≡ Some Broken) ↔ (broken old ≡ true)
    pub when_long : (fault ≡ Some Long) ↔ ((broken old ≡ false) × (too_long old [] d ≡ true))
    pub longer : IfNone fault ((more : List Deed) (e : Deed) → too_long new more e ≡ too_long old (d ∷ more) e)
    pub as_long : IfSome fault (λ _. (more : List Deed) (e : Deed) → too_long new more e ≡ too_long old more e)

  -- what a move did to the store: its effect was put, where it has one
  abbrev pub PutsIf : Option Deed → S → Option NotStored → S → Type 0
  PutsIf (Some d) old fault new = Puts d old fault new
  PutsIf None old fault new = (fault ≡ None) × (new ≡ old)
