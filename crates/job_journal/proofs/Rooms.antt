-- Effects of which one has no room behind the others.
use Rattle.std.proofs.Common.{◌≡◌, true, List, [], ◌∷◌, ◌++◌, length, refl, sym, ◌∙◌, ap, subst, append_assoc, append-nil}
use Rattle.std.specs.Prelude.{ℕ}
use Rattle.effects.specs.Records.{Deed, body, records}
use Rattle.job_journal.specs.Journal.{is_too_long}
use Rattle.job_journal.specs.Compacting.{HasNoRoom}

pub one_without_room : (those : List Deed) (end : ℕ) (d : Deed) → end ≡ length (records those) → is_too_long end (length (body d)) ≡ true → HasNoRoom those (d ∷ [])
one_without_room those end d place long = record {
  done = [];
  deed = d;
  left = [];
  is = refl;
  long = subst (λ (n : ℕ). is_too_long n (length (body d)) ≡ true) (place ∙ ap (λ (ds : List Deed). length (records ds)) (sym (append-nil those))) long;
}

pub more_without_room : (those these more : List Deed) → HasNoRoom those these → HasNoRoom those (these ++ more)
more_without_room those these more none = record {
  done = none.done;
  deed = none.deed;
  left = none.left ++ more;
  is = ap (λ (ds : List Deed). ds ++ more) none.is ∙ append_assoc none.done (none.deed ∷ none.left) more;
  long = none.long;
}

pub behind_without_room : (those more these : List Deed) → HasNoRoom (those ++ more) these → HasNoRoom those (more ++ these)
behind_without_room those more these none = record {
  done = more ++ none.done;
  deed = none.deed;
  left = none.left;
  is = ap (λ (ds : List Deed). more ++ ds) none.is ∙ sym (append_assoc more none.done (none.deed ∷ none.left));
  long = subst (λ (ds : List Deed). is_too_long (length (records ds)) (length (body none.deed)) ≡ true) (append_assoc those more none.done) none.long;
}
