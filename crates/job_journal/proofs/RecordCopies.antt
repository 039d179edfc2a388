-- Records of a file that are copied one after the other, as far as those for which it stands.
use Rattle.std.proofs.Common.{◌≡◌, ◌≢◌, ℕ, Bool, List, [], ◌∷◌, ◌++◌, get_or, drop, refl, sym, ◌∙◌, ap, subst, append_assoc, append-nil}
use Rattle.effects.specs.Records.{Deed, body, records, Fits, AllFit, EndsBehindGate}
use Rattle.effects.proofs.Cuts.{body_cut}
use Rattle.job_journal.specs.Compacting.{HasNoRoom, next_behind, shortened_one, shortened}
use Rattle.job_journal.specs.Copies.{IsCopiedUpTo, IsUndamaged, StopsShort}
use Rattle.job_journal.specs.CompactFaults.{OldIsDamaged}
use Rattle.job_journal.specs.declared.faults.CompactFault.{CompactFault}
use Rattle.job_journal.specs.declared.faults.CompactFault.TheVariants.{Old, NewFault, Taken, Long}
use Rattle.job_journal.specs.declared.scanning.OpenFault.TheVariants.{ReadFault, WriteFault, Damaged, Memory}
use Rattle.job_journal.proofs.Crash.{records_push}
use Rattle.job_journal.proofs.Rooms.{behind_without_room, more_without_room}

-- the number that is given next behind some
abbrev pub next_after : ℕ → List Deed → ℕ
next_after next [] = next
next_after next (d ∷ deeds) = next_after (next_behind next d) deeds

pub next_push : (next : ℕ) (done : List Deed) (d : Deed) → next_after next (done ++ d ∷ []) ≡ next_behind (next_after next done) d
next_push next [] d = refl
next_push next (e ∷ done) d = next_push (next_behind next e) done d

shortened_on : (held : ℕ → Bool) (next : ℕ) (done : List Deed) (d : Deed) (left : List Deed)
    → shortened held next (done ++ d ∷ left) ≡ shortened held next done ++ (shortened_one held (next_after next done) d ++ shortened held (next_behind (next_after next done) d) left)
shortened_on held next [] d left = refl
shortened_on held next (e ∷ done) d left =
    let now = next_after (next_behind next e) done in
    ap (λ (l : List Deed). shortened_one held next e ++ l) (shortened_on held (next_behind next e) done d left)
    ∙ sym (append_assoc (shortened_one held next e) (shortened held (next_behind next e) done) (shortened_one held now d ++ shortened held (next_behind now d) left))

pub shortened_push : (held : ℕ → Bool) (next : ℕ) (done : List Deed) (d : Deed) → shortened held next (done ++ d ∷ []) ≡ shortened held next done ++ shortened_one held (next_after next done) d
shortened_push held next done d =
    shortened_on held next done d [] ∙ ap (λ (l : List Deed). shortened held next done ++ l) (append-nil (shortened_one held (next_after next done) d))

-- what follows the records of some of those that a file ends behind
record IsNext (one other : List Deed) (g : ℕ) (behind after : List ℕ) : Type 0 where
  deed : Deed
  left : List Deed
  fits : Fits deed
  are : other ≡ one ++ deed ∷ left
  is : behind ≡ body deed ++ (records left ++ g ∷ after)

tails : (d e : Deed) (one other : List Deed) (rest after : List ℕ) (g : ℕ) → records (d ∷ one) ++ rest ≡ records (e ∷ other) ++ g ∷ after → body d ++ (records one ++ rest) ≡ body e ++ (records other ++ g ∷ after)
tails d e one other rest after g is =
    let tail : (body d ++ records one) ++ rest ≡ (body e ++ records other) ++ g ∷ after = ap (λ (l : List ℕ). drop 1 l) is in
    sym (append_assoc (body d) (records one) rest) ∙ tail ∙ append_assoc (body e) (records other) (g ∷ after)

next_is : (one other : List Deed) (g : ℕ) (behind after : List ℕ) → AllFit one → AllFit other → g ≢ 1 → records one ++ 1 ∷ behind ≡ records other ++ g ∷ after → IsNext one other g behind after
next_is [] [] g behind after fo ft shut is = absurd (shut (sym (ap (λ (l : List ℕ). get_or l 0 0) is)))
next_is [] (d ∷ other) g behind after fo ft shut is = record {
  deed = d;
  left = other;
  fits = ft.0;
  are = refl;
  is = ap (λ (l : List ℕ). drop 1 l) is ∙ append_assoc (body d) (records other) (g ∷ after);
}
next_is (d ∷ one) [] g behind after fo ft shut is = absurd (shut (sym (ap (λ (l : List ℕ). get_or l 0 0) is)))
next_is (d ∷ one) (e ∷ other) g behind after fo ft shut is =
    let cut = body_cut d e (records one ++ 1 ∷ behind) (records other ++ g ∷ after) fo.0 ft.0 (tails d e one other (1 ∷ behind) after g is) in
    let later = next_is one other g behind after fo.1 ft.1 shut cut.1 in
    record {
      deed = later.deed;
      left = later.left;
      fits = later.fits;
      are = ap (λ (x : Deed). x ∷ other) (sym cut.0) ∙ ap (λ (l : List Deed). d ∷ l) later.are;
      is = later.is;
    }

-- a record stands behind an open gate
pub stands_there : (file : List ℕ) (place : ℕ) (done deeds : List Deed) (behind : List ℕ) → AllFit done → AllFit deeds → IsCopiedUpTo file place done → EndsBehindGate deeds file → drop place file ≡ 1 ∷ behind
    → (d : Deed) × (gate : ℕ) × (more : List ℕ) × Fits d × (drop place file ≡ 1 ∷ (body d ++ gate ∷ more))
stands_there file place done deeds behind fit_done fit copied ends is =
    let next = next_is done deeds ends.gate behind ends.after fit_done fit ends.shut (sym (copied ∙ ap (λ (l : List ℕ). records done ++ l) is) ∙ ends.is) in
    let (gate, more, front) = opened next.left ends.gate ends.after in
    (next.deed, gate, more, next.fits, is ∙ ap (λ (l : List ℕ). 1 ∷ l) (next.is ∙ ap (λ (l : List ℕ). body next.deed ++ l) front))
  where
    opened : (left : List Deed) (g : ℕ) (after : List ℕ) → (gate : ℕ) × (more : List ℕ) × (records left ++ g ∷ after ≡ gate ∷ more)
    opened [] g after = (g, after, refl)
    opened (e ∷ left) g after = (1, (body e ++ records left) ++ g ∷ after, refl)

-- and where the gate isn't open, all were copied
done_all : (one other : List Deed) (g : ℕ) (rest after : List ℕ) → AllFit one → AllFit other → g ≢ 1 → ((behind : List ℕ) → rest ≡ 1 ∷ behind → ⊥) → records one ++ rest ≡ records other ++ g ∷ after → one ≡ other
done_all [] [] g rest after fo ft shut none is = refl
done_all [] (d ∷ other) g rest after fo ft shut none is = absurd (none ((body d ++ records other) ++ g ∷ after) is)
done_all (d ∷ one) [] g rest after fo ft shut none is = absurd (shut (sym (ap (λ (l : List ℕ). get_or l 0 0) is)))
done_all (d ∷ one) (e ∷ other) g rest after fo ft shut none is =
    let cut = body_cut d e (records one ++ rest) (records other ++ g ∷ after) fo.0 ft.0 (tails d e one other rest after g is) in
    ap (λ (x : Deed). x ∷ one) cut.0 ∙ ap (λ (l : List Deed). e ∷ l) (done_all one other g rest after fo.1 ft.1 shut none cut.1)

pub all_copied : (file : List ℕ) (place : ℕ) (done deeds : List Deed) → AllFit done → AllFit deeds → IsCopiedUpTo file place done → EndsBehindGate deeds file → ((behind : List ℕ) → drop place file ≡ 1 ∷ behind → ⊥) → done ≡ deeds
all_copied file place done deeds fit_done fit copied ends none = done_all done deeds ends.gate (drop place file) ends.after fit_done fit ends.shut none (sym copied ∙ ends.is)

-- and where what the record there comes to has no room, one of all has none
pub none_there : (held : ℕ → Bool) (file : List ℕ) (place next : ℕ) (done deeds : List Deed) → AllFit done → AllFit deeds → IsCopiedUpTo file place done → EndsBehindGate deeds file → next ≡ next_after 1 done
    → StopsShort held file place next (shortened held 1 done) → HasNoRoom [] (shortened held 1 deeds)
none_there held file place next done deeds fit_done fit copied ends at stops =
    let n = next_is done deeds ends.gate (body stops.deed ++ stops.after) ends.after fit_done fit ends.shut (sym (copied ∙ ap (λ (l : List ℕ). records done ++ l) stops.is) ∙ ends.is) in
    let same : stops.deed ≡ n.deed = (body_cut stops.deed n.deed stops.after (records n.left ++ ends.gate ∷ ends.after) stops.fits n.fits n.is).0 in
    let before = shortened held 1 done in
    let more = shortened held (next_behind (next_after 1 done) n.deed) n.left in
    let whole : shortened held 1 deeds ≡ before ++ (shortened_one held next stops.deed ++ more) =
    ap (λ (l : List Deed). shortened held 1 l) n.are ∙ shortened_on held 1 done n.deed n.left
    ∙ ap (λ (l : List Deed). before ++ (l ++ more)) (ap (λ (d : Deed). shortened_one held (next_after 1 done) d) (sym same) ∙ ap (λ (k : ℕ). shortened_one held k stops.deed) (sym at)) in
    subst (λ (ds : List Deed). HasNoRoom [] ds) (sym whole)
    (behind_without_room [] before (shortened_one held next stops.deed ++ more) (more_without_room before (shortened_one held next stops.deed) more stops.none))

-- one more was copied
pub copied_on : (file : List ℕ) (place next : ℕ) (done : List Deed) (d : Deed) → IsCopiedUpTo file place done → drop place file ≡ 1 ∷ (body d ++ drop next file) → IsCopiedUpTo file next (done ++ d ∷ [])
copied_on file place next done d copied is = copied ∙ ap (λ (l : List ℕ). records done ++ l) is ∙ sym (records_push done d (drop next file))

-- what isn't a damage says nothing of one
pub undamaged_is : (accepted : List ℕ → List ℕ → Type 0) (file : List ℕ) (f : CompactFault) → IsUndamaged f → OldIsDamaged accepted file f
undamaged_is accepted file (Old (Damaged place)) none = absurd none
undamaged_is accepted file (Old ReadFault) none = tt
undamaged_is accepted file (Old WriteFault) none = tt
undamaged_is accepted file (Old Memory) none = tt
undamaged_is accepted file NewFault none = tt
undamaged_is accepted file Taken none = tt
undamaged_is accepted file Long none = tt
