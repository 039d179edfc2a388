-- What a crash leaves of a file whose first gate is closed, and what one more record makes of it.
use Rattle.std.proofs.Common.{◌≡◌, ◌≢◌, ◌⊎◌, inl, inr, ℕ, zero, suc, ◌+◌, ◌<◌, ◌≤◌, List, [], ◌∷◌, ◌++◌, length, get_or, take, drop, refl, sym, ◌∙◌, ap, subst, arith, append-nil, length-append, length-take}
use Rattle.std.proofs.lemmas.Bool.{cases_eq}
use Rattle.disks.specs.Disks.{IsWrittenAt, Torn, FollowsBy, Only}
use Rattle.effects.specs.Records.{Deed, body, records}
use Rattle.job_journal.specs.Journal.{FileStandsFor, FileRests}
use Rattle.job_journal.specs.Drafts.{IsDrafted}
use Rattle.job_journal.proofs.Crash.{records_push, written_behind, written_gate, torn_gate, stands_before, zero_is_shut, length_pushed}

-- the file whose first gate is this, and which else has the records of these and a closed gate
abbrev pub drafted : ℕ → List Deed → List ℕ
drafted gate deeds = gate ∷ drop 1 (records deeds ++ 0 ∷ [])

pub drafted_length : (gate : ℕ) (deeds : List Deed) → length (drafted gate deeds) ≡ length (records deeds) + 1
drafted_length gate [] = refl
drafted_length gate (d ∷ deeds) = omega (arith, length-append (body d ++ records deeds) (0 ∷ []))

-- a journal at rest in which nothing was put
pub drafted_at : {D : Type 0} (seen : D → List ℕ) (may_leave : D → List ℕ → Type 0) (disk : D) (end : ℕ) (deeds : List Deed) → end ≡ 0 → FileRests seen may_leave disk end deeds → IsDrafted seen may_leave disk end []
drafted_at seen may_leave disk end (d ∷ deeds) none rests = absurd (omega (arith, none, rests.place))
drafted_at seen may_leave disk end [] none rests = record {
  gate = rests.gate;
  shut = rests.shut;
  file = rests.file;
  place = rests.place;
  closed = λ c left. ([], rests.durable c left ∙ rests.file);
}

-- a file is as long as the place of a write in it
pub written_covers : (old : List ℕ) (at : ℕ) (bytes new : List ℕ) → IsWrittenAt old at bytes new → at ≤ length old → at ≤ length new
written_covers old at bytes new holds le =
    omega (arith, le, ap length holds, length-append (take at old ++ bytes) (drop (at + length bytes) old), length-append (take at old) bytes, length-take at old)

-- a front that a torn write leaves
front_stays : (at n gate : ℕ) (after c : List ℕ) → 0 < at → Torn at n (gate ∷ after) c → (more : List ℕ) × (c ≡ gate ∷ more)
front_stays zero n gate after c some torn = absurd (omega (arith, some))
front_stays (suc at) n gate after [] some torn = absurd (omega (arith, torn.no_shorter))
front_stays (suc at) n gate after (x ∷ c) some torn = let same : x ≡ gate = ap (λ (l : List ℕ). get_or l 0 0) torn.before in (c, ap (λ (y : ℕ). y ∷ c) same)

-- what a crash leaves keeps its first gate, whatever is written behind it
pub closed_on : (at n gate : ℕ) (old new : List ℕ → Type 0) → 0 < at → ((c : List ℕ) → old c → (after : List ℕ) × (c ≡ gate ∷ after)) → FollowsBy (Torn at n) old new
    → (c : List ℕ) → new c → (after : List ℕ) × (c ≡ gate ∷ after)
closed_on at n gate old new some closed follows c left =
    let (d, was, torn) = follows c left in
    let (after, is) = closed d was in
    front_stays at n gate after c some (subst (λ (f : List ℕ). Torn at n f c) is torn)

-- and stands for none
pub stands_for_none : (gate : ℕ) (may_leave : List ℕ → Type 0) → gate ≢ 1 → ((c : List ℕ) → may_leave c → (after : List ℕ) × (c ≡ gate ∷ after)) → (c : List ℕ) → may_leave c → FileStandsFor [] c
stands_for_none gate may_leave shut closed c left = let (after, is) = closed c left in stands_before [] gate after c shut is

-- the record of the first effect, written behind the first gate
pub first_written : (gate : ℕ) (d : Deed) (c : List ℕ) → IsWrittenAt (gate ∷ []) 1 (body d ++ 0 ∷ []) c → c ≡ drafted gate (d ∷ [])
first_written gate d c holds =
    written_behind [] gate 0 refl (body d ++ 0 ∷ []) c holds ∙ ap (λ (l : List ℕ). gate ∷ (l ++ 0 ∷ [])) (sym (append-nil (body d)))

-- the record of a later one, behind the gate that ended the file, which is opened then
module _ (gate : ℕ) (e : Deed) (deeds : List Deed) (d : Deed) (k : ℕ) (size : k ≡ length (records (e ∷ deeds))) where
  abbrev front : List ℕ
  front = gate ∷ (body e ++ records deeds)

  sized : k ≡ length front
  sized = omega (arith, size)

  abbrev pub staged : List ℕ
  staged = gate ∷ (body e ++ records deeds) ++ 0 ∷ (body d ++ 0 ∷ [])

  pub later_written : (c : List ℕ) → IsWrittenAt (drafted gate (e ∷ deeds)) (k + 1) (body d ++ 0 ∷ []) c → c ≡ staged
  later_written c holds = written_behind front 0 k sized (body d ++ 0 ∷ []) c holds

  pub later_opened : (c : List ℕ) → IsWrittenAt staged k (1 ∷ []) c → c ≡ drafted gate ((e ∷ deeds) ++ d ∷ [])
  later_opened c holds =
      written_gate front 0 k sized (body d ++ 0 ∷ []) c holds
      ∙ ap (λ (l : List ℕ). gate ∷ drop 1 l) (sym (records_push (e ∷ deeds) d (0 ∷ [])))

-- the file that has one more
module _ {D : Type 0} (seen : D → List ℕ) (may_leave : D → List ℕ → Type 0) where
  pub one_drafted : (disk : D) (k gate : ℕ) (deeds : List Deed) (d : Deed) → gate ≢ 1 → k ≡ length (records deeds) → seen disk ≡ drafted gate (deeds ++ d ∷ [])
      → ((c : List ℕ) → may_leave disk c → (after : List ℕ) × (c ≡ gate ∷ after)) → IsDrafted seen may_leave disk (k + length (body d ++ 0 ∷ [])) (deeds ++ d ∷ [])
  one_drafted disk k gate deeds d shut size is closed = record { gate = gate; shut = shut; file = is; place = length_pushed deeds d k size; closed = closed }

  -- the first record was written
  pub first_drafted : (old new : D) (bytes : List ℕ) (d : Deed) (deeds : List Deed) (end : ℕ) → bytes ≡ body d ++ 0 ∷ [] → end ≡ 0 → (o : IsDrafted seen may_leave old end deeds) → IsWrittenAt (seen old) (end + 1) bytes (seen new)
      → FollowsBy (Torn (end + 1) (length bytes)) (may_leave old) (may_leave new) → IsDrafted seen may_leave new (end + length bytes) (deeds ++ d ∷ [])
  first_drafted old new bytes d (e ∷ deeds) end is none o holds follows = absurd (omega (arith, none, o.place))
  first_drafted old new bytes d [] end is none o holds follows =
      let at_one : IsWrittenAt (o.gate ∷ []) 1 (body d ++ 0 ∷ []) (seen new) =
      subst (λ (f : List ℕ). IsWrittenAt f 1 (body d ++ 0 ∷ []) (seen new)) o.file
      (subst (λ (l : List ℕ). IsWrittenAt (seen old) 1 l (seen new)) is (subst (λ (k : ℕ). IsWrittenAt (seen old) (k + 1) bytes (seen new)) none holds)) in
      subst (λ (l : List ℕ). IsDrafted seen may_leave new (end + length l) (d ∷ [])) (sym is)
      (one_drafted new end o.gate [] d o.shut o.place (first_written o.gate d (seen new) at_one)
      (closed_on (end + 1) (length bytes) o.gate (may_leave old) (may_leave new) (omega arith) o.closed follows))

  -- a later record was written, and the gate before it opened
  pub later_drafted : (old mid new : D) (bytes : List ℕ) (d : Deed) (deeds : List Deed) (end : ℕ) → bytes ≡ body d ++ 0 ∷ [] → 0 < end → (o : IsDrafted seen may_leave old end deeds) → IsWrittenAt (seen old) (end + 1) bytes (seen mid)
      → FollowsBy (Torn (end + 1) (length bytes)) (may_leave old) (may_leave mid) → IsWrittenAt (seen mid) end (1 ∷ []) (seen new) → FollowsBy (Torn end 1) (may_leave mid) (may_leave new)
      → IsDrafted seen may_leave new (end + length bytes) (deeds ++ d ∷ [])
  later_drafted old mid new bytes d [] end is some o holds follows opens then = absurd (omega (arith, some, o.place))
  later_drafted old mid new bytes d (e ∷ deeds) end is some o holds follows opens then =
      let mid_is = later_written o.gate e deeds d end o.place (seen mid)
      (subst (λ (f : List ℕ). IsWrittenAt f (end + 1) (body d ++ 0 ∷ []) (seen mid)) o.file (subst (λ (l : List ℕ). IsWrittenAt (seen old) (end + 1) l (seen mid)) is holds)) in
      let new_is = later_opened o.gate e deeds d end o.place (seen new) (subst (λ (f : List ℕ). IsWrittenAt f end (1 ∷ []) (seen new)) mid_is opens) in
      let closed = closed_on (end + 1) (length bytes) o.gate (may_leave old) (may_leave mid) (omega arith) o.closed follows in
      subst (λ (l : List ℕ). IsDrafted seen may_leave new (end + length l) ((e ∷ deeds) ++ d ∷ [])) (sym is)
      (one_drafted new end o.gate (e ∷ deeds) d o.shut o.place new_is (closed_on end 1 o.gate (may_leave mid) (may_leave new) some closed then))

-- ---- the first gate, opened

-- none was written
pub none_drafted : (deeds : List Deed) → 0 ≡ length (records deeds) → deeds ≡ []
none_drafted [] is = refl
none_drafted (d ∷ deeds) is = absurd (omega (arith, is))

-- a crash leaves none or all
pub first_gate_crash : (gate : ℕ) (deeds : List Deed) (old new : List ℕ → Type 0) → 0 < length (records deeds) → Only (drafted gate deeds) old → FollowsBy (Torn 0 1) old new → (c : List ℕ) → new c → FileStandsFor [] c ⊎ FileStandsFor deeds c
first_gate_crash gate [] old new some only follows c left = absurd (omega (arith, some))
first_gate_crash gate (e ∷ deeds) old new some only follows c left =
    let (f, was, torn) = follows c left in
    let rest : List ℕ = (body e ++ records deeds) ++ 0 ∷ [] in
    let is = torn_gate [] gate 0 refl rest c (subst (λ (l : List ℕ). Torn 0 1 l c) (only f was) torn) in
    elim (cases_eq (get_or c 0 0) 1) [
      | inl open_gate ↦ inr (inl (record { gate = 0; after = []; shut = zero_is_shut; is = is ∙ ap (λ (g : ℕ). g ∷ rest) open_gate }))
      | inr shut ↦ inl (stands_before [] (get_or c 0 0) rest c shut is)
    ]

-- and where it is open, all stand
pub all_rest : {D : Type 0} (seen : D → List ℕ) (may_leave : D → List ℕ → Type 0) (disk : D) (gate end : ℕ) (deeds : List Deed) (was : List ℕ) → 0 < end → end ≡ length (records deeds) → was ≡ drafted gate deeds → IsWrittenAt was 0 (1 ∷ []) (seen disk)
    → Only (seen disk) (may_leave disk) → FileRests seen may_leave disk end deeds
all_rest seen may_leave disk gate end [] was some place is opens only = absurd (omega (arith, some, place))
all_rest seen may_leave disk gate end (e ∷ deeds) was some place is opens only = record {
  gate = 0;
  shut = zero_is_shut;
  file = written_gate [] gate 0 refl ((body e ++ records deeds) ++ 0 ∷ []) (seen disk) (subst (λ (f : List ℕ). IsWrittenAt f 0 (1 ∷ []) (seen disk)) is opens);
  place = place;
  durable = only;
}

pub none_rest : {D : Type 0} (seen : D → List ℕ) (may_leave : D → List ℕ → Type 0) (disk : D) (gate end : ℕ) (deeds : List Deed) → end ≡ 0 → end ≡ length (records deeds) → gate ≢ 1 → seen disk ≡ drafted gate deeds
    → Only (seen disk) (may_leave disk) → FileRests seen may_leave disk end deeds
none_rest seen may_leave disk gate end [] none place shut is only = record { gate = gate; shut = shut; file = is; place = place; durable = only }
none_rest seen may_leave disk gate end (d ∷ deeds) none place shut is only = absurd (omega (arith, none, place))
