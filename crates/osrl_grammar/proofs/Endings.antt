-- What the code makes of an end tag is the state that it leaves, or its refusal.
use Rattle.osrl_grammar.proofs.Names.{◌≡◌, ◌∙◌, inl, ℕ, Bool, false, List, refl, ap, sym, subst, Option, None, Some, Result, Ok, Err, OnOk, false≢true, is_some, on_ok_weaker, trimmed, AllPass, FirstFails, OsrlFault, Report, Held, Part, Value, Misread, BadItem, IsItemRead, AfterItem, noted, with_read, nothing_held, State, start, bad_item, report_of, ends, around, tests, told, refusal_of, Fails, first, Ends, EndsAt, Refused}
use Rattle.osrl_grammar.specs.declared.elements.Place.{Place}
use Rattle.osrl_grammar.specs.declared.elements.Place.TheVariants as places
use Rattle.osrl_writing.specs.declared.parts.Part.TheVariants.{Tree, Cause, Bound}
use Rattle.osrl_grammar.specs.Table.{unread, twice, miscounted}
use Rattle.osrl_grammar.specs.Stepping.{as_held, IsCounted, AreCounted}
use Rattle.std.specs.Prelude.{IsSome}
use Rattle.osrl_grammar.specs.Leaving.{out_of}

-- an item of which this is read
pub after_read : (s : State) (p : Part) (r : Result Held Misread) → s.bad ≡ None → IsItemRead p s.text s.held r → AfterItem s.bad s p (with_read (noted s p) r)
after_read s p r none is = subst (λ (o : Option BadItem). AfterItem o s p (with_read (noted s p) r)) (sym none) (r, is, refl)

-- what the reader keeps of an item that it reads is what such an item leaves
kept_of : {X : Type 0} (n u : State) (k : Held) (r : Result X Misread) → k.has_bound ≡ n.held.has_bound → u ≡ record n { held = k } → with_read u (as_held u.held r) ≡ with_read n (as_held k r)
kept_of n u k (Ok x) bound is = is
kept_of n u k (Err m) bound is =
    ap (λ (v : State). with_read v (Err m)) is ∙ ap (λ (b : Bool). let h : Held = record nothing_held { has_bound = b } in let v : State = record n { bad = Some (record { misread = m; number = n.count }); held = h } in v) bound

pub after_kept : {X : Type 0} (s n u z : State) (p : Part) (k : Held) (r : Result X Misread) (said : List ℕ) → s.bad ≡ None → n ≡ noted s p → u ≡ record n { held = k } → said ≡ n.text → IsItemRead p said n.held (as_held k r) → k.has_bound ≡ n.held.has_bound → z ≡ with_read u (as_held u.held r) → AfterItem s.bad s p z
after_kept s n u z p k r said none is held text reads bound kept =
    let own = subst (λ (t : List ℕ). IsItemRead p t n.held (as_held k r)) text reads in
    subst (AfterItem s.bad s p) (sym (kept ∙ kept_of n u k r bound held ∙ ap (λ (v : State). with_read v (as_held k r)) is))
    (after_read s p (as_held k r) none (subst (λ (v : State). IsItemRead p v.text v.held (as_held k r)) is own))

pub none_bad : (s now : State) → s ≡ now → false ≡ is_some s.bad → now.bad ≡ None
none_bad s now same none = ap (λ (v : State). v.bad) (sym same) ∙ none_of s.bad none
  where
    none_of : (o : Option BadItem) → false ≡ is_some o → o ≡ None
    none_of None e = refl
    none_of (Some b) e = absurd (false≢true e)

pub item_ends : (s now z : State) (p : Part) → s ≡ now → AfterItem s.bad (out_of s (places.Item p)) p z → EndsAt {X = Unit {0}} now (places.Item p) z (Ok tt)
item_ends s now z p same h = (tt, subst (λ (v : State). AfterItem v.bad (out_of v (places.Item p)) p z) same h)

module _ (s : State) where
  not_twice : s.twice ≡ false → Fails s twice → ⊥
  not_twice once fails = false≢true (sym once ∙ fails)

  not_miscounted : (p : Part) → IsCounted s.held p → Fails s (miscounted p) → ⊥
  not_miscounted p is fails = fails.1 (is fails.0)

  not_unread : bad_item s ≡ None → Fails s unread → ⊥
  not_unread none fails = false≢true (subst IsSome none fails)

  unread_first : (b : BadItem) → bad_item s ≡ Some b → FirstFails {R = OsrlFault} (Fails s) (told s) (tests (ends places.Osrl)) (refusal_of (Some b))
  unread_first b is = inl (subst IsSome (sym is) refl, ap refusal_of (sym is))

  root_passes : bad_item s ≡ None → (r : Report) → AreCounted s → report_of s ≡ Some r → AllPass (Fails s) (tests (ends places.Osrl))
  root_passes read r h some = (not_unread read, (not_twice h.0, (not_miscounted Value h.1, (not_miscounted Tree h.2, (not_miscounted Cause h.3, (not_miscounted Bound h.4, ((λ none. let clash : Some r ≡ None = sym some ∙ none in cc), tt)))))))

pub root_unread : (s z : State) (b : BadItem) (f : OsrlFault) → Some b ≡ bad_item s → f ≡ refusal_of (Some b) → EndsAt {X = Unit {0}} s places.Osrl z (Err (Refused f))
root_unread s z b f is told_so = subst (λ (g : OsrlFault). EndsAt {X = Unit {0}} s places.Osrl z (Err (Refused g))) (sym told_so) (unread_first s b (sym is))

pub none_unread : (s : State) (o : Option BadItem) → o ≡ bad_item s → ((b : BadItem) → o ≡ Some b → ⊥) → bad_item s ≡ None
none_unread s None is read = sym is
none_unread s (Some b) is read = absurd (read b refl)

pub root_ends : (s z : State) (r : Report) → bad_item s ≡ None → AreCounted s → report_of s ≡ Some r → z ≡ record start { report = r } → EndsAt {X = Unit {0}} s places.Osrl z (Ok tt)
root_ends s z r read counted some is = (root_passes s read r counted some, (r, some, is))

other_out : (s : State) (p out : Place) → out ≡ around p → (p ≡ places.JobId → ⊥) → (p ≡ places.Message → ⊥) → (p ≡ places.JobStatus → ⊥) → ((q : Part) → p ≡ places.Item q → ⊥) → (p ≡ places.Osrl → ⊥) → Ends s p (record s { place = out })
other_out s places.JobId out is job message status item root = absurd (job refl)
other_out s places.Message out is job message status item root = absurd (message refl)
other_out s places.JobStatus out is job message status item root = absurd (status refl)
other_out s (places.Item q) out is job message status item root = absurd (item q refl)
other_out s places.Osrl out is job message status item root = absurd (root refl)
other_out s p out is job message status item root = ap (λ (q : Place). let z : State = record s { place = q } in z) is

module _ (s now : State) (same : s ≡ now) (place out : Place) (outside : out ≡ around place) where
  ends_as : (z : State) (p : Place) → place ≡ p → Ends s p z → Ends now place z
  ends_as z p at h = subst (λ (n : State). Ends n place z) same (subst (λ (q : Place). Ends s q z) (sym at) h)

  pub job_ends : {X E : Type 0} (r : Result X E) (g : Option (List ℕ)) (t : List ℕ) → place ≡ places.JobId → t ≡ trimmed s.text → OnOk r (g ≡ first s.job t) → OnOk r (Ends now place (record s { place = out; job = g }))
  job_ends r g t at is kept = let there = outside ∙ ap around at in on_ok_weaker r (λ new. ends_as _ places.JobId at (rw (new, is, there) refl)) kept

  pub message_ends : {X E : Type 0} (r : Result X E) (g : Option (List ℕ)) (t : List ℕ) → place ≡ places.Message → t ≡ trimmed s.text → OnOk r (g ≡ first s.message t) → OnOk r (Ends now place (record s { place = out; message = g }))
  message_ends r g t at is kept = let there = outside ∙ ap around at in on_ok_weaker r (λ new. ends_as _ places.Message at (rw (new, is, there) refl)) kept

  pub status_ends : {X E : Type 0} (r : Result X E) (g : Option (List ℕ)) (t : List ℕ) → place ≡ places.JobStatus → t ≡ s.text → OnOk r (g ≡ first s.status t) → OnOk r (Ends now place (record s { place = out; status = g }))
  status_ends r g t at is kept = let there = outside ∙ ap around at in on_ok_weaker r (λ new. ends_as _ places.JobStatus at (rw (new, is, there) refl)) kept

  pub other_ends : (place ≡ places.JobId → ⊥) → (place ≡ places.Message → ⊥) → (place ≡ places.JobStatus → ⊥) → ((q : Part) → place ≡ places.Item q → ⊥) → (place ≡ places.Osrl → ⊥) → Ends now place (record s { place = out })
  other_ends job message status item root = ends_as _ place refl (other_out s place out outside job message status item root)
