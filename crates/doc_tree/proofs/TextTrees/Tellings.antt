-- What a builder is told, and that no characters touch in it.
use Rattle.doc_tree.proofs.Words.{Attribute, Bool, Building, Char, Chars, Close, Event, Finish, IsApart, IsBuildingReady, IsTrue, List, NoCharsFirst, NoCharsLast, Open, Start, TellsMarks, [], ap, append-nil, append_assoc, event_at, inl, inr, length, map, map-append, refl, said, spread, subst, sym, take, take_more, with_run, ℕ, ◌++◌, ◌+◌, ◌<◌, ◌∙◌, ◌∷◌, ◌≡◌, ◌≢◌, ◌⊎◌}

-- marks of events
pub spread_more : (es fs : List Event) → spread (es ++ fs) ≡ spread es ++ spread fs
spread_more [] fs = refl
spread_more (Open name attributes ∷ es) fs = ap (λ z. Start name attributes ∷ z) (spread_more es fs)
spread_more (Chars text ∷ es) fs = ap (λ z. map Char text ++ z) (spread_more es fs) ∙ sym (append_assoc (map Char text) (spread es) (spread fs))
spread_more (Close name ∷ es) fs = ap (λ z. Finish name ∷ z) (spread_more es fs)

spread_run : (es : List Event) (text : List ℕ) → spread (with_run es text) ≡ spread es ++ map Char text
spread_run es [] = sym (append-nil (spread es))
spread_run es (c ∷ cs) = spread_more es (Chars (c ∷ cs) ∷ []) ∙ ap (λ z. spread es ++ z) (append-nil (map Char (c ∷ cs)))

-- events that are apart
one : (e : Event) → NoCharsFirst (e ∷ []) → IsApart (e ∷ [])
one (Chars text) n = absurd n
one _ n = tt

first_more : (e : Event) (es k : List Event) → NoCharsFirst (e ∷ es) → NoCharsFirst (e ∷ (es ++ k))
first_more (Chars text) es k n = n
first_more _ es k n = tt

first_put : (es : List Event) (e : Event) → NoCharsFirst es → NoCharsFirst (e ∷ []) → NoCharsFirst (es ++ (e ∷ []))
first_put [] e n m = m
first_put (f ∷ es) e n m = first_more f es (e ∷ []) n

first_before : (es k : List Event) → NoCharsFirst (es ++ k) → NoCharsFirst es
first_before (Chars text ∷ es) k n = n
first_before _ k n = tt

last_more : (e : Event) (es : List Event) → NoCharsLast (e ∷ es) → NoCharsLast es
last_more e [] n = tt
last_more e (f ∷ es) n = n

last_put : (es : List Event) (e : Event) → NoCharsFirst (e ∷ []) → NoCharsLast (es ++ (e ∷ []))
last_put (f ∷ g ∷ es) e n = last_put (g ∷ es) e n
last_put _ e n = n

apart_put : (es : List Event) (e : Event) → IsApart es → NoCharsFirst (e ∷ []) → IsApart (es ++ (e ∷ []))
apart_put [] e a n = one e n
apart_put (Open name attributes ∷ es) e a n = apart_put es e a n
apart_put (Chars text ∷ es) e a n = (a.0, first_put es e a.1 n, apart_put es e a.2 n)
apart_put (Close name ∷ es) e a n = apart_put es e a n

apart_chars : (es : List Event) (text : List ℕ) → IsApart es → NoCharsLast es → text ≢ [] → IsApart (es ++ (Chars text ∷ []))
apart_chars [] text a l n = (n, tt, tt)
apart_chars (Open name attributes ∷ es) text a l n = apart_chars es text a (last_more (Open name attributes) es l) n
apart_chars (Chars run ∷ []) text a l n = absurd l
apart_chars (Chars run ∷ e ∷ es) text a l n = (a.0, first_more e es (Chars text ∷ []) a.1, apart_chars (e ∷ es) text a.2 l n)
apart_chars (Close name ∷ es) text a l n = apart_chars es text a (last_more (Close name) es l) n

apart_before : (es k : List Event) → IsApart (es ++ k) → IsApart es
apart_before [] k a = tt
apart_before (Open name attributes ∷ es) k a = apart_before es k a
apart_before (Chars text ∷ es) k a = (a.0, first_before es k a.1, apart_before es k a.2)
apart_before (Close name ∷ es) k a = apart_before es k a

run_apart : (es : List Event) (text : List ℕ) → IsApart es → NoCharsLast es → IsApart (with_run es text)
run_apart es [] a l = a
run_apart es (c ∷ cs) a l = apart_chars es (c ∷ cs) a l (λ e. cc)

run_before : (es : List Event) (text : List ℕ) → IsApart (with_run es text) → IsApart es
run_before es [] a = a
run_before es (c ∷ cs) a = apart_before es (Chars (c ∷ cs) ∷ []) a

-- characters are told
pub text_told : (old new : Building) (text : List ℕ) → new ≡ record old { text = old.text ++ text } → TellsMarks old (map Char text) old.attributes new
text_told old new text e = subst (λ z. TellsMarks old (map Char text) old.attributes z) (sym e) (record {
  says = spread_run old.events (old.text ++ text) ∙ ap (λ z. spread old.events ++ z) (map-append Char old.text text) ∙ sym (append_assoc (spread old.events) (map Char old.text) (map Char text)) ∙ ap (λ z. z ++ map Char text) (sym (spread_run old.events old.text));
  waits = refl;
})

pub text_ready : (old new : Building) (text : List ℕ) → new ≡ record old { text = old.text ++ text } → IsBuildingReady old → IsBuildingReady new
text_ready old new text e r = subst IsBuildingReady (sym e) (record {
  apart = run_apart old.events (old.text ++ text) (run_before old.events old.text r.apart) r.run_begins;
  run_begins = r.run_begins;
  none_waits = r.none_waits;
})

-- an element is begun
pub open_told : (old new : Building) (name : List ℕ) → new ≡ record { events = said old ++ (Open name old.attributes ∷ []); attributes = []; text = [] } → TellsMarks old (Start name old.attributes ∷ []) [] new
open_told old new name e = subst (λ z. TellsMarks old (Start name old.attributes ∷ []) [] z) (sym e) (record { says = spread_more (said old) (Open name old.attributes ∷ []); waits = refl })

pub open_ready : (old new : Building) (name : List ℕ) (attributes : List Attribute) → new ≡ record { events = said old ++ (Open name attributes ∷ []); attributes = []; text = [] } → IsBuildingReady old → IsBuildingReady new
open_ready old new name attributes e r = subst IsBuildingReady (sym e) (record {
  apart = apart_put (said old) (Open name attributes) r.apart tt;
  run_begins = last_put (said old) (Open name attributes) tt;
  none_waits = refl;
})

-- an element is ended
pub close_told : (old new : Building) (name : List ℕ) → new ≡ record old { events = said old ++ (Close name ∷ []); text = [] } → TellsMarks old (Finish name ∷ []) old.attributes new
close_told old new name e = subst (λ z. TellsMarks old (Finish name ∷ []) old.attributes z) (sym e) (record { says = spread_more (said old) (Close name ∷ []); waits = refl })

pub close_ready : (old new : Building) (name : List ℕ) → new ≡ record old { events = said old ++ (Close name ∷ []); text = [] } → IsBuildingReady old → IsBuildingReady new
close_ready old new name e r = subst IsBuildingReady (sym e) (record {
  apart = apart_put (said old) (Close name) r.apart tt;
  run_begins = last_put (said old) (Close name) tt;
  none_waits = r.none_waits;
})

-- unless memory was wanted
pub unless_wanted : {A B : Type 0} (wanted : Bool) → (A → B) → IsTrue wanted ⊎ A → IsTrue wanted ⊎ B
unless_wanted wanted f (inl w) = inl w
unless_wanted wanted f (inr a) = inr (f a)

-- one event more is told
pub one_more : (es : List Event) (i : ℕ) → i < length es → spread (take (i + 1) es) ≡ spread (take i es) ++ spread (event_at es i ∷ [])
one_more es i l = ap spread (take_more es i (Close []) l) ∙ spread_more (take i es) (event_at es i ∷ [])

-- unless memory was wanted, no attribute waits
pub none_waits : (wanted : Bool) (b : Building) → (IsTrue wanted → ⊥) → IsTrue wanted ⊎ IsBuildingReady b → b.attributes ≡ []
none_waits wanted b n (inl w) = absurd (n w)
none_waits wanted b n (inr r) = r.none_waits
