-- Numbers of one tag that were read together answer the tests of their fields.
use Rattle.std.proofs.Common.{◌≡◌, inl, inr, List, [], ◌∷◌, ◌++◌, refl, subst}
use Rattle.std.specs.Prelude.{Result, Ok, Err, MatchResult, map}
use Rattle.tag_tests.specs.declared.numbers.Unread.{Unread}
use Rattle.tag_tests.specs.declared.numbers.Unread.TheVariants.{NotNumber, Wide}
use Rattle.tag_tests.specs.Tests.{AllPass, FirstFails}
use Rattle.tag_tests.specs.Fields.{OneFirst, FieldsRead, IsFirstOf, field_tests}
use Rattle.tag_tests.proofs.Tests.{pass_both, first_front, first_behind}

one_front : {X : Type 0} (P : X → Type 0) (fs gs : List X) → OneFirst P fs → OneFirst P (fs ++ gs)
one_front P [] gs h = absurd h
one_front P (f ∷ fs) gs (inl h) = inl h
one_front P (f ∷ fs) gs (inr h) = inr (h.0, one_front P fs gs h.1)

one_behind : {X : Type 0} (P : X → Type 0) (fs gs : List X) → AllPass P fs → OneFirst P gs → OneFirst P (fs ++ gs)
one_behind P [] gs pass h = h
one_behind P (f ∷ fs) gs pass h = inr (pass.0, one_behind P fs gs pass.1 h)

-- of what isn't bad no field is bad
none_bad : {X A : Type 0} (Bad TooGreat : X → Type 0) (fs : List X) (a : Result A Unread) (P : A → Type 0) → FieldsRead Bad TooGreat fs a P → (a ≡ Err NotNumber → ⊥) → AllPass Bad fs
none_bad Bad TooGreat fs (Ok x) P h other = h.0
none_bad Bad TooGreat fs (Err NotNumber) P h other = absurd (other refl)
none_bad Bad TooGreat fs (Err Wide) P h other = h.0

both_bad : {X A B : Type 0} (Bad TooGreat : X → Type 0) (fs gs : List X) (a : Result A Unread) (b : Result B Unread) (P : A → Type 0) (Q : B → Type 0) → FieldsRead Bad TooGreat fs a P → FieldsRead Bad TooGreat gs b Q → IsFirstOf a b NotNumber → OneFirst Bad (fs ++ gs)
both_bad Bad TooGreat fs gs (Err NotNumber) b P Q h k e = one_front Bad fs gs h
both_bad Bad TooGreat fs gs (Ok x) b P Q h k (inl e) = absurd (cc)
both_bad Bad TooGreat fs gs (Err Wide) b P Q h k (inl e) = absurd (cc)
both_bad {X} {A} {B} Bad TooGreat fs gs (Ok x) b P Q h k (inr e) = one_behind Bad fs gs h.0 (subst (λ (r : Result B Unread). FieldsRead Bad TooGreat gs r Q) e k)
both_bad {X} {A} {B} Bad TooGreat fs gs (Err Wide) b P Q h k (inr e) = one_behind Bad fs gs h.0 (subst (λ (r : Result B Unread). FieldsRead Bad TooGreat gs r Q) e k)

both_wide : {X A B : Type 0} (Bad TooGreat : X → Type 0) (fs gs : List X) (a : Result A Unread) (b : Result B Unread) (P : A → Type 0) (Q : B → Type 0) → FieldsRead Bad TooGreat fs a P → FieldsRead Bad TooGreat gs b Q → IsFirstOf a b Wide → AllPass Bad (fs ++ gs) × OneFirst TooGreat (fs ++ gs)
both_wide Bad TooGreat fs gs (Err NotNumber) b P Q h k e = absurd (e.1 refl)
both_wide Bad TooGreat fs gs (Err Wide) b P Q h k e = (pass_both Bad fs gs h.0 (none_bad Bad TooGreat gs b Q k e.2), one_front TooGreat fs gs h.1)
both_wide Bad TooGreat fs gs (Ok x) b P Q h k (inl e, n, m) = absurd (cc)
both_wide {X} {A} {B} Bad TooGreat fs gs (Ok x) b P Q h k (inr e, n, m) =
    let l = subst (λ (r : Result B Unread). FieldsRead Bad TooGreat gs r Q) e k in
    (pass_both Bad fs gs h.0 l.0, one_behind TooGreat fs gs h.1 l.1)

both_fine : {X A B : Type 0} (Bad TooGreat : X → Type 0) (fs gs : List X) (a : Result A Unread) (b : Result B Unread) (P : A → Type 0) (Q : B → Type 0) (x : A) (y : B) → FieldsRead Bad TooGreat fs a P → FieldsRead Bad TooGreat gs b Q → a ≡ Ok x → b ≡ Ok y → AllPass Bad (fs ++ gs) × AllPass TooGreat (fs ++ gs) × (P x × Q y)
both_fine {X} {A} {B} Bad TooGreat fs gs a b P Q x y h k p q =
    let l = subst (λ (r : Result A Unread). FieldsRead Bad TooGreat fs r P) p h in
    let m = subst (λ (r : Result B Unread). FieldsRead Bad TooGreat gs r Q) q k in
    (pass_both Bad fs gs l.0 m.0, pass_both TooGreat fs gs l.1 m.1, (l.2, m.2))

-- two that were read together are the fields of both
pub both_read : {X A B : Type 0} (Bad TooGreat : X → Type 0) (fs gs : List X) (a : Result A Unread) (b : Result B Unread) (P : A → Type 0) (Q : B → Type 0) (c : Result (A × B) Unread) → FieldsRead Bad TooGreat fs a P → FieldsRead Bad TooGreat gs b Q → MatchResult c (λ x. (a ≡ Ok x.0) × (b ≡ Ok x.1)) (IsFirstOf a b) → FieldsRead Bad TooGreat (fs ++ gs) c (λ x. P x.0 × Q x.1)
both_read Bad TooGreat fs gs a b P Q (Ok x) h k is = both_fine Bad TooGreat fs gs a b P Q x.0 x.1 h k is.0 is.1
both_read Bad TooGreat fs gs a b P Q (Err NotNumber) h k is = both_bad Bad TooGreat fs gs a b P Q h k is
both_read Bad TooGreat fs gs a b P Q (Err Wide) h k is = both_wide Bad TooGreat fs gs a b P Q h k is

-- the tests of fields
map_pass : {X C : Type 0} (Fails : C → Type 0) (test : X → C) (fs : List X) → AllPass (λ f. Fails (test f)) fs → AllPass Fails (map test fs)
map_pass Fails test [] pass = tt
map_pass Fails test (f ∷ fs) pass = (pass.0, map_pass Fails test fs pass.1)

map_first : {X C R : Type 0} (Fails : C → Type 0) (told : C → R) (test : X → C) (r : R) → ((f : X) → r ≡ told (test f)) → (fs : List X) → OneFirst (λ f. Fails (test f)) fs → FirstFails Fails told (map test fs) r
map_first Fails told test r is [] h = absurd h
map_first Fails told test r is (f ∷ fs) (inl h) = inl (h, is f)
map_first Fails told test r is (f ∷ fs) (inr h) = inr (h.0, map_first Fails told test r is fs h.1)

pub fields_pass : {X C A : Type 0} (Fails : C → Type 0) (bad wide : X → C) (fs : List X) (x : A) (Says : A → Type 0) → FieldsRead (λ f. Fails (bad f)) (λ f. Fails (wide f)) fs (Ok x) Says → AllPass Fails (field_tests bad wide fs)
fields_pass Fails bad wide fs x Says h = pass_both Fails (map bad fs) (map wide fs) (map_pass Fails bad fs h.0) (map_pass Fails wide fs h.1)

pub fields_bad : {X C R A : Type 0} (Fails : C → Type 0) (told : C → R) (bad wide : X → C) (fs : List X) (r : R) (Says : A → Type 0) → ((f : X) → r ≡ told (bad f)) → FieldsRead (λ f. Fails (bad f)) (λ f. Fails (wide f)) fs (Err NotNumber) Says → FirstFails Fails told (field_tests bad wide fs) r
fields_bad Fails told bad wide fs r Says is h = first_front Fails told (map bad fs) (map wide fs) r (map_first Fails told bad r is fs h)

pub fields_wide : {X C R A : Type 0} (Fails : C → Type 0) (told : C → R) (bad wide : X → C) (fs : List X) (r : R) (Says : A → Type 0) → ((f : X) → r ≡ told (wide f)) → FieldsRead (λ f. Fails (bad f)) (λ f. Fails (wide f)) fs (Err Wide) Says → FirstFails Fails told (field_tests bad wide fs) r
fields_wide Fails told bad wide fs r Says is h = first_behind Fails told (map bad fs) (map wide fs) r (map_pass Fails bad fs h.0) (map_first Fails told wide r is fs h.1)
