-- Who is told of marks hears them one after another, and a decoder answers of all of them in the end.
use Rattle.std.proofs.Common.{◌≡◌, ◌∙◌, inl, inr, ◌⊎◌, ℕ, List, [], ◌∷◌, ◌++◌, Result, Ok, Err, refl, sym, subst}
use Rattle.std.specs.Prelude.{OnOk}
use Rattle.tree_grammar.specs.Elements.{Element, IsTextWithin}
use Rattle.doc_tree.specs.Marks.{Mark}
use Rattle.doc_tree.specs.Reading.{Visits, ReadingFails}
use Rattle.doc_tree.specs.Feeding.{WasHeard}
use Rattle.doc_tree.specs.declared.fault.TreeFault.{TreeFault}
use Rattle.doc_tree.specs.declared.fault.TreeFault.TheVariants as tree
use Rattle.document_tags.specs.Texts.{document_limit}
use Rattle.document_tags.specs.Documents.{OfDocument, TreeFails}
use Rattle.tag_tests.specs.declared.marks.Stop.{Stop}
use Rattle.tag_tests.specs.declared.marks.Stop.TheVariants.{Refused, Memory}
use Rattle.tag_tests.specs.Forms.{Form, AreTaken, AreRefused}
use Rattle.tag_tests.specs.Kinds.{Kinds, form, StepsAs}
use Rattle.tag_tests.specs.declared.decoder.Course.{Course}
use Rattle.tag_tests.specs.declared.decoder.Course.TheVariants.{Going, Stopped, Lost}
use Rattle.tag_tests.specs.Readers.{marks, Steps, StepsBy, HearsBy, IsKept, Decoding, WasFed, Reads}
use Rattle.tag_tests.proofs.Forms.{refused_here}

-- one mark, by its tests
pub one_step : {S C R X : Type 0} (F : Form S Mark C R) (s z : S) (t : Mark) (r : Result X (Stop R)) → StepsBy F s t z r → Steps (AreTaken F) (AreRefused F) s (t ∷ []) z r
one_step F s z t (Ok x) h = (z, h, refl)
one_step F s z t (Err (Refused r)) h = refused_here F s t [] r h
one_step F s z t (Err Memory) h = tt

by_kind : {S T K C R X : Type 0} (G : Kinds S T K C R) (s z : S) (t : T) (r : Result X (Stop R)) → StepsAs G s (G.kind s t) z r → StepsBy (form G) s t z r
by_kind G s z t (Ok x) h = h
by_kind G s z t (Err (Refused r)) h = h
by_kind G s z t (Err Memory) h = h

-- and one of this kind
pub step_as : {S K C R X : Type 0} (G : Kinds S Mark K C R) (s z : S) (t : Mark) (k : K) (r : Result X (Stop R)) → k ≡ G.kind s t → StepsAs G s k z r → Steps (AreTaken (form G)) (AreRefused (form G)) s (t ∷ []) z r
step_as {S} {K} {C} {R} {X} G s z t k r is h = one_step (form G) s z t r (by_kind G s z t r (subst (λ (i : K). StepsAs {X = X} G s i z r) is h))

any_ok : {E : Type 0} (result : Result (Unit {0}) E) (P : Type 0) → P → OnOk result P
any_ok (Ok y) P p = p
any_ok (Err e) P p = tt

no_ok : {E : Type 0} (result : Result (Unit {0}) E) (P : Type 0) → (result ≡ Ok tt → ⊥) → OnOk result P
no_ok (Ok y) P none = absurd (none refl)
no_ok (Err e) P none = tt

module _ {S R : Type 0} (Took : S → List Mark → S → Type 0) (Refuse : S → List Mark → R → Type 0) where
  -- who goes on hears what marks came to
  pub kept_hears : {X E : Type 0} (s z : S) (old new : Course S R) (ms : List Mark) (result : Result (Unit {0}) E) (step : Result X (Stop R)) → old ≡ Going s → Steps Took Refuse s ms z step → IsKept step (Going z) new result → OnOk result (HearsBy Took Refuse old new ms)
  kept_hears {X} s z old new ms result step was h k = subst (λ (c : Course S R). OnOk result (HearsBy Took Refuse c new ms)) (sym was) (by step h k)
    where
      by : (step : Result X (Stop R)) → Steps Took Refuse s ms z step → IsKept step (Going z) new result → OnOk result (HearsBy Took Refuse (Going s) new ms)
      by (Ok x) h k = any_ok result _ (subst (λ (c : Course S R). HearsBy Took Refuse (Going s) c ms) (sym k.0) h)
      by (Err (Refused r)) h k = any_ok result _ (subst (λ (c : Course S R). HearsBy Took Refuse (Going s) c ms) (sym k.0) h)
      by (Err Memory) h k = no_ok result _ k.1

  -- who doesn't is told in vain
  pub told_in_vain : (c : Course S R) (ms : List Mark) → ((s : S) → c ≡ Going s → ⊥) → HearsBy Took Refuse c c ms
  told_in_vain (Going s) ms none = absurd (none s refl)
  told_in_vain (Stopped r) ms none = refl
  told_in_vain Lost ms none = tt

  -- what is fed next
  pub fed_more : (d now new : Decoding S R) (piece : List ℕ) → d ≡ now → new.reading.limit ≡ d.reading.limit
      → ((s : S) (bytes : List ℕ) → WasHeard (λ ms. HearsBy Took Refuse (Going s) d.course ms) d.reading bytes → WasHeard (λ ms. HearsBy Took Refuse (Going s) new.course ms) new.reading (bytes ++ piece))
      → (s : S) (bytes : List ℕ) → WasFed Took Refuse s now bytes → WasFed Took Refuse s new (bytes ++ piece)
  fed_more d now new piece same limit more s bytes h = let g = subst (λ (z : Decoding S R). WasFed Took Refuse s z bytes) (sym same) h in (limit ∙ g.0, more s bytes g.1)

  -- the answer in the end
  abbrev pub EndsSo : Course S R → Result S R → Type 0
  EndsSo (Going z) r = r ≡ Ok z
  EndsSo (Stopped q) r = r ≡ Err q
  EndsSo Lost r = ⊥

  heard : (s : S) (c : Course S R) (r : Result S R) (root : Element) → EndsSo c r → HearsBy Took Refuse (Going s) c (marks root) → Reads Took Refuse s root r
  heard s (Going z) r root is h = subst (Reads Took Refuse s root) (sym is) h
  heard s (Stopped q) r root is h = subst (Reads Took Refuse s root) (sym is) h
  heard s Lost r root is h = absurd is

  pub finished : (d now : Decoding S R) (c k : Course S R) (r : Result S R) → d ≡ now → c ≡ k → EndsSo k r
      → ((s : S) (bytes : List ℕ) → WasHeard (λ ms. HearsBy Took Refuse (Going s) d.course ms) d.reading bytes → Visits (λ ms. HearsBy Took Refuse (Going s) c ms) d.reading.limit bytes)
      → (s : S) (bytes : List ℕ) → WasFed Took Refuse s now bytes → OfDocument (Reads Took Refuse s) bytes r
  finished d now c k r same is ends visits s bytes h =
      let g = subst (λ (z : Decoding S R). WasFed Took Refuse s z bytes) (sym same) h in
      let x = visits s bytes g.1 in
      record {
        root = x.element;
        document = record { document = x.document; short = subst (λ (n : ℕ). IsTextWithin n bytes) g.0 x.within; shallow = x.shallow };
        is = heard s c r x.element (subst (λ (j : Course S R). EndsSo j r) (sym is) ends) x.told;
      }

  pub failed : (d now : Decoding S R) (f : TreeFault) → d ≡ now → ((s : S) (bytes : List ℕ) → WasHeard (λ ms. HearsBy Took Refuse (Going s) d.course ms) d.reading bytes → ReadingFails d.reading.limit bytes f) → (s : S) (bytes : List ℕ) → WasFed Took Refuse s now bytes → (f ≡ tree.Memory) ⊎ TreeFails bytes f
  failed d now f same fails s bytes h =
      let g = subst (λ (z : Decoding S R). WasFed Took Refuse s z bytes) (sym same) h in
      unread bytes f (subst (λ (n : ℕ). ReadingFails n bytes f) g.0 (fails s bytes g.1))
    where
      unread : (bytes : List ℕ) (f : TreeFault) → ReadingFails document_limit bytes f → (f ≡ tree.Memory) ⊎ TreeFails bytes f
      unread bytes f (inl e) = inl e
      unread bytes f (inr h) = inr (record { refusal = h.0; none = λ root doc. h.1 root doc.document doc.short doc.shallow })
