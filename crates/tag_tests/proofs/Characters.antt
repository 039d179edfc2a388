-- Characters are taken one after another as they are together.
use Rattle.std.proofs.Common.{◌≡◌, ◌∙◌, ℕ, Bool, true, false, List, [], ◌∷◌, ◌++◌, refl, ap, sym, subst, append_assoc, append-nil}
use Rattle.std.specs.Prelude.{map}
use Rattle.doc_tree.specs.Marks.{Mark, Char}
use Rattle.tag_tests.specs.Forms.{Form, TakesMark, AreTaken}
use Rattle.tag_tests.specs.Characters.{heard, kept}

kept_none : (b : Bool) (t : List ℕ) → kept b t [] ≡ t
kept_none true t = append-nil t
kept_none false t = refl

kept_more : (b : Bool) (t : List ℕ) (c : ℕ) (cs : List ℕ) → kept b (heard b t c) cs ≡ kept b t (c ∷ cs)
kept_more true t c cs = append_assoc t (c ∷ []) cs
kept_more false t c cs = refl

-- of states that differ in a text, which a character adds to or not
module _ {S C R : Type 0} (F : Form S Mark C R) (with : List ℕ → S) (b : Bool) where
  pub chars_taken : ((t : List ℕ) (c : ℕ) → TakesMark F (with t) (Char c) (with (heard b t c))) → (t cs : List ℕ) → AreTaken F (with t) (map Char cs) (with (kept b t cs))
  chars_taken one t [] = ap with (kept_none b t)
  chars_taken one t (c ∷ cs) = (with (heard b t c), one t c, subst (λ (x : List ℕ). AreTaken F (with (heard b t c)) (map Char cs) (with x)) (kept_more b t c cs) (chars_taken one (heard b t c) cs))

  -- where it leaves nothing else, nor do they
  pub chars_leave : ((t : List ℕ) (c : ℕ) (z : S) → TakesMark F (with t) (Char c) z → z ≡ with (heard b t c)) → (t cs : List ℕ) (z : S) → AreTaken F (with t) (map Char cs) z → z ≡ with (kept b t cs)
  chars_leave only t [] z e = e ∙ sym (ap with (kept_none b t))
  chars_leave only t (c ∷ cs) z (m, takes, rest) =
      chars_leave only (heard b t c) cs z (subst (λ (x : S). AreTaken F x (map Char cs) z) (only t c m takes) rest) ∙ ap with (kept_more b t c cs)

  -- by whether they are kept
  pub chars_kept : ((t : List ℕ) (c : ℕ) → TakesMark F (with t) (Char c) (with (heard b t c))) → (t cs new : List ℕ) → b ≡ true → new ≡ t ++ cs → AreTaken F (with t) (map Char cs) (with new)
  chars_kept one t cs new on is = subst (λ (x : List ℕ). AreTaken F (with t) (map Char cs) (with x)) (ap (λ (k : Bool). kept k t cs) on ∙ sym is) (chars_taken one t cs)

  pub chars_passed : ((t : List ℕ) (c : ℕ) → TakesMark F (with t) (Char c) (with (heard b t c))) → (t cs : List ℕ) → b ≡ false → AreTaken F (with t) (map Char cs) (with t)
  chars_passed one t cs off = subst (λ (x : List ℕ). AreTaken F (with t) (map Char cs) (with x)) (ap (λ (k : Bool). kept k t cs) off) (chars_taken one t cs)
