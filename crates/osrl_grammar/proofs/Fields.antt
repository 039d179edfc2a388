-- Texts in place of numbers that were read, or not.
use Rattle.osrl_grammar.proofs.Names.{◌≡◌, ◌∙◌, inl, ℕ, Option, None, Some, Result, Ok, Err, IfOk, IfErr, List, [], ◌∷◌, refl, ap, sym, subst, Ratio, ratio_once, AllPass, FieldsRead, both_read, Unread, Wide, Misread, NoShape, NoNumber, TooGreat, FitsKind, IsNumberText, Field, IsBad, IsTooGreat, IsNot, field, with_fields, ReadsTexts}
use Rattle.std.specs.Prelude.{MatchResult}
use Rattle.tag_tests.specs.Fields.{IsFirstOf}
use Rattle.tag_tests.specs.declared.numbers.Unread.TheVariants.{NotNumber}
use Rattle.tag_tests.proofs.Tests.{pass_both}
use Rattle.osrl_grammar.specs.Numbers.{NumberKind}
use Rattle.osrl_grammar.specs.Items.{misread_of}

-- all texts are numbers, and none too great
abbrev pub Pass : Option (List Field) → Type 0
Pass None = ⊥
Pass (Some fs) = AllPass IsBad fs × AllPass IsTooGreat fs

pub number_pass : (k : NumberKind) (text : List ℕ) (x : Ratio) → IsNumberText k text x → Pass (Some (field k text ∷ []))
number_pass k text x h = (((λ bad. bad (x, h.0)), tt), ((λ great. great.2 (subst (λ (y : Ratio). FitsKind k y) (ratio_once text x great.0 h.0.form great.1.form) h.1)), tt))

pub both_pass : (a b : Option (List Field)) → Pass a → Pass b → Pass (with_fields a b)
both_pass None b h k = absurd h
both_pass (Some fs) None h k = absurd k
both_pass (Some fs) (Some gs) h k = (pass_both IsBad fs gs h.0 k.0, pass_both IsTooGreat fs gs h.1 k.1)

-- one number
pub one_read : {A : Type 0} (k : NumberKind) (text : List ℕ) (r : Result A Unread) (number : A → Ratio) → IfOk r (λ x. IsNumberText k text (number x)) → IfErr r (IsNot k text) → FieldsRead IsBad IsTooGreat (field k text ∷ []) r (λ x. IsNumberText k text (number x))
one_read k text (Ok x) number ok err = let pass = number_pass k text (number x) ok in (pass.0, pass.1, ok)
one_read k text (Err NotNumber) number ok err = inl (λ w. err w.0 w.1)
one_read k text (Err Wide) number ok err = (((λ bad. bad (err.0, err.1)), tt), inl err)

-- two
pub two_read : {A B : Type 0} (k l : NumberKind) (s t : List ℕ) (a : Result A Unread) (b : Result B Unread) (m : A → Ratio) (n : B → Ratio) (r : Result (A × B) Unread) → IfOk a (λ x. IsNumberText k s (m x)) → IfErr a (IsNot k s) → IfOk b (λ y. IsNumberText l t (n y)) → IfErr b (IsNot l t) → MatchResult r (λ x. (a ≡ Ok x.0) × (b ≡ Ok x.1)) (IsFirstOf a b) → FieldsRead IsBad IsTooGreat (field k s ∷ field l t ∷ []) r (λ x. IsNumberText k s (m x.0) × IsNumberText l t (n x.1))
two_read k l s t a b m n r ok err well ill both = both_read IsBad IsTooGreat (field k s ∷ []) (field l t ∷ []) a b (λ x. IsNumberText k s (m x)) (λ y. IsNumberText l t (n y)) r (one_read k s a m ok err) (one_read l t b n well ill) both

pub failed_as : {A B : Type 0} (fs : List Field) (u : Unread) (P : A → Type 0) (Q : B → Type 0) → FieldsRead IsBad IsTooGreat fs (Err u) P → FieldsRead IsBad IsTooGreat fs (Err u) Q
failed_as fs NotNumber P Q h = h
failed_as fs Wide P Q h = h

-- the numbers of an item
pub item_misread : {A B : Type 0} (o : Option (List Field)) (fs : List Field) (u : Unread) (m : Misread) (P : A → Type 0) (Q : B → Type 0) → o ≡ Some fs → m ≡ misread_of u → FieldsRead IsBad IsTooGreat fs (Err u) P → ReadsTexts o (Err m) Q
item_misread {A} {B} o fs u m P Q are is h = subst (λ (p : Option (List Field)). ReadsTexts p (Err m) Q) (sym are) (subst (λ (n : Misread). ReadsTexts (Some fs) (Err n) Q) (sym is) (told_so u h))
  where
    told_so : (u : Unread) → FieldsRead IsBad IsTooGreat fs (Err u) P → ReadsTexts (Some fs) (Err (misread_of u)) Q
    told_so NotNumber h = h
    told_so Wide h = h

pub item_read : {A B : Type 0} (o : Option (List Field)) (fs : List Field) (x : A) (y : B) (P : A → Type 0) (Q : B → Type 0) → o ≡ Some fs → (P x → Q y) → FieldsRead IsBad IsTooGreat fs (Ok x) P → ReadsTexts o (Ok y) Q
item_read o fs x y P Q are says h = subst (λ (p : Option (List Field)). ReadsTexts p (Ok y) Q) (sym are) (h.0, h.1, says h.2)

-- where the pieces have no such shape
pub shapeless_read : {B : Type 0} (o : Option (List Field)) (Q : B → Type 0) → o ≡ None → ReadsTexts o (Err NoShape) Q
shapeless_read {B} o Q none = subst (λ (p : Option (List Field)). ReadsTexts {A = B} p (Err NoShape) Q) (sym none) refl

-- what was read is made into more, or not
pub reads_made : {A B : Type 0} (o : Option (List Field)) (r : Result A Misread) (x : A) (y : B) (P : A → Type 0) (Q : B → Type 0) → r ≡ Ok x → (P x → Q y) → ReadsTexts o r P → ReadsTexts o (Ok y) Q
reads_made None r x y P Q is says h = absurd (let e : Ok x ≡ Err NoShape = sym is ∙ h in cc)
reads_made {A} (Some fs) r x y P Q is says h = let k = subst (λ (q : Result A Misread). ReadsTexts (Some fs) q P) is h in (k.0, k.1, says k.2)

pub reads_more : {A : Type 0} (o : Option (List Field)) (r : Result A Misread) (P Q : A → Type 0) → ((x : A) → P x → Q x) → ReadsTexts o r P → ReadsTexts o r Q
reads_more None r P Q says h = h
reads_more (Some fs) (Ok x) P Q says h = (h.0, h.1, says x h.2)
reads_more (Some fs) (Err NoShape) P Q says h = h
reads_more (Some fs) (Err NoNumber) P Q says h = h
reads_more (Some fs) (Err TooGreat) P Q says h = h

-- what wasn't read isn't made into anything
pub still_unread : {A B : Type 0} (o : Option (List Field)) (u : Misread) (P : A → Type 0) (Q : B → Type 0) → ReadsTexts o (Err u) P → ReadsTexts o (Err u) Q
still_unread {A} {B} None u P Q h = let same : u ≡ NoShape = cc in ap (λ (v : Misread). let r : Result B Misread = Err v in r) same
still_unread (Some fs) NoShape P Q h = h
still_unread (Some fs) NoNumber P Q h = h
still_unread (Some fs) TooGreat P Q h = h
