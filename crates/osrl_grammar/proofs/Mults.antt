-- Multipliers that are read one after another.
use Rattle.osrl_grammar.proofs.Names.{◌≡◌, ◌∙◌, ℕ, Option, None, Some, Result, Ok, List, [], ◌∷◌, ◌++◌, refl, ap, ap₂, sym, subst, append_assoc, AllZip, option_map, append-nil, Mult, Unread, Field, Pair, parted, pair_fields, mult_fields, with_fields, mults_fields, IsMult}
use Rattle.osrl_grammar.specs.Stepping.{ReadMults}

with_none : (a : Option (List Field)) → with_fields a None ≡ None
with_none None = refl
with_none (Some fs) = refl

none_with : (a : Option (List Field)) → with_fields (Some []) a ≡ a
none_with None = refl
none_with (Some fs) = refl

with_both : (a b c : Option (List Field)) → with_fields a (with_fields b c) ≡ with_fields (with_fields a b) c
with_both None b c = refl
with_both (Some fs) None c = refl
with_both (Some fs) (Some gs) None = refl
with_both (Some fs) (Some gs) (Some hs) = ap (λ (l : List Field). Some l) (sym (append_assoc fs gs hs))

fields_both : (ps qs : List (List ℕ)) → mults_fields (ps ++ qs) ≡ with_fields (mults_fields ps) (mults_fields qs)
fields_both [] qs = sym (none_with (mults_fields qs))
fields_both (p ∷ ps) qs = ap (with_fields (mult_fields p)) (fields_both ps qs) ∙ with_both (mult_fields p) (mults_fields ps) (mults_fields qs)

-- so many pieces were read, and these come then
pub record SoFar (all rest : List (List ℕ)) (ms : List Mult) (r : Result (Unit {0}) Unread) : Type 0 where
  pub done : List (List ℕ)
  pub parts : all ≡ done ++ rest
  pub fields : List Field
  pub are : mults_fields done ≡ Some fields
  pub read : ReadMults done fields ms r

pub none_so_far : (all : List (List ℕ)) (ms : List Mult) → ms ≡ [] → SoFar all all ms (Ok tt)
none_so_far all ms none = record { done = []; parts = refl; fields = []; are = refl; read = (tt, tt, subst (λ (l : List Mult). AllZip IsMult [] l) (sym none) tt) }

pub one_so_far : (all before rest : List (List ℕ)) (piece : List ℕ) (p : Pair) (ms new : List Mult) (r q : Result (Unit {0}) Unread) → before ≡ piece ∷ rest → parted piece ≡ Some p → ((done : List (List ℕ)) (fs : List Field) → ReadMults done fs ms r → ReadMults (done ++ piece ∷ []) (fs ++ pair_fields p) new q) → SoFar all before ms r → SoFar all rest new q
one_so_far all before rest piece p ms new r q is part adds s = record {
  done = s.done ++ piece ∷ [];
  parts = s.parts ∙ ap (λ (l : List (List ℕ)). s.done ++ l) is ∙ sym (append_assoc s.done (piece ∷ []) rest);
  fields = s.fields ++ pair_fields p;
  are = fields_both s.done (piece ∷ []) ∙ ap₂ with_fields s.are (ap (λ (o : Option Pair). with_fields (option_map pair_fields o) (Some [])) part ∙ ap (λ (l : List Field). Some l) (append-nil (pair_fields p)));
  read = adds s.done s.fields s.read;
}

-- a piece without a colon
pub no_mults : (all before rest : List (List ℕ)) (piece : List ℕ) (ms : List Mult) (r : Result (Unit {0}) Unread) → before ≡ piece ∷ rest → parted piece ≡ None → SoFar all before ms r → mults_fields all ≡ None
no_mults all before rest piece ms r is none s =
    ap mults_fields (s.parts ∙ ap (λ (l : List (List ℕ)). s.done ++ l) is) ∙ fields_both s.done (piece ∷ rest)
    ∙ ap (λ (o : Option Pair). with_fields (mults_fields s.done) (with_fields (option_map pair_fields o) (mults_fields rest))) none ∙ with_none (mults_fields s.done)
