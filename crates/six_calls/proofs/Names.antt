-- A name has one call.
use Rattle.std.proofs.Common.{◌≡◌, ◌∙◌, ℕ, List, [], ◌∷◌, Bool, true, false, cond, Some, refl, ap, sym, lit<}
use Rattle.std.specs.Prelude.{◌↔◌, find}
use Rattle.std.specs.List.{Contains, list_all}
use Rattle.std.specs.Str.{bytes_eq}
use Rattle.std.proofs.lemmas.Option.{none-some, same_Some}
use Rattle.std.proofs.lemmas.List.Elements.{All-contains}
use Rattle.std.proofs.lemmas.List.Sums.{AllPass-from_list_all}
use Rattle.std.proofs.lemmas.Slice.Eq.{bytes_eq-Decides}
use Rattle.six_calls.specs.declared.call.CallKind.{CallKind}
use Rattle.six_calls.specs.declared.call.CallKind.TheVariants as kinds
use Rattle.six_calls.specs.Names.{all_kinds, kind_named, kind_text}

-- ---- by name: what a further call adds to

-- each call is listed, and is the one of its name
stands : (k : CallKind) → Contains all_kinds k × (kind_named (kind_text k) ≡ Some k)
stands kinds.Solve = ((0, lit< tt, refl), refl)
stands kinds.GetJobId = ((1, lit< tt, refl), refl)
stands kinds.Send = ((2, lit< tt, refl), refl)
stands kinds.Retrieve = ((3, lit< tt, refl), refl)
stands kinds.Knock = ((4, lit< tt, refl), refl)
stands kinds.Kill = ((5, lit< tt, refl), refl)

-- ---- for all of them

named_among : (name : List ℕ) (among : List CallKind) (k : CallKind) → find (λ (kind : CallKind). bytes_eq name (kind_text kind)) among ≡ Some k → name ≡ kind_text k
named_among name [] k is = absurd (none-some k is)
named_among name (kind ∷ among) k is = go (bytes_eq name (kind_text kind)) refl (named_among name among k) is
  where
    go : (b : Bool) → bytes_eq name (kind_text kind) ≡ b → (find (λ (kind : CallKind). bytes_eq name (kind_text kind)) among ≡ Some k → name ≡ kind_text k)
        → cond b (Some kind) (find (λ (kind : CallKind). bytes_eq name (kind_text kind)) among) ≡ Some k → name ≡ kind_text k
    go true same rest is = (bytes_eq-Decides name (kind_text kind)).0 same ∙ ap kind_text (same_Some kind k is)
    go false other rest is = rest is

-- the call of a name is the one whose name it is
pub is_named : (name : List ℕ) (k : CallKind) → (kind_named name ≡ Some k) ↔ (name ≡ kind_text k)
is_named name k = (named_among name all_kinds k, λ is. ap kind_named is ∙ (stands k).1)

-- calls of one name are one
pub named_once : (j k : CallKind) → kind_text j ≡ kind_text k → j ≡ k
named_once j k e = same_Some j k (sym (stands j).1 ∙ ap kind_named e ∙ (stands k).1)

-- a test that all of them pass is passed by each
pub each_passes : (test : CallKind → Bool) → list_all test all_kinds ≡ true → (k : CallKind) → test k ≡ true
each_passes test is k = All-contains (λ j. test j ≡ true) all_kinds k (AllPass-from_list_all test all_kinds is) (stands k).0
