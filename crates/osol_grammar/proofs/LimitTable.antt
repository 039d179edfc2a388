-- The limits: each is listed, has a name of its own, which isn't the gap's, and is a part of options.
use Rattle.std.proofs.Common.{◌≡◌, ◌≢◌, ◌∙◌, ◌⊎◌, inl, inr, ℕ, Bool, true, false, not, bytes_eq, Option, List, refl, sym, lit<}
use Rattle.std.specs.Prelude.{codes}
use Rattle.std.specs.List.{All, Contains, list_all}
use Rattle.std.proofs.lemmas.Bool.{not-true}
use Rattle.std.proofs.lemmas.List.Elements.{All-contains}
use Rattle.std.proofs.lemmas.List.Sums.{AllPass-from_list_all}
use Rattle.std.proofs.lemmas.Slice.Eq.{bytes_eq-Decides}
use Rattle.tree_grammar.specs.Elements.{Attribute}
use Rattle.osol_grammar.specs.declared.gaps.Gap.{Gap}
use Rattle.osol_grammar.specs.declared.limit.Limit.{Limit}
use Rattle.osol_grammar.specs.declared.limit.Limit.TheVariants.{Nodes, Turns, Rounds, Names, Form, Bound}
use Rattle.osol_grammar.specs.declared.options.Options.{Options}
use Rattle.osol_grammar.specs.Limits.{all, limit_row}
use Rattle.osol_grammar.specs.Options.{IsOption, IsGapOption, amount, with_amount}
use Rattle.fraction.specs.declared.frac.Frac.{Frac}

-- names that a test tells apart
other_name : (s t : List ℕ) → bytes_eq s t ≡ false → s ≡ t → ⊥
other_name s t off same = let on : bytes_eq s t ≡ true = (bytes_eq-Decides s t).1 same in cc

-- ---- by name: what a further limit adds to

-- each limit is listed
listed : (l : Limit) → Contains all l
listed Nodes = (0, lit< tt, refl)
listed Turns = (1, lit< tt, refl)
listed Rounds = (2, lit< tt, refl)
listed Names = (3, lit< tt, refl)
listed Form = (4, lit< tt, refl)
listed Bound = (5, lit< tt, refl)

-- two limits are one, or have other names
named_apart : (l k : Limit) → (l ≡ k) ⊎ ((limit_row l).name ≡ (limit_row k).name → ⊥)
named_apart Nodes Nodes = inl refl
named_apart Turns Turns = inl refl
named_apart Rounds Rounds = inl refl
named_apart Names Names = inl refl
named_apart Form Form = inl refl
named_apart Bound Bound = inl refl
named_apart l k = inr (other_name (limit_row l).name (limit_row k).name refl)

-- where one limit has another amount, it has that one, and the others have their own
pub amount_with : (o : Options) (l : Limit) (n : ℕ) (k : Limit) → ((k ≡ l) × (amount (with_amount o l n) k ≡ n)) ⊎ (amount (with_amount o l n) k ≡ amount o k)
amount_with o Nodes n Nodes = inl (refl, refl)
amount_with o Turns n Turns = inl (refl, refl)
amount_with o Rounds n Rounds = inl (refl, refl)
amount_with o Names n Names = inl (refl, refl)
amount_with o Form n Form = inl (refl, refl)
amount_with o Bound n Bound = inl (refl, refl)
amount_with o l n k = inr refl

-- and all else stays
pub rest_with : (o : Options) (l : Limit) (n : ℕ) → ((with_amount o l n).job ≡ o.job) × ((with_amount o l n).seconds ≡ o.seconds) × ((with_amount o l n).first ≡ o.first) × ((with_amount o l n).gap ≡ o.gap)
rest_with o Nodes n = (refl, refl, refl, refl)
rest_with o Turns n = (refl, refl, refl, refl)
rest_with o Rounds n = (refl, refl, refl, refl)
rest_with o Names n = (refl, refl, refl, refl)
rest_with o Form n = (refl, refl, refl, refl)
rest_with o Bound n = (refl, refl, refl, refl)

-- other first values and another gap leave each amount
pub amount_beside : (o : Options) (first : Option (List (Option Frac))) (gap : Option Gap) (l : Limit) → amount (record o { first = first; gap = gap }) l ≡ amount o l
amount_beside o first gap Nodes = refl
amount_beside o first gap Turns = refl
amount_beside o first gap Rounds = refl
amount_beside o first gap Names = refl
amount_beside o first gap Form = refl
amount_beside o first gap Bound = refl

-- ---- for all of them

-- what holds of those listed holds of each
pub each_limit : (P : Limit → Type 0) → All P all → (l : Limit) → P l
each_limit P h l = All-contains P all l h (listed l)

-- and so does a test
pub each_passes : (test : Limit → Bool) → list_all test all ≡ true → (l : Limit) → test l ≡ true
each_passes test is l = each_limit (λ k. test k ≡ true) (AllPass-from_list_all test all is) l

-- what a comparison with a limit's name says
pub not_named : (name given : List ℕ) (l : Limit) (same : Bool) → same ≡ bytes_eq name given → given ≡ (limit_row l).name → same ≡ false → name ≡ (limit_row l).name → ⊥
not_named name given l same tests is not_same e = other_name name given (sym tests ∙ not_same) (e ∙ sym is)

-- attributes are the option of one limit
pub option_once : (l k : Limit) (as' : List Attribute) → IsOption l as' → IsOption k as' → l ≡ k
option_once l k as' is at =
    let one = is.named in
    let other = at.named in
    let same : (limit_row l).name ≡ (limit_row k).name = cc in
    elim (named_apart l k) [ inl e ↦ e | inr apart ↦ absurd (apart same) ]

-- and not that of the gap beside
no_gap_name : (l : Limit) → (limit_row l).name ≢ codes "gap"
no_gap_name l = other_name (limit_row l).name (codes "gap") (not-true _ (each_passes (λ k. not (bytes_eq (limit_row k).name (codes "gap"))) refl l))

pub not_gap : (l : Limit) (as' : List Attribute) → IsOption l as' → IsGapOption as' → ⊥
not_gap l as' is at =
    let one = is.named in
    let other = at.named in
    let same : (limit_row l).name ≡ codes "gap" = cc in
    no_gap_name l same
