-- What a tag decides is one thing, and of all that its tests refuse the first.
use Rattle.std.proofs.Common.{◌≡◌, ◌∙◌, inl, inr, ℕ, zero, suc, ◌≤◌, List, [], ◌∷◌, ◌++◌, refl, ap, sym, subst, arith}
use Rattle.std.specs.Prelude.{Contains, Result, Ok, Err, Bool, true, ◌&&◌, map}
use Rattle.std.proofs.lemmas.Bool.Decides.{nat_tests}
use lib.Dec.{leb}
use Rattle.tree_grammar.proofs.XmlTexts.{and_split}
use Rattle.tag_tests.specs.Tests.{AllPass, FirstFails, SomeFails, FromHere, InOrder, Answers}

pub not_pass : {C R : Type 0} (Fails : C → Type 0) (told : C → R) (cs : List C) (r : R) → AllPass Fails cs → FirstFails Fails told cs r → ⊥
not_pass Fails told [] r pass fails = fails
not_pass Fails told (c ∷ cs) r pass (inl fails) = pass.0 fails.0
not_pass Fails told (c ∷ cs) r pass (inr fails) = not_pass Fails told cs r pass.1 fails.1

pub first_is_one : {C R : Type 0} (Fails : C → Type 0) (told : C → R) (cs : List C) (r q : R) → FirstFails Fails told cs r → FirstFails Fails told cs q → r ≡ q
first_is_one Fails told [] r q a b = absurd a
first_is_one Fails told (c ∷ cs) r q (inl a) (inl b) = a.1 ∙ sym b.1
first_is_one Fails told (c ∷ cs) r q (inl a) (inr b) = absurd (b.0 a.0)
first_is_one Fails told (c ∷ cs) r q (inr a) (inl b) = absurd (a.0 b.0)
first_is_one Fails told (c ∷ cs) r q (inr a) (inr b) = first_is_one Fails told cs r q a.1 b.1

-- the tests of a part, and then those of another
pub pass_both : {C : Type 0} (Fails : C → Type 0) (cs ds : List C) → AllPass Fails cs → AllPass Fails ds → AllPass Fails (cs ++ ds)
pass_both Fails [] ds a b = b
pass_both Fails (c ∷ cs) ds a b = (a.0, pass_both Fails cs ds a.1 b)

pub first_front : {C R : Type 0} (Fails : C → Type 0) (told : C → R) (cs ds : List C) (r : R) → FirstFails Fails told cs r → FirstFails Fails told (cs ++ ds) r
first_front Fails told [] ds r h = absurd h
first_front Fails told (c ∷ cs) ds r (inl h) = inl h
first_front Fails told (c ∷ cs) ds r (inr h) = inr (h.0, first_front Fails told cs ds r h.1)

pub first_behind : {C R : Type 0} (Fails : C → Type 0) (told : C → R) (cs ds : List C) (r : R) → AllPass Fails cs → FirstFails Fails told ds r → FirstFails Fails told (cs ++ ds) r
first_behind Fails told [] ds r pass h = h
first_behind Fails told (c ∷ cs) ds r pass h = inr (pass.0, first_behind Fails told cs ds r pass.1 h)

-- the refusal with more, as its place
pub first_with : {C R Q : Type 0} (Fails : C → Type 0) (told : C → R) (with : R → Q) (cs : List C) (r : R) → FirstFails Fails told cs r → FirstFails Fails (λ c. with (told c)) cs (with r)
first_with Fails told with [] r h = absurd h
first_with Fails told with (c ∷ cs) r (inl h) = inl (h.0, ap with h.1)
first_with Fails told with (c ∷ cs) r (inr h) = inr (h.0, first_with Fails told with cs r h.1)

-- the first that fails is one that fails
later : {C R : Type 0} (Fails : C → Type 0) (told : C → R) (c : C) (cs : List C) (r : R) → SomeFails Fails told cs r → SomeFails Fails told (c ∷ cs) r
later Fails told c cs r h = let k = h.stands in record { test = h.test; stands = (suc k.0, (let inside = k.1 in omega arith), k.2); fails = h.fails; is = h.is }

pub some_first : {C R : Type 0} (Fails : C → Type 0) (told : C → R) (cs : List C) (r : R) → FirstFails Fails told cs r → SomeFails Fails told cs r
some_first Fails told [] r h = absurd h
some_first Fails told (c ∷ cs) r (inl h) = record { test = c; stands = (0, omega arith, refl); fails = h.0; is = h.1 }
some_first Fails told (c ∷ cs) r (inr h) = later Fails told c cs r (some_first Fails told cs r h.1)

-- where all pass, none fails
at_none : {C : Type 0} (Fails : C → Type 0) (cs : List C) (t : C) → AllPass Fails cs → Contains cs t → Fails t → ⊥
at_none Fails [] t pass (k, inside, at) f = omega arith
at_none Fails (c ∷ cs) t pass (zero, inside, at) f = pass.0 (subst Fails (sym at) f)
at_none Fails (c ∷ cs) t pass (suc k, inside, at) f = at_none Fails cs t pass.1 (k, omega arith, at) f

pub none_fails : {C R : Type 0} (Fails : C → Type 0) (told : C → R) (cs : List C) (r : R) → AllPass Fails cs → SomeFails Fails told cs r → ⊥
none_fails Fails told cs r pass h = at_none Fails cs h.test pass h.stands h.fails

from_at : {C : Type 0} (number : C → ℕ) (n : ℕ) (cs : List C) (t : C) → FromHere number n cs → Contains cs t → n ≤ number t
from_at number n [] t from (k, inside, at) = absurd (omega arith)
from_at {C} number n (c ∷ cs) t from (zero, inside, at) = subst (λ (x : C). n ≤ number x) at from.0
from_at number n (c ∷ cs) t from (suc k, inside, at) = from_at number n cs t from.1 (k, omega arith, at)

-- of tests that stand in the order of their refusals, the first that fails has the least refusal of all that fail
least : {C R : Type 0} (Fails : C → Type 0) (told : C → R) (number : R → ℕ) (cs : List C) (r : R) (t : C) → InOrder (λ c. number (told c)) cs → FirstFails Fails told cs r → Contains cs t → Fails t → number r ≤ number (told t)
least Fails told number [] r t order h at f = absurd h
least {C} {R} Fails told number (c ∷ cs) r t order (inl h) (zero, inside, at) f = subst (λ (x : R). number r ≤ number x) (h.1 ∙ ap told at) (omega arith)
least {C} {R} Fails told number (c ∷ cs) r t order (inl h) (suc k, inside, at) f =
    let low = from_at (λ c. number (told c)) (number (told c)) cs t order.0 (k, omega arith, at) in
    let a = ap number h.1 in omega (arith, low, a)
least {C} {R} Fails told number (c ∷ cs) r t order (inr h) (zero, inside, at) f = absurd (h.0 (subst Fails (sym at) f))
least Fails told number (c ∷ cs) r t order (inr h) (suc k, inside, at) f = least Fails told number cs r t order.1 h.1 (k, omega arith, at) f

pub first_is_least : {C R : Type 0} (Fails : C → Type 0) (told : C → R) (number : R → ℕ) (cs : List C) (r q : R) → InOrder (λ c. number (told c)) cs → FirstFails Fails told cs r → SomeFails Fails told cs q → number r ≤ number q
first_is_least {C} {R} Fails told number cs r q order h s = subst (λ (x : R). number r ≤ number x) (sym s.is) (least Fails told number cs r s.test order h s.stands s.fails)

-- answers to the tests of a part, behind those of another that pass
pub answers_behind : {C R X : Type 0} (Fails : C → Type 0) (told : C → R) (cs ds : List C) (result : Result X R) (Says : X → Type 0) → AllPass Fails cs → Answers Fails told ds result Says → Answers Fails told (cs ++ ds) result Says
answers_behind Fails told cs ds (Ok x) Says pass h = (pass_both Fails cs ds pass h.0, h.1)
answers_behind Fails told cs ds (Err r) Says pass h = first_behind Fails told cs ds r pass h

-- whether numbers stand in order: a test that computes where they are known
abbrev pub stand_from : ℕ → List ℕ → Bool
stand_from n [] = true
stand_from n (m ∷ ms) = leb n m && stand_from n ms

abbrev pub stand_in_order : List ℕ → Bool
stand_in_order [] = true
stand_in_order (n ∷ ns) = stand_from n ns && stand_in_order ns

low_true : (n m : ℕ) → leb n m ≡ true → n ≤ m
low_true n m h = grind (arith, nat_tests)

from_tested : {C : Type 0} (number : C → ℕ) (n : ℕ) (cs : List C) → stand_from n (map number cs) ≡ true → FromHere number n cs
from_tested number n [] h = tt
from_tested number n (c ∷ cs) h =
    let both = and_split (leb n (number c)) (stand_from n (map number cs)) h in
    (low_true n (number c) both.0, from_tested number n cs both.1)

pub order_tested : {C : Type 0} (number : C → ℕ) (cs : List C) → stand_in_order (map number cs) ≡ true → InOrder number cs
order_tested number [] h = tt
order_tested number (c ∷ cs) h =
    let both = and_split (stand_from (number c) (map number cs)) (stand_in_order (map number cs)) h in
    (from_tested number (number c) cs both.0, order_tested number cs both.1)
