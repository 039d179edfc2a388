-- The first mark that isn't taken, and the first at which something is decided, with the least that is decided there.
use Rattle.std.proofs.Common.{◌≡◌, ◌∙◌, ℕ, List, [], ◌∷◌, ◌++◌, sym, subst, arith}
use Rattle.tag_tests.specs.Forms.{Form, AreTaken, AreRefused, LeavesOne}
use Rattle.tag_tests.specs.Firsts.{SomeTestRefuses, IsFirstDecided, IsOrdered, IsDecidedOnce}
use Rattle.tag_tests.proofs.Tests.{first_is_least, some_first, none_fails, not_pass}
use Rattle.tag_tests.proofs.Forms.{one_stop}

-- what refuses is decided first, and is the least of what is decided there
pub refused_first : {S T C R : Type 0} (F : Form S T C R) (number : R → ℕ) → IsOrdered F number → (s : S) (ts : List T) (r : R) → AreRefused F s ts r → IsFirstDecided F number s ts r
refused_first {S} {T} {C} {R} F number order s ts r f = record {
  before = f.before;
  mark = f.mark;
  after = f.after;
  split = f.split;
  state = f.state;
  taken = f.taken;
  decided = some_first (F.Fails f.state f.mark) (F.told f.state f.mark) (F.tests f.state f.mark) r f.refuses;
  least = λ q h. first_is_least (F.Fails f.state f.mark) (F.told f.state f.mark) number (F.tests f.state f.mark) r q (order f.state f.mark) f.refuses h;
}

-- where marks are refused so, the first and least that is decided is no other
pub first_agrees : {S T C R : Type 0} (F : Form S T C R) (number : R → ℕ) → LeavesOne F → IsOrdered F number → IsDecidedOnce F number → (s : S) (ts : List T) (r q : R) → AreRefused F s ts r → IsFirstDecided F number s ts q → r ≡ q
first_agrees {S} {T} {C} {R} F number one order once s ts r q a b =
    let same = one_stop F one s a.before b.before a.mark b.mark a.after b.after a.state b.state (sym a.split ∙ b.split) a.taken b.taken
    (λ pass. not_pass (F.Fails a.state a.mark) (F.told a.state a.mark) (F.tests a.state a.mark) r pass a.refuses)
    (λ pass. none_fails (F.Fails b.state b.mark) (F.told b.state b.mark) (F.tests b.state b.mark) q pass b.decided) in
    let here = some_first (F.Fails a.state a.mark) (F.told a.state a.mark) (F.tests a.state a.mark) r a.refuses in
    let moved = subst (λ (y : T). SomeTestRefuses F b.state y r) same.1 (subst (λ (x : S). SomeTestRefuses F x a.mark r) same.0 here) in
    let back = subst (λ (y : T). SomeTestRefuses F a.state y q) (sym same.1) (subst (λ (x : S). SomeTestRefuses F x b.mark q) (sym same.0) b.decided) in
    let low = first_is_least (F.Fails a.state a.mark) (F.told a.state a.mark) number (F.tests a.state a.mark) r q (order a.state a.mark) a.refuses back in
    let high = b.least r moved in
    once b.state b.mark r q (omega (arith, low, high)) moved b.decided

-- marks that are taken have no first that is decided
middle : {S T C R : Type 0} (F : Form S T C R) → LeavesOne F → (s : S) (before : List T) (t : T) (after : List T) (m z : S) (r : R) → AreTaken F s before m → SomeTestRefuses F m t r → AreTaken F s (before ++ t ∷ after) z → ⊥
middle {S} F one s [] t after m z r taken decides all = let h = subst (λ (x : S). SomeTestRefuses F x t r) taken decides in none_fails (F.Fails s t) (F.told s t) (F.tests s t) r all.1.0 h
middle {S} {T} F one s (b ∷ before) t after m z r taken decides all =
    let same : all.0 ≡ taken.0 = one s b all.0 taken.0 all.1 taken.1 in
    middle F one taken.0 before t after m z r taken.2 decides (subst (λ (x : S). AreTaken F x (before ++ t ∷ after) z) same all.2)

pub taken_undecided : {S T C R : Type 0} (F : Form S T C R) (number : R → ℕ) → LeavesOne F → (s : S) (ts : List T) (z : S) (r : R) → AreTaken F s ts z → IsFirstDecided F number s ts r → ⊥
taken_undecided {S} {T} F number one s ts z r taken f = middle F one s f.before f.mark f.after f.state z r f.taken f.decided (subst (λ (l : List T). AreTaken F s l z) f.split taken)
