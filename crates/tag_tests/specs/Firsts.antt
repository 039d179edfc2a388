-- The same without the order of tests: of the first mark at which a test fails, the least of the refusals there.
use Rattle.std.specs.Prelude.{◌≡◌, ℕ, ◌≤◌, List, ◌∷◌, ◌++◌}
use Rattle.tag_tests.specs.Tests.{SomeFails, InOrder}
use Rattle.tag_tests.specs.Forms.{Form, AreTaken}

-- at this mark some test fails and refuses so
abbrev pub SomeTestRefuses : {S T C R : Type 0} → Form S T C R → S → T → R → Type 0
SomeTestRefuses {S} {T} {C} {R} F s t r = SomeFails (F.Fails s t) (F.told s t) (F.tests s t) r

-- the marks before are taken, at this one something is decided, and this is the least of it
pub record IsFirstDecided {S T C R : Type 0} (F : Form S T C R) (number : R → ℕ) (s : S) (ts : List T) (r : R) : Type 0 where
  pub before : List T
  pub mark : T
  pub after : List T
  pub split : ts ≡ before ++ mark ∷ after
  pub state : S
  pub taken : AreTaken F s before state
  pub decided : SomeTestRefuses F state mark r
  pub least : (q : R) → SomeTestRefuses F state mark q → number r ≤ number q

-- the tests of each mark stand in the order of their refusals' numbers
abbrev pub IsOrdered : {S T C R : Type 0} → Form S T C R → (R → ℕ) → Type 0
IsOrdered {S} {T} {C} {R} F number = (s : S) (t : T) → InOrder (λ c. number (F.told s t c)) (F.tests s t)

-- of one number, one refusal is decided at a mark
abbrev pub IsDecidedOnce : {S T C R : Type 0} → Form S T C R → (R → ℕ) → Type 0
IsDecidedOnce {S} {T} {C} {R} F number = (s : S) (t : T) (r q : R) → number r ≡ number q → SomeTestRefuses F s t r → SomeTestRefuses F s t q → r ≡ q
