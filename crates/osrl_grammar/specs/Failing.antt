-- When the tests of result documents fail.
use Rattle.std.specs.Prelude.{◌≡◌, ℕ, ◌<◌, true, None, IsSome}
use Rattle.osrl_writing.specs.declared.parts.Part.{Part}
use Rattle.osrl_writing.specs.declared.parts.Part.TheVariants.{Point, Value, Ray, Cause, Bound, Rounds, Tree}
use Rattle.osrl_grammar.specs.ParseState.{State}
use Rattle.osrl_grammar.specs.Saying.{has, items, bad_item, report_of}
use Rattle.osrl_grammar.specs.Table.{Test, other_root, unread, twice, miscounted, incomplete}

-- so many items may stand in a part
abbrev pub MayHoldItems : Part → ℕ → Type 0
MayHoldItems Point n = Unit {0}
MayHoldItems Value n = 0 < n
MayHoldItems Ray n = Unit {0}
MayHoldItems Cause n = n ≡ 1
MayHoldItems Bound n = n ≡ 1
MayHoldItems Rounds n = Unit {0}
MayHoldItems Tree n = 0 < n

-- WHEN EACH TEST FAILS
abbrev pub Fails : State → Test → Type 0
Fails s other_root = Unit {0}
Fails s unread = IsSome (bad_item s)
Fails s twice = s.twice ≡ true
Fails s (miscounted p) = (has s.held p ≡ true) × (MayHoldItems p (items s.held p) → ⊥)
Fails s incomplete = report_of s ≡ None
